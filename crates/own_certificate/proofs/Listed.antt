-- The slots of a memory's shares and entries, sorted, list those of its own certificate.
use Rattle.std.proofs.Common.{◌≡◌, ℕ, ◌<◌, Bool, true, false, cond, ltb, ltb-true, lt-ltb, List, Option, Some, None, length, map, refl, sym, ap, ◌∙◌, subst}
use Rattle.std.specs.List.Sorted.{IsPermutation, IsSortedByKey}
use Rattle.std.specs.FinMap.{FinMap, get, entries, get-retain_keys}
use Rattle.std.specs.declared.cmp.Ordering.TheVariants.{Equal}
use Rattle.audit_base.specs.CdBase.place.Place.{Place}
use Rattle.audit_base.specs.CdBase.Order.{fp_cmp, fp_exact}
use Rattle.pool_map.specs.Slots.{slot_of, IsListed}
use Rattle.audit_base.specs.ShareIndex.Shares.{Shares, owners_of}
use Rattle.audit_base.proofs.ShareIndex.Placing.{fp_total}
use Rattle.audit_base.specs.FileIndex.key.Entry.{Entry}
use Rattle.audit_base.specs.FileIndex.key.FileKey.{FileKey}
use Rattle.audit_base.specs.FileIndex.Files.{Files}
use Rattle.audit_base.specs.FileIndex.Order.{key_cmp, key_exact}
use Rattle.audit_base.proofs.FileIndex.Order.{key_total}
use Rattle.audit_base.specs.CloudMemory.Live.{live_at, IsEachLive}
use Rattle.audit_base.specs.CloudMemory.cloud.CloudMemory.{CloudMemory}
use Rattle.audit_base.specs.Own.{is_live, live, live_shares}
use Rattle.audit_base.specs.Whole.{Tables, tables_of}
use Rattle.own_certificate.specs.Inner.{some_below, share_at, file_at, no_share, no_file}
use Rattle.own_certificate.proofs.Tables.{IsTable, all_listed}

get_live : (t : Tables) (fp : List ℕ) → get (live t) fp ≡ cond (is_live t fp) (get t.places fp) None
get_live t fp = get-retain_keys t.places (is_live t) fp (λ x tied. ap (is_live t) (sym (fp_exact fp x tied)))

by_test : (t : Tables) (fp : List ℕ) (place : Place) (b : Bool) → is_live t fp ≡ b → cond b (get t.places fp) None ≡ Some place → (get t.places fp ≡ Some place) × (0 < owners_of t.owners fp)
by_test t fp place true test e = (e, ltb-true _ _ test)
by_test t fp place false test e = absurd (let no : None ≡ Some place = e in cc)

live_table : (m : CloudMemory) → IsEachLive m.shares → IsTable (live (tables_of m)) (live_at m.shares) (length m.shares.place_slots)
live_table m each = record {
  stands = λ fp place got.
      let x = by_test (tables_of m) fp place (is_live (tables_of m) fp) refl (sym (get_live (tables_of m) fp) ∙ got) in
      each.stands fp place x.0 x.1;
  listed = λ slot fp place at.
      let x = each.listed slot fp place at in
      get_live (tables_of m) fp ∙ ap (λ (b : Bool). cond b (get m.shares.places fp) None) (lt-ltb _ _ x.1) ∙ x.0;
  once = each.once;
}

pub shares_listed : (m : CloudMemory) → IsEachLive m.shares → (slots : List ℕ) → IsPermutation (some_below (live_at m.shares) (length m.shares.place_slots)) slots
    → IsSortedByKey (λ s. (share_at m.shares s).0) fp_cmp slots → map (share_at m.shares) slots ≡ live_shares (tables_of m)
shares_listed m each slots moved up = all_listed fp_total fp_exact (live_at m.shares) no_share (live (tables_of m)) (length m.shares.place_slots) (live_table m each) slots moved up

file_table : (f : Files) → IsListed f.files f.slots → IsTable f.files (slot_of f.slots) (length f.slots)
file_table f is = record { stands = is.stands; listed = is.listed; once = is.once }

pub files_listed : (f : Files) → IsListed f.files f.slots → (slots : List ℕ) → IsPermutation (some_below (slot_of f.slots) (length f.slots)) slots
    → IsSortedByKey (λ s. (file_at f s).0) key_cmp slots → map (file_at f) slots ≡ entries f.files
files_listed f is slots moved up = all_listed key_total key_exact (slot_of f.slots) no_file f.files (length f.slots) (file_table f is) slots moved up
