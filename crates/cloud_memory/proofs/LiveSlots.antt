-- Each share that some user owns stands in one slot.
use Rattle.std.proofs.Common.{◌≡◌, ℕ, ◌<◌, Bool, true, false, cond, ltb, List, Option, Some, None, refl, ap, ◌∙◌, subst}
use Rattle.std.specs.FinMap.{FinMap, get}
use Rattle.std.proofs.lemmas.Bool.{lt-ltb, ltb-true}
use Rattle.std.proofs.lemmas.Option.{same_Some}
use Rattle.file_index.specs.PoolMap.Slots.{slot_of, IsListed}
use Rattle.spent_table.specs.CdBase.place.Place.{Place}
use Rattle.share_index.specs.Order.{owner_cmp}
use Rattle.share_index.specs.Shares.{Shares, owners_of}
use Rattle.cloud_memory.specs.Live.{owned_only, live_at, IsEachLive}

abbrev Kept : FinMap owner_cmp ℕ → Option (List ℕ × Place) → List ℕ × Place → Type 0
Kept owners o x = (o ≡ Some x) × (0 < owners_of owners x.0)

by_test : (owners : FinMap owner_cmp ℕ) (y x : List ℕ × Place) (b : Bool) → ltb 0 (owners_of owners y.0) ≡ b → cond b (Some y) None ≡ Some x → Kept owners (Some y) x
by_test owners y x true test e =
    let same : y ≡ x = same_Some y x e in
    (ap Some same, subst (λ (z : List ℕ × Place). 0 < owners_of owners z.0) same (ltb-true _ _ test))
by_test owners y x false test e = absurd (let no : None ≡ Some x = e in cc)

kept : (owners : FinMap owner_cmp ℕ) (o : Option (List ℕ × Place)) (x : List ℕ × Place) → owned_only owners o ≡ Some x → Kept owners o x
kept owners None x e = absurd (let no : None ≡ Some x = e in cc)
kept owners (Some y) x e = by_test owners y x (ltb 0 (owners_of owners y.0)) refl e

pub each_live : (s : Shares) → IsListed s.places s.place_slots → IsEachLive s
each_live s l = record {
  stands = λ fp place got some.
      let t = l.stands fp place got in
      (t.0, t.1, ap (owned_only s.owners) t.2 ∙ ap (λ (b : Bool). cond b (Some (fp, place)) None) (lt-ltb 0 (owners_of s.owners fp) some));
  listed = λ slot fp place at.
      let k = kept s.owners (slot_of s.place_slots slot) (fp, place) at in
      (l.listed slot fp place k.0, k.1);
  once = λ i j fp p q at_i at_j.
      l.once i j fp p q (kept s.owners (slot_of s.place_slots i) (fp, p) at_i).0 (kept s.owners (slot_of s.place_slots j) (fp, q) at_j).0;
}
