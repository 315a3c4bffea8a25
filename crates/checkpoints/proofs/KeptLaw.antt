-- A memory of a list lists the shares that no user owns, once.
use Rattle.std.proofs.Common.{◌≡◌, ℕ, Bool, true, false, cond, List, [], map, Option, Some, None, refl, sym, ap, ◌∙◌, subst, arith, eq-eqb}
use Rattle.std.specs.Prelude.{◌==◌, ◌↔◌, is_some, option_map}
use Rattle.std.specs.FinMap.{FinMap, get}
use Rattle.std.specs.List.{Contains}
use Rattle.std.proofs.lemmas.Bool.{eqb-true}
use Rattle.cloud_memory.specs.CdBase.ids.Fp.{Fp}
use Rattle.cloud_memory.specs.CdBase.shape.Shape.{Shape}
use Rattle.cloud_memory.specs.RecordBody.body.KeptItem.{KeptItem}
use Rattle.cloud_memory.specs.CdBase.place.Place.{Place}
use Rattle.cloud_memory.specs.ShareIndex.Order.{owner_cmp}
use Rattle.cloud_memory.specs.ShareIndex.Shares.{owners_of}
use Rattle.cloud_memory.proofs.ShareIndexLaws.Owning.{value-of}
use Rattle.cloud_memory.specs.UserDedup.command.Command.{Command}
use Rattle.cloud_disk.specs.CloudAreas.Checkpoints.{Lists, IsOwnerless, ListOwnerless}
use Rattle.cloud_disk.proofs.CloudAreas.Apart.{Apart, are_apart}
use Rattle.cloud_disk.proofs.CloudAreas.Lists.{in_map, from_map}
use Rattle.cloud_memory.specs.declared.cloud.CloudMemory.{CloudMemory}
use Rattle.cloud_memory.specs.Memory.{Remembers}
use Rattle.cloud_memory.specs.Rooms.{memory_of}
use Rattle.checkpoints.specs.Picking.{picked, batches}
use Rattle.checkpoints.specs.Records.{kept_at, kept_from}
use Rattle.checkpoints.specs.Known.{AreListed}
use Rattle.checkpoints.proofs.Sought.{from_picked, in_picked, apart_picked, map_picked}
use Rattle.checkpoints.proofs.FullBatches.{flat_batched, full_batched}
use Rattle.checkpoints.proofs.Holders.{owners_some, owners_none}
use Rattle.checkpoints.proofs.OwnLaw.{own_of, owner_of_own}

abbrev fp_in : KeptItem → Fp
fp_in item = item.fp

abbrev pub item_in : List ℕ × Place → KeptItem
item_in e = record { fp = record { 0 = e.0 }; place = e.1 }

abbrev item_or : KeptItem → Option KeptItem → KeptItem
item_or other None = other
item_or other (Some item) = item

-- what a slot keeps
pub kept_gives : (owners : FinMap owner_cmp ℕ) (e : List ℕ × Place) (item : KeptItem) → kept_at owners (Some e) ≡ Some item → (owners_of owners e.0 ≡ 0) × (item_in e ≡ item)
kept_gives owners e item is = by_test (owners_of owners e.0 == 0) refl is
  where
    by_test : (b : Bool) → (owners_of owners e.0 == 0) ≡ b → cond b (Some (item_in e)) None ≡ Some item → (owners_of owners e.0 ≡ 0) × (item_in e ≡ item)
    by_test true t same = (eqb-true (owners_of owners e.0) 0 t, ap (item_or item) same)
    by_test false t same = absurd (let no : ◌≡◌ {A = Option KeptItem} None (Some item) = same in cc)

pub kept_as : (owners : FinMap owner_cmp ℕ) (e : List ℕ × Place) → owners_of owners e.0 ≡ 0 → kept_at owners (Some e) ≡ Some (item_in e)
kept_as owners e none = ap (λ b. cond b (Some (item_in e)) None) (eq-eqb (owners_of owners e.0) 0 none)

fp_of_slot : (owners : FinMap owner_cmp ℕ) (e : List ℕ × Place) (fp : Fp) → option_map fp_in (kept_at owners (Some e)) ≡ Some fp → e.0 ≡ fp.0
fp_of_slot owners e fp is = by_test (owners_of owners e.0 == 0) is
  where
    bytes_or : Option Fp → List ℕ
    bytes_or None = fp.0
    bytes_or (Some f) = f.0

    by_test : (b : Bool) → option_map fp_in (cond b (Some (item_in e)) None) ≡ Some fp → e.0 ≡ fp.0
    by_test true same = ap bytes_or same
    by_test false same = absurd (let no : ◌≡◌ {A = Option Fp} None (Some fp) = same in cc)

module _ (shape : Shape) (list : List Command) (memory : CloudMemory) (r : Remembers shape list (memory_of memory)) (l : AreListed memory) where
  abbrev keeps : Option (List ℕ × Place) → Option KeptItem
  keeps = kept_at memory.shares.owners

  abbrev kept : List KeptItem
  kept = picked keeps memory.shares.place_slots

  kept_each : (fp : Fp) → Contains (map fp_in kept) fp ↔ IsOwnerless shape list fp
  kept_each fp = (there, back)
    where
      there : Contains (map fp_in kept) fp → IsOwnerless shape list fp
      there c =
          let item = from_map fp_in kept fp c in
          let s = from_picked keeps refl memory.shares.place_slots item.0 item.1 in
          let g = kept_gives memory.shares.owners s.entry item.0 s.picks in
          let same : s.entry.0 ≡ fp.0 = ap (λ (i : KeptItem). i.fp.0) g.1 ∙ ap (λ (f : Fp). f.0) item.2 in
          let at = l.places.listed s.slot s.entry.0 s.entry.1 s.here in
          record {
            put = (r.placed fp).0 (ap is_some (ap (get memory.shares.places) (sym same) ∙ at));
            unowned = λ user own.
                let some = owners_some memory.shares.owners user.0 fp.0 _ (owner_of_own shape list memory r l user fp own) in
                let none = g.0 in
                let none_now = ap (owners_of memory.shares.owners) same in
                omega (arith, some, none, none_now);
          }

      back : IsOwnerless shape list fp → Contains (map fp_in kept) fp
      back o =
          let place = value-of (get memory.shares.places fp.0) ((r.placed fp).1 o.put) in
          let s = l.places.stands fp.0 place.0 place.1 in
          let none = owners_none memory.shares.owners fp.0 (λ user uses at. o.unowned (record { 0 = user }) (own_of shape list memory r l (record { 0 = user }) fp uses at)) in
          in_map fp_in kept (item_in (fp.0, place.0))
          (in_picked keeps refl memory.shares.place_slots s.0 (fp.0, place.0) (item_in (fp.0, place.0)) s.2 (kept_as memory.shares.owners (fp.0, place.0) none))

  kept_once : Apart (map fp_in kept)
  kept_once =
      subst (Apart {X = Fp}) (sym (map_picked keeps refl fp_in memory.shares.place_slots))
      (apart_picked (λ o. option_map fp_in (keeps o)) refl memory.shares.place_slots (λ i j a b x ia jb fa fb.
      let same : b.0 ≡ a.0 = fp_of_slot memory.shares.owners b x fb ∙ sym (fp_of_slot memory.shares.owners a x fa) in
      l.places.once i j a.0 a.1 b.1 ia (jb ∙ ap (λ (k : List ℕ). Some (k, b.1)) same)))

  pub ownerless_law : ListOwnerless shape list (batches (kept_from memory.shares 0))
  ownerless_law = record {
    fps =
        subst (λ (items : List KeptItem). Lists (map fp_in items) (IsOwnerless shape list)) (sym (flat_batched [] kept))
        (record { each = kept_each; once = are_apart (map fp_in kept) kept_once });
    full = full_batched [] kept (omega arith);
  }
