-- Slots that are emptied of what no user owns.
use Rattle.std.proofs.Common.{◌≡◌, ◌≢◌, ℕ, ◌+◌, ◌<◌, ◌≤◌, Bool, true, false, cond, ltb, List, length, Option, Some, None, get_or, refl, sym, ap, ◌∙◌, subst, arith, inl, inr}
use Rattle.std.specs.Prelude.{◌↔◌, is_some, IsSome, option_map}
use Rattle.std.specs.List.{Contains}
use Rattle.std.specs.FinMap.{FinMap, get}
use Rattle.std.proofs.lemmas.Bool.{cases_eq, cases_lt}
use Rattle.std.proofs.lemmas.List.{get_or_past}
use Rattle.compact_lists.specs.CdBase.ids.Fp.{Fp}
use Rattle.compact_lists.specs.CdBase.place.Place.{Place}
use Rattle.checkpoints.specs.PoolMap.Slots.{slot_of, IsListed}
use Rattle.checkpoints.specs.ShareIndex.Emptied.{IsEmptied}
use Rattle.checkpoints.specs.ShareIndex.Order.{owner_cmp}
use Rattle.checkpoints.specs.ShareIndex.Shares.{owners_of}
use Rattle.checkpoints.specs.CloudMemory.cloud.CloudMemory.{CloudMemory}
use Rattle.checkpoints.specs.CloudMemory.Live.{owned_only}
use Rattle.checkpoints.specs.CloudMemory.Memory.{Memory}
use Rattle.checkpoints.specs.CloudMemory.Moving.{without_place}
use Rattle.checkpoints.specs.CloudMemory.Rooms.{memory_of}
use Rattle.checkpoints.proofs.Sought.{from_picked, in_picked}
use Rattle.compact_memories.specs.Kept.{live_at, live_places}
use Rattle.compact_memories.specs.Passes.{dead_in, DroppedSoFar}
use Rattle.compact_memories.proofs.Summing.{owned, found}

abbrev Slot : Type 0
Slot = Option (List ℕ × Place)

-- what a slot has that no user owns
pub record HasDead (owners : FinMap owner_cmp ℕ) (o : Slot) (fp : List ℕ) : Type 0 where
  pub place : Place
  pub here : o ≡ Some (fp, place)
  pub none_owned : owned_only owners o ≡ None

pub dead_gives : (owners : FinMap owner_cmp ℕ) (o : Slot) (fp : List ℕ) → dead_in owners o ≡ Some fp → HasDead owners o fp
dead_gives owners None fp is = absurd (let no : ◌≡◌ {A = Option (List ℕ)} None (Some fp) = is in cc)
dead_gives owners (Some e) fp is = by_test (ltb 0 (owners_of owners e.0)) refl is
  where
    by_test : (b : Bool) → ltb 0 (owners_of owners e.0) ≡ b → cond b None (Some e.0) ≡ Some fp → HasDead owners (Some e) fp
    by_test true t same = absurd (let no : ◌≡◌ {A = Option (List ℕ)} None (Some fp) = same in cc)
    by_test false t same =
        let two : ◌≡◌ {A = Option (List ℕ)} (Some e.0) (Some fp) = same in let key : e.0 ≡ fp = cc in
        record { place = e.1; here = ap (λ (k : List ℕ). Some (k, e.1)) key; none_owned = ap (λ (b : Bool). cond b (Some e) None) t }

pub dead_none : (owners : FinMap owner_cmp ℕ) (o : Slot) → dead_in owners o ≡ None → owned_only owners o ≡ o
dead_none owners None is = refl
dead_none owners (Some e) is = by_test (ltb 0 (owners_of owners e.0)) refl is
  where
    by_test : (b : Bool) → ltb 0 (owners_of owners e.0) ≡ b → cond b None (Some e.0) ≡ None → owned_only owners (Some e) ≡ Some e
    by_test true t same = ap (λ (b : Bool). cond b (Some e) None) t
    by_test false t same = absurd (let no : ◌≡◌ {A = Option (List ℕ)} (Some e.0) None = same in cc)

pub has_place : (memory : CloudMemory) (slot : ℕ) (fp : List ℕ) → dead_in memory.shares.owners (slot_of memory.shares.place_slots slot) ≡ Some fp
    → IsListed memory.shares.places memory.shares.place_slots → IsSome (get memory.shares.places fp)
has_place memory slot fp dead listed =
    let has = dead_gives memory.shares.owners (slot_of memory.shares.place_slots slot) fp dead in ap is_some (listed.listed slot fp has.place has.here)

module _ (first old : CloudMemory) (slot : ℕ) (d : DroppedSoFar first old slot) where
  abbrev at : CloudMemory → ℕ → Slot
  at m s = slot_of m.shares.place_slots s

  owners_same : old.shares.owners ≡ first.shares.owners
  owners_same = ap (λ (m : Memory). m.owners) d.rest

  -- nothing that no user owns stands in the slot
  pub slot_kept : dead_in old.shares.owners (at old slot) ≡ None → DroppedSoFar first old (slot + 1)
  slot_kept none = record {
    done = λ s lt. elim (cases_eq s slot) [
      | inl same ↦ subst (λ (n : ℕ). at old n ≡ owned_only first.shares.owners (at first n)) (sym same) here
      | inr ne ↦ d.done s (omega (arith, lt, ne))
    ];
    left = λ s le. d.left s (omega (arith, le));
    long = d.long;
    rest = d.rest;
  }
    where
      here : at old slot ≡ owned_only first.shares.owners (at first slot)
      here =
          sym (dead_none old.shares.owners (at old slot) none)
          ∙ ap (λ (o : FinMap owner_cmp ℕ). owned_only o (at old slot)) owners_same
          ∙ ap (owned_only first.shares.owners) (d.left slot (omega arith))

  module _ (new : CloudMemory) (fp : Fp) (dead : dead_in old.shares.owners (at old slot) ≡ Some fp.0) (listed : IsListed old.shares.places old.shares.place_slots) where
    abbrev has : HasDead old.shares.owners (at old slot) fp.0
    has = dead_gives old.shares.owners (at old slot) fp.0 dead

    module _ (taken : memory_of new ≡ without_place fp (memory_of old)) (emptied : IsEmptied old.shares.place_slots new.shares.place_slots fp.0) where
      beside : (s : ℕ) → s ≢ slot → at new s ≡ at old s
      beside s ne = emptied.stays s (λ value holds. ne (listed.once s slot fp.0 value has.place holds has.here))

      here_too : at new slot ≡ owned_only first.shares.owners (at first slot)
      here_too =
          emptied.emptied slot has.place has.here
          ∙ sym has.none_owned
          ∙ ap (λ (o : FinMap owner_cmp ℕ). owned_only o (at old slot)) owners_same
          ∙ ap (owned_only first.shares.owners) (d.left slot (omega arith))

      pub slot_emptied : DroppedSoFar first new (slot + 1)
      slot_emptied = record {
        done = λ s lt. elim (cases_eq s slot) [
          | inl same ↦ subst (λ (n : ℕ). at new n ≡ owned_only first.shares.owners (at first n)) (sym same) here_too
          | inr ne ↦ beside s ne ∙ d.done s (omega (arith, lt, ne))
        ];
        left = λ s le. beside s (λ same. let e : s ≡ slot = same in omega (arith, le, e)) ∙ d.left s (omega (arith, le));
        long = emptied.long ∙ d.long;
        rest = λ i. record {
          places = new.shares.places;
          owners = (ap (λ (m : Memory). m.owners) taken ∙ ap (λ (m : Memory). m.owners) d.rest) i;
          files = (ap (λ (m : Memory). m.files) taken ∙ ap (λ (m : Memory). m.files) d.rest) i;
          spent = (ap (λ (m : Memory). m.spent) taken ∙ ap (λ (m : Memory). m.spent) d.rest) i;
          shares_end = (ap (λ (m : Memory). m.shares_end) taken ∙ ap (λ (m : Memory). m.shares_end) d.rest) i;
          recipes_end = (ap (λ (m : Memory). m.recipes_end) taken ∙ ap (λ (m : Memory). m.recipes_end) d.rest) i;
        };
      }

pub none_dropped : (memory : CloudMemory) → DroppedSoFar memory memory 0
none_dropped memory = record { done = λ s lt. absurd (omega (arith, lt)); left = λ s le. refl; long = refl; rest = refl }

pub all_dropped : (first new : CloudMemory) (slot : ℕ) → length first.shares.place_slots ≤ slot → DroppedSoFar first new slot → DroppedSoFar first new (length first.shares.place_slots)
all_dropped first new slot past d = record {
  done = λ s lt. d.done s (omega (arith, lt, past));
  left = λ s le. let long = d.long in
      get_or_past new.shares.place_slots s None (omega (arith, le, long)) ∙ sym (get_or_past first.shares.place_slots s None (omega (arith, le)));
  long = d.long;
  rest = d.rest;
}

-- ---- what is left is what is alive

some_owned : (owners : FinMap owner_cmp ℕ) (o : Slot) (x : List ℕ × Place) → owned_only owners o ≡ Some x → o ≡ Some x
some_owned owners None x is = absurd (let no : ◌≡◌ {A = Slot} None (Some x) = is in cc)
some_owned owners (Some e) x is = by_test (ltb 0 (owners_of owners e.0)) is
  where
    by_test : (b : Bool) → cond b (Some e) None ≡ Some x → Some e ≡ Some x
    by_test true same = same
    by_test false same = absurd (let no : ◌≡◌ {A = Slot} None (Some x) = same in cc)

found_back : (o : Slot) (fp : Fp) (place : Place) → option_map found o ≡ Some (fp, place) → o ≡ Some (fp.0, place)
found_back None fp place is = absurd (let no : ◌≡◌ {A = Option (Fp × Place)} None (Some (fp, place)) = is in cc)
found_back (Some e) fp place is =
    let two : ◌≡◌ {A = Option (Fp × Place)} (Some (found e)) (Some (fp, place)) = is in
    let one : ◌≡◌ {A = Fp × Place} (found e) (fp, place) = cc in
    λ i. Some ((one i).0.0, (one i).1)

inside : (slots : List Slot) (s : ℕ) (x : List ℕ × Place) → get_or slots s None ≡ Some x → s < length slots
inside slots s x at = elim (cases_lt s (length slots)) [
  | inl lt ↦ lt
  | inr ge ↦ absurd (let no : ◌≡◌ {A = Slot} None (Some x) = sym (get_or_past slots s None (omega (arith, ge))) ∙ at in cc)
]

module _ (first new : CloudMemory) (d : DroppedSoFar first new (length first.shares.place_slots)) (listed : IsListed new.shares.places new.shares.place_slots) where
  abbrev owners : FinMap owner_cmp ℕ
  owners = first.shares.owners

  pub left_alive : (fp : Fp) (place : Place) → get new.shares.places fp.0 ≡ Some place ↔ Contains (live_places first) (fp, place)
  left_alive fp place = (forth, back)
    where
      forth : get new.shares.places fp.0 ≡ Some place → Contains (live_places first) (fp, place)
      forth got =
          let s = listed.stands fp.0 place got in
          let lt : s.0 < length first.shares.place_slots = let long = d.long in let l = s.1 in omega (arith, long, l) in
          let only : owned_only owners (slot_of first.shares.place_slots s.0) ≡ Some (fp.0, place) = sym (d.done s.0 lt) ∙ s.2 in
          let was = some_owned owners (slot_of first.shares.place_slots s.0) (fp.0, place) only in
          in_picked (live_at owners) refl first.shares.place_slots s.0 (fp.0, place) (fp, place) was
          (owned owners (Some (fp.0, place)) ∙ ap (λ (o : Slot). option_map found (owned_only owners o)) (sym was) ∙ ap (option_map found) only)

      back : Contains (live_places first) (fp, place) → get new.shares.places fp.0 ≡ Some place
      back c =
          let s = from_picked (live_at owners) refl first.shares.place_slots (fp, place) c in
          let only : owned_only owners (Some s.entry) ≡ Some (fp.0, place) = found_back (owned_only owners (Some s.entry)) fp place (sym (owned owners (Some s.entry)) ∙ s.picks) in
          let lt = inside first.shares.place_slots s.slot s.entry s.here in
          listed.listed s.slot fp.0 place (d.done s.slot lt ∙ ap (owned_only owners) s.here ∙ only)
