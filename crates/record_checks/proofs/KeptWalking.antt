-- The shares of a Kept, one after another.
use Rattle.std.proofs.Common.{◌≡◌, ℕ, ◌+◌, ◌<◌, ◌^◌, Bool, List, [], ◌∷◌, length, Option, Some, refl, sym, ap, ◌∙◌, subst, arith}
use Rattle.std.specs.Prelude.{max}
use Rattle.std.specs.FinMap.{len}
use Rattle.cloud_memory.specs.RecordBody.body.FoundKept.{FoundKept}
use Rattle.cloud_memory.specs.RecordBody.body.KeptItem.{KeptItem}
use Rattle.cloud_memory.specs.RecordBody.InPlace.{Walk, StepsOver}
use Rattle.cloud_memory.specs.CloudAreas.Placing.{end_of}
use Rattle.cloud_memory.specs.declared.cloud.CloudMemory.{CloudMemory}
use Rattle.cloud_memory.specs.Memory.{Memory}
use Rattle.cloud_memory.specs.Records.{HasPlaceRoom}
use Rattle.cloud_memory.specs.Rooms.{memory_of, HasRooms}
use Rattle.cloud_memory.specs.Steps.{with_kept, with_kepts}
use Rattle.record_checks.specs.declared.damage.Damage.{Damage}
use Rattle.record_checks.specs.declared.ground.Ground.{Ground}
use Rattle.record_checks.specs.Checks.{damaged_at, IsRightKept, KeptFault, PlacedTwice, KeptMisplaced, AreRightKepts, KeptsFault, KeptHere, KeptLater}
use Rattle.record_checks.specs.Noting.{EndsGrow, farther_field, kept_field}
use Rattle.record_checks.specs.Steps.{HasKeptRoom}
use Rattle.record_checks.proofs.Rooming.{one_placed}
use Rattle.record_checks.proofs.Walking.{no_growth}

module _ (g : Ground) (inside : Bool) where
  -- What becomes of the rest, over what is left of the memory, is what becomes of all.
  pub record Walking (first m : Memory) (all walk : Walk) : Type 0 where
    pub faults : (place : ℕ) → KeptsFault g inside m walk.at walk.items place → KeptsFault g inside first all.at all.items place
    pub right : AreRightKepts g inside m walk.items → AreRightKepts g inside first all.items
    pub left : with_kepts m walk.items ≡ with_kepts first all.items
    pub body_is : walk.body ≡ all.body
    pub ends : EndsGrow g first m

  pub begins : (m : Memory) (all : Walk) → Walking m m all all
  begins m all = record { faults = λ place f. f; right = λ r. r; left = refl; body_is = refl; ends = no_growth g m }

  pub goes_on : (first m next_m : Memory) (all walk next : Walk) (found : FoundKept) → Walking first m all walk → StepsOver walk found next
      → IsRightKept g inside m found.item → next_m ≡ with_kept m found.item → Walking first next_m all next
  goes_on first m next_m all walk next found w steps right taken = subst (λ (x : Memory). Walking first x all next) (sym taken) (record {
    faults = λ place f.
        w.faults place (subst (λ (l : List KeptItem). KeptsFault g inside m walk.at l place) (sym steps.items)
        (KeptLater m walk.at found.item next.items place right (subst (λ (n : ℕ). KeptsFault g inside (with_kept m found.item) n next.items place) steps.at f)));
    right = λ rest. w.right (subst (AreRightKepts g inside m) (sym steps.items) (right, rest));
    left = ap (with_kepts m) (sym steps.items) ∙ w.left;
    body_is = steps.body ∙ w.body_is;
    ends =
        let more = w.ends.shares in
        let within = w.ends.shares_within in
        let here = right.lies.within in
        record { shares = omega (arith, more); shares_within = omega (arith, within, here); recipes = w.ends.recipes; recipes_within = w.ends.recipes_within };
  })

  pub fails : (first m : Memory) (all walk next : Walk) (found : FoundKept) (place : ℕ) → Walking first m all walk → StepsOver walk found next
      → KeptFault g inside m found.item found.fp_at place → KeptsFault g inside first all.at all.items place
  fails first m all walk next found place w steps fault =
      w.faults place (subst (λ (l : List KeptItem). KeptsFault g inside m walk.at l place) (sym steps.items)
      (KeptHere m walk.at found.item next.items place (subst (λ (n : ℕ). KeptFault g inside m found.item n place) steps.fp_at fault)))

  pub ends_right : (first m : Memory) (all walk : Walk) → Walking first m all walk → walk.items ≡ [] → AreRightKepts g inside first all.items
  ends_right first m all walk w none = w.right (subst (AreRightKepts g inside m) (sym none) tt)

  pub ends_left : (first m : Memory) (all walk : Walk) → Walking first m all walk → walk.items ≡ [] → m ≡ with_kepts first all.items
  ends_left first m all walk w none = sym (ap (with_kepts m) none) ∙ w.left

  -- the place of a fault is one of the body
  pub fault_within : (first m : Memory) (all walk next : Walk) (found : FoundKept) (place : ℕ) → Walking first m all walk → StepsOver walk found next
      → KeptFault g inside m found.item found.fp_at place → place < length all.body
  fault_within first m all walk next found place w steps fault = subst (λ (l : List ℕ). place < length l) w.body_is (go place fault)
    where
      go : (place : ℕ) → KeptFault g inside m found.item found.fp_at place → place < length walk.body
      go place (PlacedTwice has) = let a = steps.fp_at in let b = steps.at in let n = steps.within in omega (arith, a, b, n)
      go place (KeptMisplaced none lies) = let a = steps.fp_at in let b = steps.at in let n = steps.within in omega (arith, a, b, n)

  pub place_room : (cloud : CloudMemory) (item : KeptItem) (items : List KeptItem) → HasKeptRoom g.rooms cloud (item ∷ items) → IsRightKept g inside (memory_of cloud) item
      → end_of item.place < 2 ^ 64 → HasPlaceRoom cloud item.fp item.place
  place_room cloud item items room right small = record {
    new = right.new;
    fps = let more = room.fps in let fps = room.rooms_are.fps in omega (arith, more, fps);
    end = small;
  }

  pub room_after : (cloud next : CloudMemory) (item : KeptItem) (items : List KeptItem) → HasKeptRoom g.rooms cloud (item ∷ items) → IsRightKept g inside (memory_of cloud) item
      → memory_of next ≡ with_kept (memory_of cloud) item → HasRooms g.rooms next → HasKeptRoom g.rooms next items
  room_after cloud next item items room right taken rooms = record {
    rooms_are = rooms;
    fps =
        let more = room.fps in
        let one = ap (λ (m : Memory). len m.places) taken ∙ one_placed cloud.shares.places item.fp item.place right.new in
        omega (arith, more, one);
  }

  -- all of them have places then
  pub placed_after : (m : Memory) (items : List KeptItem) → AreRightKepts g inside m items → len (with_kepts m items).places ≡ len m.places + length items
  placed_after m [] right = omega arith
  placed_after m (item ∷ items) right =
      let rest = placed_after (with_kept m item) items right.1 in
      let one = one_placed m.places item.fp item.place right.0.new in
      omega (arith, rest, one)

-- the places in the journal of the farthest blob, so far and of the rest
pub field_on : (at : ℕ) (body : List ℕ) (all walk next : Walk) (found : FoundKept) (end first : ℕ) (field start new : Option Damage) → StepsOver walk found next
    → kept_field at body end walk.at field walk.items ≡ kept_field at body first all.at start all.items
    → new ≡ farther_field end field (Some found.item.place) (damaged_at at body found.place_at)
    → kept_field at body (max end (end_of found.item.place)) next.at new next.items ≡ kept_field at body first all.at start all.items
field_on at body all walk next found end first field start new steps so is =
    let there : found.place_at ≡ walk.at + 32 = steps.place_at in
    (λ i. kept_field at body (max end (end_of found.item.place)) (steps.at i) ((is ∙ ap (λ (n : ℕ). farther_field end field (Some found.item.place) (damaged_at at body n)) there) i) next.items)
    ∙ ap (kept_field at body end walk.at field) (sym steps.items) ∙ so
