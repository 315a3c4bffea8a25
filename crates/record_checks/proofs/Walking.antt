-- The shares of a Put, one after another.
use Rattle.std.proofs.Common.{◌≡◌, ℕ, ◌+◌, ◌<◌, ◌≤◌, Bool, List, [], length, Option, Some, None, refl, sym, ap, ◌∙◌, subst, arith}
use Rattle.std.specs.Prelude.{max, IfSome}
use Rattle.cloud_memory.specs.CdBase.ids.UserId.{UserId}
use Rattle.cloud_memory.specs.RecordBody.body.FoundItem.{FoundItem}
use Rattle.cloud_memory.specs.RecordBody.body.PutItem.{PutItem}
use Rattle.cloud_memory.specs.RecordBody.FirstInPlace.{FirstWalk, IsFirstStepOver}
use Rattle.cloud_memory.specs.CdBase.place.Place.{Place}
use Rattle.cloud_memory.specs.CloudAreas.Placing.{end_of}
use Rattle.cloud_memory.specs.Memory.{Memory}
use Rattle.cloud_memory.specs.Steps.{with_item, with_items, end_with}
use Rattle.record_checks.specs.declared.damage.Damage.{Damage}
use Rattle.record_checks.specs.declared.ground.Ground.{Ground}
use Rattle.record_checks.specs.Checks.{damaged_at, ShareLies, IsRightItem, ItemFault, Owned, Flag, Misplaced, AreRight, ItemsFault, Here, Later}
use Rattle.record_checks.specs.Noting.{EndsGrow, farther_field, put_field}

pub no_growth : (g : Ground) (m : Memory) → EndsGrow g m m
no_growth g m = record { shares = omega arith; shares_within = omega arith; recipes = omega arith; recipes_within = omega arith }

-- an end that grows to a place within the area
grown : (old end area : ℕ) (o : Option Place) → IfSome o (λ (p : Place). end_of p ≤ area) → (old ≤ end) → (end ≤ max old area) → (old ≤ end_with end o) × (end_with end o ≤ max old area)
grown old end area None lies more within = (more, within)
grown old end area (Some p) lies more within = (omega (arith, more), omega (arith, lies, within))

module _ (g : Ground) (inside : Bool) (user : UserId) where
  lies_within : (m : Memory) (o : Option Place) → IfSome o (ShareLies g inside m) → IfSome o (λ (p : Place). end_of p ≤ g.shares_len)
  lies_within m None lies = tt
  lies_within m (Some p) lies = lies.within

  -- What becomes of the rest, over what is left of the memory, is what becomes of all.
  pub record Walking (first m : Memory) (all walk : FirstWalk) : Type 0 where
    pub faults : (place : ℕ) → ItemsFault g inside user m walk.at walk.items place → ItemsFault g inside user first all.at all.items place
    pub right : AreRight g inside user m walk.items → AreRight g inside user first all.items
    pub left : with_items user m walk.items ≡ with_items user first all.items
    pub body_is : walk.body ≡ all.body
    pub ends : EndsGrow g first m

  pub begins : (m : Memory) (all : FirstWalk) → Walking m m all all
  begins m all = record { faults = λ place f. f; right = λ r. r; left = refl; body_is = refl; ends = no_growth g m }

  pub goes_on : (first m next_m : Memory) (all walk next : FirstWalk) (found : FoundItem) → Walking first m all walk → IsFirstStepOver walk found next
      → IsRightItem g inside m user found.item → next_m ≡ with_item user m found.item → Walking first next_m all next
  goes_on first m next_m all walk next found w steps right taken = subst (λ (x : Memory). Walking first x all next) (sym taken) (record {
    faults = λ place f.
        w.faults place (subst (λ (l : List PutItem). ItemsFault g inside user m walk.at l place) (sym steps.items)
        (Later m walk.at found.item next.items place right (subst (λ (n : ℕ). ItemsFault g inside user (with_item user m found.item) n next.items place) steps.at f)));
    right = λ rest. w.right (subst (AreRight g inside user m) (sym steps.items) (right, rest));
    left = ap (with_items user m) (sym steps.items) ∙ w.left;
    body_is = steps.body ∙ w.body_is;
    ends =
        let more = grown first.shares_end m.shares_end g.shares_len found.item.place (lies_within m found.item.place right.lies) w.ends.shares w.ends.shares_within in
        record { shares = more.0; shares_within = more.1; recipes = w.ends.recipes; recipes_within = w.ends.recipes_within };
  })

  pub fails : (first m : Memory) (all walk next : FirstWalk) (found : FoundItem) (place : ℕ) → Walking first m all walk → IsFirstStepOver walk found next
      → ItemFault g inside m user found.item found.fp_at place → ItemsFault g inside user first all.at all.items place
  fails first m all walk next found place w steps fault =
      w.faults place (subst (λ (l : List PutItem). ItemsFault g inside user m walk.at l place) (sym steps.items)
      (Here m walk.at found.item next.items place (subst (λ (n : ℕ). ItemFault g inside m user found.item n place) steps.fp_at fault)))

  pub ends_right : (first m : Memory) (all walk : FirstWalk) → Walking first m all walk → walk.items ≡ [] → AreRight g inside user first all.items
  ends_right first m all walk w none = w.right (subst (AreRight g inside user m) (sym none) tt)

  pub ends_left : (first m : Memory) (all walk : FirstWalk) → Walking first m all walk → walk.items ≡ [] → m ≡ with_items user first all.items
  ends_left first m all walk w none = sym (ap (with_items user m) none) ∙ w.left

  -- the place of a fault is one of the body
  pub fault_within : (first m : Memory) (all walk next : FirstWalk) (found : FoundItem) (place : ℕ) → Walking first m all walk → IsFirstStepOver walk found next
      → ItemFault g inside m user found.item found.fp_at place → place < length all.body
  fault_within first m all walk next found place w steps fault = subst (λ (l : List ℕ). place < length l) w.body_is (go place fault)
    where
      flag_in : found.fp_at + 32 < length walk.body
      flag_in = let flag = steps.flag_within in let a = steps.fp_at in let b = steps.flag_at in omega (arith, flag, a, b)

      go : (place : ℕ) → ItemFault g inside m user found.item found.fp_at place → place < length walk.body
      go place (Owned own) = let flag = flag_in in omega (arith, flag)
      go place (Flag new other) = flag_in
      go place (Misplaced new flagged lies) = by_place found.item.place steps.place_within lies
        where
          by_place : (o : Option Place) → IfSome o (λ (p : Place). found.place_at + 12 ≤ length walk.body) → ¬ (IfSome o (ShareLies g inside m)) → found.fp_at + 33 < length walk.body
          by_place None far lies = absurd (lies tt)
          by_place (Some p) far lies = let a = steps.fp_at in let b = steps.place_at in omega (arith, far, a, b)

-- the places in the journal of the farthest blob, so far and of the rest
pub field_on : (at : ℕ) (body : List ℕ) (all walk next : FirstWalk) (found : FoundItem) (end first : ℕ) (field start new : Option Damage) → IsFirstStepOver walk found next
    → put_field at body end walk.at field walk.items ≡ put_field at body first all.at start all.items
    → new ≡ farther_field end field found.item.place (damaged_at at body found.place_at)
    → put_field at body (end_with end found.item.place) next.at new next.items ≡ put_field at body first all.at start all.items
field_on at body all walk next found end first field start new steps so is =
    (λ i. put_field at body (end_with end found.item.place) (steps.at i) ((is ∙ ap (λ (n : ℕ). farther_field end field found.item.place (damaged_at at body n)) steps.place_at) i) next.items)
    ∙ ap (put_field at body end walk.at field) (sym steps.items) ∙ so
