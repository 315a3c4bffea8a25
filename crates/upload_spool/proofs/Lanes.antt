-- The lanes that were noted are few, since they are distinct and below 16.
use Rattle.std.proofs.Common.{◌≡◌, ◌≢◌, ℕ, ◌<◌, ◌≤◌, Bool, true, false, eqb, List, [], ◌∷◌, ◌++◌, length, refl, sym, subst, eqb-true}
use Rattle.std.specs.Prelude.{All, ◌||◌}
use Rattle.std.specs.List.{IsDistinct, list_any, AllByRecursion}
use Rattle.std.proofs.lemmas.Bool.{false≢true}
use Rattle.std.proofs.lemmas.List.{map-append}
use Rattle.std.proofs.lemmas.List.Elements.{All-head, All-tail, All-append, All-cons, All-nil}
use Rattle.std.proofs.lemmas.Map.Steps.{length-le_from_distinct_below}
use Rattle.grammar.specs.CdBase.ids.CloudNo.{CloudNo}
use Rattle.grammar.specs.CdBase.Numbers.{numbers_of}
use Rattle.grammar.specs.CdBase.shape.Shape.{Shape}
use Rattle.upload_spool.specs.Spools.{AreJobLanes}

any_step : (x n q : ℕ) (rest : Bool) → (b : Bool) → eqb q x ≡ b → x < n → (rest ≡ true → q < n) → (b || rest) ≡ true → q < n
any_step x n q rest true same here there e = subst (λ (m : ℕ). m < n) (sym (eqb-true q x same)) here
any_step x n q rest false other here there e = there e

any_below : (xs : List ℕ) (n q : ℕ) → All (λ x. x < n) xs → list_any (eqb q) xs ≡ true → q < n
any_below [] n q all e = absurd (false≢true e)
any_below (x ∷ xs) n q all e =
    any_step x n q (list_any (eqb q) xs) (eqb q x) refl (All-head (λ y. y < n) x xs all) (any_below xs n q (All-tail (λ y. y < n) x xs all)) e

pub few_lanes : (xs : List ℕ) (n : ℕ) → IsDistinct eqb xs → All (λ x. x < n) xs → length xs ≤ n
few_lanes xs n distinct below = length-le_from_distinct_below xs n distinct (λ q e. any_below xs n q below e)

no_same : (x y : ℕ) → x ≢ y → (b : Bool) → eqb x y ≡ b → eqb x y ≡ false
no_same x y ne true e = absurd (ne (eqb-true x y e))
no_same x y ne false e = e

one_behind : (y x : ℕ) (xs : List ℕ) → eqb y x ≡ false → AllByRecursion (λ z. eqb y z ≡ false) xs → AllByRecursion (λ z. eqb y z ≡ false) (xs ++ x ∷ [])
one_behind y x [] e all = (e, tt)
one_behind y x (z ∷ xs) e all = (all.0, one_behind y x xs e all.1)

distinct_behind : (lanes : List CloudNo) (x : ℕ) → IsDistinct eqb (numbers_of lanes) → All (λ noted. noted.0 ≢ x) lanes → IsDistinct eqb (numbers_of lanes ++ x ∷ [])
unfolding IsDistinct
distinct_behind [] x distinct all = (tt, tt)
distinct_behind (lane ∷ lanes) x distinct all =
    let ne = All-head (λ (noted : CloudNo). noted.0 ≢ x) lane lanes all in
    (one_behind lane.0 x (numbers_of lanes) (no_same lane.0 x ne (eqb lane.0 x) refl) distinct.0, distinct_behind lanes x distinct.1 (All-tail (λ (noted : CloudNo). noted.0 ≢ x) lane lanes all))

numbers_more : (lanes : List CloudNo) (lane : CloudNo) → numbers_of (lanes ++ lane ∷ []) ≡ numbers_of lanes ++ lane.0 ∷ []
numbers_more lanes lane = map-append (λ (cloud : CloudNo). cloud.0) lanes (lane ∷ [])

pub distinct_more : (lanes : List CloudNo) (lane : CloudNo) → IsDistinct eqb (numbers_of lanes) → All (λ noted. noted.0 ≢ lane.0) lanes → IsDistinct eqb (numbers_of (lanes ++ lane ∷ []))
distinct_more lanes lane distinct all = subst (IsDistinct eqb) (sym (numbers_more lanes lane)) (distinct_behind lanes lane.0 distinct all)

pub below_more : (lanes : List CloudNo) (lane : CloudNo) (n : ℕ) → All (λ x. x < n) (numbers_of lanes) → lane.0 < n → All (λ x. x < n) (numbers_of (lanes ++ lane ∷ []))
below_more lanes lane n all lt =
    subst (All (λ x. x < n)) (sym (numbers_more lanes lane)) (All-append (λ x. x < n) (numbers_of lanes) (lane.0 ∷ []) all (All-cons (λ x. x < n) lane.0 [] lt (All-nil (λ x. x < n))))

pub none_distinct : (lanes : List CloudNo) → lanes ≡ [] → IsDistinct eqb (numbers_of lanes)
unfolding IsDistinct
none_distinct lanes none = subst (λ (l : List CloudNo). IsDistinct eqb (numbers_of l)) (sym none) tt

pub none_below : (lanes : List CloudNo) (n : ℕ) → lanes ≡ [] → All (λ x. x < n) (numbers_of lanes)
none_below lanes n none = subst (λ (l : List CloudNo). All (λ x. x < n) (numbers_of l)) (sym none) (All-nil (λ x. x < n))

pub no_lanes : (shape : Shape) → AreJobLanes shape []
no_lanes shape = record { distinct = none_distinct [] refl; below = none_below [] shape.n refl }

-- a lane below n that wasn't noted may be noted
pub lanes_more : (shape : Shape) (lanes : List CloudNo) (lane : CloudNo) → AreJobLanes shape lanes → lane.0 < shape.n → All (λ noted. noted.0 ≢ lane.0) lanes → AreJobLanes shape (lanes ++ lane ∷ [])
lanes_more shape lanes lane are below new = record { distinct = distinct_more lanes lane are.distinct new; below = below_more lanes lane shape.n are.below below }
