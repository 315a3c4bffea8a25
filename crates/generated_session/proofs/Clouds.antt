-- Three clouds of four.
use Rattle.std.proofs.Common.{◌≡◌, ℕ, zero, suc, ◌+◌, ◌%◌, ◌<◌, List, [], ◌∷◌, ◌++◌, length, refl, sym, ap, ◌∙◌, subst, arith}
use Rattle.std.specs.Prelude.{◌==◌, not, All, filter}
use Rattle.std.specs.List.{range_with_len}
use Rattle.std.specs.List.Sorted.{IsStrictlyIncreasing}
use Rattle.std.proofs.lemmas.List.Elements.{All-from_recursion}
use Rattle.lane_steps.specs.CdBase.shape.Shape.{Shape}
use Rattle.replay_core.specs.Session.Spelling.{AreSources}
use Rattle.generated_session.specs.Lines.{clouds_at}

pub rise_one : (a : ℕ) → IsStrictlyIncreasing (a ∷ [])
rise_one a k lt = absurd (let l : k + 1 < 1 = lt in omega arith)

pub rise_two : (a b : ℕ) → a < b → IsStrictlyIncreasing (a ∷ b ∷ [])
rise_two a b less zero lt = less
rise_two a b less (suc k) lt = absurd (let l : suc k + 1 < 2 = lt in omega arith)

pub rise_three : (a b d : ℕ) → a < b → b < d → IsStrictlyIncreasing (a ∷ b ∷ d ∷ [])
rise_three a b d less more zero lt = less
rise_three a b d less more (suc zero) lt = more
rise_three a b d less more (suc (suc k)) lt = absurd (let l : suc (suc k) + 1 < 3 = lt in omega arith)

abbrev pub without : ℕ → List ℕ
without r = filter (λ cloud. not (cloud == r)) (range_with_len 0 4)

pub at_rest : (number r : ℕ) → number % 4 ≡ r → clouds_at number ≡ without r
at_rest number r e = ap without e

abbrev Three : List ℕ → Type 0
Three l = (length l ≡ 3) × All (λ cloud. cloud < 4) l

three : (a b d : ℕ) → a < 4 → b < 4 → d < 4 → Three (a ∷ b ∷ d ∷ [])
three a b d x y z = (refl, All-from_recursion (λ cloud. cloud < 4) (a ∷ b ∷ d ∷ []) (x, (y, (z, tt))))

three_of : (r : ℕ) → r < 4 → Three (without r)
three_of zero lt = three 1 2 3 (omega arith) (omega arith) (omega arith)
three_of (suc zero) lt = three 0 2 3 (omega arith) (omega arith) (omega arith)
three_of (suc (suc zero)) lt = three 0 1 3 (omega arith) (omega arith) (omega arith)
three_of (suc (suc (suc zero))) lt = three 0 1 2 (omega arith) (omega arith) (omega arith)
three_of (suc (suc (suc (suc r)))) lt = absurd (omega arith)

pub clouds_three : (number : ℕ) → Three (clouds_at number)
clouds_three number = three_of (number % 4) (omega arith)

pub are_three : (shape : Shape) (named : List ℕ) (number : ℕ) → shape.n ≡ 4 → shape.k ≡ 3 → named ≡ clouds_at number → IsStrictlyIncreasing named → AreSources shape named
are_three shape named number n k same rising =
    let t = clouds_three number in
    record {
      count = (let few = ap length same ∙ t.0 ∙ sym k in omega (arith, few));
      rising = rising;
      within = subst (λ (l : List ℕ). All (λ cloud. cloud < shape.n) l) (sym same) (subst (λ (m : ℕ). All (λ cloud. cloud < m) (clouds_at number)) (sym n) t.1);
    }
