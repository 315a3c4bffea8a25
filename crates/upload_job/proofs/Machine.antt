-- Steps of a lane.
use Rattle.std.proofs.Common.{◌≡◌, ℕ, suc, ◌+◌, Bool, true, false, cond, eqb, List, [], ◌∷◌, ◌++◌, length, take, min, refl, sym, ap, ◌∙◌, arith}
use Rattle.std.specs.Prelude.{◌==◌}
use Rattle.std.specs.List.{count_by}
use Rattle.std.proofs.lemmas.List.{take_min}
use Rattle.std.proofs.lemmas.List.Sums.{sum_by-cons}
use Rattle.upload_job.specs.Lane.{unflagged}

-- how many have the flag 0
count-cons : (b : Bool) (f : ℕ) (fs : List ℕ) → eqb f 0 ≡ b → count_by (λ flag. flag == 0) (f ∷ fs) ≡ cond b 1 0 + count_by (λ flag. flag == 0) fs
count-cons b f fs e = sum_by-cons (λ (flag : ℕ). cond (flag == 0) 1 0) f fs ∙ ap (λ (t : Bool). cond t 1 0 + count_by (λ flag. flag == 0) fs) e

unflagged-count : (batch : List (List ℕ)) (flags : List ℕ) → length (unflagged batch flags) ≡ count_by (λ flag. flag == 0) (take (length batch) flags)
unflagged-count [] flags = refl
unflagged-count (s ∷ batch) [] = refl
unflagged-count (s ∷ batch) (f ∷ flags) = by_test (eqb f 0) refl (unflagged-count batch flags)
  where
    by_test : (b : Bool) → eqb f 0 ≡ b → length (unflagged batch flags) ≡ count_by (λ flag. flag == 0) (take (length batch) flags) → length (cond b (s ∷ []) [] ++ unflagged batch flags) ≡ count_by (λ flag. flag == 0) (f ∷ take (length batch) flags)
    by_test true e h = ap suc h ∙ sym (count-cons true f (take (length batch) flags) e ∙ omega arith)
    by_test false e h = h ∙ sym (count-cons false f (take (length batch) flags) e ∙ omega arith)

pub length-unflagged : (batch : List (List ℕ)) (flags : List ℕ) (count found : ℕ) → length batch ≡ count → found ≡ count_by (λ flag. flag == 0) (take (min count (length flags)) flags) → found ≡ length (unflagged batch flags)
length-unflagged batch flags count found e f =
    f ∙ ap (count_by (λ flag. flag == 0)) (take_min count flags) ∙ ap (λ (n : ℕ). count_by (λ flag. flag == 0) (take n flags)) (sym e) ∙ sym (unflagged-count batch flags)
