-- Four places of a piece that are read side by side.
use Rattle.std.proofs.Common.{◌≡◌, ℕ, zero, suc, ◌+◌, ◌-◌, ◌%◌, ◌^◌, ◌<◌, ◌≤◌, List, [], ◌∷◌, ◌++◌, length, get_or, take, drop, refl, sym, ap, ◌∙◌, arith, lit<, ◌==◌, false, inl, inr, append_assoc, subst}
use Rattle.std.specs.Prelude.{slice_range, replicate}
use Rattle.std.proofs.Math.Seq.{take-suc}
use Rattle.std.proofs.lemmas.List.{length-append, length-take, length-drop, length-replicate, get_or-drop}
use Rattle.std.proofs.lemmas.Bool.{cases_lt}
use Rattle.rabin_chunker.specs.Cuts.{fingerprint_of, polynomial, remainder}
use Rattle.rabin_chunker.specs.Rolling.{rolled_by}
use Rattle.rabin_chunker.specs.Lanes.{IsUnmarked}
use Rattle.rabin_chunker.proofs.Algebra.{Bytes, rolled}
use Rattle.rabin_chunker.proofs.Steps.{bytes_take, bytes_drop}
use Rattle.rabin_chunker.proofs.Scanning.{slice_rolled, unmarked_more}

-- ---- a fingerprint that is begun anew
-- f is that of the first i bytes of a piece from s on, and of zeros before them
abbrev pub IsPrimed : List ℕ → ℕ → ℕ → ℕ → Type 0
IsPrimed piece s i f = f ≡ fingerprint_of (replicate (48 - i) 0 ++ take i (drop s piece))

pub primed_none : (piece : List ℕ) (s : ℕ) → IsPrimed piece s 0 0
unfolding fingerprint_of polynomial remainder
primed_none piece s = refl

bytes_zero : (xs : List ℕ) → Bytes xs → (i : ℕ) → get_or (0 ∷ xs) i 0 < 256
bytes_zero xs h zero = lit< tt
bytes_zero xs h (suc i) = h i

bytes_zeros : (m : ℕ) (xs : List ℕ) → Bytes xs → Bytes (replicate m 0 ++ xs)
bytes_zeros zero xs h = h
bytes_zeros (suc m) xs h = λ i. bytes_zero (replicate m 0 ++ xs) (bytes_zeros m xs h) i

pub primed_more : (piece : List ℕ) (s i f r : ℕ) → i < 48 → s + 48 ≤ length piece → Bytes piece → IsPrimed piece s i f
    → r ≡ rolled_by f 0 (get_or piece (s + i) 0) → IsPrimed piece s (i + 1) r
primed_more piece s i f r hi hl hb hf hr =
    let m : ℕ = 47 - i in
    let b : ℕ = get_or piece (s + i) 0 in
    let some : List ℕ = take i (drop s piece) in
    let e : 48 - i ≡ suc m = omega arith in
    let e2 : 48 - (i + 1) ≡ m = omega arith in
    let s1 : i + 1 ≡ suc i = omega arith in
    let long : length (replicate m 0 ++ some) ≡ 47 = simp (length-append, length-replicate, length-take, length-drop) (omega arith) in
    let more : take (i + 1) (drop s piece) ≡ some ++ b ∷ [] =
    ap (λ (k : ℕ). take k (drop s piece)) s1 ∙ take-suc (drop s piece) i 0 (simp length-drop (omega arith)) ∙ ap (λ (x : ℕ). some ++ x ∷ []) (get_or-drop s piece i 0) in
    let before : replicate (48 - i) 0 ++ some ≡ 0 ∷ (replicate m 0 ++ some) = ap (λ (k : ℕ). replicate k 0 ++ some) e in
    let after : replicate (48 - (i + 1)) 0 ++ take (i + 1) (drop s piece) ≡ (replicate m 0 ++ some) ++ b ∷ [] =
    (λ t. replicate (e2 t) 0 ++ more t) ∙ sym (append_assoc (replicate m 0) some (b ∷ [])) in
    hr ∙ ap (λ (x : ℕ). rolled_by x 0 b) (hf ∙ ap (λ (x : List ℕ). fingerprint_of x) before)
    ∙ sym (rolled 0 b (replicate m 0 ++ some) long (bytes_zeros m some (bytes_take i (drop s piece) (bytes_drop s piece hb))) (hb (s + i)))
    ∙ ap (λ (x : List ℕ). fingerprint_of x) (sym after)

pub primed_whole : (piece : List ℕ) (s i e f : ℕ) → i ≡ 48 → e ≡ s + 48 → IsPrimed piece s i f → f ≡ fingerprint_of (slice_range piece (e - 48) e)
primed_whole piece s i e f hi he hf =
    let none : 48 - i ≡ 0 = omega arith in
    let n : i ≡ e - (e - 48) = omega arith in
    let p : s ≡ e - 48 = omega arith in
    hf ∙ (λ t. fingerprint_of (replicate (none t) 0 ++ take (n t) (drop (p t) piece)))

-- ---- no marked place
pub unmarked_on : (piece : List ℕ) (from m to : ℕ) → IsUnmarked piece from (m + 1) → IsUnmarked piece m to → IsUnmarked piece from to
unmarked_on piece from m to h k = λ q a b. elim (cases_lt q (m + 1)) [
  | inl l ↦ h q a l
  | inr n ↦ k q (omega arith) b
]

-- ---- a lane a byte further on
pub lane_moved : (piece : List ℕ) (at far i f r : ℕ) → 48 ≤ at → i ≡ at + far - 48 → at + far < length piece → Bytes piece
    → f ≡ fingerprint_of (slice_range piece (at + far - 48) (at + far)) → r ≡ rolled_by f (get_or piece i 0) (get_or piece (at + far) 0)
    → r ≡ fingerprint_of (slice_range piece (at + 1 + far - 48) (at + 1 + far))
lane_moved piece at far i f r ha hi hl hb hf hr =
    let e : at + 1 + far ≡ at + far + 1 = omega arith in
    rw e (slice_rolled piece (at + far) f r (omega arith) hl hb hf (hr ∙ ap (λ (k : ℕ). rolled_by f (get_or piece k 0) (get_or piece (at + far) 0)) hi))

pub lane_unmarked : (piece : List ℕ) (from at count far f : ℕ) → IsUnmarked piece from (at + count + far + 1)
    → f ≡ fingerprint_of (slice_range piece (at + count + 1 + far - 48) (at + count + 1 + far)) → (f % 2 ^ 13 == 8191) ≡ false
    → IsUnmarked piece from (at + (count + 1) + far + 1)
lane_unmarked piece from at count far f h hf off =
    let e : at + (count + 1) + far ≡ at + count + 1 + far = omega arith in
    let before : at + count + far + 1 ≡ at + count + 1 + far = omega arith in
    rw e (unmarked_more piece from (at + count + 1 + far) f (subst (λ (x : ℕ). IsUnmarked piece from x) before h) hf off)

-- four lanes of 256 bytes, one behind the other
pub lanes_unmarked : (piece : List ℕ) (at count : ℕ) → count ≡ 256 → IsUnmarked piece at (at + count + 1) → IsUnmarked piece (at + 256) (at + count + 256 + 1)
    → IsUnmarked piece (at + 512) (at + count + 512 + 1) → IsUnmarked piece (at + 768) (at + count + 768 + 1) → IsUnmarked piece at (at + 1024 + 1)
lanes_unmarked piece at count hc h1 h2 h3 h4 =
    let e1 : at + count + 1 ≡ at + 256 + 1 = omega arith in
    let e2 : at + count + 256 + 1 ≡ at + 512 + 1 = omega arith in
    let e3 : at + count + 512 + 1 ≡ at + 768 + 1 = omega arith in
    let e4 : at + count + 768 + 1 ≡ at + 1024 + 1 = omega arith in
    unmarked_on piece at (at + 256) (at + 1024 + 1) (subst (λ (x : ℕ). IsUnmarked piece at x) e1 h1)
    (unmarked_on piece (at + 256) (at + 512) (at + 1024 + 1) (subst (λ (x : ℕ). IsUnmarked piece (at + 256) x) e2 h2)
    (unmarked_on piece (at + 512) (at + 768) (at + 1024 + 1) (subst (λ (x : ℕ). IsUnmarked piece (at + 512) x) e3 h3)
    (subst (λ (x : ℕ). IsUnmarked piece (at + 768) x) e4 h4)))
