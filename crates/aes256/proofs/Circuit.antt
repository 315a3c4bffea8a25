-- A circuit of xor and and gates, run on the bits of numbers one place at a time.
use Rattle.std.proofs.Common.{◌≡◌, ℕ, zero, suc, ◌+◌, ◌*◌, ◌/◌, ◌%◌, ◌^◌, ◌<◌, Bool, true, false, T, eqb, eqb→eq, List, [], ◌∷◌, map, length, get_or, bit_and, bit_xor, refl, sym, ap, ◌∙◌, inl, inr, arith}
use Rattle.std.proofs.lemmas.Nat.{xor_shr, xor_mod, and_shr, and_mod, shr_le, xor_block}
use Rattle.std.specs.Prelude.{◌&&◌}
use Rattle.std.proofs.Common.{subst}
use Rattle.std.proofs.Math.Nat.{pow-suc}
use Rattle.std.proofs.lemmas.Bool.{cases_lt}
use Rattle.std.proofs.lemmas.List.{length-map}
use Rattle.std.specs.Simd.Lanes.{Each1}
use Rattle.std.specs.Simd.Lanes.{number_l, digits_l, zip2}
use Rattle.aes256.specs.Planes.{bit_of}

pub data Gate : Type 0 where
  Xor : ℕ → ℕ → Gate
  And : ℕ → ℕ → Gate

-- what a gate makes of the values so far, the last one first
abbrev pub value_of : Gate → List ℕ → ℕ
value_of (Xor i j) vs = bit_xor (get_or vs i 0) (get_or vs j 0)
value_of (And i j) vs = bit_and (get_or vs i 0) (get_or vs j 0)

abbrev pub run : List Gate → List ℕ → List ℕ
run [] vs = vs
run (g ∷ gs) vs = run gs (value_of g vs ∷ vs)

-- the new values ns are those that the gates make after vs
abbrev pub Follows : List Gate → List ℕ → List ℕ → Type 0
Follows [] vs [] = Unit {0}
Follows [] vs (n ∷ ns) = ⊥
Follows (g ∷ gs) vs [] = ⊥
Follows (g ∷ gs) vs (n ∷ ns) = (n ≡ value_of g vs) × Follows gs (n ∷ vs) ns

abbrev pub pushed : List ℕ → List ℕ → List ℕ
pushed [] vs = vs
pushed (n ∷ ns) vs = pushed ns (n ∷ vs)

pub pushed-run : (gs : List Gate) (vs ns : List ℕ) → Follows gs vs ns → pushed ns vs ≡ run gs vs
pushed-run [] vs [] h = refl
pushed-run [] vs (n ∷ ns) h = absurd h
pushed-run (g ∷ gs) vs [] h = absurd h
pushed-run (g ∷ gs) vs (n ∷ ns) h = pushed-run gs (n ∷ vs) ns h.1 ∙ ap (λ m. run gs (m ∷ vs)) h.0

pub bit_xor-bit : (k a b : ℕ) → bit_of k (bit_xor a b) ≡ bit_xor (bit_of k a) (bit_of k b)
bit_xor-bit k a b = ap (λ n. n % 2) (xor_shr a b k) ∙ xor_mod (a / 2 ^ k) (b / 2 ^ k) 1

pub bit_and-bit : (k a b : ℕ) → bit_of k (bit_and a b) ≡ bit_and (bit_of k a) (bit_of k b)
bit_and-bit k a b = ap (λ n. n % 2) (and_shr a b k) ∙ and_mod (a / 2 ^ k) (b / 2 ^ k) 1

bit_zero : (k : ℕ) → bit_of k 0 ≡ 0
bit_zero k = let e : 0 / 2 ^ k ≡ 0 = omega (arith, shr_le 0 k) in rw e refl

pub get_or-bits : (k : ℕ) (vs : List ℕ) (i : ℕ) → get_or (map (bit_of k) vs) i 0 ≡ bit_of k (get_or vs i 0)
get_or-bits k [] i = sym (bit_zero k)
get_or-bits k (v ∷ vs) zero = refl
get_or-bits k (v ∷ vs) (suc i) = get_or-bits k vs i

value_of-bits : (k : ℕ) (g : Gate) (vs : List ℕ) → bit_of k (value_of g vs) ≡ value_of g (map (bit_of k) vs)
value_of-bits k (Xor i j) vs = bit_xor-bit k _ _ ∙ (λ t. bit_xor (sym (get_or-bits k vs i) t) (sym (get_or-bits k vs j) t))
value_of-bits k (And i j) vs = bit_and-bit k _ _ ∙ (λ t. bit_and (sym (get_or-bits k vs i) t) (sym (get_or-bits k vs j) t))

-- a circuit works on each bit by itself
pub run-bits : (k : ℕ) (gs : List Gate) (vs : List ℕ) → map (bit_of k) (run gs vs) ≡ run gs (map (bit_of k) vs)
run-bits k [] vs = refl
run-bits k (g ∷ gs) vs = run-bits k gs (value_of g vs ∷ vs) ∙ ap (λ n. run gs (n ∷ map (bit_of k) vs)) (value_of-bits k g vs)

abbrev pub all_below : (ℕ → Bool) → ℕ → Bool
all_below p zero = true
all_below p (suc n) = p n && all_below p n

and_l : (a b : Bool) → T (a && b) → T a
and_l true b h = tt
and_l false b h = h

and_r : (a b : Bool) → T (a && b) → T b
and_r true b h = h
and_r false b h = absurd h

pub every_below : (p : ℕ → Bool) (n : ℕ) → T (all_below p n) → (i : ℕ) → i < n → T (p i)
every_below p zero h i l = absurd (omega arith)
every_below p (suc n) h i l =
    elim (cases_lt i n) [
      | inl s ↦ every_below p n (and_r (p n) _ h) i s
      | inr g ↦
          let e : i ≡ n = omega arith in subst (λ (j : ℕ). T (p j)) (sym e) (and_l (p n) _ h)
    ]

pub digits-number : (bs : List ℕ) → Each1 (λ b. b < 2) bs → digits_l 2 (length bs) (number_l 2 bs) ≡ bs
digits-number [] h = refl
digits-number (b ∷ bs) h =
    let lt = h.0 in
    let low : (b + 2 * number_l 2 bs) % 2 ≡ b = omega arith in
    let high : (b + 2 * number_l 2 bs) / 2 ≡ number_l 2 bs = omega arith in
    rw (low, high) (ap (λ l. b ∷ l) (digits-number bs h.1))

pub number-lt : (bs : List ℕ) → Each1 (λ b. b < 2) bs → number_l 2 bs < 2 ^ length bs
number-lt [] h = omega arith
number-lt (b ∷ bs) h = let r = number-lt bs h.1 in let lt = h.0 in omega (arith, pow-suc 2 (length bs))

pub bits-small : (k : ℕ) (vs : List ℕ) → Each1 (λ b. b < 2) (map (bit_of k) vs)
bits-small k [] = tt
bits-small k (v ∷ vs) = (omega arith, bits-small k vs)

pub number-xor : (k : ℕ) (xs bs : List ℕ) → length xs ≡ length bs
    → number_l 2 (map (bit_of k) (zip2 bit_xor xs bs)) ≡ bit_xor (number_l 2 (map (bit_of k) xs)) (number_l 2 (map (bit_of k) bs))
number-xor k [] [] h = refl
number-xor k [] (b ∷ bs) h = absurd (omega arith)
number-xor k (a ∷ xs) [] h = absurd (omega arith)
number-xor k (a ∷ xs) (b ∷ bs) h =
    let m : ℕ = number_l 2 (map (bit_of k) xs) in
    let n : ℕ = number_l 2 (map (bit_of k) bs) in
    let long : length xs ≡ length bs = omega arith in
    rw (bit_xor-bit k a b, number-xor k xs bs long) (
    let block = xor_block 1 m n (bit_of k a) (bit_of k b) (omega arith) (omega arith) in
    let e1 : bit_of k a + 2 * m ≡ m * 2 ^ 1 + bit_of k a = omega arith in
    let e2 : bit_of k b + 2 * n ≡ n * 2 ^ 1 + bit_of k b = omega arith in
    let e3 : bit_xor (bit_of k a) (bit_of k b) + 2 * bit_xor m n ≡ bit_xor m n * 2 ^ 1 + bit_xor (bit_of k a) (bit_of k b) = omega arith in
    e3 ∙ sym block ∙ (λ t. bit_xor (sym e1 t) (sym e2 t)))

-- the places of answers among the values
abbrev pub picked : List ℕ → List ℕ → List ℕ
picked os vs = map (λ o. get_or vs o 0) os

picked-bits : (k : ℕ) (os vs : List ℕ) → map (bit_of k) (picked os vs) ≡ picked os (map (bit_of k) vs)
picked-bits k [] vs = refl
picked-bits k (o ∷ os) vs = λ t. sym (get_or-bits k vs o) t ∷ picked-bits k os vs t

-- a circuit that was tried on each byte is right at bit k of each of eight numbers
pub circuit_right : (gs : List Gate) (os : List ℕ) (f : ℕ → ℕ)
    → T (all_below (λ x. eqb (number_l 2 (picked os (run gs (digits_l 2 8 x)))) (f x)) 256)
    → (vs ns : List ℕ) → length vs ≡ 8 → Follows gs vs ns
    → (k : ℕ) → number_l 2 (map (bit_of k) (picked os (pushed ns vs))) ≡ f (number_l 2 (map (bit_of k) vs))
circuit_right gs os f table vs ns long follows k =
    let bs : List ℕ = map (bit_of k) vs in
    let len : length bs ≡ 8 = length-map vs (bit_of k) ∙ long in
    let small : Each1 (λ b. b < 2) bs = bits-small k vs in
    let back : digits_l 2 8 (number_l 2 bs) ≡ bs = subst (λ n. digits_l 2 n (number_l 2 bs) ≡ bs) len (digits-number bs small) in
    let lt : number_l 2 bs < 256 = subst (λ n. number_l 2 bs < 2 ^ n) len (number-lt bs small) in
    let same : map (bit_of k) (pushed ns vs) ≡ run gs bs = ap (map (bit_of k)) (pushed-run gs vs ns follows) ∙ run-bits k gs vs in
    ap (number_l 2) (picked-bits k os (pushed ns vs) ∙ ap (picked os) (same ∙ ap (run gs) (sym back)))
    ∙ eqb→eq _ _ (every_below (λ x. eqb (number_l 2 (picked os (run gs (digits_l 2 8 x)))) (f x)) 256 table (number_l 2 bs) lt)
