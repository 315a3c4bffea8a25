-- Numbers as text.
use Rattle.std.proofs.Common.{◌≡◌, ℕ, suc, ◌^◌, ◌<◌, ◌≤◌, Bool, true, false, ◌&&◌, not, List, [], ◌∷◌, length, get_or, Some, None, Result, Err, refl, sym, ap, ◌∙◌, subst, arith, eqb, cond, leb, ltb, inl, inr}
use Rattle.std.specs.Prelude.{decimal, IsUtf8}
use Rattle.std.specs.Char.{is_ascii_digit}
use Rattle.std.specs.Str.{all_ascii_digits}
use Rattle.std.specs.Str.Parse.{digits_value, ParsesUnsigned, IsNumeral, without_leading_plus}
use Rattle.std.proofs.lemmas.Str.{IsUtf8-from_ascii}
use Rattle.std.proofs.lemmas.Fmt.{IsAscii-from_digits, digits_decimal, digits_value-decimal, decimal-digits_value, decimal_nonempty, first_decimal, decimal_digit}
use Rattle.std.proofs.lemmas.Str.Parse.{IsNumeralModel, numerals_by_value, tells_all_ascii_digits, parse_digits}
use Rattle.std.proofs.lemmas.Bool.Decides.{nat_tests}
use Rattle.std.proofs.lemmas.Bool.{cases_lt, cases_eq, and_parts, and_from, or_cases, or_left, or_right, ltb-true, leb-true, eqb-true, lt-ltb, le-leb, eq-eqb, ne_eqb, not-true}
use Rattle.std.proofs.lemmas.Option.{cond_some}
use Rattle.grammar.specs.Numerals.{number, capped, is_numeral}
use Rattle.grammar.specs.Words.{is_blank}
use Rattle.grammar.proofs.WordLaws.{Plain, Reads}

pub own : IsNumeralModel (λ ds. all_ascii_digits ds ≡ true) (digits_value 10)
own = numerals_by_value _ tells_all_ascii_digits

pub numeral_parts : (text : List ℕ) → is_numeral text ≡ true → (all_ascii_digits text ≡ true) × (0 < length text) × (get_or text 0 0 ≡ 48 → length text ≡ 1)
numeral_parts text e =
    let a = and_parts (all_ascii_digits text) _ e in
    let b = and_parts (ltb 0 (length text)) _ a.1 in (
      a.0,
      ltb-true _ _ b.0,
      λ z. elim (or_cases (eqb (length text) 1) _ b.1) [
        | inl one ↦ eqb-true _ _ one
        | inr other ↦ absurd (let k = eq-eqb (get_or text 0 0) 48 z in cc (not-true _ other))
      ],
    )

numeral_from : (text : List ℕ) → all_ascii_digits text ≡ true → 0 < length text → (get_or text 0 0 ≡ 48 → length text ≡ 1) → is_numeral text ≡ true
numeral_from text digits some first =
    and_from _ _ digits (and_from _ _ (lt-ltb _ _ some) (elim (cases_eq (get_or text 0 0) 48) [
      | inl z ↦ or_left _ _ (eq-eqb _ _ (first z))
      | inr n ↦ or_right (eqb (length text) 1) _ (ap not (ne_eqb _ _ n))
    ]))

pub not_text : (text : List ℕ) → is_numeral text ≡ true → (IsUtf8 text → ⊥) → ⊥
not_text text e h = h (IsUtf8-from_ascii text (IsAscii-from_digits text (own.to text (numeral_parts text e).0)))

none_above : (b low : Bool) (v high : ℕ) → high < v → None ≡ cond (b && (low && leb v high)) (Some v) None
none_above true true v high lt = grind (arith, nat_tests)
none_above true false v high lt = refl
none_above false low v high lt = refl

-- what parses as no u64 is in no range below it
pub too_long : (low high : ℕ) (text t : List ℕ) → high < 2 ^ 64 → is_numeral text ≡ true → t ≡ text
    → (IsNumeral 10 (without_leading_plus t) × (digits_value 10 (without_leading_plus t) < 2 ^ 64) → ⊥) → None ≡ number low high text
unfolding number
too_long low high text t lt n same refused =
    let p = numeral_parts text n in
    let r : Result ℕ ℕ = Err 0 in
    let h = parse_digits own 64 text r (subst (λ (u : List ℕ). ParsesUnsigned 64 10 u r) same refused) p.0 in
    let big : 2 ^ 64 ≤ digits_value 10 text = elim (cases_lt (digits_value 10 text) (2 ^ 64)) [
      | inl small ↦ absurd (h (p.1, small))
      | inr big ↦ big
    ] in
    none_above (is_numeral text) (leb low (digits_value 10 text)) (digits_value 10 text) high (omega arith)

digit_is_none : (b : ℕ) → is_ascii_digit b ≡ true → is_blank b ≡ false
digit_is_none b e = let p = and_parts (leb 48 b) (leb b 57) e in let low = leb-true _ _ p.0 in ne_eqb b 32 (λ h. omega arith)

plain_digits : (text : List ℕ) → all_ascii_digits text ≡ true → Plain text
plain_digits [] e = tt
plain_digits (b ∷ bs) e = let p = and_parts (is_ascii_digit b) _ e in (digit_is_none b p.0, plain_digits bs p.1)

number_takes : (low high : ℕ) → high < 2 ^ 64 → (text : List ℕ) (n : ℕ) → number low high text ≡ Some n → (text ≡ decimal n) × ((low ≤ n) × (n ≤ high))
unfolding number
number_takes low high lt text n e =
    let c = cond_some _ _ _ e in
    let a = and_parts (is_numeral text) _ c.0 in
    let b = and_parts (leb low (digits_value 10 text)) _ a.1 in
    let p = numeral_parts text a.0 in
    let above = leb-true _ _ b.0 in
    let below = leb-true _ _ b.1 in
    let same = decimal-digits_value own text p.0 p.1 p.2 (omega arith) in
    subst (λ (k : ℕ). (text ≡ decimal k) × ((low ≤ k) × (k ≤ high))) c.1 (sym same, (above, below))

first_is : (n : ℕ) → n < 2 ^ 64 → get_or (decimal n) 0 0 ≡ 48 → length (decimal n) ≡ 1
first_is n lt e = elim (cases_lt 0 n) [
  | inl pos ↦ absurd (omega (arith, first_decimal n pos lt, e))
  | inr le ↦ let z : n ≡ 0 = omega arith in ap (λ (k : ℕ). length (decimal k)) z ∙ ap length (decimal_digit 0 (omega arith))
]

number_again : (low high : ℕ) → high < 2 ^ 64 → (n : ℕ) → (low ≤ n) × (n ≤ high) → number low high (decimal n) ≡ Some n
unfolding number
number_again low high lt n fits =
    let small : n < 2 ^ 64 = omega arith in
    let digits = digits_decimal own n small in
    let numeral = numeral_from (decimal n) digits (decimal_nonempty n small) (first_is n small) in
    let v : digits_value 10 (decimal n) ≡ n = digits_value-decimal own n small in
    let above : leb low n ≡ true = le-leb _ _ fits.0 in
    let below : leb n high ≡ true = le-leb _ _ fits.1 in
    rw (v, numeral, above, below) refl

pub number_reads : (low high : ℕ) → high < 2 ^ 64 → Reads (number low high) decimal (λ n. (low ≤ n) × (n ≤ high))
number_reads low high lt = record {
  takes = number_takes low high lt;
  again = number_again low high lt;
  plain = λ n fits. plain_digits (decimal n) (digits_decimal own n (omega arith));
}

-- the kind of numbers below a bound
pub numbers_below : (n high : ℕ) → suc high ≡ n → n ≤ 2 ^ 64 → Reads (number 0 high) decimal (λ c. c < n)
numbers_below n high same le =
    let r = number_reads 0 high (omega arith) in
    record { takes = λ text x e. let t = r.takes text x e in (t.0, omega arith); again = λ x h. r.again x (omega arith, omega arith); plain = λ x h. r.plain x (omega arith, omega arith) }

-- a number below the cap is read as such
pub capped_takes : (cap : ℕ) (text : List ℕ) (n : ℕ) → cap ≤ 2 ^ 64 → capped cap text ≡ Some n → n < cap → text ≡ decimal n
unfolding capped
capped_takes cap text n le e below =
    let c = cond_some _ _ _ e in
    let p = numeral_parts text c.0 in
    let small : digits_value 10 text < cap = omega (arith, c.1) in
    let is : digits_value 10 text ≡ n = omega (arith, c.1) in
    sym (decimal-digits_value own text p.0 p.1 p.2 (omega arith)) ∙ ap decimal is

pub capped_again : (cap n : ℕ) → n < cap → n < 2 ^ 64 → capped cap (decimal n) ≡ Some n
unfolding capped
capped_again cap n below small =
    let digits = digits_decimal own n small in
    let numeral = numeral_from (decimal n) digits (decimal_nonempty n small) (first_is n small) in
    let v : digits_value 10 (decimal n) ≡ n = digits_value-decimal own n small in
    rw (v, numeral) (ap Some (omega arith))

-- a decimal has no blank
pub decimal_plain : (n : ℕ) → n < 2 ^ 64 → Plain (decimal n)
decimal_plain n small = plain_digits (decimal n) (digits_decimal own n small)

-- a number up to the cap, and one above it
pub capped_small : (cap n : ℕ) (text : List ℕ) → Some n ≡ number 0 cap text → Some n ≡ capped cap text
unfolding number capped
capped_small cap n text e =
    let c = cond_some _ _ _ (sym e) in
    let a = and_parts (is_numeral text) _ c.0 in
    let b = and_parts (leb 0 (digits_value 10 text)) _ a.1 in
    let le = leb-true _ _ b.1 in
    rw a.0 (ap Some (omega (arith, c.1)))

above_cap : (numeral low : Bool) (v cap : ℕ) → numeral ≡ true → low ≡ true → None ≡ cond (numeral && (low && leb v cap)) (Some v) None → cap < v
above_cap true true v cap n e h = grind (arith, nat_tests)
above_cap true false v cap n e h = absurd cc
above_cap false low v cap n e h = absurd cc

pub capped_large : (cap : ℕ) (text : List ℕ) → is_numeral text ≡ true → None ≡ number 0 cap text → Some cap ≡ capped cap text
unfolding number capped
capped_large cap text numeral e =
    let above = above_cap (is_numeral text) (leb 0 (digits_value 10 text)) (digits_value 10 text) cap numeral (le-leb _ _ (omega arith)) e in
    rw numeral (ap Some (omega arith))
