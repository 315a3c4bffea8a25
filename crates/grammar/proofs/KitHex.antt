-- What the kit's `hex` reads and writes, in this crate's words. It reads digits in upper case too, which are none here.
use Rattle.std.proofs.Common.{◌≡◌, ℕ, zero, suc, ◌+◌, ◌*◌, ◌/◌, ◌%◌, ◌<◌, ◌≤◌, ◌==◌, Bool, true, false, ◌&&◌, List, [], ◌∷◌, ◌++◌, length, take, get_or, slice_index, Option, Some, None, Result, Ok, Err, is_some, refl, sym, ap, ◌∙◌, arith, inl, inr}
use Rattle.std.specs.Prelude.{MatchResult, IsOk, OnOk, ⊤}
use Rattle.std.proofs.lemmas.Bool.Decides.{nat_tests}
use Rattle.std.proofs.lemmas.Bool.{and_parts, cases_lt, eqb-true}
use Rattle.std.proofs.Math.Seq.{take-suc}
use Rattle.std.proofs.lemmas.List.{take_all}
use Rattle.hex.specs.Hex.{IsBytes, decode_pairs, decode_sized, digit_or_error, encode_lower, encode_with, hex_digit_value, lower_digits, value_at, ◌>>=◌}
use Rattle.hex.specs.Hex as kit
use Rattle.hex.specs.declared.error.FromHexError.{FromHexError}
use Rattle.hex.proofs.Pairs.{cons_byte, decode_pairs-ok_pair, decode_sized-pairs}
use Rattle.grammar.specs.Words.{onto}
use Rattle.grammar.specs.Hexadecimal.{hex, hex_digit, unhex, unhex_digit, pair_value}
use Rattle.grammar.proofs.HexadecimalLaws.{digit_takes}

-- ---- writing

-- the two tables agree at d, a test that computes
abbrev same_digit : ℕ → Bool
same_digit d = slice_index lower_digits d == hex_digit d

abbrev same_digits : ℕ → Bool
same_digits zero = true
same_digits (suc n) = same_digit n && same_digits n

same_digits-at : (n d : ℕ) → same_digits n ≡ true → d < n → same_digit d ≡ true
same_digits-at zero d h lt = absurd (omega arith)
same_digits-at (suc n) d h lt =
    let parts = and_parts (same_digit n) (same_digits n) h in
    elim (cases_lt d n) [
      | inl below ↦ same_digits-at n d parts.1 below
      | inr top ↦ let e : d ≡ n = omega arith in rw e parts.0
    ]

digit_written : (d : ℕ) → d < 16 → slice_index lower_digits d ≡ hex_digit d
digit_written d lt = eqb-true (slice_index lower_digits d) (hex_digit d) (same_digits-at 16 d refl lt)

-- the kit writes the text of bytes
hex_written : (bs : List ℕ) → IsBytes bs → encode_lower bs ≡ hex bs
unfolding hex encode_with
hex_written [] h = refl
hex_written (b ∷ bs) h =
    let fits : b < 256 = h 0 in
    let high = digit_written (b / 16) (omega arith) in
    let low = digit_written (b % 16) (omega arith) in
    let more = hex_written bs (λ i. h (suc i)) in
    rw (high, low, more) refl

-- what the kit wrote where there was room
pub hex_done : (bs out : List ℕ) (r : Result ⊤ FromHexError) → IsBytes bs → IsOk r → OnOk r (out ≡ encode_lower bs) → out ≡ hex bs
hex_done bs out (Ok x) fits ok h = h ∙ hex_written bs fits
hex_done bs out (Err e) fits ok h = cc ok

-- ---- reading

-- all of a text is digits in lower case
unfoldable pub all_lower : List ℕ → Bool
all_lower [] = true
all_lower (c ∷ text) = is_some (unhex_digit c) && all_lower text

pub and_assoc : (a b c : Bool) → (a && (b && c)) ≡ ((a && b) && c)
and_assoc true b c = refl
and_assoc false b c = refl

pub and_true : (a : Bool) → (a && true) ≡ a
and_true true = refl
and_true false = refl

lower_then : (text : List ℕ) (c : ℕ) → all_lower (text ++ c ∷ []) ≡ (all_lower text && is_some (unhex_digit c))
unfolding all_lower
lower_then [] c = and_true (is_some (unhex_digit c))
lower_then (b ∷ text) c = ap (λ (t : Bool). is_some (unhex_digit b) && t) (lower_then text c) ∙ and_assoc (is_some (unhex_digit b)) (all_lower text) (is_some (unhex_digit c))

pub lower_turn : (text : List ℕ) (i : ℕ) → i < length text → all_lower (take (i + 1) text) ≡ (all_lower (take i text) && is_some (unhex_digit (get_or text i 0)))
lower_turn text i lt =
    let e : i + 1 ≡ suc i = omega arith in
    ap (λ (n : ℕ). all_lower (take n text)) e ∙ ap all_lower (take-suc text i 0 lt) ∙ lower_then (take i text) (get_or text i 0)

some_of : (o : Option ℕ) → is_some o ≡ true → (x : ℕ) × (o ≡ Some x)
some_of (Some x) h = (x, refl)
some_of None h = absurd cc

-- a digit in lower case is one of the kit's, with the same value
digit_read : (c d i : ℕ) → unhex_digit c ≡ Some d → value_at c i ≡ Ok d
digit_read c d i e =
    let t = digit_takes c d e in
    let lt = t.1 in
    let v : hex_digit_value (hex_digit d) ≡ Some d = grind (arith, nat_tests) in
    ap (digit_or_error c i) (ap hex_digit_value t.0 ∙ v)

pair_read : (o p : Option ℕ) (r : Option (List ℕ)) (high low : ℕ) (bs : List ℕ) → o ≡ Some high → p ≡ Some low → r ≡ Some bs → onto (pair_value o p) r ≡ Some ((high * 16 + low) ∷ bs)
pair_read o p r high low bs a b e = let same : 16 * high + low ≡ high * 16 + low = omega arith in rw (a, b, e, same) refl

-- the kit reads what is all in lower case as it is read here
unhex_read : (i n : ℕ) (text : List ℕ) → length text ≡ 2 * n → all_lower text ≡ true → (bs : List ℕ) × (decode_pairs i text ≡ Ok bs) × (unhex text ≡ Some bs)
unfolding all_lower unhex decode_pairs
unhex_read i n [] len h = ([], refl, refl)
unhex_read i n (c ∷ []) len h = absurd (omega arith)
unhex_read i zero (high ∷ low ∷ text) len h = absurd (omega arith)
unhex_read i (suc n) (high ∷ low ∷ text) len h =
    let p = and_parts (is_some (unhex_digit high)) (is_some (unhex_digit low) && all_lower text) h in
    let q = and_parts (is_some (unhex_digit low)) (all_lower text) p.1 in
    let a = some_of (unhex_digit high) p.0 in
    let b = some_of (unhex_digit low) q.0 in
    let more = unhex_read (i + 2) n text (omega arith) q.1 in
    let va = digit_read high a.0 i a.1 in
    let vb = digit_read low b.0 (i + 1) b.1 in
    let pair : kit.pair_value high low i ≡ Ok (a.0 * 16 + b.0) = rw (va, vb) refl in (
      (a.0 * 16 + b.0) ∷ more.0,
      decode_pairs-ok_pair i high low (a.0 * 16 + b.0) text pair ∙ ap (cons_byte (a.0 * 16 + b.0)) more.1,
      pair_read (unhex_digit high) (unhex_digit low) (unhex text) a.0 b.0 more.0 a.1 b.1 more.2,
    )

-- what the kit left where all was in lower case
pub unhex_written : (text out : List ℕ) (n : ℕ) (r : Result ⊤ FromHexError) → length text ≡ 2 * n → all_lower text ≡ true
    → MatchResult (decode_sized text n) (λ bs. (r ≡ Ok tt) × (out ≡ bs)) (λ e. r ≡ Err e) → (r ≡ Ok tt) × (unhex text ≡ Some out)
unhex_written text out n r len h m =
    let read = unhex_read 0 n text len h in
    let sized : decode_sized text n ≡ Ok read.0 = decode_sized-pairs text n (omega arith) (omega arith) ∙ read.1 in
    let done : (r ≡ Ok tt) × (out ≡ read.0) = rw sized at m in
    (done.0, read.2 ∙ ap Some (sym done.1))

onto_lower : (o p : Option ℕ) (a : Bool) (r : Option (List ℕ)) → (is_some o && (is_some p && a)) ≡ false → (a ≡ false → r ≡ None) → onto (pair_value o p) r ≡ None
onto_lower None p a r h f = refl
onto_lower (Some high) None a r h f = refl
onto_lower (Some high) (Some low) a r h f = ap (onto (Some (16 * high + low))) (f h)

-- a text with another byte spells nothing
pub unhex_refused : (text : List ℕ) → all_lower text ≡ false → unhex text ≡ None
unfolding all_lower unhex
unhex_refused [] h = absurd cc
unhex_refused (c ∷ []) h = refl
unhex_refused (high ∷ low ∷ text) h = onto_lower (unhex_digit high) (unhex_digit low) (all_lower text) (unhex text) h (λ e. unhex_refused text e)

pub lower_all : (text : List ℕ) (i : ℕ) → length text ≤ i → all_lower (take i text) ≡ all_lower text
lower_all text i le = ap all_lower (take_all i text le)
