-- What the kit's `hex` reads of a text that has no letter from A to F, which are no digits here.
use Rattle.std.proofs.Common.{◌≡◌, ℕ, suc, ◌+◌, ◌*◌, ◌<◌, ◌≤◌, Bool, true, ◌&&◌, List, [], ◌∷◌, ◌++◌, length, take, drop, get_or, Option, Some, None, Result, Ok, Err, is_ok, refl, sym, ap, ◌∙◌, append_assoc, arith}
use Rattle.std.specs.Prelude.{MatchResult, ⊤}
use Rattle.std.proofs.lemmas.Bool.Decides.{nat_tests}
use Rattle.std.proofs.lemmas.Bool.{and_parts}
use Rattle.std.proofs.Math.Seq.{take-suc}
use Rattle.std.proofs.lemmas.List.{take_all, take-take, drop-take, take-append-drop}
use Rattle.hex.specs.Hex.{decode_pairs, decode_sized, digit_or_error, hex_digit_value, ◌>>=◌}
use Rattle.hex.specs.declared.error.FromHexError.{FromHexError}
use Rattle.hex.proofs.Pairs.{decode_sized-pairs}
use Rattle.journal_start.specs.Grammar.Words.{onto}
use Rattle.journal_start.specs.Grammar.Hexadecimal.{hex, unhex, unhex_digit, pair_value}
use Rattle.grammar.proofs.KitHex.{and_assoc, and_true}
use Rattle.session.specs.Front.{not_upper}

-- no letter from A to F is in a text
unfoldable pub all_lower : List ℕ → Bool
all_lower [] = true
all_lower (c ∷ text) = not_upper c && all_lower text

lower_then : (text : List ℕ) (c : ℕ) → all_lower (text ++ c ∷ []) ≡ (all_lower text && not_upper c)
unfolding all_lower
lower_then [] c = and_true (not_upper c)
lower_then (b ∷ text) c = ap (λ (t : Bool). not_upper b && t) (lower_then text c) ∙ and_assoc (not_upper b) (all_lower text) (not_upper c)

pub lower_turn : (text : List ℕ) (i : ℕ) → i < length text → all_lower (take (i + 1) text) ≡ (all_lower (take i text) && not_upper (get_or text i 0))
lower_turn text i lt =
    let e : i + 1 ≡ suc i = omega arith in
    ap (λ (n : ℕ). all_lower (take n text)) e ∙ ap all_lower (take-suc text i 0 lt) ∙ lower_then (take i text) (get_or text i 0)

pub lower_all : (text : List ℕ) (i : ℕ) → length text ≤ i → all_lower (take i text) ≡ all_lower text
lower_all text i le = ap all_lower (take_all i text le)

-- such a byte has the same value in the kit's words
value_same : (c : ℕ) → not_upper c ≡ true → unhex_digit c ≡ hex_digit_value c
value_same c h = grind (arith, nat_tests)

pair_read : (o p a b : Option ℕ) (r : Result (List ℕ) FromHexError) (q : Option (List ℕ)) (high low i : ℕ) (bs : List ℕ) → o ≡ a → p ≡ b
    → ((digit_or_error high i a >>= (λ h. digit_or_error low (i + 1) b >>= (λ l. Ok (h * 16 + l)))) >>= (λ byte. r >>= (λ bytes. Ok (byte ∷ bytes)))) ≡ Ok bs
    → ((xs : List ℕ) → r ≡ Ok xs → q ≡ Some xs) → onto (pair_value o p) q ≡ Some bs
pair_read o p None b r q high low i bs eo ep e more = absurd cc
pair_read o p (Some x) None r q high low i bs eo ep e more = absurd cc
pair_read o p (Some x) (Some y) (Err f) q high low i bs eo ep e more = absurd cc
pair_read o p (Some x) (Some y) (Ok xs) q high low i bs eo ep e more =
    let same : 16 * x + y ≡ x * 16 + y = omega arith in
    let left : bs ≡ (x * 16 + y) ∷ xs = cc in
    rw (eo, ep, more xs refl, same, left) refl

read : (i : ℕ) (text bs : List ℕ) → all_lower text ≡ true → decode_pairs i text ≡ Ok bs → unhex text ≡ Some bs
unfolding all_lower unhex decode_pairs
read i [] bs l e = cc
read i (c ∷ []) bs l e = absurd cc
read i (high ∷ low ∷ text) bs l e =
    let p = and_parts (not_upper high) (not_upper low && all_lower text) l in
    let q = and_parts (not_upper low) (all_lower text) p.1 in
    pair_read (unhex_digit high) (unhex_digit low) (hex_digit_value high) (hex_digit_value low) (decode_pairs (i + 2) text) (unhex text) high low i bs
    (value_same high p.0) (value_same low q.0) e (λ xs f. read (i + 2) text xs q.1 f)

decoded : (d : Result (List ℕ) FromHexError) (out : List ℕ) (r : Result ⊤ FromHexError) → MatchResult d (λ bs. (r ≡ Ok tt) × (out ≡ bs)) (λ e. r ≡ Err e) → is_ok r ≡ true → d ≡ Ok out
decoded (Ok bs) out r m ok = ap Ok (sym m.1)
decoded (Err e) out (Ok x) m ok = absurd cc
decoded (Err e) out (Err f) m ok = absurd cc

-- what the kit left where it read such a text
pub unhex_left : (text out : List ℕ) (n : ℕ) (r : Result ⊤ FromHexError) → length text ≡ 2 * n → all_lower text ≡ true
    → MatchResult (decode_sized text n) (λ bs. (r ≡ Ok tt) × (out ≡ bs)) (λ e. r ≡ Err e) → is_ok r ≡ true → Some out ≡ unhex text
unhex_left text out n r len l m ok =
    let pairs = decode_sized-pairs text n (omega arith) (omega arith) in
    sym (read 0 text out l (sym pairs ∙ decoded (decode_sized text n) out r m ok))

-- ---- several blocks

take_parts : (t n : ℕ) (xs : List ℕ) → take t xs ++ take n (drop t xs) ≡ take (t + n) xs
take_parts t n xs =
    ap (λ (x : List ℕ). x ++ take n (drop t xs)) (sym (take-take t (t + n) xs (omega arith)))
    ∙ ap (λ (x : List ℕ). take t (take (t + n) xs) ++ x) (sym (drop-take t n xs)) ∙ take-append-drop t (take (t + n) xs)

-- a block more was taken
pub more_taken : (old mid new bytes rest : List ℕ) (t n : ℕ) → hex mid ≡ hex old ++ take t bytes → rest ≡ drop t bytes → hex new ≡ hex mid ++ take n rest → hex new ≡ hex old ++ take (t + n) bytes
more_taken old mid new bytes rest t n first behind next =
    next ∙ ap (λ (x : List ℕ). hex mid ++ take n x) behind ∙ ap (λ (x : List ℕ). x ++ take n (drop t bytes)) first ∙ append_assoc (hex old) (take t bytes) (take n (drop t bytes))
    ∙ ap (λ (x : List ℕ). hex old ++ x) (take_parts t n bytes)
