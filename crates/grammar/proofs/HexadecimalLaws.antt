-- Bytes that are read are the bytes that were written, and what was written is read again.
use Rattle.std.proofs.Common.{◌≡◌, ◌⊎◌, ℕ, ◌+◌, ◌-◌, ◌*◌, ◌/◌, ◌%◌, ◌<◌, ◌≤◌, Bool, true, false, ◌&&◌, cond, leb, ltb, List, [], ◌∷◌, ◌++◌, length, take, Option, Some, None, zero, suc, refl, sym, ap, subst, ◌∙◌, append_assoc, arith, inl, inr}
use Rattle.std.specs.List.{AllByRecursion}
use Rattle.std.proofs.lemmas.Bool.Decides.{nat_tests}
use Rattle.std.proofs.lemmas.Bool.{and_parts, leb-true, lt-ltb, le-ltb}
use Rattle.std.proofs.lemmas.Option.{cond_some, same_Some}
use Rattle.std.proofs.lemmas.List.{take-append-le, length-take, append-nil}
use Rattle.grammar.specs.Words.{is_blank, onto}
use Rattle.grammar.specs.Hexadecimal.{hex_digit, hex, unhex_digit, pair_value, unhex}
use Rattle.grammar.proofs.WordLaws.{Plain, onto_some, prepend, prepend_none, prepend_prepend}

abbrev pub AreBytes : List ℕ → Type 0
AreBytes bs = AllByRecursion (λ b. b < 256) bs

-- an if that gave a value
pub chosen : {A : Type 0} (b : Bool) (x y z : A) → cond b x y ≡ z → ((b ≡ true) × (x ≡ z)) ⊎ ((b ≡ false) × (y ≡ z))
chosen true x y z e = inl (refl, e)
chosen false x y z e = inr (refl, e)

-- ---- bytes

pub digit_takes : (c d : ℕ) → unhex_digit c ≡ Some d → (c ≡ hex_digit d) × (d < 16)
digit_takes c d e =
    elim (chosen (leb 48 c && leb c 57) (Some (c - 48)) (cond (leb 97 c && leb c 102) (Some (c - 87)) None) (Some d) e) [
      | inl h ↦
          let p = and_parts (leb 48 c) _ h.0 in let a = leb-true _ _ p.0 in let b = leb-true _ _ p.1 in
          let s : c - 48 ≡ d = same_Some _ _ h.1 in
          let t : ltb d 10 ≡ true = lt-ltb _ _ (omega arith) in
          (rw t (omega arith), omega arith)
      | inr h ↦
          let k = cond_some _ _ _ h.1 in
          let p = and_parts (leb 97 c) _ k.0 in let a = leb-true _ _ p.0 in let b = leb-true _ _ p.1 in
          let s : c - 87 ≡ d = k.1 in
          let t : ltb d 10 ≡ false = le-ltb _ _ (omega arith) in
          (rw t (omega arith), omega arith)
    ]

digit_again : (d : ℕ) → d < 16 → unhex_digit (hex_digit d) ≡ Some d
digit_again d lt = grind (arith, nat_tests)

digit_plain : (d : ℕ) → is_blank (hex_digit d) ≡ false
digit_plain d = grind (arith, nat_tests)

pair_some : (o p : Option ℕ) (b : ℕ) → pair_value o p ≡ Some b → (h : ℕ) × (l : ℕ) × (o ≡ Some h) × (p ≡ Some l) × (b ≡ 16 * h + l)
pair_some None p b e = absurd cc
pair_some (Some h) None b e = absurd cc
pair_some (Some h) (Some l) b e = (h, l, refl, refl, sym (same_Some (16 * h + l) b e))

pair_takes : (high low b : ℕ) → pair_value (unhex_digit high) (unhex_digit low) ≡ Some b → (high ≡ hex_digit (b / 16)) × (low ≡ hex_digit (b % 16)) × (b < 256)
pair_takes high low b e =
    let p = pair_some (unhex_digit high) (unhex_digit low) b e in
    let h = digit_takes high p.0 p.2 in
    let l = digit_takes low p.1 p.3 in
    let q : p.0 ≡ b / 16 = omega (arith, p.4, h.1, l.1) in
    let r : p.1 ≡ b % 16 = omega (arith, p.4, h.1, l.1) in
    (h.0 ∙ ap hex_digit q, l.0 ∙ ap hex_digit r, omega (arith, p.4, h.1, l.1))

pair_again : (b : ℕ) → b < 256 → pair_value (unhex_digit (hex_digit (b / 16))) (unhex_digit (hex_digit (b % 16))) ≡ Some b
pair_again b lt =
    let q : b / 16 < 16 = omega arith in
    let r : b % 16 < 16 = omega arith in
    let s : 16 * (b / 16) + b % 16 ≡ b = omega arith in
    rw (digit_again (b / 16) q, digit_again (b % 16) r) (ap Some s)

pub unhex_takes : (text bs : List ℕ) → unhex text ≡ Some bs → (text ≡ hex bs) × AreBytes bs
unfolding unhex hex
unhex_takes [] bs e = subst (λ (bs : List ℕ). ([] ≡ hex bs) × AreBytes bs) (same_Some [] bs e) (refl, tt)
unhex_takes (high ∷ []) bs e = absurd cc
unhex_takes (high ∷ low ∷ text) bs e =
    let o = onto_some (pair_value (unhex_digit high) (unhex_digit low)) (unhex text) bs e in
    let t = unhex_takes text o.1 o.3 in
    let p = pair_takes high low o.0 o.2 in
    subst (λ (bs : List ℕ). (high ∷ low ∷ text ≡ hex bs) × AreBytes bs) (sym o.4) (cc (t.0, p.0, p.1), (p.2, t.1))

pub unhex_again : (bs : List ℕ) → AreBytes bs → unhex (hex bs) ≡ Some bs
unfolding unhex hex
unhex_again [] h = refl
unhex_again (b ∷ bs) h = rw (pair_again b h.0, unhex_again bs h.1) refl

pub hex_plain : (bs : List ℕ) → Plain (hex bs)
unfolding hex
hex_plain [] = tt
hex_plain (b ∷ bs) = (digit_plain (b / 16), (digit_plain (b % 16), hex_plain bs))

pub length-hex : (bs : List ℕ) → length (hex bs) ≡ 2 * length bs
unfolding hex
length-hex [] = refl
length-hex (b ∷ bs) = let h = length-hex bs in omega arith

pub hex_append : (xs ys : List ℕ) → hex (xs ++ ys) ≡ hex xs ++ hex ys
unfolding hex
hex_append [] ys = refl
hex_append (x ∷ xs) ys = ap (λ (t : List ℕ). hex_digit (x / 16) ∷ hex_digit (x % 16) ∷ t) (hex_append xs ys)

-- ---- texts in pieces of whole bytes

onto_prepend : (o : Option ℕ) (p r : Option (List ℕ)) (xs : List ℕ) → p ≡ Some xs → (ys : List ℕ) → onto o p ≡ Some ys → onto o (prepend xs r) ≡ prepend ys r
onto_prepend None p r xs e ys h = absurd cc
onto_prepend (Some x) p None xs e ys h = refl
onto_prepend (Some x) p (Some zs) xs e ys h = let k : Some (x ∷ xs) ≡ Some ys = rw e at h in let same : x ∷ xs ≡ ys = same_Some (x ∷ xs) ys k in cc

onto_none : (o : Option ℕ) → onto o None ≡ None
onto_none None = refl
onto_none (Some x) = refl

-- the front spells bytes: these stand before those of the rest
pub unhex_front : (text rest xs : List ℕ) → unhex text ≡ Some xs → unhex (text ++ rest) ≡ prepend xs (unhex rest)
unfolding unhex
unhex_front [] rest xs e = let none : [] ≡ xs = same_Some [] xs e in sym (prepend_none (unhex rest)) ∙ ap (λ (ys : List ℕ). prepend ys (unhex rest)) none
unhex_front (high ∷ []) rest xs e = absurd cc
unhex_front (high ∷ low ∷ text) rest xs e =
    let o = onto_some (pair_value (unhex_digit high) (unhex_digit low)) (unhex text) xs e in
    let h = unhex_front text rest o.1 o.3 in
    ap (onto (pair_value (unhex_digit high) (unhex_digit low))) h ∙ onto_prepend (pair_value (unhex_digit high) (unhex_digit low)) (unhex text) (unhex rest) o.1 o.3 xs e

onto_wrong : (o : Option ℕ) (p r : Option (List ℕ)) → onto o p ≡ None → (p ≡ None → r ≡ None) → onto o r ≡ None
onto_wrong None p r e h = refl
onto_wrong (Some x) None r e h = ap (onto (Some x)) (h refl)
onto_wrong (Some x) (Some xs) r e h = absurd cc

-- the front spells none: nor does the whole
pub unhex_wrong : (n : ℕ) (text rest : List ℕ) → length text ≡ 2 * n → unhex text ≡ None → unhex (text ++ rest) ≡ None
unfolding unhex
unhex_wrong zero [] rest len e = absurd cc
unhex_wrong zero (b ∷ bs) rest len e = absurd (omega arith)
unhex_wrong (suc n) [] rest len e = absurd (omega arith)
unhex_wrong (suc n) (b ∷ []) rest len e = absurd (omega arith)
unhex_wrong (suc n) (high ∷ low ∷ text) rest len e =
    onto_wrong (pair_value (unhex_digit high) (unhex_digit low)) (unhex text) (unhex (text ++ rest)) e (λ z. unhex_wrong n text rest (omega arith) z)

-- ---- blocks

-- a block of a text, and what follows it
pub block_read : (bytes front more rest block : List ℕ) (total : Option (List ℕ)) → rest ≡ front ++ more → unhex front ≡ Some block → prepend bytes (unhex rest) ≡ total → prepend (bytes ++ block) (unhex more) ≡ total
block_read bytes front more rest block total parts e h =
    prepend_prepend bytes block (unhex more) ∙ (ap (prepend bytes) (sym (ap unhex parts ∙ unhex_front front more block e)) ∙ h)

pub block_wrong : (bytes front more rest : List ℕ) (n : ℕ) (total : Option (List ℕ)) → rest ≡ front ++ more → length front ≡ 2 * n → unhex front ≡ None → prepend bytes (unhex rest) ≡ total → None ≡ total
block_wrong bytes front more rest n total parts len e h =
    ap (prepend bytes) (sym (ap unhex parts ∙ unhex_wrong n front more len e)) ∙ h

pub unhex_done : (out rest : List ℕ) (total : Option (List ℕ)) → length rest ≡ 0 → prepend out (unhex rest) ≡ total → Some out ≡ total
unfolding unhex
unhex_done out [] total e h = ap Some (sym (append-nil out)) ∙ h
unhex_done out (b ∷ bs) total e h = absurd (omega arith)

pub unhex_odd : (out rest : List ℕ) (total : Option (List ℕ)) → 0 < length rest → length rest < 2 → prepend out (unhex rest) ≡ total → None ≡ total
unfolding unhex
unhex_odd out [] total some lt h = absurd (omega arith)
unhex_odd out (b ∷ []) total some lt h = h
unhex_odd out (b ∷ c ∷ bs) total some lt h = absurd (omega arith)

-- a block of bytes, and what follows it
pub block_written : (old out bytes rest front more new : List ℕ) → out ++ hex rest ≡ old ++ hex bytes → rest ≡ front ++ more → new ≡ out ++ hex front → new ++ hex more ≡ old ++ hex bytes
block_written old out bytes rest front more new h parts e =
    ap (λ (t : List ℕ). t ++ hex more) e ∙ append_assoc out (hex front) (hex more) ∙ ap (λ (t : List ℕ). out ++ t) (sym (ap hex parts ∙ hex_append front more)) ∙ h

pub all_written : (out rest : List ℕ) → length rest ≡ 0 → out ≡ out ++ hex rest
unfolding hex
all_written out [] e = sym (append-nil out)
all_written out (b ∷ bs) e = absurd (omega arith)

-- a list that begins so still does with more behind it
pub begins_more : (old now more : List ℕ) → take (length old) now ≡ old → take (length old) (now ++ more) ≡ old
begins_more old now more e =
    let len : length old ≤ length now = omega (arith, ap length e, length-take (length old) now) in
    take-append-le (length old) now more len ∙ e

pub unhex_length : (text bs : List ℕ) → unhex text ≡ Some bs → length text ≡ 2 * length bs
unhex_length text bs e = ap length (unhex_takes text bs e).0 ∙ length-hex bs
