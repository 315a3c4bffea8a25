-- A file, piece by piece.
use Rattle.std.proofs.Common.{◌≡◌, ℕ, zero, suc, ◌+◌, List, [], ◌∷◌, ◌++◌, refl, sym, ap, ◌∙◌, arith, append-nil, append_assoc}
use Rattle.std.specs.List.{flat_map, range_with_len}
use Rattle.std.specs.Prelude.{replicate, Result, Ok, Err, OnOk}
use Rattle.std.specs.Int.{w32, w64, to_be_bytes}
use Rattle.std.proofs.lemmas.List.Concat.{flat_map-append}
use Rattle.generated_session.specs.Drawn.{drawn, first_state, piece_of, generation_in, file_of}
use Rattle.generated_session.proofs.Ranges.{range_more}

pub on_ok : {E : Type 0} (result : Result (Unit {0}) E) (A B : Type 0) → (A → B) → OnOk result A → OnOk result B
on_ok (Ok u) A B f a = f a
on_ok (Err e) A B f a = tt

pub no_pieces : (seed version : ℕ) → [] ≡ file_of seed 0 version
unfolding file_of
no_pieces seed version = refl

pub piece_more : (seed pieces version generation : ℕ) (before now : List ℕ) → generation ≡ generation_in version pieces → before ≡ file_of seed pieces version
    → now ≡ before ++ piece_of seed pieces generation → now ≡ file_of seed (pieces + 1) version
unfolding file_of
piece_more seed pieces version generation before now is so wrote =
    let piece = λ (p : ℕ). piece_of seed p (generation_in version p) in
    let last : 0 + pieces ≡ pieces = omega arith in
    wrote ∙ ap (λ (g : ℕ). before ++ piece_of seed pieces g) is ∙ ap (λ (l : List ℕ). l ++ piece pieces) so
    ∙ sym (ap (flat_map piece) (range_more 0 pieces ∙ ap (λ (k : ℕ). range_with_len 0 pieces ++ k ∷ []) last)
    ∙ flat_map-append piece (range_with_len 0 pieces) (pieces ∷ []) ∙ ap (λ (l : List ℕ). flat_map piece (range_with_len 0 pieces) ++ l) (append-nil (piece pieces)))

-- the parts of a piece, one behind another
pub piece_made : (seed piece generation state : ℕ) (out first second third fourth fifth sixth random : List ℕ) → state ≡ first_state seed piece generation → random ≡ drawn state 1984
    → first ≡ out ++ to_be_bytes w64 seed → second ≡ first ++ to_be_bytes w32 piece → third ≡ second ++ to_be_bytes w32 generation → fourth ≡ third ++ random → fifth ≡ fourth ++ replicate 6190 0
    → sixth ≡ fifth ++ 31 ∷ 255 ∷ [] → sixth ≡ out ++ piece_of seed piece generation
unfolding piece_of
piece_made seed piece generation state out first second third fourth fifth sixth random began drew a b c d e f =
    let random_is : random ≡ drawn (first_state seed piece generation) 1984 = drew ∙ ap (λ (s : ℕ). drawn s 1984) began in
    joined out (to_be_bytes w64 seed) (to_be_bytes w32 piece) (to_be_bytes w32 generation) (drawn (first_state seed piece generation) 1984) (replicate 6190 0) (31 ∷ 255 ∷ []) first second third fourth fifth sixth
    a b c (d ∙ ap (λ (l : List ℕ). third ++ l) random_is) e f
  where
    joined : (out p q r s t u first second third fourth fifth sixth : List ℕ) → first ≡ out ++ p → second ≡ first ++ q → third ≡ second ++ r → fourth ≡ third ++ s → fifth ≡ fourth ++ t
        → sixth ≡ fifth ++ u → sixth ≡ out ++ (p ++ q ++ r ++ s ++ t ++ u)
    joined out p q r s t u first second third fourth fifth sixth a b c d e f =
        f ∙ ap (λ (l : List ℕ). l ++ u) (e ∙ ap (λ (l : List ℕ). l ++ t) (d ∙ ap (λ (l : List ℕ). l ++ s) (c ∙ ap (λ (l : List ℕ). l ++ r) (b ∙ ap (λ (l : List ℕ). l ++ q) a
        ∙ append_assoc out p q) ∙ append_assoc out (p ++ q) r) ∙ append_assoc out (p ++ q ++ r) s) ∙ append_assoc out (p ++ q ++ r ++ s) t) ∙ append_assoc out (p ++ q ++ r ++ s ++ t) u
