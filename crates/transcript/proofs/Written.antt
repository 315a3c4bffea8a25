-- Texts that are written one behind the other.
use Rattle.std.proofs.Common.{◌≡◌, ℕ, List, [], ◌∷◌, ◌++◌, Result, Ok, Err, refl, sym, ap, ◌∙◌, subst, append_assoc, arith, length, Bool, false, ◌==◌}
use Rattle.std.specs.Prelude.{Option}
use Rattle.std.proofs.KnownBytes.{Appends-nil, Appends-trans}
use Rattle.cd_edges.specs.Causes.{Rose}
use Rattle.cd_edges.specs.declared.stream.Failed.{Failed}
use Rattle.grammar.specs.Hexadecimal.{hex}
use Rattle.grammar.proofs.HexadecimalLaws.{hex_append}
use Rattle.transcript.specs.Packed.{packed_text}
use Rattle.transcript.specs.Writing.{HasWrittenText}

pub writes_none : (a : Option (List ℕ)) (n : ℕ) → HasWrittenText [] a a n n (Ok tt)
writes_none a n = record {
  all = Appends-nil a;
  front = tt;
  cause = record { later = omega arith; failed = tt; still = refl };
}

-- the second text behind the first one
pub writes_join : (one two : List ℕ) (a b c : Option (List ℕ)) (n m k : ℕ) (r : Result (Unit {0}) Failed)
    → HasWrittenText one a b n m (Ok tt) → HasWrittenText two b c m k r → HasWrittenText (one ++ two) a c n k r
writes_join one two a b c n m k (Ok u) first last =
    let same = first.cause.still in
    record {
      all = Appends-trans a b c one two first.all last.all;
      front = tt;
      cause = record {
        later = (let up = last.cause.later in omega (arith, same, up));
        failed = tt;
        still = last.cause.still ∙ same;
      };
    }
writes_join one two a b c n m k (Err e) first last =
    let same = first.cause.still in
    let f = last.front in
    record {
      all = tt;
      front = (one ++ f.0, f.1, append_assoc one f.0 f.1 ∙ ap (λ (l : List ℕ). one ++ l) f.2, Appends-trans a b c one f.0 first.all f.3);
      cause = record {
        later = (let up = last.cause.later in omega (arith, same, up));
        failed = subst (λ (count : ℕ). Rose count k) same last.cause.failed;
        still = tt;
      };
    }

-- the first text failed, so nothing of the second one was written
pub writes_cut : (one two : List ℕ) (a b : Option (List ℕ)) (n m : ℕ) (e : Failed)
    → HasWrittenText one a b n m (Err e) → HasWrittenText (one ++ two) a b n m (Err e)
writes_cut one two a b n m e first =
    let f = first.front in
    record {
      all = tt;
      front = (f.0, f.1 ++ two, sym (append_assoc f.0 f.1 two) ∙ ap (λ (l : List ℕ). l ++ two) f.2, f.3);
      cause = first.cause;
    }

-- what was written so far, whatever comes of the rest
pub record Follows (all rest : List ℕ) (before now : Option (List ℕ)) (was is : ℕ) : Type 0 where
  pub follows : (after : Option (List ℕ)) (count : ℕ) (r : Result (Unit {0}) Failed) → HasWrittenText rest now after is count r → HasWrittenText all before after was count r

module _ (all rest piece more : List ℕ) (start a b : Option (List ℕ)) (was n m : ℕ) (cut : rest ≡ piece ++ more) (so_far : Follows all (hex rest) start a was n) where
  digits_are : hex piece ++ hex more ≡ hex rest
  digits_are = sym (ap hex cut ∙ hex_append piece more)

  -- a piece more
  pub piece_on : HasWrittenText (hex piece) a b n m (Ok tt) → Follows all (hex more) start b was m
  piece_on first = record {
    follows = λ after count r last. so_far.follows after count r (subst (λ (l : List ℕ). HasWrittenText l a after n count r) digits_are
        (writes_join (hex piece) (hex more) a b after n m count r first last));
  }

  pub piece_cut : (e : Failed) → HasWrittenText (hex piece) a b n m (Err e) → HasWrittenText all start b was m (Err e)
  piece_cut e first = so_far.follows b m (Err e) (subst (λ (l : List ℕ). HasWrittenText l a b n m (Err e)) digits_are (writes_cut (hex piece) (hex more) a b n m e first))

-- no piece is left
pub all_written : (all rest : List ℕ) (start a : Option (List ℕ)) (was n : ℕ) → length rest ≡ 0 → Follows all (hex rest) start a was n → HasWrittenText all start a was n (Ok tt)
unfolding hex
all_written all [] start a was n none so_far = so_far.follows a n (Ok tt) (writes_none a n)
all_written all (x ∷ xs) start a was n none so_far = absurd cc

-- something is packed
pub packed_by : (file : List ℕ) (empty : Bool) → empty ≡ (length file == 0) → empty ≡ false → packed_text file ≡ hex file ++ 10 ∷ []
packed_by [] empty e f = absurd cc
packed_by (x ∷ xs) empty e f = refl
