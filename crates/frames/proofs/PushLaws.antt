-- What a push of a piece comes to.
use Rattle.std.proofs.Common.{◌≡◌, ℕ, ◌+◌, ◌-◌, ◌<◌, ◌≤◌, ◌⊎◌, inl, inr, List, ◌++◌, length, take, drop, min, refl, sym, ◌∙◌, ap, arith, append_assoc, subst}
use Rattle.std.proofs.Math.Nat.{eq-or-lt_of_le}
use Rattle.std.proofs.Math.Seq.{take-add}
use Rattle.std.proofs.lemmas.Bool.{cases_lt}
use Rattle.std.proofs.lemmas.List.{length-append, length-drop, length-take-le, take-append-drop}
use Rattle.frames.specs.Frames.{IsLength, IsFrame, length_in}
use Rattle.cd_base.specs.Reading.{AreBytes}
use Rattle.frames.specs.Standing.{IsStanding}
use Rattle.frames.specs.Steps.{TakesPiece, RefusesLength}
use Rattle.frames.proofs.FrameLaws.{measured, framed, length_in-append}

-- the bytes with a part of the piece, and then the rest of it
whole_piece : (old piece : List ℕ) (n : ℕ) → (old ++ take n piece) ++ drop n piece ≡ old ++ piece
whole_piece old piece n = append_assoc old (take n piece) (drop n piece) ∙ ap (λ (l : List ℕ). old ++ l) (take-append-drop n piece)

-- how many bytes stand with a part of the piece
count_with : (old piece : List ℕ) (n : ℕ) → n ≤ length piece → length (old ++ take n piece) ≡ length old + n
count_with old piece n within = length-append old (take n piece) ∙ ap (λ (m : ℕ). length old + m) (length-take-le n piece within)

-- the length in front is the same for each part of the piece with which it is known
same_start : (old piece : List ℕ) (n : ℕ) → 4 ≤ length (old ++ take n piece) → length_in (old ++ take n piece) ≡ length_in (old ++ piece)
same_start old piece n long = sym (length_in-append (old ++ take n piece) (drop n piece) long) ∙ ap length_in (whole_piece old piece n)

same_old : (old piece : List ℕ) → 4 ≤ length old → length_in old ≡ length_in (old ++ piece)
same_old old piece long = sym (length_in-append old piece long)

-- Fewer than four bytes stand, and the whole piece is taken.
pub unfinished : (old piece : List ℕ) (count : ℕ) (new : List ℕ) → count ≡ min (4 - length old) (length piece) → new ≡ old ++ take count piece → length new < 4 → TakesPiece old piece count new
unfinished old piece count new is e short =
    let within : count ≤ length piece = omega arith in
    let long : length new ≡ length old + count = ap length e ∙ count_with old piece count within in
    let all : count ≡ length piece = omega arith in
    record {
      within = within;
      taken = e;
      first = λ m below frame. let k = (measured (old ++ take m piece) frame).long in let n = count_with old piece m (omega arith) in omega arith;
      to_the_end = inl all;
      lawful = λ r. let k = r.known in let n = length-append old piece in omega arith;
    }

-- A length that no frame has was completed.
pub refuses : (old piece : List ℕ) (count : ℕ) (new : List ℕ) → count ≡ min (4 - length old) (length piece) → new ≡ old ++ take count piece → 4 ≤ length new → (IsLength (length_in new) → ⊥) → RefusesLength old piece (length_in new) new
refuses old piece count new is e long wrong =
    let within : count ≤ length piece = omega arith in
    let counted : length new ≡ length old + count = ap length e ∙ count_with old piece count within in
    let exact : count ≡ 4 - length old = omega arith in
    let start : length_in new ≡ length_in (old ++ piece) = ap length_in e ∙ same_start old piece count (subst (λ (l : List ℕ). 4 ≤ length l) e long) in
    let all = length-append old piece in
    record {
      refused = record { known = omega arith; wrong = λ lawful. wrong (rw start lawful) };
      taken = e ∙ ap (λ (n : ℕ). old ++ take n piece) exact;
      stands = record { known = long; wrong = wrong };
      number = refl;
    }

-- No bytes of it are behind it: the framer holds the four bytes alone.
pub refused_standing : (old piece : List ℕ) (count : ℕ) (new : List ℕ) → IsStanding old → count ≡ min (4 - length old) (length piece) → new ≡ old ++ take count piece → (IsLength (length_in new) → ⊥) → IsStanding new
refused_standing old piece count new stood is e wrong long =
    let within : count ≤ length piece = omega arith in
    let counted : length new ≡ length old + count = ap length e ∙ count_with old piece count within in
    let more : 4 < length old = omega arith in
    let start : length_in old ≡ length_in new =
    same_old old piece (omega arith) ∙ sym (same_start old piece count (omega (arith, ap length e))) ∙ ap length_in (sym e) in
    absurd (wrong (rw (← start) (stood more).0))

-- fewer than four bytes are no more than their length says
pub short_standing : (new : List ℕ) → length new < 4 → IsStanding new
short_standing new short long = absurd (omega arith)

-- What a push takes of a content: up to its end, or all of the piece.
pub record Finishes (old piece : List ℕ) (count : ℕ) (new : List ℕ) : Type 0 where
  pub takes : TakesPiece old piece count new
  pub stands : IsStanding new

-- no frame stands with fewer bytes of the piece than its length says
no_sooner : (old piece : List ℕ) (m len : ℕ) → m ≤ length piece → length_in (old ++ piece) ≡ len → length old + m < 4 + len → IsFrame (old ++ take m piece) → ⊥
no_sooner old piece m len within at below frame =
    let k = measured (old ++ take m piece) frame in
    let long = k.long in
    let n = count_with old piece m within in
    let start : length_in (old ++ take m piece) ≡ length_in (old ++ piece) = same_start old piece m (omega arith) in
    omega arith

-- the bytes behind which the content is taken are no more than its frame has
not_past : (old piece mid : List ℕ) (head : ℕ) → IsStanding old → head ≡ min (4 - length old) (length piece) → length mid ≡ length old + head → length_in mid ≡ length_in (old ++ piece) → length mid ≤ 4 + length_in mid
not_past old piece mid head stood is_head mid_len mid_at =
    elim (cases_lt 4 (length old)) [ inl more ↦ let s = (stood more).1 in let e = same_old old piece (omega arith) in omega arith | inr few ↦ omega arith ]

-- where the piece is not taken whole, the frame is
ends : (new : List ℕ) (taken whole : ℕ) → AreBytes new → IsLength (length_in new) → (taken < whole → length new ≡ 4 + length_in new) → taken ≤ whole → (taken ≡ whole) ⊎ IsFrame new
ends new taken whole fit lawful full within =
    elim (eq-or-lt_of_le within) [ inl all ↦ inl all | inr part ↦ inr (drop 4 new, framed new fit (record { lawful = lawful; long = full part })) ]

pub finishes : (old piece : List ℕ) (head : ℕ) (mid : List ℕ) (body : ℕ) (new : List ℕ)
    → IsStanding old → head ≡ min (4 - length old) (length piece) → mid ≡ old ++ take head piece → 4 ≤ length mid → IsLength (length_in mid)
    → body ≡ min (4 + length_in mid - length mid) (length (drop head piece)) → new ≡ mid ++ take body (drop head piece) → AreBytes new
    → Finishes old piece (head + body) new
finishes old piece head mid body new stood is_head mid_is long lawful is_body new_is fit =
    let count = head + body in
    let left : length (drop head piece) ≡ length piece - head = length-drop head piece in
    let head_within : head ≤ length piece = omega arith in
    let within : count ≤ length piece = omega arith in
    let taken : new ≡ old ++ take count piece =
    new_is ∙ ap (λ (l : List ℕ). l ++ take body (drop head piece)) mid_is ∙ append_assoc old (take head piece) (take body (drop head piece)) ∙ ap (λ (l : List ℕ). old ++ l) (sym (take-add head body piece)) in
    let mid_len : length mid ≡ length old + head = ap length mid_is ∙ count_with old piece head head_within in
    let new_len : length new ≡ length old + count = ap length taken ∙ count_with old piece count within in
    let mid_at : length_in mid ≡ length_in (old ++ piece) = ap length_in mid_is ∙ same_start old piece head (subst (λ (l : List ℕ). 4 ≤ length l) mid_is long) in
    let new_long : 4 ≤ length new = omega arith in
    let new_at : length_in new ≡ length_in mid = ap length_in taken ∙ same_start old piece count (subst (λ (l : List ℕ). 4 ≤ length l) taken new_long) ∙ sym mid_at in
    let room : length mid ≤ 4 + length_in mid = not_past old piece mid head stood is_head mid_len mid_at in
    record {
      takes = record {
        within = within;
        taken = taken;
        first = λ m below frame. no_sooner old piece m (length_in mid) (omega arith) (sym mid_at) (omega arith) frame;
        to_the_end = ends new count (length piece) fit (rw new_at lawful) (λ part. rw new_at (omega arith)) within;
        lawful = λ r. r.wrong (rw (← mid_at) lawful);
      };
      stands = λ more. (rw new_at lawful, rw new_at (omega arith));
    }
