-- Places in a text, and a source that has too many bytes.
use Rattle.std.proofs.Common.{◌≡◌, ℕ, zero, suc, ◌+◌, ◌-◌, ◌<◌, ◌≤◌, ◌==◌, List, [], ◌∷◌, ◌++◌, length, take, drop, Option, Some, None, if◌then◌else◌, refl, sym, ap, ◌∙◌, arith}
use Rattle.std.specs.Prelude.{slice_get}
use Rattle.std.specs.Io.KnownBytes.{Consumes}
use Rattle.std.proofs.lemmas.Option.{same_Some}
use Rattle.command_cloud.specs.BackupCommand.Reading.{input_of}
use Rattle.command_cloud.specs.Transcript.Reading.{line_len}
use Rattle.audit_command.specs.Source.{IsCertificateTooLong, behind_lines, certificate_limit, mark_behind}

-- the mark behind two texts, one after the other
pub mark_append : (mark : ℕ × ℕ) (xs ys : List ℕ) → mark_behind mark (xs ++ ys) ≡ mark_behind (mark_behind mark xs) ys
mark_append mark [] ys = refl
mark_append mark (x ∷ xs) ys = mark_append (if x == 10 then (mark.0 + 1, 0) else (mark.0, mark.1 + 1)) xs ys

pub one_behind : (n : ℕ) (text : List ℕ) → 0 < n → behind_lines n text ≡ behind_lines (n - 1) (drop (line_len text + 1) text)
one_behind zero text some = absurd (omega (arith, some))
one_behind (suc n) text some =
    let on : suc n - 1 ≡ n = omega arith in ap (λ (k : ℕ). behind_lines k (drop (line_len text + 1) text)) (sym on)

take_past : (text ys : List ℕ) (more : ℕ) → take (length text + more) (text ++ ys) ≡ text ++ take more ys
take_past [] ys more = let on : 0 + more ≡ more = omega arith in ap (λ (n : ℕ). take n ys) on
take_past (x ∷ text) ys more =
    let on : length (x ∷ text) + more ≡ suc (length text + more) = omega arith in
    ap (λ (n : ℕ). take n (x ∷ text ++ ys)) on ∙ ap (λ (l : List ℕ). x ∷ l) (take_past text ys more)

take_front : (n count : ℕ) (xs rest : List ℕ) → n < count → count ≤ length xs → take n (take count xs ++ rest) ≡ take n xs
take_front zero count xs rest lt le = refl
take_front (suc n) zero xs rest lt le = absurd (omega (arith, lt))
take_front (suc n) (suc count) [] rest lt le = absurd (omega (arith, le))
take_front (suc n) (suc count) (x ∷ xs) rest lt le =
    ap (λ (l : List ℕ). x ∷ l) (take_front n count xs rest (omega (arith, lt)) (omega (arith, le)))

-- up to a limit a source has a text and a part of the piece that passes it
pub front_is : (left text piece rest : List ℕ) (limit count : ℕ) → left ≡ text ++ (take count piece ++ rest) → length text ≤ limit
    → limit - length text < count → count ≤ length piece → take limit left ≡ text ++ take (limit - length text) piece
front_is left text piece rest limit count is few over within =
    let on : limit ≡ length text + (limit - length text) = omega (arith, few) in
    ap (λ (l : List ℕ). take limit l) is
    ∙ ap (λ (n : ℕ). take n (text ++ (take count piece ++ rest))) on
    ∙ take_past text (take count piece ++ rest) (limit - length text)
    ∙ ap (λ (l : List ℕ). text ++ l) (take_front (limit - length text) count piece rest over within)

get_past : (text ys : List ℕ) (more : ℕ) → slice_get (text ++ ys) (length text + more) ≡ slice_get ys more
get_past [] ys more = let on : 0 + more ≡ more = omega arith in ap (λ (n : ℕ). slice_get ys n) on
get_past (x ∷ text) ys more =
    let on : length (x ∷ text) + more ≡ suc (length text + more) = omega arith in
    ap (λ (n : ℕ). slice_get (x ∷ text ++ ys) n) on ∙ get_past text ys more

get_front : (n count : ℕ) (xs rest : List ℕ) → n < count → count ≤ length xs → slice_get (take count xs ++ rest) n ≡ slice_get xs n
get_front n zero xs rest lt le = absurd (omega (arith, lt))
get_front n (suc count) [] rest lt le = absurd (omega (arith, le))
get_front zero (suc count) (x ∷ xs) rest lt le = refl
get_front (suc n) (suc count) (x ∷ xs) rest lt le = get_front n count xs rest (omega (arith, lt)) (omega (arith, le))

-- and there it has a byte of that piece
get_is : (left text piece rest : List ℕ) (limit count : ℕ) → left ≡ text ++ (take count piece ++ rest) → length text ≤ limit
    → limit - length text < count → count ≤ length piece → slice_get left limit ≡ slice_get piece (limit - length text)
get_is left text piece rest limit count is few over within =
    let on : limit ≡ length text + (limit - length text) = omega (arith, few) in
    ap (λ (l : List ℕ). slice_get l limit) is
    ∙ ap (λ (n : ℕ). slice_get (text ++ (take count piece ++ rest)) n) on
    ∙ get_past text (take count piece ++ rest) (limit - length text)
    ∙ get_front (limit - length text) count piece rest over within

-- a source that was read up to the limit, and has more
pub too_many : (before middle after : Option (List ℕ)) (text piece : List ℕ) (count : ℕ) (mark : ℕ × ℕ) (byte faults now : ℕ)
    → Consumes before middle text → Consumes middle after (take count piece) → length text ≤ certificate_limit
    → certificate_limit - length text < count → count ≤ length piece
    → mark ≡ mark_behind (1, 0) (text ++ take (certificate_limit - length text) piece)
    → slice_get piece (certificate_limit - length text) ≡ Some byte → now ≡ faults
    → IsCertificateTooLong (input_of before faults now) mark.0 mark.1 byte
too_many None middle after text piece count mark byte faults now one two few over within marked found still = record {
  byte_is = λ left is. absurd (let e : None ≡ Some left = is in cc);
  mark_is = λ left is. absurd (let e : None ≡ Some left = is in cc);
  still = still;
}
too_many (Some xs) None after text piece count mark byte faults now one two few over within marked found still = absurd one
too_many (Some xs) (Some ys) None text piece count mark byte faults now one two few over within marked found still = absurd two
too_many (Some xs) (Some ys) (Some zs) text piece count mark byte faults now one two few over within marked found still = record {
  byte_is = λ left is. get_is left text piece zs certificate_limit count (is_text left is) few over within ∙ found;
  mark_is = λ left is.
      ap (λ (l : List ℕ). mark_behind (1, 0) l) (front_is left text piece zs certificate_limit count (is_text left is) few over within)
      ∙ sym marked;
  still = still;
}
  where
    is_text : (left : List ℕ) → Some xs ≡ Some left → left ≡ text ++ (take count piece ++ zs)
    is_text left is = sym (same_Some xs left is) ∙ one ∙ ap (λ (l : List ℕ). text ++ l) two
