-- The text of an answer.
use Rattle.std.proofs.Common.{◌≡◌, ◌<◌, ℕ, List, [], ◌∷◌, ◌++◌, refl, sym, ap, ◌∙◌, append_assoc, arith, length, codes}
use Rattle.transcript.specs.Transcript.{line_text}
use Rattle.transcript.specs.declared.line.Line.TheVariants as lines
use Rattle.transcript.specs.Packed.{packed_text}

-- the line of a file that is packed
got_text : (file : List ℕ) → 0 < length file → line_text (lines.Got file) ≡ codes "got " ++ packed_text file
unfolding line_text
got_text [] some = absurd (omega arith)
got_text (b ∷ bs) some = refl

pub got_behind : (was plain packed spelled now file : List ℕ) → plain ++ packed_text packed ≡ was → spelled ≡ plain ++ packed_text packed
    → now ≡ spelled ++ codes "got " → 0 < length file → now ++ packed_text file ≡ was ++ line_text (lines.Got file)
got_behind was plain packed spelled now file view spells said some =
    ap (λ (l : List ℕ). l ++ packed_text file) (said ∙ ap (λ (l : List ℕ). l ++ codes "got ") (spells ∙ view))
    ∙ append_assoc was (codes "got ") (packed_text file) ∙ ap (λ (l : List ℕ). was ++ l) (sym (got_text file some))

pub both_are : (text plain packed one two : List ℕ) → plain ++ packed_text packed ≡ text → one ≡ plain → two ≡ packed → one ++ packed_text two ≡ text
both_are text plain packed one two view first last =
    ap (λ (l : List ℕ). l ++ packed_text two) first ∙ ap (λ (l : List ℕ). plain ++ packed_text l) last ∙ view
