-- A line's text ends with its only newline, and says the line.
use Rattle.std.proofs.Common.{◌≡◌, ◌≢◌, ℕ, cond, eqb, List, [], ◌∷◌, ◌++◌, length, take, drop, get_or, Result, Ok, refl, sym, ap, ◌∙◌, subst, append_assoc, arith}
use Rattle.std.specs.Prelude.{All}
use Rattle.std.specs.List.{AllByRecursion}
use Rattle.std.proofs.lemmas.List.{take_at, drop_at}
use Rattle.std.proofs.lemmas.List.Elements.{All-from_recursion}
use Rattle.session.specs.Transcript.Reading.{line_len}
use Rattle.transcript.proofs.LineLaws.{Flat, line_ends}
use Rattle.certificate.specs.declared.line.CertificateLine.{CertificateLine}
use Rattle.certificate.specs.declared.line.CertificateLine.TheVariants as lines
use Rattle.certificate.specs.declared.kinds.LineStage.{LineStage}
use Rattle.certificate.specs.declared.kinds.LineStage.TheVariants.{First, Shares}
use Rattle.certificate.specs.Lines.{certificate_body, certificate_line, FitsLine}
use Rattle.certificate.specs.Reading.{kind_of, line_left}
use Rattle.certificate.proofs.Words.{May}
use Rattle.certificate.proofs.FieldLaws.{line_again}
use Rattle.certificate.proofs.Texts.{flat_body, body_text}

-- ---- its only newline

flat_lacks : (text : List ℕ) → Flat text → AllByRecursion (λ b. b ≢ 10) text
flat_lacks [] flat = tt
flat_lacks (b ∷ bs) flat = let above = flat.0 in (λ h. omega (arith, above, h), flat_lacks bs flat.1)

pub ended : (x : CertificateLine) → FitsLine x → (body : List ℕ) × (certificate_line x ≡ body ++ 10 ∷ []) × All (λ b. b ≢ 10) body
ended x fits = (certificate_body x, body_text x, All-from_recursion (λ (b : ℕ). b ≢ 10) (certificate_body x) (flat_lacks (certificate_body x) (flat_body x fits)))

-- ---- one body, one line

-- where a line that begins so may stand
abbrev stage_in : List ℕ → LineStage
stage_in text = cond (eqb (get_or text 0 0) 97) First Shares

may_in : (x : CertificateLine) → May (stage_in (certificate_body x)) (kind_of x)
unfolding certificate_body
may_in (lines.Heading h) = refl
may_in (lines.Share s) = refl
may_in (lines.File f) = refl
may_in (lines.End count) = refl

abbrev says : CertificateLine → Result CertificateLine ℕ
says x = Ok x

said_is : (a b : CertificateLine) → says a ≡ says b → a ≡ b
said_is a b e = cc

one_body : (a b : CertificateLine) → FitsLine a → FitsLine b → certificate_body a ≡ certificate_body b → a ≡ b
one_body a b f g e =
    let may : May (stage_in (certificate_body a)) (kind_of b) = subst (λ (t : List ℕ). May (stage_in t) (kind_of b)) (sym e) (may_in b) in
    said_is a b
    (sym (line_again (stage_in (certificate_body a)) a (may_in a) f) ∙ ap (line_left (stage_in (certificate_body a))) e ∙ line_again (stage_in (certificate_body a)) b may g)

-- ---- a line in front of others

in_front : (x : CertificateLine) (rest : List ℕ) → certificate_line x ++ rest ≡ certificate_body x ++ 10 ∷ rest
in_front x rest = ap (λ (t : List ℕ). t ++ rest) (body_text x) ∙ append_assoc (certificate_body x) (10 ∷ []) rest

pub apart : (a b : CertificateLine) (more rest : List ℕ) → FitsLine a → FitsLine b → certificate_line a ++ more ≡ certificate_line b ++ rest
    → (a ≡ b) × (more ≡ rest)
apart a b more rest f g e =
    let long : length (certificate_body b) ≡ length (certificate_body a)
    = sym (line_ends (certificate_body b) rest (flat_body b g)) ∙ ap line_len (sym (in_front b rest) ∙ sym e ∙ in_front a more) ∙ line_ends (certificate_body a) more (flat_body a f) in
    let both : certificate_body a ++ 10 ∷ more ≡ certificate_body b ++ 10 ∷ rest = sym (in_front a more) ∙ e ∙ in_front b rest in
    let here : certificate_body a ≡ certificate_body b
    = sym (take_at (certificate_body a) (10 ∷ more) (length (certificate_body a)) refl)
    ∙ ap (take (length (certificate_body a))) both
    ∙ take_at (certificate_body b) (10 ∷ rest) (length (certificate_body a)) long in
    let behind : 10 ∷ more ≡ 10 ∷ rest
    = sym (drop_at (certificate_body a) (10 ∷ more) (length (certificate_body a)) refl)
    ∙ ap (drop (length (certificate_body a))) both
    ∙ drop_at (certificate_body b) (10 ∷ rest) (length (certificate_body a)) long in
    (one_body a b f g here, ap (drop 1) behind)

pub one_line : (a b : CertificateLine) → FitsLine a → FitsLine b → certificate_line a ≡ certificate_line b → a ≡ b
one_line a b f g e = (apart a b [] [] f g (ap (λ (t : List ℕ). t ++ []) e)).0
