-- A line of a certificate that is read is spelled so, and what is spelled so is read.
use Rattle.std.proofs.Common.{◌≡◌, ℕ, ◌<◌, ◌^◌, List, ◌∷◌, ◌++◌, Ok, refl, sym, ap, subst, ◌∙◌, append_assoc, arith}
use Rattle.std.specs.Prelude.{codes, decimal}
use Rattle.std.proofs.lemmas.Fmt.{decimal_digit}
use Rattle.session.specs.CdBase.shape.Shape.{Shape}
use Rattle.session.specs.Grammar.Words.{word_at}
use Rattle.session.specs.Grammar.Hexadecimal.{hex}
use Rattle.session.proofs.Grammar.Laws.{Whole, bind_ok, lawful_then, lawful_given, lawful_whole}
use Rattle.session.proofs.Grammar.WordLaws.{Ends, Any, word_takes, word_again, lawful_field}
use Rattle.certificate.specs.declared.line.Heading.{Heading as Head}
use Rattle.certificate.specs.declared.line.CertificateLine.{CertificateLine}
use Rattle.certificate.specs.declared.line.CertificateLine.TheVariants as lines
use Rattle.session.specs.Transcript.Ranges.{IsPrint}
use Rattle.certificate.specs.Lines.{certificate_body, FitsLine}
use Rattle.certificate.specs.declared.kinds.LineKind.{LineKind}
use Rattle.certificate.specs.declared.kinds.LineKind.TheVariants.{Heading, Share, File, End}
use Rattle.certificate.specs.declared.kinds.LineStage.{LineStage}
use Rattle.certificate.specs.Reading.{kind_name, kind_of, kind_at, make_heading, make_share_line, make_file_line, make_end, heading_line_at, share_line_at, file_line_at, end_line_at, fields_behind, line_left}
use Rattle.session.proofs.Texts.{literal_reads}
use Rattle.session.proofs.Events.{u32_reads, u64_reads}
use Rattle.session.proofs.CloudTexts.{cloud_reads}
use Rattle.session.proofs.Headers.{shape_text}
use Rattle.certificate.proofs.Words.{print_reads, lawful_shape, one_plain, May, kind_reads}

-- ---- each kind's fields

abbrev heading_text : Unit {0} × (Shape × ℕ) → List ℕ
heading_text x = (32 ∷ codes "1") ++ (shape_text x.1.0 ++ (32 ∷ decimal x.1.1))

heading_laws : Whole Any heading_line_at make_heading heading_text (λ x. Unit {0} × (Unit {0} × (x.1.1 < x.1.0.n)))
unfolding heading_line_at
heading_laws =
    lawful_whole Any Ends tt
    (lawful_then Any Ends (lawful_field (literal_reads (codes "1") one_plain)) (lawful_given Any Ends lawful_shape (λ shape. lawful_field (cloud_reads shape)))) make_heading

abbrev share_text : List ℕ × (ℕ × ℕ) → List ℕ
share_text x = (32 ∷ hex x.0) ++ ((32 ∷ decimal x.1.0) ++ (32 ∷ decimal x.1.1))

share_laws : Whole Any share_line_at make_share_line share_text (λ x. IsPrint x.0 × ((x.1.0 < 2 ^ 64) × (x.1.1 < 2 ^ 32)))
unfolding share_line_at
share_laws =
    lawful_whole Any Ends tt (lawful_then Any Ends (lawful_field print_reads) (lawful_then Any Ends (lawful_field u64_reads) (lawful_field u32_reads))) make_share_line

abbrev file_text : ℕ × (List ℕ × (ℕ × (ℕ × (ℕ × List ℕ)))) → List ℕ
file_text x =
    (32 ∷ decimal x.0) ++ ((32 ∷ hex x.1.0) ++ ((32 ∷ decimal x.1.1.0) ++ ((32 ∷ decimal x.1.1.1.0) ++ ((32 ∷ decimal x.1.1.1.1.0) ++ (32 ∷ hex x.1.1.1.1.1)))))

file_laws : Whole Any file_line_at make_file_line file_text
    (λ x. (x.0 < 2 ^ 32) × (IsPrint x.1.0 × ((x.1.1.0 < 2 ^ 64) × ((x.1.1.1.0 < 2 ^ 64) × ((x.1.1.1.1.0 < 2 ^ 32) × IsPrint x.1.1.1.1.1)))))
unfolding file_line_at
file_laws =
    lawful_whole Any Ends tt
    (lawful_then Any Ends (lawful_field u32_reads) (lawful_then Any Ends (lawful_field print_reads) (lawful_then Any Ends (lawful_field u64_reads)
    (lawful_then Any Ends (lawful_field u64_reads) (lawful_then Any Ends (lawful_field u32_reads) (lawful_field print_reads)))))) make_file_line

end_laws : Whole Any end_line_at make_end (λ x. 32 ∷ decimal x) (λ x. x < 2 ^ 32)
unfolding end_line_at
end_laws = lawful_whole Any Ends tt (lawful_field u32_reads) make_end

-- the format's number
one : decimal 1 ≡ codes "1"
one = decimal_digit 1 (omega arith)

heading_is : (h : Head) → certificate_body (lines.Heading h) ≡ kind_name Heading ++ heading_text (tt, (h.shape, h.cloud.0))
unfolding certificate_body
heading_is h =
    ap (λ (w : List ℕ). kind_name Heading ++ 32 ∷ (w ++ 32 ∷ (decimal h.shape.n ++ 32 ∷ (decimal h.shape.k ++ 32 ∷ decimal h.cloud.0)))) one
    ∙ ap (λ (t : List ℕ). kind_name Heading ++ ((32 ∷ codes "1") ++ t)) (sym (append_assoc (32 ∷ decimal h.shape.n) (32 ∷ decimal h.shape.k) (32 ∷ decimal h.cloud.0)))

-- ---- what follows the first word

-- the fields of a line behind its name
record Spelled (kind : LineKind) (bytes : List ℕ) (x : CertificateLine) : Type 0 where
  kind_is : kind_of x ≡ kind
  text : kind_name kind ++ bytes ≡ certificate_body x
  fits : FitsLine x

fields_take : (kind : LineKind) (bytes : List ℕ) (x : CertificateLine) → fields_behind kind bytes ≡ Ok x → Spelled kind bytes x
unfolding certificate_body
fields_take Heading bytes x e =
    let t = heading_laws.takes bytes x tt e in
    subst (Spelled Heading bytes) t.3 (record {
      kind_is = refl;
      text = ap (λ (b : List ℕ). kind_name Heading ++ b) t.1 ∙ sym (heading_is (record { shape = t.0.1.0; cloud = record { 0 = t.0.1.1 } }));
      fits = t.2.1.1;
    })
fields_take Share bytes x e =
    let t = share_laws.takes bytes x tt e in
    subst (Spelled Share bytes) t.3 (record { kind_is = refl; text = ap (λ (b : List ℕ). kind_name Share ++ b) t.1; fits = record { fp = t.2.0; at = t.2.1.0; len = t.2.1.1 } })
fields_take File bytes x e =
    let t = file_laws.takes bytes x tt e in
    subst (Spelled File bytes) t.3 (record {
      kind_is = refl;
      text = ap (λ (b : List ℕ). kind_name File ++ b) t.1;
      fits = record { user = t.2.0; tag = t.2.1.0; version = t.2.1.1.0; at = t.2.1.1.1.0; len = t.2.1.1.1.1.0; fp = t.2.1.1.1.1.1 };
    })
fields_take End bytes x e =
    let t = end_laws.takes bytes x tt e in
    subst (Spelled End bytes) t.3 (record { kind_is = refl; text = ap (λ (b : List ℕ). kind_name End ++ b) t.1; fits = t.2 })

-- ---- a line

pub record IsLine (stage : LineStage) (line : List ℕ) (x : CertificateLine) : Type 0 where
  pub may : May stage (kind_of x)
  pub text : line ≡ certificate_body x
  pub fits : FitsLine x

pub line_takes : (stage : LineStage) (line : List ℕ) (x : CertificateLine) → line_left stage line ≡ Ok x → IsLine stage line x
unfolding line_left
line_takes stage line x e =
    let a = bind_ok (word_at (kind_at stage) line) (λ kind. fields_behind kind.0 kind.1) x e in
    let t = word_takes (kind_at stage) kind_name (May stage) (kind_reads stage) line a.0.0 a.0.1 a.1 in
    let s = fields_take a.0.0 a.0.1 x a.2 in
    record { may = subst (May stage) (sym s.kind_is) t.1; text = t.0 ∙ s.text; fits = s.fits }

again_by : (stage : LineStage) (kind : LineKind) (rest : List ℕ) (x : CertificateLine) → May stage kind → Ends rest → fields_behind kind rest ≡ Ok x → line_left stage (kind_name kind ++ rest) ≡ Ok x
unfolding line_left
again_by stage kind rest x may ends e = rw (word_again (kind_at stage) kind_name (May stage) (kind_reads stage) kind rest may ends) e

pub line_again : (stage : LineStage) (x : CertificateLine) → May stage (kind_of x) → FitsLine x → line_left stage (certificate_body x) ≡ Ok x
unfolding certificate_body
line_again stage (lines.Heading h) may fits =
    ap (line_left stage) (heading_is h)
    ∙ again_by stage Heading (heading_text (tt, (h.shape, h.cloud.0))) (lines.Heading h) may refl (heading_laws.again (tt, (h.shape, h.cloud.0)) (tt, (tt, fits)))
line_again stage (lines.Share s) may fits =
    again_by stage Share (share_text (s.fp.0, (s.at, s.len))) (lines.Share s) may refl (share_laws.again (s.fp.0, (s.at, s.len)) (fits.fp, (fits.at, fits.len)))
line_again stage (lines.File f) may fits =
    again_by stage File (file_text (f.user.0, (f.tag.0, (f.version.0, (f.at, (f.len, f.fp.0)))))) (lines.File f) may refl
    (file_laws.again (f.user.0, (f.tag.0, (f.version.0, (f.at, (f.len, f.fp.0))))) (fits.user, (fits.tag, (fits.version, (fits.at, (fits.len, fits.fp))))))
line_again stage (lines.End count) may fits = again_by stage End (32 ∷ decimal count) (lines.End count) may refl (end_laws.again count fits)
