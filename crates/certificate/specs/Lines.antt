-- What a certificate says, and its one text.
use Rattle.std.specs.Prelude.{ℕ, ◌<◌, ◌^◌, List, [], ◌∷◌, ◌++◌, map, All, codes, decimal}
use Rattle.std.specs.List.{join_with_byte, flat_map}
use Rattle.session.specs.Grammar.Hexadecimal.{hex}
use Rattle.session.specs.Transcript.Ranges.{IsPrint}
use Rattle.certificate.specs.declared.line.Heading.{Heading}
use Rattle.certificate.specs.declared.line.ShareLine.{ShareLine}
use Rattle.certificate.specs.declared.line.FileLine.{FileLine}
use Rattle.certificate.specs.declared.line.CertificateLine.{CertificateLine}
use Rattle.certificate.specs.declared.line.CertificateLine.TheVariants as lines

-- the words of a line
abbrev pub certificate_words : CertificateLine → List (List ℕ)
certificate_words (lines.Heading h) = codes "audit" ∷ decimal 1 ∷ decimal h.shape.n ∷ decimal h.shape.k ∷ decimal h.cloud.0 ∷ []
certificate_words (lines.Share s) = codes "share" ∷ hex s.fp.0 ∷ decimal s.at ∷ decimal s.len ∷ []
certificate_words (lines.File f) = codes "file" ∷ decimal f.user.0 ∷ hex f.tag.0 ∷ decimal f.version.0 ∷ decimal f.at ∷ decimal f.len ∷ hex f.fp.0 ∷ []
certificate_words (lines.End count) = codes "end" ∷ decimal count ∷ []

-- its words with one blank between
unfoldable pub certificate_body : CertificateLine → List ℕ
certificate_body line = join_with_byte 32 (certificate_words line)

-- a line with its newline
unfoldable pub certificate_line : CertificateLine → List ℕ
certificate_line line = join_with_byte 32 (certificate_words line) ++ 10 ∷ []

-- what a certificate says: of which cloud it is, where each share and each recipe lies, and how many these are
pub record Certificate : Type 0 where
  pub heading : Heading
  pub shares : List ShareLine
  pub files : List FileLine
  pub count : ℕ

-- its lines, in order
abbrev pub certificate_lines : Certificate → List CertificateLine
certificate_lines c =
    lines.Heading c.heading
    ∷ map (λ (s : ShareLine). lines.Share s) c.shares ++ map (λ (f : FileLine). lines.File f) c.files ++ lines.End c.count ∷ []

-- its one text
abbrev pub certificate_text : Certificate → List ℕ
certificate_text c = flat_map certificate_line (certificate_lines c)

-- ---- the ranges of a line's fields, which are those of their types

pub record FitsShareLine (s : ShareLine) : Type 0 where
  pub fp : IsPrint s.fp.0
  pub at : s.at < 2 ^ 64
  pub len : s.len < 2 ^ 32

pub record FitsFileLine (f : FileLine) : Type 0 where
  pub user : f.user.0 < 2 ^ 32
  pub tag : IsPrint f.tag.0
  pub version : f.version.0 < 2 ^ 64
  pub at : f.at < 2 ^ 64
  pub len : f.len < 2 ^ 32
  pub fp : IsPrint f.fp.0

abbrev pub FitsLine : CertificateLine → Type 0
FitsLine (lines.Heading h) = h.cloud.0 < h.shape.n
FitsLine (lines.Share s) = FitsShareLine s
FitsLine (lines.File f) = FitsFileLine f
FitsLine (lines.End count) = count < 2 ^ 32

-- each field of the certificate is in its range
abbrev pub FitsCertificate : Certificate → Type 0
FitsCertificate c = All FitsLine (certificate_lines c)
