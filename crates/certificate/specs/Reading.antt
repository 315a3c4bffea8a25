-- What a text says as a certificate, and else its first wrong line and place.
use Rattle.std.specs.Prelude.{ℕ, zero, suc, ◌+◌, ◌-◌, Bool, true, false, List, [], ◌∷◌, length, take, drop, Option, Result, Ok, Err, nat_lt, if◌then◌else◌, codes}
use Rattle.std.specs.List.{find}
use Rattle.std.specs.Str.{bytes_eq}
use Rattle.session.specs.CdBase.shape.Shape.{Shape}
use Rattle.session.specs.Grammar.Readers.{◌>>=◌, ◌▷◌, ◌▷▷◌, whole}
use Rattle.session.specs.Grammar.Words.{word_at, field_at, keep}
use Rattle.session.specs.Transcript.Reading.{number_32, number_64, print_in, line_len}
use Rattle.session.specs.Reading.{literal, shape_at, cloud}
use Rattle.certificate.specs.declared.line.CertificateLine.{CertificateLine}
use Rattle.certificate.specs.declared.line.CertificateLine.TheVariants as lines
use Rattle.certificate.specs.declared.kinds.LineKind.{LineKind}
use Rattle.certificate.specs.declared.kinds.LineKind.TheVariants.{Heading, Share, File, End}
use Rattle.certificate.specs.declared.kinds.LineStage.{LineStage}
use Rattle.certificate.specs.declared.kinds.LineStage.TheVariants.{First, Shares, Files, Over}
use Rattle.certificate.specs.declared.reading.WrongLine.{WrongLine}

-- ---- lines

-- the first words of lines
abbrev pub kind_name : LineKind → List ℕ
kind_name Heading = codes "audit"
kind_name Share = codes "share"
kind_name File = codes "file"
kind_name End = codes "end"

abbrev pub kind_named : List ℕ → Option LineKind
kind_named text = find (λ kind. bytes_eq text (kind_name kind)) (Heading ∷ Share ∷ File ∷ End ∷ [])

-- such a line may stand here
abbrev pub may_stand : LineStage → LineKind → Bool
may_stand First Heading = true
may_stand Shares Share = true
may_stand Shares File = true
may_stand Shares End = true
may_stand Files File = true
may_stand Files End = true
may_stand stage kind = false

-- where the line behind it stands
abbrev pub stage_behind : LineKind → LineStage
stage_behind Heading = Shares
stage_behind Share = Shares
stage_behind File = Files
stage_behind End = Over

unfoldable pub kind_at : LineStage → List ℕ → Option LineKind
kind_at stage text = keep (may_stand stage) (kind_named text)

abbrev pub kind_of : CertificateLine → LineKind
kind_of (lines.Heading h) = Heading
kind_of (lines.Share s) = Share
kind_of (lines.File f) = File
kind_of (lines.End count) = End

abbrev pub make_heading : Unit {0} × (Shape × ℕ) → CertificateLine
make_heading x = lines.Heading (record { shape = x.1.0; cloud = record { 0 = x.1.1 } })

abbrev pub make_share_line : List ℕ × (ℕ × ℕ) → CertificateLine
make_share_line x = lines.Share (record { fp = record { 0 = x.0 }; at = x.1.0; len = x.1.1 })

abbrev pub make_file_line : ℕ × (List ℕ × (ℕ × (ℕ × (ℕ × List ℕ)))) → CertificateLine
make_file_line x = lines.File (record {
  user = record { 0 = x.0 };
  tag = record { 0 = x.1.0 };
  version = record { 0 = x.1.1.0 };
  at = x.1.1.1.0;
  len = x.1.1.1.1.0;
  fp = record { 0 = x.1.1.1.1.1 };
})

abbrev pub make_end : ℕ → CertificateLine
make_end x = lines.End x

unfoldable pub heading_line_at : List ℕ → Result CertificateLine ℕ
heading_line_at = whole make_heading (field_at (literal (codes "1")) ▷ (shape_at ▷▷ λ shape. field_at (cloud shape)))

unfoldable pub share_line_at : List ℕ → Result CertificateLine ℕ
share_line_at = whole make_share_line (field_at print_in ▷ (field_at number_64 ▷ field_at number_32))

unfoldable pub file_line_at : List ℕ → Result CertificateLine ℕ
file_line_at =
    whole make_file_line
    (field_at number_32 ▷ (field_at print_in ▷ (field_at number_64 ▷ (field_at number_64 ▷ (field_at number_32 ▷ field_at print_in)))))

unfoldable pub end_line_at : List ℕ → Result CertificateLine ℕ
end_line_at = whole make_end (field_at number_32)

-- what follows the first word
abbrev pub fields_behind : LineKind → List ℕ → Result CertificateLine ℕ
fields_behind Heading bytes = heading_line_at bytes
fields_behind Share bytes = share_line_at bytes
fields_behind File bytes = file_line_at bytes
fields_behind End bytes = end_line_at bytes

-- what a line without its newline says, or how many of its bytes are left from the first wrong place on
unfoldable pub line_left : LineStage → List ℕ → Result CertificateLine ℕ
line_left stage line = word_at (kind_at stage) line >>= λ kind. fields_behind kind.0 kind.1

-- ---- the whole text

-- a line in front of others
abbrev pub line_onto : CertificateLine → Result (List CertificateLine) WrongLine → Result (List CertificateLine) WrongLine
line_onto line (Ok more) = Ok (line ∷ more)
line_onto line (Err wrong) = Err wrong

abbrev pub line_then : ℕ → List ℕ → Result CertificateLine ℕ → (CertificateLine → Result (List CertificateLine) WrongLine) → Result (List CertificateLine) WrongLine
line_then number line (Ok x) next = line_onto x (next x)
line_then number line (Err left) next = Err (record { line = number; at = length line - left })

abbrev pub is_over : LineStage → Bool
is_over First = false
is_over Shares = false
is_over Files = false
is_over Over = true

-- what stands behind the last line is wrong at its first place
abbrev pub ended_behind : ℕ → List ℕ → Result (List CertificateLine) WrongLine
ended_behind number [] = Ok []
ended_behind number (b ∷ bytes) = Err (record { line = number; at = 0 })

-- In so many turns, from a line of this number on. A line without newline is wrong at its end.
abbrev pub certificate_by : ℕ → LineStage → ℕ → List ℕ → Result (List CertificateLine) WrongLine
certificate_by zero stage number bytes = Err (record { line = number; at = 0 })
certificate_by (suc turns) stage number bytes =
    if is_over stage then ended_behind number bytes
    else if nat_lt (line_len bytes) (length bytes)
    then line_then number (take (line_len bytes) bytes) (line_left stage (take (line_len bytes) bytes))
    (λ x. certificate_by turns (stage_behind (kind_of x)) (number + 1) (drop (line_len bytes + 1) bytes))
    else Err (record { line = number; at = length bytes })

-- what a text says as a certificate
unfoldable pub certificate_at : List ℕ → Result (List CertificateLine) WrongLine
certificate_at bytes = certificate_by (length bytes + 1) First 1 bytes
