-- A certificate's text is read back as its lines, and a text that is read is the text of what it says.
use Rattle.std.proofs.Common.{◌≡◌, ℕ, zero, suc, ◌+◌, ◌-◌, ◌/◌, ◌%◌, ◌<◌, ◌≤◌, ◌^◌, Bool, true, false, cond, ltb, leb, ◌&&◌, List, [], ◌∷◌, ◌++◌, length, map, take, drop, get_or, Result, Ok, Err, refl, sym, ap, ◌∙◌, subst, append_assoc, arith, inl, inr}
use Rattle.std.specs.Prelude.{All, codes, decimal}
use Rattle.std.specs.List.{AllByRecursion, flat_map, join_with_byte}
use Rattle.std.specs.Str.{all_ascii_digits}
use Rattle.std.specs.Char.{is_ascii_digit}
use Rattle.std.proofs.lemmas.Bool.Decides.{nat_tests}
use Rattle.std.proofs.lemmas.Bool.{and_parts, leb-true, ltb-true, lt-ltb, eqb-true}
use Rattle.std.proofs.lemmas.Fmt.{digits_decimal}
use Rattle.std.proofs.lemmas.List.{take_at, drop_at, length-append}
use Rattle.std.proofs.lemmas.List.Elements.{All-from_recursion, recursion_from_All}
use Rattle.std.proofs.lemmas.List.Sums.{split_at_first, passes_at_first}
use Rattle.session.specs.Grammar.Hexadecimal.{hex, hex_digit}
use Rattle.session.proofs.Grammar.NumeralLaws.{own}
use Rattle.session.proofs.Grammar.HexadecimalLaws.{chosen}
use Rattle.transcript.proofs.LineLaws.{Flat, flat_append, line_ends}
use Rattle.certificate.specs.declared.line.ShareLine.{ShareLine}
use Rattle.certificate.specs.declared.line.FileLine.{FileLine}
use Rattle.certificate.specs.declared.line.CertificateLine.{CertificateLine}
use Rattle.certificate.specs.declared.line.CertificateLine.TheVariants as lines
use Rattle.certificate.specs.Lines.{Certificate, certificate_words, certificate_body, certificate_line, certificate_lines, certificate_text, FitsLine, FitsCertificate}
use Rattle.certificate.specs.declared.kinds.LineKind.{LineKind}
use Rattle.certificate.specs.declared.kinds.LineKind.TheVariants.{Heading, Share, File, End}
use Rattle.certificate.specs.declared.kinds.LineStage.{LineStage}
use Rattle.certificate.specs.declared.kinds.LineStage.TheVariants.{First, Shares, Files, Over}
use Rattle.certificate.specs.declared.reading.WrongLine.{WrongLine}
use Rattle.session.specs.Transcript.Reading.{is_newline, line_len}
use Rattle.certificate.specs.Reading.{stage_behind, kind_of, line_left, line_onto, line_then, is_over, ended_behind, certificate_by, certificate_at}
use Rattle.certificate.proofs.Words.{May}
use Rattle.certificate.proofs.FieldLaws.{IsLine, line_takes, line_again}

-- ---- no newline is in a line

flat_digits : (text : List ℕ) → all_ascii_digits text ≡ true → Flat text
flat_digits [] e = tt
flat_digits (b ∷ bs) e =
    let p = and_parts (is_ascii_digit b) _ e in
    let low = leb-true _ _ (and_parts (leb 48 b) (leb b 57) p.0).0 in
    (omega arith, flat_digits bs p.1)

flat_decimal : (n : ℕ) → n < 2 ^ 64 → Flat (decimal n)
flat_decimal n fits = flat_digits (decimal n) (digits_decimal own n fits)

digit_flat : (d : ℕ) → ltb 10 (hex_digit d) ≡ true
digit_flat d = grind (arith, nat_tests)

flat_hex : (bytes : List ℕ) → Flat (hex bytes)
unfolding hex
flat_hex [] = tt
flat_hex (b ∷ bs) = (ltb-true _ _ (digit_flat (b / 16)), (ltb-true _ _ (digit_flat (b % 16)), flat_hex bs))

-- each word is flat
abbrev AllFlat : List (List ℕ) → Type 0
AllFlat [] = Unit {0}
AllFlat (word ∷ words) = Flat word × AllFlat words

flat_join : (words : List (List ℕ)) → AllFlat words → Flat (join_with_byte 32 words)
flat_join [] e = tt
flat_join (word ∷ []) e = e.0
flat_join (word ∷ next ∷ words) e = flat_append word (32 ∷ join_with_byte 32 (next ∷ words)) e.0 (omega arith, flat_join (next ∷ words) e.1)

abbrev all_above : List ℕ → Bool
all_above [] = true
all_above (b ∷ bs) = ltb 10 b && all_above bs

flat_by : (text : List ℕ) → all_above text ≡ true → Flat text
flat_by [] e = tt
flat_by (b ∷ bs) e = let p = and_parts (ltb 10 b) _ e in (ltb-true 10 b p.0, flat_by bs p.1)

flat_words : (x : CertificateLine) → FitsLine x → AllFlat (certificate_words x)
flat_words (lines.Heading h) fits =
    let a = h.shape.few in
    let b = h.shape.spare in (
      flat_by (codes "audit") refl,
      (
        flat_decimal 1 (omega arith),
        (flat_decimal h.shape.n (omega arith), (flat_decimal h.shape.k (omega arith), (flat_decimal h.cloud.0 (omega (arith, fits)), tt))),
      ),
    )
flat_words (lines.Share s) fits =
    let len = fits.len in
    (flat_by (codes "share") refl, (flat_hex s.fp.0, (flat_decimal s.at fits.at, (flat_decimal s.len (omega (arith, len)), tt))))
flat_words (lines.File f) fits =
    let user = fits.user in
    let len = fits.len in (
      flat_by (codes "file") refl,
      (
        flat_decimal f.user.0 (omega (arith, user)),
        (
          flat_hex f.tag.0,
          (flat_decimal f.version.0 fits.version, (flat_decimal f.at fits.at, (flat_decimal f.len (omega (arith, len)), (flat_hex f.fp.0, tt)))),
        ),
      ),
    )
flat_words (lines.End count) fits = (flat_by (codes "end") refl, (flat_decimal count (omega (arith, fits)), tt))

pub flat_body : (x : CertificateLine) → FitsLine x → Flat (certificate_body x)
unfolding certificate_body
flat_body x fits = flat_join (certificate_words x) (flat_words x fits)

pub body_text : (x : CertificateLine) → certificate_line x ≡ certificate_body x ++ 10 ∷ []
unfolding certificate_body certificate_line
body_text x = refl

-- ---- one line in front of others

-- a line, and others behind it
may_not_over : (stage : LineStage) (kind : LineKind) → May stage kind → is_over stage ≡ false
may_not_over First kind may = refl
may_not_over Shares kind may = refl
may_not_over Files kind may = refl
may_not_over Over Heading may = absurd cc
may_not_over Over Share may = absurd cc
may_not_over Over File may = absurd cc
may_not_over Over End may = absurd cc

one_read : (turns : ℕ) (stage : LineStage) (number : ℕ) (x : CertificateLine) (rest : List ℕ) → May stage (kind_of x) → FitsLine x
    → certificate_by (suc turns) stage number (certificate_body x ++ 10 ∷ rest) ≡ line_onto x (certificate_by turns (stage_behind (kind_of x)) (number + 1) rest)
one_read turns stage number x rest may fits =
    let over = may_not_over stage (kind_of x) may in
    let here = line_ends (certificate_body x) rest (flat_body x fits) in
    let len = length-append (certificate_body x) (10 ∷ rest) in
    let lt : ltb (length (certificate_body x)) (length (certificate_body x ++ 10 ∷ rest)) ≡ true = lt-ltb _ _ (omega (arith, len)) in
    let front : take (length (certificate_body x)) (certificate_body x ++ 10 ∷ rest) ≡ certificate_body x = take_at (certificate_body x) (10 ∷ rest) (length (certificate_body x)) refl in
    let long : length (certificate_body x ++ 10 ∷ []) ≡ length (certificate_body x) + 1 = omega (arith, length-append (certificate_body x) (10 ∷ [])) in
    let back : drop (length (certificate_body x) + 1) (certificate_body x ++ 10 ∷ rest) ≡ rest
    = ap (drop (length (certificate_body x) + 1)) (sym (append_assoc (certificate_body x) (10 ∷ []) rest)) ∙ drop_at (certificate_body x ++ 10 ∷ []) rest (length (certificate_body x) + 1) long in
    let read = line_again stage x may fits in
    rw (over, here, lt, front, read, back) refl

-- ---- lines one after another

-- each line may come where it stands, and the last line is the last
abbrev pub Follow : LineStage → List CertificateLine → Type 0
Follow stage [] = stage ≡ Over
Follow stage (x ∷ xs) = May stage (kind_of x) × Follow (stage_behind (kind_of x)) xs

over_read : (turns number : ℕ) (stage : LineStage) → stage ≡ Over → certificate_by (suc turns) stage number [] ≡ Ok []
over_read turns number stage e = ap (λ (s : LineStage). certificate_by (suc turns) s number []) e

all_read : (turns : ℕ) (stage : LineStage) (number : ℕ) (xs : List CertificateLine) → length xs < turns → Follow stage xs → AllByRecursion FitsLine xs
    → certificate_by turns stage number (flat_map certificate_line xs) ≡ Ok xs
all_read zero stage number xs lt follow fits = absurd (omega arith)
all_read (suc turns) stage number [] lt follow fits = over_read turns number stage follow
all_read (suc turns) stage number (x ∷ xs) lt follow fits =
    let text : certificate_line x ++ flat_map certificate_line xs ≡ certificate_body x ++ 10 ∷ flat_map certificate_line xs
    = ap (λ (t : List ℕ). t ++ flat_map certificate_line xs) (body_text x) ∙ append_assoc (certificate_body x) (10 ∷ []) (flat_map certificate_line xs) in
    let more = all_read turns (stage_behind (kind_of x)) (number + 1) xs (omega arith) follow.1 fits.1 in
    ap (certificate_by (suc turns) stage number) text ∙ one_read turns stage number x (flat_map certificate_line xs) follow.0 fits.0 ∙ ap (line_onto x) more

-- ---- what is read

abbrev good : List CertificateLine → Result (List CertificateLine) WrongLine
good xs = Ok xs

good_is : (xs ys : List CertificateLine) → good xs ≡ Ok ys → xs ≡ ys
good_is xs ys e = cc

pub record Said (stage : LineStage) (bytes : List ℕ) (xs : List CertificateLine) : Type 0 where
  pub text : bytes ≡ flat_map certificate_line xs
  pub follow : Follow stage xs
  pub fits : AllByRecursion FitsLine xs

ended_said : (number : ℕ) (stage : LineStage) (bytes : List ℕ) (xs : List CertificateLine) → stage ≡ Over → ended_behind number bytes ≡ Ok xs → Said stage bytes xs
ended_said number stage [] xs over e = subst (Said stage []) (good_is [] xs e) (record { text = refl; follow = over; fits = tt })
ended_said number stage (b ∷ bytes) xs over e = absurd cc

is_over_true : (stage : LineStage) → is_over stage ≡ true → stage ≡ Over
is_over_true First e = absurd cc
is_over_true Shares e = absurd cc
is_over_true Files e = absurd cc
is_over_true Over e = refl

onto_ok : (x : CertificateLine) (r : Result (List CertificateLine) WrongLine) (xs : List CertificateLine) → line_onto x r ≡ Ok xs → (more : List CertificateLine) × (r ≡ Ok more) × (x ∷ more ≡ xs)
onto_ok x (Ok more) xs e = (more, refl, good_is (x ∷ more) xs e)
onto_ok x (Err wrong) xs e = absurd cc

then_ok : (number : ℕ) (line : List ℕ) (r : Result CertificateLine ℕ) (next : CertificateLine → Result (List CertificateLine) WrongLine) (xs : List CertificateLine) → line_then number line r next ≡ Ok xs
    → (x : CertificateLine) × (more : List CertificateLine) × (r ≡ Ok x) × (next x ≡ Ok more) × (x ∷ more ≡ xs)
then_ok number line (Ok x) next xs e = let o = onto_ok x (next x) xs e in (x, o.0, refl, o.1, o.2)
then_ok number line (Err left) next xs e = absurd cc

abbrev rest_of : List ℕ → List ℕ
rest_of bytes = drop (line_len bytes + 1) bytes

parted : (bytes : List ℕ) → line_len bytes < length bytes → bytes ≡ take (line_len bytes) bytes ++ 10 ∷ rest_of bytes
parted bytes lt =
    let at : get_or bytes (line_len bytes) 0 ≡ 10 = eqb-true _ _ (passes_at_first is_newline bytes 0 lt) in
    split_at_first is_newline bytes 0 lt ∙ ap (λ (b : ℕ). take (line_len bytes) bytes ++ b ∷ rest_of bytes) at

said_more : (stage : LineStage) (bytes : List ℕ) (x : CertificateLine) (more : List CertificateLine) → line_len bytes < length bytes → IsLine stage (take (line_len bytes) bytes) x
    → Said (stage_behind (kind_of x)) (rest_of bytes) more → Said stage bytes (x ∷ more)
said_more stage bytes x more lt line said = record {
  text =
      parted bytes lt ∙ ap (λ (t : List ℕ). t ++ 10 ∷ rest_of bytes) line.text ∙ ap (λ (t : List ℕ). certificate_body x ++ 10 ∷ t) said.text
      ∙ sym (append_assoc (certificate_body x) (10 ∷ []) (flat_map certificate_line more)) ∙ ap (λ (t : List ℕ). t ++ flat_map certificate_line more) (sym (body_text x));
  follow = (line.may, said.follow);
  fits = (line.fits, said.fits);
}

all_said : (turns : ℕ) (stage : LineStage) (number : ℕ) (bytes : List ℕ) (xs : List CertificateLine) → certificate_by turns stage number bytes ≡ Ok xs → Said stage bytes xs
all_said zero stage number bytes xs e = absurd cc
all_said (suc turns) stage number bytes xs e =
    let line = take (line_len bytes) bytes in
    let next : CertificateLine → Result (List CertificateLine) WrongLine = λ x. certificate_by turns (stage_behind (kind_of x)) (number + 1) (rest_of bytes) in
    elim (chosen (is_over stage) (ended_behind number bytes) (cond (ltb (line_len bytes) (length bytes)) (line_then number line (line_left stage line) next) (Err (record { line = number; at = length bytes }))) (Ok xs) e) [
      | inl over ↦ ended_said number stage bytes xs (is_over_true stage over.0) over.1
      | inr more ↦
          elim (chosen (ltb (line_len bytes) (length bytes)) (line_then number line (line_left stage line) next) (Err (record { line = number; at = length bytes })) (Ok xs) more.1) [
            | inl here ↦
                let t = then_ok number line (line_left stage line) next xs here.1 in
                let behind_it = all_said turns (stage_behind (kind_of t.0)) (number + 1) (rest_of bytes) t.1 t.3 in
                subst (Said stage bytes) t.4 (said_more stage bytes t.0 t.1 (ltb-true _ _ here.0) (line_takes stage line t.0 t.2) behind_it)
            | inr none ↦ absurd (let k = none.1 in cc)
          ]
    ]

-- ---- lines as a certificate

abbrev share_lines : List ShareLine → List CertificateLine
share_lines shares = map (λ (s : ShareLine). lines.Share s) shares

abbrev file_lines : List FileLine → List CertificateLine
file_lines files = map (λ (f : FileLine). lines.File f) files

record FromFiles (xs : List CertificateLine) : Type 0 where
  files : List FileLine
  count : ℕ
  are : xs ≡ file_lines files ++ lines.End count ∷ []

record FromShares (xs : List CertificateLine) : Type 0 where
  shares : List ShareLine
  files : List FileLine
  count : ℕ
  are : xs ≡ share_lines shares ++ file_lines files ++ lines.End count ∷ []

nothing_over : (xs : List CertificateLine) → Follow Over xs → xs ≡ []
nothing_over [] follow = refl
nothing_over (lines.Heading h ∷ xs) follow = absurd (let m = follow.0 in cc)
nothing_over (lines.Share s ∷ xs) follow = absurd (let m = follow.0 in cc)
nothing_over (lines.File f ∷ xs) follow = absurd (let m = follow.0 in cc)
nothing_over (lines.End count ∷ xs) follow = absurd (let m = follow.0 in cc)

from_files : (xs : List CertificateLine) → Follow Files xs → FromFiles xs
from_files [] follow = absurd cc
from_files (lines.Heading h ∷ xs) follow = absurd (let m = follow.0 in cc)
from_files (lines.Share s ∷ xs) follow = absurd (let m = follow.0 in cc)
from_files (lines.File f ∷ xs) follow =
    let more = from_files xs follow.1 in
    record { files = f ∷ more.files; count = more.count; are = ap (λ (l : List CertificateLine). lines.File f ∷ l) more.are }
from_files (lines.End count ∷ xs) follow = record { files = []; count = count; are = ap (λ (l : List CertificateLine). lines.End count ∷ l) (nothing_over xs follow.1) }

from_shares : (xs : List CertificateLine) → Follow Shares xs → FromShares xs
from_shares [] follow = absurd cc
from_shares (lines.Heading h ∷ xs) follow = absurd (let m = follow.0 in cc)
from_shares (lines.Share s ∷ xs) follow =
    let more = from_shares xs follow.1 in
    record { shares = s ∷ more.shares; files = more.files; count = more.count; are = ap (λ (l : List CertificateLine). lines.Share s ∷ l) more.are }
from_shares (lines.File f ∷ xs) follow =
    let more = from_files xs follow.1 in
    record { shares = []; files = f ∷ more.files; count = more.count; are = ap (λ (l : List CertificateLine). lines.File f ∷ l) more.are }
from_shares (lines.End count ∷ xs) follow =
    record { shares = []; files = []; count = count; are = ap (λ (l : List CertificateLine). lines.End count ∷ l) (nothing_over xs follow.1) }

as_certificate : (xs : List CertificateLine) → Follow First xs → (c : Certificate) × (xs ≡ certificate_lines c)
as_certificate [] follow = absurd cc
as_certificate (lines.Heading h ∷ xs) follow =
    let more = from_shares xs follow.1 in
    (record { heading = h; shares = more.shares; files = more.files; count = more.count }, ap (λ (l : List CertificateLine). lines.Heading h ∷ l) more.are)
as_certificate (lines.Share s ∷ xs) follow = absurd (let m = follow.0 in cc)
as_certificate (lines.File f ∷ xs) follow = absurd (let m = follow.0 in cc)
as_certificate (lines.End count ∷ xs) follow = absurd (let m = follow.0 in cc)

files_follow : (files : List FileLine) (count : ℕ) → Follow Files (file_lines files ++ lines.End count ∷ [])
files_follow [] count = (refl, refl)
files_follow (f ∷ files) count = (refl, files_follow files count)

shares_follow : (shares : List ShareLine) (files : List FileLine) (count : ℕ) → Follow Shares (share_lines shares ++ file_lines files ++ lines.End count ∷ [])
shares_follow [] [] count = (refl, refl)
shares_follow [] (f ∷ files) count = (refl, files_follow files count)
shares_follow (s ∷ shares) files count = (refl, shares_follow shares files count)

follows : (c : Certificate) → Follow First (certificate_lines c)
follows c = (refl, shares_follow c.shares c.files c.count)

-- ---- there are fewer lines than bytes

longer : (xs : List CertificateLine) → length xs ≤ length (flat_map certificate_line xs)
longer [] = omega arith
longer (x ∷ xs) =
    omega (
      arith,
      longer xs,
      length-append (certificate_line x) (flat_map certificate_line xs),
      ap length (body_text x),
      length-append (certificate_body x) (10 ∷ []),
    )

-- ---- the law

pub read_back : (c : Certificate) → FitsCertificate c → certificate_at (certificate_text c) ≡ Ok (certificate_lines c)
unfolding certificate_at
read_back c fits =
    let few = longer (certificate_lines c) in
    all_read (length (certificate_text c) + 1) First 1 (certificate_lines c) (omega (arith, few)) (follows c) (recursion_from_All FitsLine (certificate_lines c) fits)

pub one_text : (bytes : List ℕ) (said : List CertificateLine) → certificate_at bytes ≡ Ok said → (c : Certificate) × (said ≡ certificate_lines c) × FitsCertificate c × (bytes ≡ certificate_text c)
unfolding certificate_at
one_text bytes said e =
    let s = all_said (length bytes + 1) First 1 bytes said e in
    let c = as_certificate said s.follow in
    (c.0, c.1, subst (λ (xs : List CertificateLine). All FitsLine xs) c.1 (All-from_recursion FitsLine said s.fits), s.text ∙ ap (flat_map certificate_line) c.1)

pub one_certificate : (a b : Certificate) → FitsCertificate a → FitsCertificate b → certificate_text a ≡ certificate_text b → certificate_lines a ≡ certificate_lines b
one_certificate a b f g e = good_is (certificate_lines a) (certificate_lines b) (sym (read_back a f) ∙ ap certificate_at e ∙ read_back b g)
