-- A text read line by line: what comes of the rest comes of all.
use Rattle.std.proofs.Common.{◌≡◌, ◌≢◌, ℕ, zero, suc, ◌+◌, ◌-◌, ◌*◌, ◌<◌, Bool, true, false, ltb, eqb, List, [], ◌∷◌, length, take, drop, Option, Some, None, Result, Ok, Err, refl, sym, ap, subst, ◌∙◌, arith}
use Rattle.std.proofs.lemmas.Bool.{lt-ltb, le-ltb, ne_eqb}
use Rattle.std.proofs.lemmas.List.{length-take-le, length-drop}
use Rattle.std.proofs.lemmas.Option.{same_Some}
use Rattle.session.specs.Grammar.Readers.{Fails}
use Rattle.session.specs.Grammar.Hexadecimal.{unhex}
use Rattle.session.specs.Grammar.stop.Stop.{Stop}
use Rattle.session.specs.Grammar.stop.Stop.TheVariants as stops
use Rattle.session.proofs.Grammar.HexadecimalLaws.{unhex_length}
use Rattle.session.proofs.Texts.{kept_none}
use Rattle.session.specs.Transcript.Reading.{print_in, line_len}
use Rattle.certificate.specs.declared.kinds.LineStage.{LineStage}
use Rattle.certificate.specs.declared.kinds.LineStage.TheVariants.{First, Shares}
use Rattle.certificate.specs.declared.line.Heading.{Heading as Head}
use Rattle.certificate.specs.declared.line.CertificateLine.{CertificateLine}
use Rattle.certificate.specs.declared.line.CertificateLine.TheVariants as lines
use Rattle.certificate.specs.declared.reading.WrongLine.{WrongLine}
use Rattle.certificate.specs.Lines.{Certificate, FitsCertificate, certificate_text}
use Rattle.certificate.specs.Reading.{may_stand, kind_of, stage_behind, line_left, line_onto, is_over, certificate_by, certificate_at}
use Rattle.certificate.proofs.Texts.{read_back, one_text}

-- ---- a word of digits

-- a word of another length spells no print
pub print_short : (text : List ℕ) → length text ≢ 64 → None ≡ print_in text
unfolding print_in
print_short text other = kept_none (λ (bytes : List ℕ). eqb (length bytes) 32) (unhex text) (λ bs e. ne_eqb (length bs) 32 (λ h. other (unhex_length text bs e ∙ ap (λ (n : ℕ). 2 * n) h)))

-- ---- one line

abbrev Read : Type 0
Read = Result (List CertificateLine) WrongLine

abbrev good : List CertificateLine → Read
good xs = Ok xs

abbrev bad : WrongLine → Read
bad wrong = Err wrong

abbrev wrong_at : ℕ → ℕ → WrongLine
wrong_at number at = record { line = number; at = at }

pub no_newline : (stage : LineStage) (number end : ℕ) (bytes : List ℕ) → is_over stage ≡ false → end ≡ line_len bytes → end ≡ length bytes
    → (turns : ℕ) → certificate_by (suc turns) stage number bytes ≡ bad (wrong_at number end)
no_newline stage number end bytes over here all turns =
    let none : ltb (line_len bytes) (length bytes) ≡ false = le-ltb _ _ (omega (arith, here, all)) in
    rw (over, none) (ap (λ (n : ℕ). bad (wrong_at number n)) (sym all))

pub line_read : (stage : LineStage) (number end : ℕ) (bytes text rest : List ℕ) (x : CertificateLine) → is_over stage ≡ false → end ≡ line_len bytes
    → end < length bytes → text ≡ take end bytes → rest ≡ drop (end + 1) bytes → line_left stage text ≡ Ok x
    → (turns : ℕ) → certificate_by (suc turns) stage number bytes ≡ line_onto x (certificate_by turns (stage_behind (kind_of x)) (number + 1) rest)
line_read stage number end bytes text rest x over here lt front back read turns =
    let more : ltb (line_len bytes) (length bytes) ≡ true = lt-ltb _ _ (omega (arith, here, lt)) in
    let said : line_left stage (take (line_len bytes) bytes) ≡ Ok x = ap (line_left stage) (sym (front ∙ ap (λ (n : ℕ). take n bytes) here)) ∙ read in
    let behind : rest ≡ drop (line_len bytes + 1) bytes = back ∙ ap (λ (n : ℕ). drop (n + 1) bytes) here in
    rw (over, more, said, behind) refl

pub rest_shorter : (bytes rest : List ℕ) (end : ℕ) → end < length bytes → rest ≡ drop (end + 1) bytes → length rest < length bytes
rest_shorter bytes rest end lt back = rw back (omega (arith, lt, length-drop (end + 1) bytes))

pub line_wrong : (stage : LineStage) (number end : ℕ) (bytes text : List ℕ) (stop : Stop) (w : WrongLine) → is_over stage ≡ false → end ≡ line_len bytes
    → end < length bytes → text ≡ take end bytes → Fails stop (line_left stage text) → stop ≢ stops.Memory
    → ((left : ℕ) → stop ≡ stops.Left left → w ≡ wrong_at number (end - left))
    → (turns : ℕ) → certificate_by (suc turns) stage number bytes ≡ bad w
line_wrong stage number end bytes text stops.Memory w over here lt front read some is turns = absurd (some refl)
line_wrong stage number end bytes text (stops.Left left) w over here lt front read some is turns =
    let more : ltb (line_len bytes) (length bytes) ≡ true = lt-ltb _ _ (omega (arith, here, lt)) in
    let said : line_left stage (take (line_len bytes) bytes) ≡ Err left = ap (line_left stage) (sym (front ∙ ap (λ (n : ℕ). take n bytes) here)) ∙ read in
    let long : length (take (line_len bytes) bytes) ≡ end = length-take-le (line_len bytes) bytes (omega (arith, here, lt)) ∙ sym here in
    rw (over, more, said) (ap (λ (n : ℕ). bad (wrong_at number (n - left))) long ∙ ap bad (sym (is left refl)))

-- ---- the lines behind the first

-- What comes of what is read here comes of all.
pub record Carries (all here : Read) : Type 0 where
  pub ok : (more : List CertificateLine) → here ≡ good more → (xs : List CertificateLine) × (all ≡ good xs)
  pub err : (w : WrongLine) → here ≡ bad w → all ≡ bad w

pub record Follows (bytes : List ℕ) (stage : LineStage) (number : ℕ) (rest : List ℕ) : Type 0 where
  pub later : (turns : ℕ) → length bytes < turns → (left : ℕ) × (length rest < suc left) × Carries (certificate_by turns Shares 2 bytes) (certificate_by (suc left) stage number rest)

starts_by : (bytes : List ℕ) (turns : ℕ) → length bytes < turns → (left : ℕ) × (length bytes < suc left) × Carries (certificate_by turns Shares 2 bytes) (certificate_by (suc left) Shares 2 bytes)
starts_by bytes zero lt = absurd (omega arith)
starts_by bytes (suc left) lt = (left, lt, record { ok = λ more e. (more, e); err = λ w e. e })

pub starts : (bytes : List ℕ) → Follows bytes Shares 2 bytes
starts bytes = record { later = starts_by bytes }

carries_on : (x : CertificateLine) (all here next : Read) → here ≡ line_onto x next → Carries all here → Carries all next
carries_on x all here next is c = record {
  ok = λ more e. c.ok (x ∷ more) (is ∙ ap (line_onto x) e);
  err = λ w e. c.err w (is ∙ ap (line_onto x) e);
}

on_by : (all : Read) (stage : LineStage) (number : ℕ) (rest more : List ℕ) (x : CertificateLine) (left : ℕ) → length more < length rest → length rest < suc left
    → ((turns : ℕ) → certificate_by (suc turns) stage number rest ≡ line_onto x (certificate_by turns (stage_behind (kind_of x)) (number + 1) more))
    → Carries all (certificate_by (suc left) stage number rest)
    → (left : ℕ) × (length more < suc left) × Carries all (certificate_by (suc left) (stage_behind (kind_of x)) (number + 1) more)
on_by all stage number rest more x zero shorter lt read c = absurd (omega arith)
on_by all stage number rest more x (suc left) shorter lt read c = (left, omega arith, carries_on x all _ _ (read (suc left)) c)

pub follows_on : (bytes : List ℕ) (stage : LineStage) (number : ℕ) (rest more : List ℕ) (x : CertificateLine) → length more < length rest
    → ((turns : ℕ) → certificate_by (suc turns) stage number rest ≡ line_onto x (certificate_by turns (stage_behind (kind_of x)) (number + 1) more))
    → Follows bytes stage number rest → Follows bytes (stage_behind (kind_of x)) (number + 1) more
follows_on bytes stage number rest more x shorter read f = record {
  later = λ turns lt. let l = f.later turns lt in on_by (certificate_by turns Shares 2 bytes) stage number rest more x l.0 shorter l.1 read l.2;
}

pub follows_wrong : (bytes : List ℕ) (stage : LineStage) (number : ℕ) (rest : List ℕ) (w : WrongLine) → Follows bytes stage number rest
    → ((turns : ℕ) → certificate_by (suc turns) stage number rest ≡ bad w)
    → (turns : ℕ) → length bytes < turns → certificate_by turns Shares 2 bytes ≡ bad w
follows_wrong bytes stage number rest w f wrong turns lt = let l = f.later turns lt in l.2.err w (wrong l.0)

over_nothing : (number : ℕ) (stage : LineStage) (rest : List ℕ) (left : ℕ) → is_over stage ≡ true → length rest ≡ 0 → certificate_by (suc left) stage number rest ≡ good []
over_nothing number stage [] left over none = rw over refl
over_nothing number stage (b ∷ rest) left over none = absurd (omega arith)

over_more : (number : ℕ) (stage : LineStage) (rest : List ℕ) (left : ℕ) → is_over stage ≡ true → length rest ≢ 0 → certificate_by (suc left) stage number rest ≡ bad (wrong_at number 0)
over_more number stage [] left over some = absurd (some refl)
over_more number stage (b ∷ rest) left over some = rw over refl

pub follows_end : (bytes : List ℕ) (stage : LineStage) (number : ℕ) (rest : List ℕ) → is_over stage ≡ true → length rest ≡ 0 → Follows bytes stage number rest
    → (turns : ℕ) → length bytes < turns → (more : List CertificateLine) × (certificate_by turns Shares 2 bytes ≡ good more)
follows_end bytes stage number rest over none f turns lt = let l = f.later turns lt in l.2.ok [] (over_nothing number stage rest l.0 over none)

pub follows_more : (bytes : List ℕ) (stage : LineStage) (number : ℕ) (rest : List ℕ) → is_over stage ≡ true → length rest ≢ 0 → Follows bytes stage number rest
    → (turns : ℕ) → length bytes < turns → certificate_by turns Shares 2 bytes ≡ bad (wrong_at number 0)
follows_more bytes stage number rest over some f turns lt = let l = f.later turns lt in l.2.err (wrong_at number 0) (over_more number stage rest l.0 over some)

-- ---- the whole text

abbrev FirstReads : List ℕ → List ℕ → CertificateLine → Type 0
FirstReads bytes rest x = (turns : ℕ) → certificate_by (suc turns) First 1 bytes ≡ line_onto x (certificate_by turns (stage_behind (kind_of x)) 2 rest)

pub first_wrong : (bytes : List ℕ) (w : WrongLine) → ((turns : ℕ) → certificate_by (suc turns) First 1 bytes ≡ bad w) → certificate_at bytes ≡ bad w
unfolding certificate_at
first_wrong bytes w wrong = let one : length bytes + 1 ≡ suc (length bytes) = omega arith in ap (λ (n : ℕ). certificate_by n First 1 bytes) one ∙ wrong (length bytes)

whole_by : (bytes rest : List ℕ) (x : CertificateLine) → FirstReads bytes rest x → certificate_at bytes ≡ line_onto x (certificate_by (length bytes) (stage_behind (kind_of x)) 2 rest)
unfolding certificate_at
whole_by bytes rest x first = let one : length bytes + 1 ≡ suc (length bytes) = omega arith in ap (λ (n : ℕ). certificate_by n First 1 bytes) one ∙ first (length bytes)

pub heading_read : (bytes rest : List ℕ) (x : CertificateLine) (heading : Head) → FirstReads bytes rest x → x ≡ lines.Heading heading → length rest < length bytes
    → ((turns : ℕ) → length rest < turns → (more : List CertificateLine) × (certificate_by turns Shares 2 rest ≡ good more))
    → (more : List CertificateLine) × (certificate_at bytes ≡ good (lines.Heading heading ∷ more))
heading_read bytes rest x heading first is shorter all =
    let m = all (length bytes) shorter in
    (m.0, whole_by bytes rest (lines.Heading heading) (subst (FirstReads bytes rest) is first) ∙ ap (line_onto (lines.Heading heading)) m.1)

first_is : (x : CertificateLine) → may_stand First (kind_of x) ≡ true → stage_behind (kind_of x) ≡ Shares
first_is (lines.Heading h) may = refl
first_is (lines.Share s) may = absurd cc
first_is (lines.File f) may = absurd cc
first_is (lines.End count) may = absurd cc

pub rest_wrong : (bytes rest : List ℕ) (x : CertificateLine) (w : WrongLine) → FirstReads bytes rest x → may_stand First (kind_of x) ≡ true
    → length rest < length bytes → ((turns : ℕ) → length rest < turns → certificate_by turns Shares 2 rest ≡ bad w) → certificate_at bytes ≡ bad w
rest_wrong bytes rest x w first may shorter wrong =
    whole_by bytes rest x first ∙ ap (λ (s : LineStage). line_onto x (certificate_by (length bytes) s 2 rest)) (first_is x may) ∙ ap (line_onto x) (wrong (length bytes) shorter)

-- ---- and said of certificates

abbrev heading_of : List CertificateLine → Option Head
heading_of (lines.Heading h ∷ xs) = Some h
heading_of xs = None

abbrev lines_in : Read → List CertificateLine
lines_in (Ok xs) = xs
lines_in (Err w) = []

pub said_by : (bytes : List ℕ) (heading : Head) (more : List CertificateLine) → certificate_at bytes ≡ good (lines.Heading heading ∷ more)
    → (c : Certificate) × (c.heading ≡ heading) × FitsCertificate c × (bytes ≡ certificate_text c)
said_by bytes heading more e =
    let t = one_text bytes (lines.Heading heading ∷ more) e in
    (t.0, same_Some t.0.heading heading (ap heading_of (sym t.1)), t.2, t.3)

pub taken_ok : (bytes : List ℕ) (heading : Head) (more : List CertificateLine) → certificate_at bytes ≡ good (lines.Heading heading ∷ more)
    → (c : Certificate) → FitsCertificate c → bytes ≡ certificate_text c → heading ≡ c.heading
taken_ok bytes heading more e c fits is =
    same_Some heading c.heading (ap heading_of (ap lines_in (sym e ∙ ap certificate_at is ∙ read_back c fits)))

abbrev is_good : Read → Bool
is_good (Ok xs) = true
is_good (Err w) = false

pub taken_err : (bytes : List ℕ) (w : WrongLine) → certificate_at bytes ≡ bad w → (c : Certificate) → FitsCertificate c → bytes ≡ certificate_text c → ⊥
taken_err bytes w e c fits is = let apart : false ≡ true = ap is_good (sym e ∙ ap certificate_at is ∙ read_back c fits) in cc
