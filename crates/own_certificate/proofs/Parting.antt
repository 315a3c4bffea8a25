-- Where a text parts from lines, and that it reads so.
use Rattle.std.proofs.Common.{◌≡◌, ◌≢◌, ℕ, zero, suc, ◌+◌, ◌-◌, ◌<◌, ◌≤◌, List, [], ◌∷◌, ◌++◌, length, take, slice_get, Option, Some, None, Result, Ok, Err, OnErr, refl, sym, ap, ◌∙◌, subst, arith, append_assoc}
use Rattle.std.specs.Prelude.{All, MatchOption}
use Rattle.std.specs.List.{flat_map}
use Rattle.std.proofs.lemmas.Option.{same_Some}
use Rattle.std.proofs.lemmas.List.{flat_map_more}
use Rattle.std.proofs.lemmas.List.Elements.{All-nil, All-head, All-tail, All-push}
use Rattle.audit_base.specs.Certificate.line.Heading.{Heading}
use Rattle.audit_base.specs.Certificate.line.CertificateLine.{CertificateLine}
use Rattle.audit_base.specs.Certificate.line.CertificateLine.TheVariants as lines
use Rattle.audit_base.specs.Certificate.Lines.{Certificate, certificate_line, certificate_lines, certificate_text, FitsLine, FitsCertificate}
use Rattle.audit_base.specs.Certificate.Reading.{certificate_at}
use Rattle.audit_base.specs.Judged.{Differ}
use Rattle.audit_base.specs.Own.{DifferAt}
use Rattle.audit_base.proofs.JournalStart.Whole.{same_shape}
use Rattle.own_certificate.specs.Inner.{PartsAt}

-- ---- the next element

taken_suc : {X : Type 0} (xs : List X) (i : ℕ) (x : X) → slice_get xs i ≡ Some x → take (suc i) xs ≡ take i xs ++ x ∷ []
taken_suc [] i x e = absurd (let none : None ≡ Some x = e in cc)
taken_suc (y ∷ ys) zero x e = ap (λ z. z ∷ []) (same_Some y x e)
taken_suc (y ∷ ys) (suc i) x e = ap (λ l. y ∷ l) (taken_suc ys i x e)

taken : {X : Type 0} (xs : List X) (i : ℕ) (x : X) → slice_get xs i ≡ Some x → take (i + 1) xs ≡ take i xs ++ x ∷ []
taken xs i x e = ap (λ n. take n xs) (let next : i + 1 ≡ suc i = omega arith in next) ∙ taken_suc xs i x e

taken_all : {X : Type 0} (xs : List X) (n : ℕ) → length xs ≤ n → take n xs ≡ xs
taken_all [] zero high = refl
taken_all [] (suc n) high = refl
taken_all (x ∷ xs) zero high = absurd (omega (arith, high))
taken_all (x ∷ xs) (suc n) high = ap (λ l. x ∷ l) (taken_all xs n (omega (arith, high)))

taken_front : {X : Type 0} (xs more : List X) (n : ℕ) → n ≤ length xs → take n (take n xs ++ more) ≡ take n xs
taken_front [] more zero low = refl
taken_front [] more (suc n) low = absurd (omega (arith, low))
taken_front (x ∷ xs) more zero low = refl
taken_front (x ∷ xs) more (suc n) low = ap (λ l. x ∷ l) (taken_front xs more n (omega (arith, low)))

got_behind : {X : Type 0} (xs more : List X) (n : ℕ) → n ≤ length xs → slice_get (take n xs ++ more) n ≡ slice_get more 0
got_behind [] more zero low = refl
got_behind [] more (suc n) low = absurd (omega (arith, low))
got_behind (x ∷ xs) more zero low = refl
got_behind (x ∷ xs) more (suc n) low = got_behind xs more n (omega (arith, low))

none_past : {X : Type 0} (xs : List X) (n : ℕ) → length xs ≤ n → slice_get xs n ≡ None
none_past [] n high = refl
none_past (x ∷ xs) zero high = absurd (omega (arith, high))
none_past (x ∷ xs) (suc n) high = none_past xs n (omega (arith, high))

-- ---- lines that were written

-- what was there, and the lines below this one
pub record Wrote (own : List CertificateLine) (before now : List ℕ) (index : ℕ) : Type 0 where
  pub so_far : now ≡ before ++ flat_map certificate_line (take index own)

pub write_begun : (own : List CertificateLine) (before : List ℕ) → Wrote own before before 0
write_begun own before = record { so_far = sym (append-none before) }
  where
    append-none : (xs : List ℕ) → xs ++ [] ≡ xs
    append-none [] = refl
    append-none (x ∷ xs) = ap (λ l. x ∷ l) (append-none xs)

pub write_further : (own : List CertificateLine) (before now later : List ℕ) (index : ℕ) (line : CertificateLine) → Wrote own before now index → slice_get own index ≡ Some line
    → later ≡ now ++ certificate_line line → Wrote own before later (index + 1)
write_further own before now later index line so is more = record {
  so_far =
      more
      ∙ ap (λ l. l ++ certificate_line line) so.so_far
      ∙ flat_map_more certificate_line before (take index own) line
      ∙ ap (λ l. before ++ flat_map certificate_line l) (sym (taken own index line is));
}

pub write_done : (own : List CertificateLine) (before now : List ℕ) (index : ℕ) → Wrote own before now index → length own ≤ index → now ≡ before ++ flat_map certificate_line own
write_done own before now index so high = so.so_far ∙ ap (λ l. before ++ flat_map certificate_line l) (taken_all own index high)

front_kept : (xs more : List ℕ) → take (length xs) (xs ++ more) ≡ xs
front_kept [] more = refl
front_kept (x ∷ xs) more = ap (λ l. x ∷ l) (front_kept xs more)

pub write_failed : (own : List CertificateLine) (before now later : List ℕ) (index : ℕ) → Wrote own before now index → later ≡ now → take (length before) later ≡ before
write_failed own before now later index so same =
    ap (take (length before)) (same ∙ so.so_far) ∙ front_kept before (flat_map certificate_line (take index own))

-- what holds in any case holds where memory ran out
pub on_err_given : {A E : Type 0} (r : Result A E) (P : Type 0) → P → OnErr r P
on_err_given (Ok x) P p = tt
on_err_given (Err e) P p = p

-- ---- lines that a text has

-- the lines below this one, and the rest
pub record Reached (own : List CertificateLine) (bytes : List ℕ) (index : ℕ) (rest : List ℕ) : Type 0 where
  pub before : bytes ≡ flat_map certificate_line (take index own) ++ rest
  pub fits : All FitsLine (take index own)

pub reach_begun : (own : List CertificateLine) (bytes : List ℕ) → Reached own bytes 0 bytes
reach_begun own bytes = record { before = refl; fits = All-nil FitsLine }

pub reach_further : (own : List CertificateLine) (bytes rest more : List ℕ) (index : ℕ) (line : CertificateLine) → Reached own bytes index rest → slice_get own index ≡ Some line → FitsLine line
    → rest ≡ certificate_line line ++ more → Reached own bytes (index + 1) more
reach_further own bytes rest more index line so is fit front =
    let next = taken own index line is in
    record {
      before =
          so.before
          ∙ ap (λ l. flat_map certificate_line (take index own) ++ l) front
          ∙ sym (append_assoc (flat_map certificate_line (take index own)) (certificate_line line) more)
          ∙ ap (λ l. l ++ more) (flat_map_more certificate_line [] (take index own) line)
          ∙ ap (λ l. flat_map certificate_line l ++ more) (sym next);
      fits = subst (All FitsLine) (sym next) (All-push FitsLine (take index own) line so.fits fit);
    }

pub reach_parted : (own : List CertificateLine) (bytes rest : List ℕ) (index : ℕ) (line : CertificateLine) → Reached own bytes index rest → index < length own → slice_get own index ≡ Some line
    → ((more : List ℕ) → rest ≢ certificate_line line ++ more) → PartsAt own bytes index
reach_parted own bytes rest index line so low is apart = record {
  rest = rest;
  within = omega (arith, low);
  before = so.before;
  fits = so.fits;
  other = λ x more has. subst (λ (y : CertificateLine). rest ≢ certificate_line y ++ more) (same_Some line x (sym is ∙ has)) (apart more);
  more = λ none. absurd (let no : None ≡ Some line = sym none ∙ is in cc);
}

pub reach_over : (own : List CertificateLine) (bytes rest : List ℕ) (index last : ℕ) → Reached own bytes index rest → index ≡ last → last ≡ length own → rest ≢ [] → PartsAt own bytes last
reach_over own bytes rest index last so is end some =
    let here : Reached own bytes last rest = subst (λ n. Reached own bytes n rest) is so in
    record {
      rest = rest;
      within = omega (arith, end);
      before = here.before;
      fits = here.fits;
      other = λ x more has. absurd (let no : None ≡ Some x = sym (none_past own last (omega (arith, end))) ∙ has in cc);
      more = λ none. some;
    }

pub reach_done : (own : List CertificateLine) (bytes rest : List ℕ) (index : ℕ) → Reached own bytes index rest → index ≡ length own → rest ≡ [] → bytes ≡ flat_map certificate_line own
reach_done own bytes rest index so last none =
    so.before
    ∙ ap (λ l. flat_map certificate_line (take index own) ++ l) none
    ∙ append-none (flat_map certificate_line (take index own))
    ∙ ap (flat_map certificate_line) (taken_all own index (omega (arith, last)))
  where
    append-none : (xs : List ℕ) → xs ++ [] ≡ xs
    append-none [] = refl
    append-none (x ∷ xs) = ap (λ l. x ∷ l) (append-none xs)

-- a line that was written into an empty buffer, at the front of the rest
pub line_got : (got written cleared line : List ℕ) → got ≡ written → written ≡ cleared ++ line → cleared ≡ [] → got ≡ line
line_got got written cleared line slice ok none = slice ∙ ok ∙ ap (λ l. l ++ line) none

-- ---- what such a text says

abbrev pub OneText : Type 0
OneText = (bytes : List ℕ) (said : List CertificateLine) → certificate_at bytes ≡ Ok said
    → (c : Certificate) × (said ≡ certificate_lines c) × FitsCertificate c × (bytes ≡ certificate_text c)

abbrev pub Apart : Type 0
Apart = (a b : CertificateLine) (more rest : List ℕ) → FitsLine a → FitsLine b
    → certificate_line a ++ more ≡ certificate_line b ++ rest → (a ≡ b) × (more ≡ rest)

not_none : (xs more : List ℕ) (b : ℕ) → (xs ++ b ∷ []) ++ more ≡ [] → ⊥
not_none [] more b e = cc
not_none (x ∷ xs) more b e = cc

some_line : (line : CertificateLine) (more : List ℕ) → certificate_line line ++ more ≡ [] → ⊥
unfolding certificate_line
some_line line more e = not_none _ more 10 e

-- lines that begin a text of lines begin these
front_of : Apart → (front said : List CertificateLine) (rest : List ℕ) → All FitsLine front → All FitsLine said → flat_map certificate_line front ++ rest ≡ flat_map certificate_line said
    → (more : List CertificateLine) × (said ≡ front ++ more) × (rest ≡ flat_map certificate_line more)
front_of law [] said rest fit fits e = (said, refl, e)
front_of law (x ∷ front) [] rest fit fits e =
    absurd (some_line x (flat_map certificate_line front ++ rest) (sym (append_assoc (certificate_line x) (flat_map certificate_line front) rest) ∙ e))
front_of law (x ∷ front) (y ∷ said) rest fit fits e =
    let step = law x y (flat_map certificate_line front ++ rest) (flat_map certificate_line said) (All-head FitsLine x front fit) (All-head FitsLine y said fits)
    (sym (append_assoc (certificate_line x) (flat_map certificate_line front) rest) ∙ e) in
    let r = front_of law front said rest (All-tail FitsLine x front fit) (All-tail FitsLine y said fits) step.1 in
    (r.0, (λ i. sym step.0 i ∷ r.1 i), r.2)

-- the text that follows isn't one of lines that go on with this one, so it is one of others
parted_more : (own : List CertificateLine) (bytes : List ℕ) (index : ℕ) (p : PartsAt own bytes index) (more : List CertificateLine) → p.rest ≡ flat_map certificate_line more
    → slice_get more 0 ≡ slice_get own index → ⊥
parted_more own bytes index p [] rest same = p.more (sym same) rest
parted_more own bytes index p (x ∷ more) rest same = p.other x (flat_map certificate_line more) (sym same) rest

pub differs : OneText → Apart → (own : Certificate) (bytes : List ℕ) (index : ℕ) → PartsAt (certificate_lines own) bytes index → (found : Heading) (more : List CertificateLine)
    → certificate_at bytes ≡ Ok (lines.Heading found ∷ more) → found ≡ own.heading → Differ own bytes (index + 1)
differs one law own bytes index p found more read same =
    let said = lines.Heading found ∷ more in
    let c = one bytes said read in
    let fits : All FitsLine said = subst (All FitsLine) (sym c.1) c.2 in
    let text : flat_map certificate_line (take index (certificate_lines own)) ++ p.rest ≡ flat_map certificate_line said
    = sym p.before ∙ c.3 ∙ ap (flat_map certificate_line) (sym c.1) in
    let r = front_of law (take index (certificate_lines own)) said p.rest p.fits fits text in
    let down : index + 1 - 1 ≡ index = omega arith in
    record {
      said = said;
      read = read;
      first = ap (λ h. Some (lines.Heading h)) same;
      differ = record {
        before =
            subst (λ n. take n said ≡ take n (certificate_lines own)) (sym down)
            (ap (take index) r.1 ∙ taken_front (certificate_lines own) r.0 index p.within);
        here =
            subst (λ n. ¬ (slice_get said n ≡ slice_get (certificate_lines own) n)) (sym down)
            (λ alike. parted_more (certificate_lines own) bytes index p r.0 r.2
            (sym (got_behind (certificate_lines own) r.0 index p.within) ∙ sym (ap (λ l. slice_get l index) r.1) ∙ alike));
        some = omega arith;
      };
    }

-- the own text doesn't part from the own lines
left_over : (own : List CertificateLine) (index : ℕ) (rest : List ℕ) → index ≤ length own → flat_map certificate_line own ≡ flat_map certificate_line (take index own) ++ rest
    → (more : List CertificateLine) × (rest ≡ flat_map certificate_line more) × (slice_get more 0 ≡ slice_get own index)
left_over [] zero rest low e = ([], sym e, refl)
left_over [] (suc i) rest low e = absurd (omega (arith, low))
left_over (x ∷ own) zero rest low e = (x ∷ own, sym e, refl)
left_over (x ∷ own) (suc i) rest low e =
    left_over own i rest (omega (arith, low))
    (same_behind (certificate_line x) (flat_map certificate_line own) (flat_map certificate_line (take i own) ++ rest)
    (e ∙ append_assoc (certificate_line x) (flat_map certificate_line (take i own)) rest))
  where
    same_behind : (xs ys zs : List ℕ) → xs ++ ys ≡ xs ++ zs → ys ≡ zs
    same_behind [] ys zs same = same
    same_behind (x ∷ xs) ys zs same =
        same_behind xs ys zs (let f : x ∷ (xs ++ ys) ≡ x ∷ (xs ++ zs) = same in let tail : xs ++ ys ≡ xs ++ zs = cc in tail)

pub not_parted : (own : List CertificateLine) (bytes : List ℕ) (index : ℕ) → PartsAt own bytes index → bytes ≡ flat_map certificate_line own → ⊥
not_parted own bytes index p same =
    let r = left_over own index p.rest p.within (sym same ∙ p.before) in
    parted_more own bytes index p r.0 r.1 r.2

pub not_parted_at : (own : List CertificateLine) (bytes : List ℕ) (at : Option ℕ) (index : ℕ) (Q : Type 0) → MatchOption at Q (PartsAt own bytes) → at ≡ Some index → bytes ≡ flat_map certificate_line own → ⊥
not_parted_at own bytes None index Q parts is same = absurd (let no : None ≡ Some index = is in cc)
not_parted_at own bytes (Some i) index Q parts is same = not_parted own bytes i parts same

-- ---- headings

pub same_heading : (a b : Heading) → a.shape.n ≡ b.shape.n → a.shape.k ≡ b.shape.k → a.cloud.0 ≡ b.cloud.0 → a ≡ b
same_heading a b en ek cloud =
    let shape = same_shape a.shape b.shape en ek in
    λ i. record { shape = shape i; cloud = record { 0 = cloud i } }
