-- The kinds of words of a certificate: what is read is spelled so, and what is spelled so is read.
use Rattle.std.proofs.Common.{◌≡◌, ℕ, ◌<◌, ◌≤◌, true, eqb, List, [], ◌∷◌, ◌++◌, length, Some, Ok, Err, refl, sym, ap, ◌∙◌, append_assoc, arith, inl, inr}
use Rattle.std.specs.Prelude.{All, codes, decimal}
use Rattle.std.specs.Str.{bytes_eq}
use Rattle.std.specs.List.{AllByRecursion}
use Rattle.std.proofs.lemmas.Bool.{eq-eqb, eqb-true}
use Rattle.std.proofs.lemmas.Slice.Eq.{bytes_eq-Decides}
use Rattle.std.proofs.lemmas.List.Elements.{All-from_recursion, recursion_from_All}
use Rattle.session.specs.CdBase.shape.Shape.{Shape}
use Rattle.session.specs.Grammar.Words.{field_at}
use Rattle.session.specs.Grammar.Numerals.{number, capped}
use Rattle.session.specs.Grammar.Hexadecimal.{hex, unhex}
use Rattle.session.proofs.Grammar.Laws.{Takes, bind_ok, bind_err, rest_fits}
use Rattle.session.proofs.Grammar.WordLaws.{Plain, Ends, Any, Reads, LawfulText, keep_some, keep_again, field_took, field_reread, field_fails}
use Rattle.session.proofs.Grammar.NumeralLaws.{number_reads, capped_takes, capped_again, decimal_plain}
use Rattle.session.proofs.Grammar.HexadecimalLaws.{unhex_takes, unhex_again, hex_plain}
use Rattle.session.specs.Transcript.Ranges.{IsPrint}
use Rattle.session.specs.Transcript.Reading.{print_in}
use Rattle.session.specs.Reading.{needed, shape_at}
use Rattle.session.proofs.Shapes.{shape_with_some}
use Rattle.session.proofs.Headers.{shape_text, needed_is}
use Rattle.session.proofs.Events.{find_passes, plain_by}
use Rattle.certificate.specs.declared.kinds.LineKind.{LineKind}
use Rattle.certificate.specs.declared.kinds.LineKind.TheVariants.{Heading, Share, File, End}
use Rattle.certificate.specs.declared.kinds.LineStage.{LineStage}
use Rattle.certificate.specs.Reading.{kind_name, kind_named, may_stand, kind_at}

-- ---- 64 digits

abbrev are_bytes : (bs : List ℕ) → AllByRecursion (λ b. b < 256) bs → All (λ byte. byte < 256) bs
are_bytes bs h = All-from_recursion _ _ h

print_takes : (text bs : List ℕ) → print_in text ≡ Some bs → (text ≡ hex bs) × IsPrint bs
unfolding print_in
print_takes text bs e =
    let k = keep_some (λ (bytes : List ℕ). eqb (length bytes) 32) (unhex text) bs e in
    let t = unhex_takes text bs k.0 in
    (t.0, (eqb-true (length bs) 32 k.1, are_bytes bs t.1))

print_again : (bs : List ℕ) → IsPrint bs → print_in (hex bs) ≡ Some bs
unfolding print_in
print_again bs h = keep_again (λ (bytes : List ℕ). eqb (length bytes) 32) (unhex (hex bs)) bs (unhex_again bs (recursion_from_All _ _ h.1)) (eq-eqb (length bs) 32 h.0)

pub print_reads : Reads print_in hex IsPrint
print_reads = record { takes = print_takes; again = print_again; plain = λ bs h. hex_plain bs }

-- ---- the shape

shape_takes : (bytes : List ℕ) (s : Shape) (rest : List ℕ) → Any bytes → shape_at bytes ≡ Ok (s, rest) → Takes Any bytes (shape_text s) rest × Unit {0}
unfolding shape_at needed
shape_takes bytes s rest any e =
    let a = bind_ok (field_at (capped 255) bytes) (λ n. field_at (needed n.0) n.1) (s, rest) e in
    let t = field_took (capped 255) bytes a.0.0 a.0.1 a.1 in
    let u = field_took (needed a.0.0) a.0.1 s rest a.2 in
    let v = shape_with_some a.0.0 (number 0 255 u.0) s u.1 in
    let small = s.few in
    let n-text : t.0 ≡ decimal s.n = capped_takes 255 t.0 a.0.0 (omega arith) t.1 (omega (arith, v.0)) ∙ ap decimal v.0 in
    let k-text : u.0 ≡ decimal s.k = ((number_reads 0 255 (omega arith)).takes u.0 s.k v.1).0 in (
      record {
        parts =
            t.2 ∙ ap (λ (r : List ℕ). (32 ∷ t.0) ++ r) u.2 ∙ ap (λ (x : List ℕ). (32 ∷ x) ++ ((32 ∷ u.0) ++ rest)) n-text ∙ ap (λ (x : List ℕ). (32 ∷ decimal s.n) ++ ((32 ∷ x) ++ rest)) k-text
            ∙ sym (append_assoc (32 ∷ decimal s.n) (32 ∷ decimal s.k) rest);
        known = tt;
      },
      tt,
    )

shape_again : (s : Shape) (rest : List ℕ) → Unit {0} → Ends rest → shape_at (shape_text s ++ rest) ≡ Ok (s, rest)
unfolding shape_at
shape_again s rest any ends =
    let a = s.spare in let b = s.few in
    let small : s.n < 255 = omega arith in
    let n = field_reread (capped 255) (decimal s.n) ((32 ∷ decimal s.k) ++ rest) s.n (capped_again 255 s.n small (omega arith)) (decimal_plain s.n (omega arith)) refl in
    let k = field_reread (needed s.n) (decimal s.k) rest s (needed_is s) (decimal_plain s.k (omega arith)) ends in
    ap shape_at (append_assoc (32 ∷ decimal s.n) (32 ∷ decimal s.k) rest) ∙ rw (n, k) refl

shape_fails : (bytes : List ℕ) (left : ℕ) → Any bytes → shape_at bytes ≡ Err left → left ≤ length bytes
unfolding shape_at
shape_fails bytes left any e =
    elim (bind_err (field_at (capped 255) bytes) (λ n. field_at (needed n.0) n.1) left e) [
      | inl h ↦ field_fails (capped 255) bytes left h
      | inr a ↦
          let t = field_took (capped 255) bytes a.0.0 a.0.1 a.1 in
          let fit = rest_fits bytes (32 ∷ t.0) a.0.1 t.2 in
          let le = field_fails (needed a.0.0) a.0.1 left a.2 in omega arith
    ]

pub lawful_shape : LawfulText shape_at shape_text (λ _. Unit {0})
lawful_shape = record { takes = shape_takes; again = shape_again; begins = λ s rest ends. refl; fails = shape_fails }

-- ---- the first word of a line

abbrev pub May : LineStage → LineKind → Type 0
May stage kind = may_stand stage kind ≡ true

kind_takes : (stage : LineStage) (text : List ℕ) (kind : LineKind) → kind_at stage text ≡ Some kind → (text ≡ kind_name kind) × May stage kind
unfolding kind_at
kind_takes stage text kind e =
    let k = keep_some (may_stand stage) (kind_named text) kind e in
    ((bytes_eq-Decides text (kind_name kind)).0 (find_passes (λ c. bytes_eq text (kind_name c)) (Heading ∷ Share ∷ File ∷ End ∷ []) kind k.0), k.1)

named_again : (kind : LineKind) → kind_named (kind_name kind) ≡ Some kind
named_again Heading = refl
named_again Share = refl
named_again File = refl
named_again End = refl

kind_again : (stage : LineStage) (kind : LineKind) → May stage kind → kind_at stage (kind_name kind) ≡ Some kind
unfolding kind_at
kind_again stage kind h = keep_again (may_stand stage) (kind_named (kind_name kind)) kind (named_again kind) h

pub one_plain : Plain (codes "1")
one_plain = plain_by (codes "1") refl

kind_plain : (kind : LineKind) → Plain (kind_name kind)
kind_plain Heading = plain_by (codes "audit") refl
kind_plain Share = plain_by (codes "share") refl
kind_plain File = plain_by (codes "file") refl
kind_plain End = plain_by (codes "end") refl

pub kind_reads : (stage : LineStage) → Reads (kind_at stage) kind_name (May stage)
kind_reads stage = record { takes = kind_takes stage; again = kind_again stage; plain = λ kind _. kind_plain kind }
