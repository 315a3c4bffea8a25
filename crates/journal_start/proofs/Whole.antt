-- Starts are read as they are spelled, and no other bytes are read.
use Rattle.std.proofs.Common.{◌≡◌, ◌⊎◌, ℕ, zero, suc, ◌+◌, ◌-◌, ◌<◌, ◌≤◌, Bool, true, false, leb, ltb, eqb, cond, List, [], ◌∷◌, ◌++◌, length, get_or, Option, Some, None, Result, Ok, Err, IsTrue, refl, sym, ap, subst, ◌∙◌, append_assoc, arith, inl, inr, eqb-true}
use Rattle.std.specs.Prelude.{MatchResult}
use Rattle.std.proofs.Props.{props}
use Rattle.std.proofs.lemmas.Bool.{or_cases, ltb-true, le-leb, lt-ltb}
use Rattle.std.proofs.lemmas.List.{append-nil, length-append}
use Rattle.message_fields.specs.CdBase.shape.Shape.{Shape}
use Rattle.message_fields.specs.Grammar.Readers.{◌>>=◌, ◌▷◌}
use Rattle.message_fields.proofs.Grammar.Laws.{bind_ok, bind_err, ok_is, err_is, rest_fits}
use Rattle.message_fields.proofs.Grammar.FieldLaws.{IsBytes, LawfulBytes}
use Rattle.message_fields.specs.Parts.{made}
use Rattle.journal_start.specs.declared.rooms.UserRooms.{UserRooms}
use Rattle.journal_start.specs.declared.start.Header.{Header}
use Rattle.journal_start.specs.declared.start.Checkpoint.{Checkpoint}
use Rattle.journal_start.specs.declared.start.Start.{Start}
use Rattle.journal_start.specs.declared.fault.StartFault.{StartFault}
use Rattle.journal_start.specs.declared.fault.StartFault.TheVariants as faults
use Rattle.journal_start.specs.Ranges.{AreRooms, usual_rooms, IsHeader, IsCheckpoint, IsBehind, IsStart}
use Rattle.journal_start.specs.Spelling.{rooms_bytes, front_bytes, checkpoint_bytes, behind_header, start_bytes, IsSpelled}
use Rattle.journal_start.specs.Reading.{is_format, is_shape, Front, front_at, rooms_at, first_checkpoint_at, second_checkpoint_at, plain_or, Fields, fields_of, tail_at, make_fields, fields_at, wrong_at, judged, start_at, IsFaultPlaced}
use Rattle.journal_start.proofs.Lawful.{lawful_front, spell_front, FitsFront, lawful_rooms, lawful_first, lawful_second}

-- ---- what stands behind a header

abbrev Read : Type 0
Read = List ℕ → Result (Checkpoint × List ℕ) ℕ

module _ (format : ℕ) (read : Read) (laws : LawfulBytes read (checkpoint_bytes format) (IsCheckpoint format)) where
  some_takes : (half : ℕ) (bytes : List ℕ) (o : Option Checkpoint) (rest : List ℕ) → IsBytes bytes → made Some read bytes ≡ Ok (o, rest) → (bytes ≡ behind_header format o ++ rest) × IsBehind half format o
  some_takes half bytes o rest known e =
      let a = bind_ok (read bytes) (λ x. Ok (Some x.0, x.1)) (o, rest) e in
      let t = laws.takes bytes a.0.0 a.0.1 known a.1 in
      let one : Option Checkpoint × List ℕ = (Some a.0.0, a.0.1) in
      subst (λ (p : Option Checkpoint × List ℕ). (bytes ≡ behind_header format p.0 ++ p.1) × IsBehind half format p.0) (ok_is one (o, rest) a.2) (t.0.parts, t.1)

  plain_takes : (half : ℕ) (bytes : List ℕ) (o : Option Checkpoint) (rest : List ℕ) → IsBytes bytes → plain_or half read bytes ≡ Ok (o, rest) → (bytes ≡ behind_header format o ++ rest) × IsBehind half format o
  unfolding plain_or
  plain_takes zero [] o rest known e =
      let none : Option Checkpoint × List ℕ = (None, []) in
      subst (λ (p : Option Checkpoint × List ℕ). ([] ≡ behind_header format p.0 ++ p.1) × IsBehind zero format p.0) (ok_is none (o, rest) e) (refl, refl)
  plain_takes zero (byte ∷ bytes) o rest known e = some_takes zero (byte ∷ bytes) o rest known e
  plain_takes (suc half) bytes o rest known e = some_takes (suc half) bytes o rest known e

  some_fails : (bytes : List ℕ) (left : ℕ) → IsBytes bytes → made Some read bytes ≡ Err left → left ≤ length bytes
  some_fails bytes left known e =
      elim (bind_err (read bytes) (λ x. Ok (Some x.0, x.1)) left e) [
        | inl h ↦ laws.fails bytes left known h
        | inr a ↦ absurd (let k = a.2 in cc)
      ]

  plain_fails : (half : ℕ) (bytes : List ℕ) (left : ℕ) → IsBytes bytes → plain_or half read bytes ≡ Err left → left ≤ length bytes
  unfolding plain_or
  plain_fails zero [] left known e = absurd (let k = e in cc)
  plain_fails zero (byte ∷ bytes) left known e = some_fails (byte ∷ bytes) left known e
  plain_fails (suc half) bytes left known e = some_fails bytes left known e

  some_again : (c : Checkpoint) (rest : List ℕ) → IsCheckpoint format c → made Some read (checkpoint_bytes format c ++ rest) ≡ Ok (Some c, rest)
  some_again c rest is = ap (λ (r : Result (Checkpoint × List ℕ) ℕ). r >>= λ x. Ok (Some x.0, x.1)) (laws.again c rest is tt)

  plain_again : (half : ℕ) (o : Option Checkpoint) (rest : List ℕ) → IsBehind half format o → (o ≡ None → rest ≡ []) → plain_or half read (behind_header format o ++ rest) ≡ Ok (o, rest)
  unfolding plain_or
  plain_again zero None rest is end = let none : rest ≡ [] = end refl in rw none refl
  plain_again (suc half) None rest is end = absurd (omega (arith, is))
  plain_again zero (Some c) rest is end = some_again c rest is
  plain_again (suc half) (Some c) rest is end = some_again c rest is

-- ---- the rooms and what stands behind them

abbrev tail_bytes : ℕ → UserRooms → Option Checkpoint → List ℕ
tail_bytes format rooms o = cond (eqb format 1) (behind_header format o) (rooms_bytes rooms ++ behind_header format o)

-- in format 1 the rooms are the usual ones
pub record FitsTail (half format : ℕ) (rooms : UserRooms) (o : Option Checkpoint) : Type 0 where
  pub are : AreRooms rooms
  pub usual : format ≡ 1 → rooms ≡ usual_rooms
  pub behind : IsBehind half format o

abbrev Tail : Type 0
Tail = UserRooms × Option Checkpoint

usual_are : AreRooms usual_rooms
usual_are = record { some = omega arith; few = omega arith; shares = omega arith; recipes = omega arith; owners = omega arith; files = omega arith }

first_takes : (half : ℕ) (bytes : List ℕ) (t : Tail) (rest : List ℕ) → IsBytes bytes → tail_at half 1 bytes ≡ Ok (t, rest) → (bytes ≡ tail_bytes 1 t.0 t.1 ++ rest) × FitsTail half 1 t.0 t.1
unfolding tail_at
first_takes half bytes t rest known e =
    let a = bind_ok (plain_or half first_checkpoint_at bytes) (λ x. Ok ((usual_rooms, x.0), x.1)) (t, rest) e in
    let p = plain_takes 1 first_checkpoint_at lawful_first half bytes a.0.0 a.0.1 known a.1 in
    let one : Tail × List ℕ = ((usual_rooms, a.0.0), a.0.1) in
    subst (λ (q : Tail × List ℕ). (bytes ≡ tail_bytes 1 q.0.0 q.0.1 ++ q.1) × FitsTail half 1 q.0.0 q.0.1) (ok_is one (t, rest) a.2)
    (p.0, record { are = usual_are; usual = λ _. refl; behind = p.1 })

second_takes : (half : ℕ) (bytes : List ℕ) (t : Tail) (rest : List ℕ) → IsBytes bytes → tail_at half 2 bytes ≡ Ok (t, rest) → (bytes ≡ tail_bytes 2 t.0 t.1 ++ rest) × FitsTail half 2 t.0 t.1
unfolding tail_at
second_takes half bytes t rest known e =
    let a = bind_ok (rooms_at bytes) (λ a. plain_or half second_checkpoint_at a.1 >>= λ b. Ok ((a.0, b.0), b.1)) (t, rest) e in
    let r = lawful_rooms.takes bytes a.0.0 a.0.1 known a.1 in
    let b = bind_ok (plain_or half second_checkpoint_at a.0.1) (λ b. Ok ((a.0.0, b.0), b.1)) (t, rest) a.2 in
    let p = plain_takes 2 second_checkpoint_at lawful_second half a.0.1 b.0.0 b.0.1 r.0.known b.1 in
    let parts : bytes ≡ (rooms_bytes a.0.0 ++ behind_header 2 b.0.0) ++ b.0.1 =
    r.0.parts ∙ ap (λ (l : List ℕ). rooms_bytes a.0.0 ++ l) p.0 ∙ sym (append_assoc (rooms_bytes a.0.0) (behind_header 2 b.0.0) b.0.1) in
    let one : Tail × List ℕ = ((a.0.0, b.0.0), b.0.1) in
    subst (λ (q : Tail × List ℕ). (bytes ≡ tail_bytes 2 q.0.0 q.0.1 ++ q.1) × FitsTail half 2 q.0.0 q.0.1) (ok_is one (t, rest) b.2)
    (parts, record { are = r.1; usual = λ e. absurd (omega (arith, e)); behind = p.1 })

tail_fails : (half format : ℕ) (bytes : List ℕ) (left : ℕ) → (format ≡ 1) ⊎ (format ≡ 2) → IsBytes bytes → tail_at half format bytes ≡ Err left → left ≤ length bytes
unfolding tail_at
tail_fails half format bytes left is known e = elim is [
  | inl one ↦
      let f = subst (λ (x : ℕ). tail_at half x bytes ≡ Err left) one e in
      elim (bind_err (plain_or half first_checkpoint_at bytes) (λ x. Ok ((usual_rooms, x.0), x.1)) left f) [
        | inl h ↦ plain_fails 1 first_checkpoint_at lawful_first half bytes left known h
        | inr a ↦ absurd (let k = a.2 in cc)
      ]
  | inr two ↦
      let f = subst (λ (x : ℕ). tail_at half x bytes ≡ Err left) two e in
      elim (bind_err (rooms_at bytes) (λ a. plain_or half second_checkpoint_at a.1 >>= λ b. Ok ((a.0, b.0), b.1)) left f) [
        | inl h ↦ lawful_rooms.fails bytes left known h
        | inr a ↦
            let r = lawful_rooms.takes bytes a.0.0 a.0.1 known a.1 in
            elim (bind_err (plain_or half second_checkpoint_at a.0.1) (λ b. Ok ((a.0.0, b.0), b.1)) left a.2) [
              | inl h ↦ omega (arith, plain_fails 2 second_checkpoint_at lawful_second half a.0.1 left r.0.known h, rest_fits bytes (rooms_bytes a.0.0) a.0.1 r.0.parts)
              | inr b ↦ absurd (let k = b.2 in cc)
            ]
      ]
]

first_again : (half : ℕ) (rooms : UserRooms) (o : Option Checkpoint) (rest : List ℕ) → FitsTail half 1 rooms o → (o ≡ None → rest ≡ []) → tail_at half 1 (tail_bytes 1 rooms o ++ rest) ≡ Ok ((rooms, o), rest)
unfolding tail_at
first_again half rooms o rest fits end =
    ap (λ (r : Result (Option Checkpoint × List ℕ) ℕ). r >>= λ x. Ok ((usual_rooms, x.0), x.1)) (plain_again 1 first_checkpoint_at lawful_first half o rest fits.behind end)
    ∙ ap (λ (r : UserRooms). Ok ((r, o), rest)) (sym (fits.usual refl))

second_again : (half : ℕ) (rooms : UserRooms) (o : Option Checkpoint) (rest : List ℕ) → FitsTail half 2 rooms o → (o ≡ None → rest ≡ []) → tail_at half 2 (tail_bytes 2 rooms o ++ rest) ≡ Ok ((rooms, o), rest)
unfolding tail_at
second_again half rooms o rest fits end =
    let first = ap rooms_at (append_assoc (rooms_bytes rooms) (behind_header 2 o) rest) ∙ lawful_rooms.again rooms (behind_header 2 o ++ rest) fits.are tt in
    ap (λ (r : Result (UserRooms × List ℕ) ℕ). r >>= λ a. plain_or half second_checkpoint_at a.1 >>= λ b. Ok ((a.0, b.0), b.1)) first
    ∙ ap (λ (r : Result (Option Checkpoint × List ℕ) ℕ). r >>= λ b. Ok ((rooms, b.0), b.1)) (plain_again 2 second_checkpoint_at lawful_second half o rest fits.behind end)

-- ---- all of a start

formats : (format : ℕ) → IsTrue (is_format format) → (format ≡ 1) ⊎ (format ≡ 2)
formats format e = elim (or_cases (eqb format 1) (eqb format 2) e) [ inl one ↦ inl (eqb-true format 1 one) | inr two ↦ inr (eqb-true format 2 two) ]

abbrev pub whole_bytes : Fields → List ℕ
whole_bytes f = 67 ∷ 68 ∷ 83 ∷ 84 ∷ f.format ∷ f.n ∷ f.k ∷ f.cloud ∷ tail_bytes f.format f.rooms f.checkpoint

pub record FitsFields (half : ℕ) (f : Fields) : Type 0 where
  pub front : FitsFront (tt, (f.format, ((f.n, f.k), f.cloud)))
  pub tail : FitsTail half f.format f.rooms f.checkpoint

tail_takes : (half format : ℕ) (bytes : List ℕ) (t : Tail) (rest : List ℕ) → (format ≡ 1) ⊎ (format ≡ 2) → IsBytes bytes → tail_at half format bytes ≡ Ok (t, rest)
    → (bytes ≡ tail_bytes format t.0 t.1 ++ rest) × FitsTail half format t.0 t.1
tail_takes half format bytes t rest is known e = elim is [
  | inl one ↦ subst (λ (x : ℕ). (bytes ≡ tail_bytes x t.0 t.1 ++ rest) × FitsTail half x t.0 t.1) (sym one) (first_takes half bytes t rest known (subst (λ (x : ℕ). tail_at half x bytes ≡ Ok (t, rest)) one e))
  | inr two ↦ subst (λ (x : ℕ). (bytes ≡ tail_bytes x t.0 t.1 ++ rest) × FitsTail half x t.0 t.1) (sym two) (second_takes half bytes t rest known (subst (λ (x : ℕ). tail_at half x bytes ≡ Ok (t, rest)) two e))
]

tail_again : (half format : ℕ) (rooms : UserRooms) (o : Option Checkpoint) (rest : List ℕ) → (format ≡ 1) ⊎ (format ≡ 2) → FitsTail half format rooms o → (o ≡ None → rest ≡ [])
    → tail_at half format (tail_bytes format rooms o ++ rest) ≡ Ok ((rooms, o), rest)
tail_again half format rooms o rest is fits end = elim is [
  | inl one ↦ subst (λ (x : ℕ). tail_at half x (tail_bytes x rooms o ++ rest) ≡ Ok ((rooms, o), rest)) (sym one) (first_again half rooms o rest (subst (λ (x : ℕ). FitsTail half x rooms o) one fits) end)
  | inr two ↦ subst (λ (x : ℕ). tail_at half x (tail_bytes x rooms o ++ rest) ≡ Ok ((rooms, o), rest)) (sym two) (second_again half rooms o rest (subst (λ (x : ℕ). FitsTail half x rooms o) two fits) end)
]

abbrev then_tail : ℕ → Front × List ℕ → Result (Fields × List ℕ) ℕ
then_tail half front = tail_at half front.0.1.0 front.1 >>= λ tail. Ok (make_fields front.0 tail.0, tail.1)

pub takes : (half : ℕ) (bytes : List ℕ) (f : Fields) (rest : List ℕ) → IsBytes bytes → fields_at half bytes ≡ Ok (f, rest) → (bytes ≡ whole_bytes f ++ rest) × FitsFields half f
unfolding fields_at
takes half bytes f rest known e =
    let a = bind_ok (front_at bytes) (then_tail half) (f, rest) e in
    let t = lawful_front.takes bytes a.0.0 a.0.1 known a.1 in
    let b = bind_ok (tail_at half a.0.0.1.0 a.0.1) (λ tail. Ok (make_fields a.0.0 tail.0, tail.1)) (f, rest) a.2 in
    let u = tail_takes half a.0.0.1.0 a.0.1 b.0.0 b.0.1 (formats a.0.0.1.0 t.1.1.0.1) t.0.known b.1 in
    let one : Fields × List ℕ = (make_fields a.0.0 b.0.0, b.0.1) in
    subst (λ (q : Fields × List ℕ). (bytes ≡ whole_bytes q.0 ++ q.1) × FitsFields half q.0) (ok_is one (f, rest) b.2)
    (t.0.parts ∙ ap (λ (l : List ℕ). spell_front a.0.0 ++ l) u.0, record { front = (tt, t.1.1); tail = u.1 })

pub fails : (half : ℕ) (bytes : List ℕ) (left : ℕ) → IsBytes bytes → fields_at half bytes ≡ Err left → left ≤ length bytes
unfolding fields_at
fails half bytes left known e = elim (bind_err (front_at bytes) (then_tail half) left e) [
  | inl h ↦ lawful_front.fails bytes left known h
  | inr a ↦
      let t = lawful_front.takes bytes a.0.0 a.0.1 known a.1 in
      elim (bind_err (tail_at half a.0.0.1.0 a.0.1) (λ tail. Ok (make_fields a.0.0 tail.0, tail.1)) left a.2) [
        | inl h ↦ omega (arith, tail_fails half a.0.0.1.0 a.0.1 left (formats a.0.0.1.0 t.1.1.0.1) t.0.known h, rest_fits bytes (spell_front a.0.0) a.0.1 t.0.parts)
        | inr b ↦ absurd (let k = b.2 in cc)
      ]
]

pub fields_again : (half : ℕ) (f : Fields) (rest : List ℕ) → FitsFields half f → (f.checkpoint ≡ None → rest ≡ []) → fields_at half (whole_bytes f ++ rest) ≡ Ok (f, rest)
unfolding fields_at
fields_again half f rest fits end =
    let tail = tail_bytes f.format f.rooms f.checkpoint ++ rest in
    let front : Front = (tt, (f.format, ((f.n, f.k), f.cloud))) in
    ap (λ (r : Result (Front × List ℕ) ℕ). r >>= then_tail half) (lawful_front.again front tail fits.front tt)
    ∙ ap (λ (r : Result (Tail × List ℕ) ℕ). r >>= λ t. Ok (make_fields front t.0, t.1)) (tail_again half f.format f.rooms f.checkpoint rest (formats f.format fits.front.1.0.1) fits.tail end)

-- ---- starts and their fields

pub same_shape : (a b : Shape) → a.n ≡ b.n → a.k ≡ b.k → a ≡ b
same_shape a b en ek =
    let Same : ℕ → ℕ → Type 0 = λ n k. (s : 2 ≤ k) (p : k < n) (f : n ≤ 16) → ◌≡◌ {A = Shape} a (record { n = n; k = k; several = s; spare = p; few = f }) in
    let start : Same a.n a.k = λ s p f. alike a.n a.k a.several s a.spare p a.few f in
    subst (λ (k : ℕ). Same b.n k) ek (subst (λ (n : ℕ). Same n a.k) en start) b.several b.spare b.few
  where
    alike : (n k : ℕ) (s t : 2 ≤ k) (p q : k < n) (f g : n ≤ 16) → ◌≡◌ {A = Shape} (record { n = n; k = k; several = s; spare = p; few = f }) (record { n = n; k = k; several = t; spare = q; few = g })
    alike n k s t p q f g =
        let one : IsProp (2 ≤ k) = hlevel props in let two : IsProp (k < n) = hlevel props in let three : IsProp (n ≤ 16) = hlevel props in
        λ i. record { n = n; k = k; several = one s t i; spare = two p q i; few = three f g i }

pub same_start : (a b : Start) → fields_of a ≡ fields_of b → a ≡ b
same_start a b e =
    let shape = same_shape a.header.shape b.header.shape (ap (λ (f : Fields). f.n) e) (ap (λ (f : Fields). f.k) e) in
    λ i. record {
      header = record { format = (e i).format; shape = shape i; cloud = record { 0 = (e i).cloud }; rooms = (e i).rooms };
      checkpoint = (e i).checkpoint;
    }

-- the spelling of a start is that of its fields
pub spelled_so : (s : Start) → start_bytes s ≡ whole_bytes (fields_of s)
spelled_so s = by_test (eqb s.header.format 1)
  where
    rooms : List ℕ
    rooms = rooms_bytes s.header.rooms

    behind : List ℕ
    behind = behind_header s.header.format s.checkpoint

    by_test : (b : Bool) → cond b (front_bytes s.header) (front_bytes s.header ++ rooms_bytes s.header.rooms) ++ behind_header s.header.format s.checkpoint
        ≡ 67 ∷ 68 ∷ 83 ∷ 84 ∷ s.header.format ∷ s.header.shape.n ∷ s.header.shape.k ∷ s.header.cloud.0 ∷ cond b (behind_header s.header.format s.checkpoint) (rooms_bytes s.header.rooms ++ behind_header s.header.format s.checkpoint)
    by_test true = refl
    by_test false = refl

shape_true : (n k : ℕ) → 2 ≤ k → k < n → n ≤ 16 → IsTrue (is_shape n k)
shape_true n k a b c = rw (le-leb 2 k a, lt-ltb k n b, le-leb n 16 c) refl

format_true : (format : ℕ) → (format ≡ 1) ⊎ (format ≡ 2) → IsTrue (is_format format)
format_true format is = elim is [ inl one ↦ rw one refl | inr two ↦ rw two refl ]

pub to_fields : (half : ℕ) (s : Start) → IsStart half s → FitsFields half (fields_of s)
to_fields half s is =
    let sh = s.header.shape in
    let small : s.header.format < 256 = elim is.header.format [ inl one ↦ omega (arith, one) | inr two ↦ omega (arith, two) ] in
    record {
      front = (
        tt,
        (
          (small, format_true s.header.format is.header.format),
          ((omega (arith, sh.few), (omega (arith, sh.few, sh.spare), shape_true sh.n sh.k sh.several sh.spare sh.few)), (omega (arith, is.header.cloud, sh.few), lt-ltb _ _ is.header.cloud)),
        ),
      );
      tail = record { are = is.header.rooms; usual = is.header.usual; behind = is.behind };
    }

pub from_fields : (half : ℕ) (s : Start) → FitsFields half (fields_of s) → IsStart half s
from_fields half s fits = record {
  header = record { format = formats s.header.format fits.front.1.0.1; cloud = ltb-true _ _ fits.front.1.1.1.1; rooms = fits.tail.are; usual = fits.tail.usual };
  behind = fits.tail.behind;
}

-- ---- all the bytes

judged_ok : (bytes : List ℕ) (r : Result (Fields × List ℕ) ℕ) (f : Fields) → judged bytes r ≡ Ok f → r ≡ Ok (f, [])
judged_ok bytes (Ok (c, [])) f e = let same : c ≡ f = cc in ap (λ (x : Fields). Ok (x, [])) same
judged_ok bytes (Ok (c, x ∷ rest)) f e = absurd cc
judged_ok bytes (Err zero) f e = absurd cc
judged_ok bytes (Err (suc left)) f e = absurd cc

pub again : (half : ℕ) (s : Start) → IsStart half s → start_at half (start_bytes s) ≡ Ok (fields_of s)
unfolding start_at
again half s is =
    let bytes = whole_bytes (fields_of s) in
    ap (start_at half) (spelled_so s) ∙ ap (judged bytes) (ap (fields_at half) (sym (append-nil bytes)) ∙ fields_again half (fields_of s) [] (to_fields half s is) (λ _. refl))

abbrev read_fields : Fields → Result Fields StartFault
read_fields f = Ok f

same_read : (a b : Fields) → read_fields a ≡ read_fields b → a ≡ b
same_read a b e = cc

pub one : (half : ℕ) (a b : Start) → IsStart half a → IsStart half b → start_bytes a ≡ start_bytes b → a ≡ b
one half a b is_a is_b e = same_start a b (same_read (fields_of a) (fields_of b) (sym (again half a is_a) ∙ ap (start_at half) e ∙ again half b is_b))

pub extra : (half : ℕ) (s : Start) (c : Checkpoint) (byte : ℕ) (rest : List ℕ) → IsStart half s → s.checkpoint ≡ Some c
    → start_at half (start_bytes s ++ byte ∷ rest) ≡ Err (faults.Wrong (length (start_bytes s)) byte)
unfolding start_at
extra half s c byte rest is has =
    let bytes = start_bytes s ++ byte ∷ rest in
    let read = ap (λ (l : List ℕ). fields_at half (l ++ byte ∷ rest)) (spelled_so s)
    ∙ fields_again half (fields_of s) (byte ∷ rest) (to_fields half s is) (λ none. absurd (let no : None ≡ Some c = sym none ∙ has in cc)) in
    let place : length bytes - length (byte ∷ rest) ≡ length (start_bytes s) = omega (arith, length-append (start_bytes s) (byte ∷ rest)) in
    ap (judged bytes) read ∙ ap (λ (n : ℕ). Err (faults.Wrong n (get_or bytes n 0))) place
    ∙ ap (λ (n : ℕ). Err (faults.Wrong (length (start_bytes s)) n)) (there (start_bytes s))
  where
    there : (xs : List ℕ) → get_or (xs ++ byte ∷ rest) (length xs) 0 ≡ byte
    there [] = refl
    there (x ∷ xs) = there xs

-- ---- what a function that reads a start answered

abbrev Answers : ℕ → List ℕ → Result Start StartFault → Type 0
Answers half body r = MatchResult r (λ start. start_at half body ≡ Ok (fields_of start)) (λ fault. start_at half body ≡ Err fault)

abbrev ok_start : Start → Result Start StartFault
ok_start s = Ok s

same_ok : (a b : Start) → ok_start a ≡ ok_start b → a ≡ b
same_ok a b e = cc

pub answer_law : (half : ℕ) (body : List ℕ) (r : Result Start StartFault) → IsBytes body → Answers half body r → (s : Start) → (r ≡ Ok s → IsSpelled half body s) × (IsSpelled half body s → r ≡ Ok s)
unfolding start_at
answer_law half body (Ok t) known e s =
    let u = takes half body (fields_of t) [] known (judged_ok body (fields_at half body) (fields_of t) e) in
    let spelled : IsSpelled half body t = record { is_start = from_fields half t u.1; bytes_are = u.0 ∙ append-nil (whole_bytes (fields_of t)) ∙ sym (spelled_so t) } in (
      λ same. subst (IsSpelled half body) (same_ok t s same) spelled,
      λ is. ap ok_start (same_start t s (same_read (fields_of t) (fields_of s) (sym e ∙ ap (start_at half) is.bytes_are ∙ again half s is.is_start))),
    )
answer_law half body (Err fault) known e s = (
  λ same. absurd (let k = same in cc),
  λ is. absurd (let k : read_fields (fields_of s) ≡ Err fault = sym (again half s is.is_start) ∙ ap (start_at half) (sym is.bytes_are) ∙ e in cc),
)

pub rest_within : (half : ℕ) (bytes : List ℕ) (f : Fields) (rest : List ℕ) → IsBytes bytes → fields_at half bytes ≡ Ok (f, rest) → length rest ≤ length bytes
rest_within half bytes f rest known e = rest_fits bytes (whole_bytes f) rest (takes half bytes f rest known e).0

pub placed : (bytes : List ℕ) (left : ℕ) (fault : StartFault) → 1 ≤ left → left ≤ length bytes → fault ≡ wrong_at bytes left → IsFaultPlaced (length bytes) fault
placed bytes left fault some few e = subst (IsFaultPlaced (length bytes)) (sym e) (omega (arith, some, few))

-- ---- the answer for all the bytes

pub reads_all : (half : ℕ) (bytes : List ℕ) (f : Fields) (rest : List ℕ) → fields_at half bytes ≡ Ok (f, rest) → length rest < 1 → start_at half bytes ≡ Ok f
unfolding start_at
reads_all half bytes f [] e none = ap (judged bytes) e
reads_all half bytes f (byte ∷ rest) e none = absurd (omega (arith, none))

pub reads_left : (half : ℕ) (bytes : List ℕ) (f : Fields) (rest : List ℕ) (fault : StartFault) → fields_at half bytes ≡ Ok (f, rest) → 1 ≤ length rest → fault ≡ wrong_at bytes (length rest) → start_at half bytes ≡ Err fault
unfolding start_at
reads_left half bytes f [] fault e some is = absurd (omega (arith, some))
reads_left half bytes f (byte ∷ rest) fault e some is = ap (judged bytes) e ∙ ap (λ (x : StartFault). Err x) (sym is)

pub reads_short : (half : ℕ) (bytes : List ℕ) (left : ℕ) → fields_at half bytes ≡ Err left → left ≡ 0 → start_at half bytes ≡ Err faults.Short
unfolding start_at
reads_short half bytes zero e none = ap (judged bytes) e
reads_short half bytes (suc left) e none = absurd (omega (arith, none))

pub reads_wrong : (half : ℕ) (bytes : List ℕ) (left : ℕ) (fault : StartFault) → fields_at half bytes ≡ Err left → 1 ≤ left → fault ≡ wrong_at bytes left → start_at half bytes ≡ Err fault
unfolding start_at
reads_wrong half bytes zero fault e some is = absurd (omega (arith, some))
reads_wrong half bytes (suc left) fault e some is = ap (judged bytes) e ∙ ap (λ (x : StartFault). Err x) (sym is)
