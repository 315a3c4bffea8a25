-- What is read of the halves, and what follows from it.
use Rattle.std.proofs.Common.{◌≡◌, ◌≢◌, ◌⊎◌, inl, inr, ℕ, zero, suc, ◌+◌, ◌-◌, ◌*◌, ◌%◌, ◌<◌, ◌≤◌, true, false, List, [], ◌∷◌, length, take, drop, Option, Some, None, Result, Ok, Err, refl, sym, ◌∙◌, ap, subst, arith, length-take, length-drop, eqb-true}
use Rattle.std.proofs.lemmas.Bool.{false≢true}
use Rattle.std.proofs.lemmas.List.{take-take, take_min}
use Rattle.cd_edges.specs.Shelf.{ReadsFrom}
use Rattle.journal_halves.specs.declared.errors.RecordErr.TheVariants as errors
use Rattle.journal_halves.specs.Records.{is_begun}
use Rattle.journal_halves.specs.Frames.{IsClosed, IsRecordAhead, HasBadLength, IsRecordCutOff}
use Rattle.journal_halves.specs.Outcomes.{DamageIs}
use Rattle.journal_halves.proofs.Taken.{record_on, bad_on, short_ahead, prefix_of, all_of, body_ahead, length_ahead}
use Rattle.journal_halves.proofs.Current.{epoch_small}
use Rattle.journal_start.specs.declared.fault.StartFault.{StartFault}
use Rattle.journal_start.specs.declared.start.Start.{Start}
use Rattle.journal_start.specs.Ranges.{IsStart}
use Rattle.journal_start.specs.Spelling.{start_bytes, epoch_of, IsSpelled}
use Rattle.journal_start.specs.Reading.{start_at, IsFaultPlaced}
use Rattle.journal_start.specs.declared.fault.StartFault.TheVariants.{Short, Wrong}
use Rattle.journal_halves.specs.Halves.{half_len, half_of, is_half_begun, HasStart, IsCurrent}
use Rattle.journal_halves.specs.declared.found.Found.{Found}
use Rattle.journal_halves.specs.declared.found.FindErr.{FindErr}
use Rattle.journal_halves.specs.declared.found.FindErr.TheVariants as finds
use Rattle.journal_halves.specs.Findings.{part_of, IsFaultAt, IsStartDamage, IsHalfSound, epoch_place, IsFoundDamage, InFirst, InSecond, Epochs, LookIs, OnFindFault, FindIs}
use Rattle.journal_halves.specs.Choices.{IsLaterStart, IsStartOfEither, AreAlike}

-- ---- a half's places

begun_take : (n : ℕ) (xs : List ℕ) → is_begun (take (suc (suc n)) xs) ≡ is_begun xs
begun_take n [] = refl
begun_take n (x ∷ []) = refl
begun_take n (x ∷ y ∷ xs) = refl

pub begun_ahead : (ahead xs : List ℕ) → ahead ≡ take 65541 xs → is_begun ahead ≡ is_begun xs
begun_ahead ahead xs e = ap is_begun e ∙ begun_take 65539 xs

pub begun_part : (half : ℕ) (journal : List ℕ) → is_begun (part_of half journal) ≡ is_half_begun half journal
begun_part half journal = begun_take 134217726 (half_of half journal)

short_of : (n : ℕ) (xs : List ℕ) → length (take n xs) ≤ n
short_of n xs = omega (arith, length-take n xs)

pub part_short : (half : ℕ) (journal : List ℕ) → length (part_of half journal) ≤ 134217728
part_short half journal = short_of half_len (half_of half journal)

pub ahead_part : (half : ℕ) (journal ahead : List ℕ) → ahead ≡ take 65541 (half_of half journal) → ahead ≡ take 65541 (part_of half journal)
ahead_part half journal ahead e = e ∙ sym (take-take 65541 half_len (half_of half journal) (omega arith))

pub has_start : (half : ℕ) (journal : List ℕ) (start : Start) → IsStart half start → IsRecordAhead (part_of half journal) (start_bytes start) → HasStart journal half start
has_start half journal start is r = record {
  is_start = is;
  record_is = record_on (part_of half journal) (half_of half journal) (prefix_of (part_of half journal) (half_of half journal) half_len refl) (start_bytes start) r;
}

-- what was read of a half that is begun, or isn't
module _ (half : ℕ) (journal ahead : List ℕ) (is : ahead ≡ take 65541 (half_of half journal)) where
  pub half_unbegun : is_begun ahead ≡ false → is_half_begun half journal ≡ false
  half_unbegun shut = sym (begun_ahead ahead (half_of half journal) is) ∙ shut

  pub half_begun : is_begun ahead ≡ true → is_half_begun half journal ≡ true
  half_begun opened = sym (begun_ahead ahead (half_of half journal) is) ∙ opened

  pub part_begun : is_begun ahead ≡ true → is_begun (part_of half journal) ≡ true
  part_begun opened = begun_part half journal ∙ half_begun opened

-- a read puts as much of a half in front of the window as is there, and fits
pub read_ahead : (held out : List ℕ) (place count : ℕ) → length out ≡ 65541 → ReadsFrom held place count out → take count out ≡ take 65541 (drop place held)
read_ahead held out place count size read = read.bytes ∙ ap (λ (n : ℕ). take n (drop place held)) (omega (arith, read.lesser, size, length-drop place held)) ∙ take_min 65541 (drop place held)

-- no device call failed
pub counted : {T : Type 0} (result : Result T FindErr) (failed other : Type 0) → OnFindFault result ⊥ (Unit {0}) → other → OnFindFault result failed other
counted (Ok value) failed other is holds = holds
counted (Err finds.Fault) failed other is holds = absurd is
counted (Err (finds.NotBegun len)) failed other is holds = holds
counted (Err (finds.Damaged at byte)) failed other is holds = holds

-- ---- the start's record

closed_unbegun : (ahead : List ℕ) → IsClosed ahead → is_begun ahead ≡ true → ⊥
closed_unbegun ahead c begun = shut c.gate c.behind c.shut (ap is_begun (sym c.spelled) ∙ begun)
  where
    shut : (gate : ℕ) (behind : List ℕ) → gate ≢ 1 → is_begun (gate ∷ behind) ≡ true → ⊥
    shut gate [] other e = false≢true e
    shut gate (x ∷ xs) other e = other (eqb-true gate 1 e)

module _ (half : ℕ) (ahead rest : List ℕ) (is : ahead ≡ take 65541 rest) (begun : is_begun rest ≡ true) where
  window : ahead ≡ take (length ahead) rest
  window = prefix_of ahead rest 65541 is

  some_rest : (xs : List ℕ) → is_begun xs ≡ true → 0 < length xs
  some_rest [] e = absurd (false≢true e)
  some_rest (x ∷ xs) e = omega arith

  pub never_closed : IsClosed ahead → ⊥
  never_closed c = closed_unbegun ahead c (begun_ahead ahead rest is ∙ begun)

  pub bad_length : HasBadLength ahead → (at byte : ℕ) → DamageIs ahead 0 (errors.Damaged at byte) → IsStartDamage half rest at byte
  bad_length bad at byte damage = inl (bad_on ahead rest window 0 bad at byte damage)

  pub cut_off : IsRecordCutOff ahead → (at byte : ℕ) → DamageIs ahead 0 (errors.Damaged at byte) → IsStartDamage half rest at byte
  cut_off cut at byte damage = inl (short_ahead ahead rest 0 (all_of ahead rest is cut.few) (some_rest rest begun) cut at byte damage)

  pub is_right : (body read : List ℕ) (start : Start) → IsRecordAhead ahead body → read ≡ body → IsSpelled half read start → IsStart half start × IsRecordAhead rest (start_bytes start)
  is_right body read start r same spelled =
      (spelled.is_start, subst (IsRecordAhead rest) (sym same ∙ spelled.bytes_are) (record_on ahead rest window body r))

  pub is_wrong : (body read : List ℕ) (fault : StartFault) (at byte : ℕ) → IsRecordAhead ahead body → read ≡ body → start_at half read ≡ Err fault → IsFaultAt fault at byte → IsStartDamage half rest at byte
  is_wrong body read fault at byte r same wrong place =
      inr (record { body = body; fault = fault; record_is = record_on ahead rest window body r; no_start = ap (start_at half) (sym same) ∙ wrong; place = place })

pub body_read : (ahead body : List ℕ) (len : ℕ) → IsRecordAhead ahead body → length body ≡ len → take len (drop 5 ahead) ≡ body
body_read ahead body len r size = ap (λ (n : ℕ). take n (drop 5 ahead)) (sym size) ∙ body_ahead ahead body r

pub room_read : (ahead body : List ℕ) (len : ℕ) → IsRecordAhead ahead body → length body ≡ len → len + 5 ≤ length ahead
room_read ahead body len r size = omega (arith, length_ahead ahead body r, size)

pub few_read : (ahead body read : List ℕ) → IsRecordAhead ahead body → read ≡ body → length read ≤ 65535
few_read ahead body read r same = omega (arith, r.is_body.few, ap length same)

pub placed_more : (n m : ℕ) (fault : StartFault) → n ≤ m → IsFaultPlaced n fault → IsFaultPlaced m fault
placed_more n m Short le is = tt
placed_more n m (Wrong place byte) le is = omega (arith, le, is)

-- ---- which of them is the current one

same_epoch : (a b : ℕ) → a ≤ 2 → b ≤ 2 → (a ≡ (b + 1) % 3 → ⊥) → (b ≡ (a + 1) % 3 → ⊥) → a ≡ b
same_epoch zero zero la lb n m = refl
same_epoch zero (suc zero) la lb n m = absurd (m refl)
same_epoch zero (suc (suc zero)) la lb n m = absurd (n refl)
same_epoch (suc zero) zero la lb n m = absurd (n refl)
same_epoch (suc zero) (suc zero) la lb n m = refl
same_epoch (suc zero) (suc (suc zero)) la lb n m = absurd (m refl)
same_epoch (suc (suc zero)) zero la lb n m = absurd (m refl)
same_epoch (suc (suc zero)) (suc zero) la lb n m = absurd (n refl)
same_epoch (suc (suc zero)) (suc (suc zero)) la lb n m = refl
same_epoch (suc (suc (suc a))) b la lb n m = absurd (omega (arith, la))
same_epoch zero (suc (suc (suc b))) la lb n m = absurd (omega (arith, lb))
same_epoch (suc zero) (suc (suc (suc b))) la lb n m = absurd (omega (arith, lb))
same_epoch (suc (suc zero)) (suc (suc (suc b))) la lb n m = absurd (omega (arith, lb))

abbrev seen : Option Start → Result (Option Start) FindErr
seen o = Ok o

-- the other half isn't begun, or it is the one before
other_half : (journal : List ℕ) (half : ℕ) (start : Start) (other : Option Start) → LookIs journal (1 - half) (seen other) → IsLaterStart start other
    → (is_half_begun (1 - half) journal ≡ false) ⊎ ((before : Start) × HasStart journal (1 - half) before × (epoch_of start.checkpoint ≡ (epoch_of before.checkpoint + 1) % 3))
other_half journal half start None looks later = inl looks
other_half journal half start (Some before) looks later = inr (before, looks, later)

module _ (journal : List ℕ) (first second : Option Start) (one : LookIs journal 0 (seen first)) (two : LookIs journal 1 (seen second)) where
  chosen_first : (found : Found) → found.half ≡ 0 → first ≡ Some found.start → IsLaterStart found.start second → IsCurrent journal found.half found.start
  chosen_first found half is later = subst (λ (h : ℕ). IsCurrent journal h found.start) (sym half) (record {
    is_half = inl refl;
    begun = subst (λ (o : Option Start). LookIs journal 0 (seen o)) is one;
    other = other_half journal 0 found.start second two later;
  })

  chosen_second : (found : Found) → found.half ≡ 1 → second ≡ Some found.start → IsLaterStart found.start first → IsCurrent journal found.half found.start
  chosen_second found half is later = subst (λ (h : ℕ). IsCurrent journal h found.start) (sym half) (record {
    is_half = inr refl;
    begun = subst (λ (o : Option Start). LookIs journal 1 (seen o)) is two;
    other = other_half journal 1 found.start first one later;
  })

  pub is_current : (found : Found) → IsStartOfEither first second found → IsCurrent journal found.half found.start
  is_current found (inl h) = chosen_first found h.0 h.1 h.2
  is_current found (inr h) = chosen_second found h.0 h.1 h.2

  pub are_equal : (start : Start) (at : ℕ) → AreAlike first second start → at ≡ half_len + epoch_place start → IsFoundDamage journal at 0
  are_equal start at alike place =
      let has_one = subst (λ (o : Option Start). LookIs journal 0 (seen o)) alike.first_is one in
      let has_two = subst (λ (o : Option Start). LookIs journal 1 (seen o)) alike.second_is two in
      let small_one = epoch_small 0 alike.one.header.format alike.one.checkpoint has_one.is_start.behind in
      let small_two = epoch_small 1 start.header.format start.checkpoint has_two.is_start.behind in
      Epochs (record {
        first = alike.one;
        second = start;
        has_first = has_one;
        has_second = has_two;
        same = same_epoch (epoch_of alike.one.checkpoint) (epoch_of start.checkpoint) small_one small_two alike.not_first alike.not_second;
        place = place;
        byte_is = refl;
      })

  pub none_begun : (len : ℕ) → (first ≡ None) × (second ≡ None) → len ≡ length journal → FindIs journal (Err (finds.NotBegun len))
  none_begun len none same =
      (subst (λ (o : Option Start). LookIs journal 0 (seen o)) none.0 one, subst (λ (o : Option Start). LookIs journal 1 (seen o)) none.1 two, same)

-- ---- a damaged half

sound_of : (journal : List ℕ) (half : ℕ) (o : Option Start) → LookIs journal half (seen o) → IsHalfSound journal half
sound_of journal half None looks = inl looks
sound_of journal half (Some start) looks = inr (start, looks)

in_first : (at n place : ℕ) → at ≡ 0 * n + place → at ≡ place
in_first at n place e = omega (arith, e)

in_second : (at n place : ℕ) → at ≡ 1 * n + place → at ≡ n + place
in_second at n place e = omega (arith, e)

pub first_damaged : (journal : List ℕ) (e : FindErr) → LookIs journal 0 (Err e) → FindIs journal (Err e)
first_damaged journal (finds.Damaged at byte) looks = InFirst looks.0 (subst (λ (n : ℕ). IsStartDamage 0 (part_of 0 journal) n byte) (sym (in_first at half_len looks.1 looks.3)) looks.2)
first_damaged journal (finds.NotBegun len) looks = absurd looks
first_damaged journal finds.Fault looks = tt

pub second_damaged : (journal : List ℕ) (first : Option Start) (e : FindErr) → LookIs journal 0 (seen first) → LookIs journal 1 (Err e) → FindIs journal (Err e)
second_damaged journal first (finds.Damaged at byte) one looks = InSecond looks.1 (sound_of journal 0 first one) looks.0 looks.2 (in_second at half_len looks.1 looks.3)
second_damaged journal first (finds.NotBegun len) one looks = absurd looks
second_damaged journal first finds.Fault one looks = tt
