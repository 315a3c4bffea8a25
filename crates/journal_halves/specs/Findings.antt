-- What the halves of a journal are found to begin with.
use Rattle.std.specs.Prelude.{◌≡◌, ◌⊎◌, ℕ, ◌+◌, ◌*◌, true, false, List, take, length, ◌==◌, if◌then◌else◌, Option, Some, None, Result, Ok, Err}
use Rattle.journal_halves.specs.Records.{IsDamage}
use Rattle.journal_halves.specs.Frames.{IsRecordAhead}
use Rattle.journal_start.specs.declared.fault.StartFault.{StartFault}
use Rattle.journal_start.specs.declared.fault.StartFault.TheVariants.{Short, Wrong}
use Rattle.journal_start.specs.declared.start.Start.{Start}
use Rattle.journal_start.specs.Spelling.{epoch_of}
use Rattle.journal_start.specs.Reading.{start_at}
use Rattle.journal_halves.specs.Halves.{half_len, half_of, is_half_begun, HasStart, IsCurrent}
use Rattle.journal_halves.specs.declared.found.Found.{Found}
use Rattle.journal_halves.specs.declared.found.FindErr.{FindErr}
use Rattle.journal_halves.specs.declared.found.FindErr.TheVariants.{Fault, NotBegun, Damaged}

-- the places of a half, up to its end or the area's
abbrev pub part_of : ℕ → List ℕ → List ℕ
part_of half journal = take half_len (half_of half journal)

-- the fault of a body as a place and a byte of its record: the fault's own, or the first place of the length, whose byte is 0
abbrev pub IsFaultAt : StartFault → ℕ → ℕ → Type 0
IsFaultAt Short at byte = (at ≡ 1) × (byte ≡ 0)
IsFaultAt (Wrong place wrong) at byte = (at ≡ place + 5) × (byte ≡ wrong)

-- a record whose body is no start of the half
pub record IsBodyDamage (half : ℕ) (rest : List ℕ) (at byte : ℕ) : Type 0 where
  pub body : List ℕ
  pub fault : StartFault
  pub record_is : IsRecordAhead rest body
  pub no_start : start_at half body ≡ Err fault
  pub place : IsFaultAt fault at byte

-- The damage of the start of a half that has these places: of its frame, or of its body.
abbrev pub IsStartDamage : ℕ → List ℕ → ℕ → ℕ → Type 0
IsStartDamage half rest at byte = IsDamage rest 0 at byte ⊎ IsBodyDamage half rest at byte

-- The half has no open first gate, or a start.
abbrev pub IsHalfSound : List ℕ → ℕ → Type 0
IsHalfSound journal half = (is_half_begun half journal ≡ false) ⊎ ((start : Start) × HasStart journal half start)

-- the first place of the epoch in a start's record
abbrev pub epoch_place : Start → ℕ
epoch_place start = if start.header.format == 1 then 13 else 41

-- Both halves have a start, and these have one epoch: the first place of half 1's, whose byte is 0.
pub record AreEqual (journal : List ℕ) (at byte : ℕ) : Type 0 where
  pub first : Start
  pub second : Start
  pub has_first : HasStart journal 0 first
  pub has_second : HasStart journal 1 second
  pub same : epoch_of first.checkpoint ≡ epoch_of second.checkpoint
  pub place : at ≡ half_len + epoch_place second
  pub byte_is : byte ≡ 0

-- damage of a journal: half 0's start, then half 1's, then equal epochs
pub data IsFoundDamage (journal : List ℕ) (at byte : ℕ) : Type 0 where
  InFirst : is_half_begun 0 journal ≡ true → IsStartDamage 0 (part_of 0 journal) at byte → IsFoundDamage journal at byte
  InSecond : (place : ℕ) → IsHalfSound journal 0 → is_half_begun 1 journal ≡ true → IsStartDamage 1 (part_of 1 journal) place byte → at ≡ half_len + place → IsFoundDamage journal at byte
  Epochs : AreEqual journal at byte → IsFoundDamage journal at byte

-- what one half begins with, if it is begun
abbrev pub LookIs : List ℕ → ℕ → Result (Option Start) FindErr → Type 0
LookIs journal half (Ok None) = is_half_begun half journal ≡ false
LookIs journal half (Ok (Some start)) = HasStart journal half start
LookIs journal half (Err (Damaged at byte)) = (is_half_begun half journal ≡ true) × (place : ℕ) × IsStartDamage half (part_of half journal) place byte × (at ≡ half * half_len + place)
LookIs journal half (Err (NotBegun len)) = ⊥
LookIs journal half (Err Fault) = Unit {0}

-- one fact where a device call failed, and another for every other answer
abbrev pub OnFindFault : {T : Type 0} → Result T FindErr → Type 0 → Type 0 → Type 0
OnFindFault (Ok value) failed other = other
OnFindFault (Err Fault) failed other = failed
OnFindFault (Err (NotBegun len)) failed other = other
OnFindFault (Err (Damaged at byte)) failed other = other

-- which half is the current one, and its start; or why there is none
abbrev pub FindIs : List ℕ → Result Found FindErr → Type 0
FindIs journal (Ok found) = IsCurrent journal found.half found.start
FindIs journal (Err (NotBegun len)) = (is_half_begun 0 journal ≡ false) × (is_half_begun 1 journal ≡ false) × (len ≡ length journal)
FindIs journal (Err (Damaged at byte)) = IsFoundDamage journal at byte
FindIs journal (Err Fault) = Unit {0}
