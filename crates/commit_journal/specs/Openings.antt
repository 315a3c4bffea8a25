-- What an opening finds and leaves.
use Rattle.std.specs.Prelude.{◌≡◌, ◌≢◌, ◌⊎◌, ℕ, ◌+◌, ◌*◌, Bool, true, false, IsTrue, List, [], length, Result, Ok, Err, OnOk}
use Rattle.journal_halves.specs.CdEdges.area.Area.{Area}
use Rattle.journal_halves.specs.CdEdges.area.Area.TheVariants.{Journal}
use Rattle.journal_halves.specs.CdEdges.Disk.{Store, Areas, Cloud, Image, IsImage, IsAtArea, LeavesOnly}
use Rattle.journal_halves.specs.CdEdges.Shelf.{stable, Stays}
use Rattle.journal_halves.specs.JournalStart.start.Header.{Header}
use Rattle.journal_halves.specs.JournalStart.start.Start.{Start}
use Rattle.journal_halves.specs.Halves.{half_len, is_half_begun, IsCurrent}
use Rattle.journal_halves.specs.Journals.{Where, HasChain}
use Rattle.journal_halves.specs.Records.{IsJournal}
use Rattle.journal_halves.specs.declared.found.Found.{Found}
use Rattle.journal_halves.specs.Findings.{IsFoundDamage}
use Rattle.commit_journal.specs.declared.errors.OpenErr.{OpenErr}
use Rattle.commit_journal.specs.declared.errors.OpenErr.TheVariants.{Fault, NotBegun, Damaged, OtherStore}
use Rattle.commit_journal.specs.declared.journal.Stage.{Stage}
use Rattle.commit_journal.specs.declared.journal.Stage.TheVariants.{Shut, Reading}
use Rattle.commit_journal.specs.States.{JournalState, IsJournalReading}
use Rattle.journal_halves.specs.Beginnings.{IsUnbegun, new_of}

-- The current half begins with this header.
pub record HasHeader (journal : List ℕ) (half : ℕ) (header : Header) : Type 0 where
  pub start : Start
  pub is_current : IsCurrent journal half start
  pub header_is : start.header ≡ header

-- no half is begun, or half 0 has this header and no other record
abbrev pub IsNewOrUnbegun : Header → List ℕ → Type 0
IsNewOrUnbegun header journal = IsUnbegun journal ⊎ HasChain journal (new_of header)

-- A crash leaves what it might have left before; or, where no half is begun and one is to be, it leaves that so or with this
-- header alone, and the other areas as it might have left them before.
abbrev pub MayBeBegun : Areas → Header → Bool → Image → Type 0
MayBeBegun old header begin image = IsImage old image ⊎ (IsTrue begin × IsUnbegun (old Journal).read × IsAtArea old Journal (IsNewOrUnbegun header) image)

-- what an opening answers over an area of these bytes
abbrev pub OpensIs : List ℕ → Header → Bool → Result (Unit {0}) OpenErr → Type 0
OpensIs journal asked begin (Ok value) = (IsUnbegun journal × IsTrue begin) ⊎ ((half : ℕ) × HasHeader journal half asked)
OpensIs journal asked begin (Err (OtherStore found wanted at)) = (half : ℕ) × HasHeader journal half found × (found ≢ asked) × (wanted ≡ asked) × (at ≡ half * half_len + 5)
OpensIs journal asked begin (Err (Damaged at byte)) = IsFoundDamage journal at byte
OpensIs journal asked begin (Err Fault) = Unit {0}
OpensIs journal asked begin (Err (NotBegun len)) = IsUnbegun journal × (begin ≡ false) × (len ≡ length journal)

-- one fact where a device call failed, and another for every other answer
abbrev pub OnFault : {T : Type 0} → Result T OpenErr → Type 0 → Type 0 → Type 0
OnFault (Ok value) failed other = other
OnFault (Err Fault) failed other = failed
OnFault (Err (NotBegun len)) failed other = other
OnFault (Err (Damaged at byte)) failed other = other
OnFault (Err (OtherStore found wanted at)) failed other = other

-- It isn't that no half is begun.
abbrev pub HasBegun : {T : Type 0} → Result T OpenErr → Type 0
HasBegun (Ok value) = Unit {0}
HasBegun (Err (NotBegun len)) = ⊥
HasBegun (Err Fault) = Unit {0}
HasBegun (Err (Damaged at byte)) = Unit {0}
HasBegun (Err (OtherStore found wanted at)) = Unit {0}

-- The current half's chain, which begins with this header, is read up to its start.
pub record IsOpened (state : JournalState) (store : Store) (header : Header) : Type 0 where
  pub w : Where
  pub header_is : w.start.header ≡ header
  pub none : w.bodies ≡ []
  pub reading : IsJournalReading state store w

-- What an opening does to a told cloud: each image since, the answer, and what stands after Ok.
pub record IsOpening (header : Header) (begin : Bool) (old new : Cloud) (after : JournalState) (result : Result (Unit {0}) OpenErr) : Type 0 where
  pub any_moment : LeavesOnly old new (MayBeBegun old.now header begin)
  pub answer : OpensIs (old.now Journal).read header begin result
  pub opened : OnOk result (IsOpened after (new.now Journal) header)
  -- where no half was begun, half 0 has this header then, and no other record
  pub unbegun : IsUnbegun (old.now Journal).read → OnOk result (HasChain (new.now Journal).read (new_of header))
  -- and half 1 isn't begun still
  pub alone : IsUnbegun (old.now Journal).read → OnOk result (is_half_begun 1 (new.now Journal).read ≡ false)
  pub others : OnOk result ((other : Area) → other ≢ Journal → new.now other ≡ old.now other)

-- a crash leaves it as it reads
abbrev pub IsSynced : Store → Type 0
IsSynced store = store ≡ stable store.read

-- ---- the steps of an opening

-- what is answered of a current half that was found
abbrev pub FoundHalfIs : JournalState → Store → Found → Header → Result (Unit {0}) OpenErr → Type 0
FoundHalfIs after store found asked (Ok value) = IsOpened after store asked × HasHeader store.read found.half asked
FoundHalfIs after store found asked (Err (OtherStore other wanted at)) = HasHeader store.read found.half other × (other ≢ asked) × (wanted ≡ asked) × (at ≡ found.half * half_len + 5)
FoundHalfIs after store found asked (Err Fault) = ⊥
FoundHalfIs after store found asked (Err (NotBegun len)) = ⊥
FoundHalfIs after store found asked (Err (Damaged at byte)) = ⊥

-- an area in which no half is begun, of so many bytes, which a crash leaves as it reads
pub record IsFree (store : Store) (len : ℕ) : Type 0 where
  pub synced : store ≡ stable store.read
  pub unbegun : IsUnbegun store.read
  pub len_is : len ≡ length store.read

-- the same, where the first place is there
pub record IsReady (store : Store) : Type 0 where
  pub synced : store ≡ stable store.read
  pub unbegun : IsUnbegun store.read
  pub closed : IsJournal [] store.read

abbrev pub LeavesFree : ℕ → Cloud → Cloud → Type 0
LeavesFree len old new = IsTrue old.told → IsFree (old.now Journal) len → LeavesOnly old new (IsAtArea old.now Journal IsUnbegun)

abbrev pub HasReady : {T E : Type 0} → ℕ → Cloud → Cloud → Result T E → Type 0
HasReady len old new result = IsTrue old.told → IsFree (old.now Journal) len → OnOk result (IsReady (new.now Journal))

abbrev pub LeavesBegun : ℕ → Header → Cloud → Cloud → Type 0
LeavesBegun len header old new = IsTrue old.told → IsFree (old.now Journal) len → LeavesOnly old new (IsAtArea old.now Journal (IsNewOrUnbegun header))

abbrev pub HasNew : {T E : Type 0} → ℕ → JournalState → Header → Cloud → Cloud → Result T E → Type 0
HasNew len after header old new result = IsTrue old.told → IsFree (old.now Journal) len
    → OnOk result (IsJournalReading after (new.now Journal) (new_of header)
    × HasChain (new.now Journal).read (new_of header)
    × (is_half_begun 1 (new.now Journal).read ≡ false))

-- No device call failed.
abbrev pub IsAnswered : Result (Unit {0}) OpenErr → Type 0
IsAnswered (Ok value) = Unit {0}
IsAnswered (Err Fault) = ⊥
IsAnswered (Err (NotBegun len)) = Unit {0}
IsAnswered (Err (Damaged at byte)) = Unit {0}
IsAnswered (Err (OtherStore found wanted at)) = Unit {0}
