-- What the calls of a writer leave of a told cloud: its state before and after, and the cloud before and after.
use Rattle.std.specs.Prelude.{◌≡◌, ◌≢◌, ℕ, ◌+◌, ◌-◌, List, IsTrue, length, Result, OnOk}
use Rattle.journal_halves.specs.CdEdges.area.Area.{Area}
use Rattle.journal_halves.specs.CdEdges.area.Area.TheVariants.{Journal}
use Rattle.journal_halves.specs.CdEdges.Disk.{Cloud, LeavesOnly, IsAtArea, MayLeave, moment, overwritten}
use Rattle.journal_halves.specs.CdEdges.Shelf.{Stays, wrote, stable}
use Rattle.journal_halves.specs.JournalStart.start.Start.{Start}
use Rattle.journal_halves.specs.JournalStart.Spelling.{records_of}
use Rattle.journal_halves.specs.Journals.{Where, HasChain, IsEither, Stands, MayFollow, IsClosedAt, IsOpenAt, with_body}
use Rattle.commit_journal.specs.Turning.{WriterState, begun_with, IsWriterLaying}

-- ---- what each image since has

-- the chain, and the other areas as they might have been left before
abbrev pub KeepsThisChain : Cloud → Cloud → Where → Type 0
KeepsThisChain old new w = LeavesOnly old new (IsAtArea old.now Journal (λ image. HasChain image w))

-- whatever chain stands in the half that isn't this one
abbrev pub KeepsStanding : ℕ → Cloud → Cloud → Type 0
KeepsStanding half old new = IsTrue old.told → (w : Where) → Stands (old.now Journal) w → half ≡ 1 - w.half → KeepsThisChain old new w

-- whatever chain has a checkpoint laid behind it
abbrev pub KeepsWriterLaid : WriterState → Cloud → Cloud → Type 0
KeepsWriterLaid state old new = IsTrue old.told → (w next : Where) → IsWriterLaying state (old.now Journal) w next → KeepsThisChain old new w

-- that chain, or the checkpoint's
abbrev pub KeepsWriterOrSettles : WriterState → Cloud → Cloud → Type 0
KeepsWriterOrSettles state old new = IsTrue old.told → (w next : Where) → IsWriterLaying state (old.now Journal) w next
    → LeavesOnly old new (IsAtArea old.now Journal (IsEither w next))

-- what a write at this place may leave
abbrev pub LeavesWrite : ℕ → List ℕ → Cloud → Cloud → Type 0
LeavesWrite at bytes old new = IsTrue old.told → LeavesOnly old new (IsAtArea old.now Journal (MayLeave (wrote (old.now Journal) at bytes)))

-- ---- what stands after Ok

-- The chain stands still, and the other half's first place is there and doesn't open it.
abbrev pub HasClosed : {T E : Type 0} → ℕ → Cloud → Cloud → Result T E → Type 0
HasClosed half old new result = IsTrue old.told → (w : Where) → Stands (old.now Journal) w → half ≡ 1 - w.half
    → OnOk result (Stands (new.now Journal) w × IsClosedAt (new.now Journal).read half)

-- A checkpoint with this start is being laid, and has no record yet.
abbrev pub HasWriterTurned : {T E : Type 0} → WriterState → ℕ → Start → Cloud → Cloud → Result T E → Type 0
HasWriterTurned after half start old new result = IsTrue old.told → (w : Where) → Stands (old.now Journal) w → MayFollow w half start
    → OnOk result (IsWriterLaying after (new.now Journal) w (begun_with half start))

-- The checkpoint is laid as it was.
abbrev pub IsLaidStill : {T E : Type 0} → WriterState → WriterState → Cloud → Cloud → Result T E → Type 0
IsLaidStill before after old new result = IsTrue old.told → (w next : Where)
    → IsWriterLaying before (old.now Journal) w next
    → OnOk result (IsWriterLaying after (new.now Journal) w next)

-- It has one record more.
abbrev pub HasWriterLaid : {T E : Type 0} → WriterState → WriterState → List ℕ → Cloud → Cloud → Result T E → Type 0
HasWriterLaid before after body old new result = IsTrue old.told → (w next : Where)
    → IsWriterLaying before (old.now Journal) w next
    → OnOk result (IsWriterLaying after (new.now Journal) w (with_body next body))

-- The checkpoint's chain stands.
abbrev pub HasWriterSettled : {T E : Type 0} → WriterState → Cloud → Cloud → Result T E → Type 0
HasWriterSettled before old new result = IsTrue old.told → (w next : Where)
    → IsWriterLaying before (old.now Journal) w next
    → OnOk result (Stands (new.now Journal) next)

-- It has as many records as its start names.
abbrev pub IsFull : WriterState → Cloud → Type 0
IsFull before old = IsTrue old.told → (w next : Where) → IsWriterLaying before (old.now Journal) w next
    → length next.bodies ≡ records_of next.start.checkpoint

-- All of the area is on the disk, with these bytes written.
abbrev pub HasWritten : {T E : Type 0} → ℕ → List ℕ → Cloud → Cloud → Result T E → Type 0
HasWritten at bytes old new result = IsTrue old.told → OnOk result (new.now Journal ≡ stable (overwritten (old.now Journal).read at bytes))

-- the areas but the journal are as they were
abbrev pub OtherAreasStay : {T E : Type 0} → Cloud → Cloud → Result T E → Type 0
OtherAreasStay old new result = IsTrue old.told → OnOk result ((other : Area) → other ≢ Journal → new.now other ≡ old.now other)

-- the moment is so much higher
abbrev pub IsLater : {T E : Type 0} → ℕ → Cloud → Cloud → Result T E → Type 0
IsLater count old new result = IsTrue old.told → OnOk result (moment new ≡ moment old + count)

-- ---- where the half's first place needs no write, and where it does

abbrev pub IsSparedIfClosed : ℕ → Cloud → Cloud → Type 0
IsSparedIfClosed half old new = IsTrue old.told → IsClosedAt (old.now Journal).read half → Stays old new

abbrev pub IsLaterOpen : {T E : Type 0} → ℕ → ℕ → Cloud → Cloud → Result T E → Type 0
IsLaterOpen count half old new result = IsTrue old.told → IsOpenAt (old.now Journal).read half → OnOk result (moment new ≡ moment old + count)
