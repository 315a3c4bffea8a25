-- What is found of a journal that is to be one of format 1. No public clause cites this module.
use Rattle.std.specs.Prelude.{◌≡◌, ◌≢◌, ℕ, ◌+◌, ◌*◌, List, length, Result, Ok, Err}
use Rattle.fresh_checkpoints.specs.CdBase.ids.CloudNo.{CloudNo}
use Rattle.fresh_checkpoints.specs.CdBase.shape.Shape.{Shape}
use Rattle.fresh_checkpoints.specs.CdEdges.Disk.{Store}
use Rattle.cloud_opening.specs.JournalStart.start.Start.{Start}
use Rattle.fresh_checkpoints.specs.JournalHalves.Beginnings.{IsUnbegun}
use Rattle.fresh_checkpoints.specs.JournalHalves.Halves.{half_len, IsCurrent}
use Rattle.fresh_checkpoints.specs.JournalHalves.Findings.{IsFoundDamage}
use Rattle.fresh_checkpoints.specs.JournalHalves.found.FindErr.{FindErr}
use Rattle.fresh_checkpoints.specs.JournalHalves.found.FindErr.TheVariants as finds
use Rattle.cloud_opening.specs.CommitJournal.errors.OpenErr.{OpenErr}
use Rattle.cloud_opening.specs.CommitJournal.errors.OpenErr.TheVariants as opens
use Rattle.cloud_opening.specs.CommitJournal.States.{JournalState}
use Rattle.cloud_opening.specs.CommitJournal.Openings.{IsOpened}
use Rattle.large_users.specs.MigrationModel.Migrating.{header_one}
use Rattle.store_migration.specs.declared.errors.OldErr.TheVariants.{NotBegun, Damaged, OtherStore, RoomsTooSmall}
use Rattle.store_migration.specs.declared.errors.MigrateErr.{MigrateErr}
use Rattle.store_migration.specs.declared.errors.MigrateErr.TheVariants as why
use Rattle.store_migration.specs.Exact.{IsNewHeader}

-- the answer where no half is the current one
abbrev pub err_of_find : FindErr → MigrateErr
err_of_find finds.Fault = why.Fault
err_of_find (finds.NotBegun len) = why.Open (NotBegun len)
err_of_find (finds.Damaged at byte) = why.Open (Damaged at byte)

-- the answer where the journal isn't opened
abbrev pub err_of_open : OpenErr → MigrateErr
err_of_open opens.Fault = why.Fault
err_of_open (opens.NotBegun len) = why.Open (NotBegun len)
err_of_open (opens.Damaged at byte) = why.Open (Damaged at byte)
err_of_open (opens.OtherStore found asked at) = why.Open (OtherStore found asked at)

-- which half is the current one, where its start isn't one of format 2 of this cloud
abbrev pub FoundAs : Shape → CloudNo → List ℕ → Result ℕ MigrateErr → Type 0
FoundAs shape cloud journal (Ok half) = (start : Start) × IsCurrent journal half start × ¬ (IsNewHeader shape cloud start.header)
FoundAs shape cloud journal (Err (why.Open (NotBegun len))) = IsUnbegun journal × (len ≡ length journal)
FoundAs shape cloud journal (Err (why.Open (Damaged at byte))) = IsFoundDamage journal at byte
FoundAs shape cloud journal (Err (why.Open (OtherStore found asked at))) = ⊥
FoundAs shape cloud journal (Err (why.Open (RoomsTooSmall room limit at))) = ⊥
FoundAs shape cloud journal (Err why.Already) = (half : ℕ) × (start : Start) × IsCurrent journal half start × IsNewHeader shape cloud start.header
FoundAs shape cloud journal (Err (why.TooLarge user room used limit)) = ⊥
FoundAs shape cloud journal (Err why.Fault) = Unit {0}
FoundAs shape cloud journal (Err why.NoMemory) = ⊥

-- The journal of format 1 is read up to its start, in the current half; or why it isn't.
abbrev pub OpenedAs : Shape → CloudNo → JournalState → Store → Result ℕ MigrateErr → Type 0
OpenedAs shape cloud after store (Ok half) = IsOpened after store (header_one shape cloud) × (after.current.half ≡ half)
OpenedAs shape cloud after store (Err (why.Open (NotBegun len))) = IsUnbegun store.read × (len ≡ length store.read)
OpenedAs shape cloud after store (Err (why.Open (Damaged at byte))) = IsFoundDamage store.read at byte
OpenedAs shape cloud after store (Err (why.Open (OtherStore found asked at))) = (half : ℕ) × (start : Start) × IsCurrent store.read half start
    × ¬ (IsNewHeader shape cloud start.header) × (start.header ≢ header_one shape cloud)
    × (found ≡ start.header) × (asked ≡ header_one shape cloud) × (at ≡ half * half_len + 5)
OpenedAs shape cloud after store (Err (why.Open (RoomsTooSmall room limit at))) = ⊥
OpenedAs shape cloud after store (Err why.Already) = (half : ℕ) × (start : Start) × IsCurrent store.read half start × IsNewHeader shape cloud start.header
OpenedAs shape cloud after store (Err (why.TooLarge user room used limit)) = ⊥
OpenedAs shape cloud after store (Err why.Fault) = Unit {0}
OpenedAs shape cloud after store (Err why.NoMemory) = ⊥
