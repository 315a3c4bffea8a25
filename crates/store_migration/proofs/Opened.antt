-- The journal of format 1, found and opened.
use Rattle.std.proofs.Common.{◌≡◌, ℕ, List, false, Ok, Err, sym, ◌∙◌, subst}
use Rattle.fresh_checkpoints.specs.CdBase.ids.CloudNo.{CloudNo}
use Rattle.fresh_checkpoints.specs.CdBase.shape.Shape.{Shape}
use Rattle.fresh_checkpoints.specs.CdEdges.Disk.{Store}
use Rattle.cloud_opening.specs.JournalStart.start.Start.{Start}
use Rattle.fresh_checkpoints.specs.JournalHalves.found.Found.{Found}
use Rattle.fresh_checkpoints.specs.JournalHalves.found.FindErr.{FindErr}
use Rattle.fresh_checkpoints.specs.JournalHalves.found.FindErr.TheVariants as finds
use Rattle.fresh_checkpoints.specs.JournalHalves.Findings as findings
use Rattle.cloud_opening.specs.CommitJournal.errors.OpenErr.{OpenErr}
use Rattle.cloud_opening.specs.CommitJournal.errors.OpenErr.TheVariants as opens
use Rattle.cloud_opening.specs.CommitJournal.Openings as openings
use Rattle.cloud_opening.specs.CommitJournal.States.{JournalState}
use Rattle.cloud_opening.proofs.Current.{same_half, same_start}
use Rattle.large_users.specs.MigrationModel.Migrating.{header_one}
use Rattle.store_migration.specs.declared.errors.OldErr.TheVariants.{NotBegun, Damaged, OtherStore, RoomsTooSmall}
use Rattle.store_migration.specs.declared.errors.MigrateErr.{MigrateErr}
use Rattle.store_migration.specs.declared.errors.MigrateErr.TheVariants as why
use Rattle.store_migration.specs.Answers.{OnMigrateFault, IfNoMemory}
use Rattle.store_migration.specs.Exact.{IsNewHeader}
use Rattle.store_migration.specs.Finding.{err_of_find, err_of_open, FoundAs, OpenedAs}

-- ---- no half is the current one

found_of : (shape : Shape) (cloud : CloudNo) (journal : List ℕ) (error : FindErr) → findings.FindIs journal (Err error) → FoundAs shape cloud journal (Err (err_of_find error))
found_of shape cloud journal finds.Fault found = tt
found_of shape cloud journal (finds.NotBegun len) found = (record { first = found.0; second = found.1 }, found.2)
found_of shape cloud journal (finds.Damaged at byte) found = found

pub not_found : (shape : Shape) (cloud : CloudNo) (journal : List ℕ) (error : FindErr) (e : MigrateErr) → e ≡ err_of_find error → findings.FindIs journal (Err error) → FoundAs shape cloud journal (Err e)
not_found shape cloud journal error e is found = subst (λ (x : MigrateErr). FoundAs shape cloud journal (Err x)) (sym is) (found_of shape cloud journal error found)

counts_of_find : (error : FindErr) (failed other : Type 0) → findings.OnFindFault {T = Found} (Err error) failed other → OnMigrateFault {T = ℕ} (Err (err_of_find error)) failed other
counts_of_find finds.Fault failed other is = is
counts_of_find (finds.NotBegun len) failed other is = is
counts_of_find (finds.Damaged at byte) failed other is = is

pub find_counts : (error : FindErr) (e : MigrateErr) (failed other : Type 0) → e ≡ err_of_find error → findings.OnFindFault {T = Found} (Err error) failed other → OnMigrateFault {T = ℕ} (Err e) failed other
find_counts error e failed other is counts = subst (λ (x : MigrateErr). OnMigrateFault {T = ℕ} (Err x) failed other) (sym is) (counts_of_find error failed other counts)

memory_of_find : (error : FindErr) → IfNoMemory {T = ℕ} (Err (err_of_find error)) ⊥
memory_of_find finds.Fault = tt
memory_of_find (finds.NotBegun len) = tt
memory_of_find (finds.Damaged at byte) = tt

pub find_memory : (error : FindErr) (e : MigrateErr) → e ≡ err_of_find error → IfNoMemory {T = ℕ} (Err e) ⊥
find_memory error e is = subst (λ (x : MigrateErr). IfNoMemory {T = ℕ} (Err x) ⊥) (sym is) (memory_of_find error)

-- ---- it isn't opened

counts_of_open : (error : OpenErr) (failed other : Type 0) → openings.OnFault {T = Unit {0}} (Err error) failed other → OnMigrateFault {T = ℕ} (Err (err_of_open error)) failed other
counts_of_open opens.Fault failed other is = is
counts_of_open (opens.NotBegun len) failed other is = is
counts_of_open (opens.Damaged at byte) failed other is = is
counts_of_open (opens.OtherStore found asked at) failed other is = is

pub open_counts : (error : OpenErr) (e : MigrateErr) (failed other : Type 0) → e ≡ err_of_open error → openings.OnFault {T = Unit {0}} (Err error) failed other → OnMigrateFault {T = ℕ} (Err e) failed other
open_counts error e failed other is counts = subst (λ (x : MigrateErr). OnMigrateFault {T = ℕ} (Err x) failed other) (sym is) (counts_of_open error failed other counts)

memory_of_open : (error : OpenErr) → IfNoMemory {T = ℕ} (Err (err_of_open error)) ⊥
memory_of_open opens.Fault = tt
memory_of_open (opens.NotBegun len) = tt
memory_of_open (opens.Damaged at byte) = tt
memory_of_open (opens.OtherStore found asked at) = tt

pub open_memory : (error : OpenErr) (e : MigrateErr) → e ≡ err_of_open error → IfNoMemory {T = ℕ} (Err e) ⊥
open_memory error e is = subst (λ (x : MigrateErr). IfNoMemory {T = ℕ} (Err x) ⊥) (sym is) (memory_of_open error)

module _ (shape : Shape) (cloud : CloudNo) (store : Store) (half : ℕ) (found : FoundAs shape cloud store.read (Ok half)) (after : JournalState) where
  pub old_opened : openings.IsOpened after store (header_one shape cloud) → OpenedAs shape cloud after store (Ok half)
  old_opened o = (o, o.reading.half ∙ same_half store.read o.w.half half o.w.start found.0 o.reading.is_current found.1)

  opened_of : (error : OpenErr) → openings.OpensIs store.read (header_one shape cloud) false (Err error) → OpenedAs shape cloud after store (Err (err_of_open error))
  opened_of opens.Fault is = tt
  opened_of (opens.NotBegun len) is = (is.0, is.2)
  opened_of (opens.Damaged at byte) is = is
  opened_of (opens.OtherStore other asked at) is =
      let h = is.1 in (
        is.0,
        h.start,
        h.is_current,
        (λ new. found.2 (subst (λ (s : Start). IsNewHeader shape cloud s.header) (same_start store.read is.0 half h.start found.0 h.is_current found.1) new)),
        (λ same. is.2 (sym h.header_is ∙ same)),
        sym h.header_is,
        is.3,
        is.4,
      )

  pub not_opened : (error : OpenErr) (e : MigrateErr) → e ≡ err_of_open error → openings.OpensIs store.read (header_one shape cloud) false (Err error) → OpenedAs shape cloud after store (Err e)
  not_opened error e is answer = subst (λ (x : MigrateErr). OpenedAs shape cloud after store (Err x)) (sym is) (opened_of error answer)

-- what isn't found isn't opened
pub none_opened : (shape : Shape) (cloud : CloudNo) (store : Store) (after : JournalState) (error : MigrateErr) → FoundAs shape cloud store.read (Err error) → OpenedAs shape cloud after store (Err error)
none_opened shape cloud store after (why.Open (NotBegun len)) found = found
none_opened shape cloud store after (why.Open (Damaged at byte)) found = found
none_opened shape cloud store after (why.Open (OtherStore other asked at)) found = absurd found
none_opened shape cloud store after (why.Open (RoomsTooSmall room limit at)) found = found
none_opened shape cloud store after why.Already found = found
none_opened shape cloud store after (why.TooLarge user room used limit) found = found
none_opened shape cloud store after why.Fault found = tt
none_opened shape cloud store after why.NoMemory found = found
