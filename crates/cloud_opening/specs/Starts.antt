-- What the opening of a journal whose areas are synced first does to a told cloud. No public clause cites this module.
use Rattle.std.specs.Prelude.{◌≡◌, ◌≢◌, Bool, false, Result, OnOk}
use Rattle.cloud_disk.specs.CdEdges.area.Area.{Area}
use Rattle.cloud_disk.specs.CdEdges.area.Area.TheVariants.{Journal}
use Rattle.cloud_disk.specs.CdEdges.Disk.{Cloud, LeavesOnly}
use Rattle.cloud_disk.specs.CdEdges.Shelf.{stable}
use Rattle.cloud_disk.specs.JournalStart.start.Header.{Header}
use Rattle.cloud_disk.specs.JournalHalves.Journals.{HasChain}
use Rattle.cloud_disk.specs.CommitJournal.errors.OpenErr.{OpenErr}
use Rattle.cloud_disk.specs.CommitJournal.Openings.{MayBeBegun, OpensIs, IsOpened, OnFault}
use Rattle.cloud_disk.specs.JournalHalves.Beginnings.{IsUnbegun}
use Rattle.cloud_disk.specs.CommitJournal.States.{JournalState}
use Rattle.cloud_disk.specs.JournalHalves.Beginnings.{new_of}
use Rattle.cloud_opening.specs.Synced.{AreSynced, BeginsSynced}

-- Each image since, the answer, and what stands after Ok.
pub record IsStarted (header : Header) (begin : Bool) (old new : Cloud) (after : JournalState) (result : Result (Unit {0}) OpenErr) : Type 0 where
  pub any_moment : LeavesOnly old new (MayBeBegun old.now header begin)
  pub answer : OpensIs (old.now Journal).read header begin result
  pub opened : OnOk result (IsOpened after (new.now Journal) header)
  pub begun : ¬ IsUnbegun (old.now Journal).read → OnOk result (new.now Journal ≡ stable (old.now Journal).read)
  pub unbegun : IsUnbegun (old.now Journal).read → OnOk result (HasChain (new.now Journal).read (new_of header))
  pub others : OnOk result ((other : Area) → other ≢ Journal → new.now other ≡ stable (old.now other).read)
  pub synced : OnFault result (Unit {0}) (BeginsSynced old new)
  -- nothing but the syncs was made, where none was to be begun or some half is
  pub unasked : begin ≡ false → OnFault result (Unit {0}) (AreSynced old new)
  pub begun_stays : ¬ IsUnbegun (old.now Journal).read → OnFault result (Unit {0}) (AreSynced old new)
