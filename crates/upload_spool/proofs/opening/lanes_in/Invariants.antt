use Rattle.std.proofs.Common.{◌≡◌, ◌-◌, IsTrue, length, []}
use Rattle.commit_journal.specs.CdEdges.area.Area.TheVariants.{Journal}
use Rattle.commit_journal.specs.CdEdges.Shelf.{IsCall, KeepsCounts, Stays}
use Rattle.commit_journal.specs.declared.journal.Stage.TheVariants.{Reading}
use Rattle.commit_journal.specs.States as half
use Rattle.upload_spool.specs.Reading.{JobFields}
use Rattle.upload_spool.specs.Steps.{IsSpoolRead, AreNoted, notes_of}
use Rattle.upload_spool.proofs.opening.lanes_in.Given as goal

abbrev pub invariant-loop-noted : goal.invariant-loop-noted
invariant-loop-noted g l = record {
  stage : (half.state_of l.journal).stage ≡ Reading;
  limit : (half.state_of l.journal).limit ≡ (half.state_of l.initial.journal).limit;
  stays : Stays (g.V.Shelf.cloud_at l.initial.shelf 0) (g.V.Shelf.cloud_at l.shelf 0);
  call : IsCall (g.V.Shelf.cloud_at l.initial.shelf) (g.V.Shelf.cloud_at l.shelf) 0 (g.V.Shelf.faults l.initial.shelf) (g.V.Shelf.faults l.shelf);
  counts : KeepsCounts (g.V.Shelf.cloud_at l.initial.shelf 0) (g.V.Shelf.cloud_at l.shelf 0) (g.V.Shelf.faults l.initial.shelf) (g.V.Shelf.faults l.shelf);
  noted : AreNoted l.shape (half.state_of l.initial.journal).current.gate (half.state_of l.journal).current.gate l.noted.items;
  read : IsTrue (g.V.Shelf.cloud_at l.initial.shelf 0).told → (job : JobFields)
      → IsSpoolRead l.shape (half.state_of l.initial.journal) ((g.V.Shelf.cloud_at l.initial.shelf 0).now Journal) (notes_of job [])
      → IsSpoolRead l.shape (half.state_of l.journal) ((g.V.Shelf.cloud_at l.initial.shelf 0).now Journal) (notes_of job l.noted.items);
}

abbrev pub decreases-loop-noted : goal.decreases-loop-noted
decreases-loop-noted g l = l.shape.n - length l.noted.items
