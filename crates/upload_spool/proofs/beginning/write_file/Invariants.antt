use Rattle.std.proofs.Common.{◌≤◌, ◌-◌, IsTrue, length}
use Rattle.commit_journal.specs.CdEdges.Shelf.{IsCall, KeepsCounts}
use Rattle.upload_spool.specs.States.{IsWrittenSoFar}
use Rattle.upload_spool.proofs.beginning.write_file.Given as goal

abbrev pub invariant-loop-at : goal.invariant-loop-at
invariant-loop-at g l =
    record {
      within : l.at ≤ length l.bytes;
      call : IsCall (g.V.Shelf.cloud_at l.fn.shelf) (g.V.Shelf.cloud_at l.shelf) 0 (g.V.Shelf.faults l.fn.shelf) (g.V.Shelf.faults l.shelf);
      counts : KeepsCounts (g.V.Shelf.cloud_at l.fn.shelf 0) (g.V.Shelf.cloud_at l.shelf 0) (g.V.Shelf.faults l.fn.shelf) (g.V.Shelf.faults l.shelf);
      along : IsTrue (g.V.Shelf.cloud_at l.fn.shelf 0).told → IsWrittenSoFar (g.V.Shelf.cloud_at l.fn.shelf 0) (g.V.Shelf.cloud_at l.shelf 0) l.at l.bytes;
    }

abbrev pub decreases-loop-at : goal.decreases-loop-at
decreases-loop-at g l = length l.bytes - l.at
