use Rattle.std.proofs.Common.{◌≤◌, Result, Ok, OnOk}
use Rattle.audit_base.specs.CdEdges.area.Area.TheVariants.{Shares}
use Rattle.audit_base.specs.CdEdges.Disk.{Image}
use Rattle.audit_base.specs.CloudMemory.Live.{live_at}
use Rattle.blob_audit.specs.declared.errors.ReadErr.{ReadErr}
use Rattle.blob_audit.specs.Holding.{IsHeldInWindow, slot_at}
use Rattle.blob_audit.specs.Steps.{IsOnlyRead, AllAs, ShareRead}
use Rattle.blob_audit.proofs.slots.read_shares.Given as goal

abbrev pub invariant-loop-index : goal.invariant-loop-index
invariant-loop-index g l = record {
  read : IsOnlyRead {A = Unit {0}}
      (λ (image : Image) (r : Result (Unit {0}) ReadErr). AllAs l.index (λ i. ShareRead (live_at l.memory.shares (slot_at l.order i)) image) r × OnOk r (IsHeldInWindow (image Shares) l.held l.window))
      (g.V.Shelf.cloud_at l.fn.shelf) (g.V.Shelf.cloud_at l.shelf) l.cloud.0 (g.V.Shelf.faults l.fn.shelf) (g.V.Shelf.faults l.shelf) (Ok tt);
  count : l.held.count ≤ 4194304;
}
