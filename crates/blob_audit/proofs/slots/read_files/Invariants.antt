use Rattle.std.proofs.Common.{◌≤◌, Result, Ok, OnOk}
use Rattle.audit_base.specs.CdEdges.area.Area.TheVariants.{Recipes}
use Rattle.audit_base.specs.CdEdges.Disk.{Image}
use Rattle.pool_map.specs.Slots.{slot_of}
use Rattle.audit_base.specs.Whole.{tables_of}
use Rattle.blob_audit.specs.declared.errors.ReadErr.{ReadErr}
use Rattle.blob_audit.specs.Holding.{IsHeldInWindow, slot_at}
use Rattle.blob_audit.specs.Steps.{IsOnlyRead, AllAs, FileRead}
use Rattle.blob_audit.proofs.slots.read_files.Given as goal

abbrev pub invariant-loop-index : goal.invariant-loop-index
invariant-loop-index g l = record {
  read : IsOnlyRead {A = Unit {0}}
      (λ (image : Image) (r : Result (Unit {0}) ReadErr). AllAs l.index (λ i. FileRead l.shape (tables_of l.memory) (slot_of l.memory.files.slots (slot_at l.order i)) image) r × OnOk r (IsHeldInWindow (image Recipes) l.held l.window))
      (g.V.Shelf.cloud_at l.fn.shelf) (g.V.Shelf.cloud_at l.shelf) l.cloud.0 (g.V.Shelf.faults l.fn.shelf) (g.V.Shelf.faults l.shelf) (Ok tt);
  count : l.held.count ≤ 4194304;
}
