use Rattle.std.proofs.Common.{◌*◌, ◌≤◌, Result, Ok, min, take, drop}
use Rattle.audit_base.specs.CdEdges.Disk.{Image}
use Rattle.blob_audit.specs.declared.errors.ReadErr.{ReadErr}
use Rattle.blob_audit.specs.Steps.{IsOnlyRead}
use Rattle.blob_audit.proofs.Hashing.{Hashed}
use Rattle.blob_audit.proofs.pieces.hash_pieces.Given as goal

abbrev pub invariant-loop-number : goal.invariant-loop-number
invariant-loop-number g l = record {
  read : IsOnlyRead {A = Unit {0}} (λ (image : Image) (r : Result (Unit {0}) ReadErr). Hashed (take (min (l.number * 4194304) l.len) (drop l.at (image l.area))) l.count l.hasher)
      (g.V.Shelf.cloud_at l.fn.shelf) (g.V.Shelf.cloud_at l.shelf) l.cloud.0 (g.V.Shelf.faults l.fn.shelf) (g.V.Shelf.faults l.shelf) (Ok tt);
  few : l.count ≤ l.number * 4194304;
}
