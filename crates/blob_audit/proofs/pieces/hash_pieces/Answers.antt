use Rattle.std.proofs.Common.{◌≡◌, ℕ, ◌+◌, ◌-◌, ◌*◌, ◌<◌, min, length, take, drop, Result, Ok, IfOk, refl, arith}
use Rattle.audit_base.specs.CdEdges.Disk.{Image}
use Rattle.audit_base.specs.Whole.{stored_at}
use Rattle.blob_audit.specs.declared.errors.ReadErr.{ReadErr}
use Rattle.blob_audit.specs.Steps.{IsTaken}
use Rattle.blob_audit.proofs.Hashing.{Hashed, window_more}
use Rattle.blob_audit.proofs.Joining.{joined}
use Rattle.blob_audit.proofs.pieces.hash_pieces.Goals as goal

pub loop-number-preserved : goal.loop-number-preserved
loop-number-preserved g c =
    let area = c.args.area in let at = c.args.at in let len = c.args.len in let number = c.loop-number.number in let count = c.loop-number.count in
    let more = c.in-Ok.more in let old = c.loop-number.hasher in let new = c.hash_piece.new.hasher in
    let piece = length c.split_at_mut-piece.result.0.now in
    let less : number * 4194304 < len = omega (arith, c.loop-number-test.true, c.div_ceil-number-end.ensures) in
    let long : piece ≡ min 4194304 (len - number * 4194304) = omega (arith, less, c.split_at_mut-piece.ensures.front_len, c.min.ensures) in
    record {
      read = joined
          (λ (image : Image) (r : Result (Unit {0}) ReadErr). Hashed (take (min (number * 4194304) len) (drop at (image area))) count old)
          (λ (image : Image) (r : Result ℕ ReadErr). IfOk r (λ (taken : ℕ). IsTaken (stored_at (image area) (at + number * 4194304) piece) taken old new))
          (λ (image : Image) (r : Result (Unit {0}) ReadErr). Hashed (take (min ((number + 1) * 4194304) len) (drop at (image area))) (count + more) new)
          (g.V.Shelf.cloud_at c.args.shelf.now) (g.V.Shelf.cloud_at c.loop-number.shelf) (g.V.Shelf.cloud_at c.hash_piece.new.shelf) c.args.cloud.0
          (g.V.Shelf.faults c.args.shelf.now) (g.V.Shelf.faults c.loop-number.shelf) (g.V.Shelf.faults c.hash_piece.new.shelf) tt (Ok more) (Ok tt) refl
          (λ image before taken. window_more (image area) at len number piece count more old new less long before taken)
          c.loop-number.invariant.read c.in-Ok.ensures.read;
      few = omega (arith, long, c.loop-number.invariant.few, c.in-Ok.ensures.bound);
    }
