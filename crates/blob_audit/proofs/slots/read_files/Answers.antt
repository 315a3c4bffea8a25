use Rattle.std.proofs.Common.{◌≡◌, ◌+◌, ℕ, length, Result, Ok, Err, OnOk, refl, subst, arith}
use Rattle.audit_base.specs.CdEdges.area.Area.TheVariants.{Recipes}
use Rattle.audit_base.specs.CdEdges.Disk.{Image}
use Rattle.pool_map.specs.Slots.{slot_of}
use Rattle.audit_base.specs.Whole.{tables_of}
use Rattle.blob_audit.specs.declared.errors.ReadErr.{ReadErr}
use Rattle.blob_audit.specs.Holding.{IsHeldInWindow, Along, slot_at}
use Rattle.blob_audit.specs.Steps.{AllAs, FileRead, FilesRead}
use Rattle.blob_audit.proofs.Joining.{joined, retold, unread}
use Rattle.blob_audit.proofs.Listed.{none_yet}
use Rattle.blob_audit.proofs.Ordered.{all_read, one_along}
use Rattle.blob_audit.proofs.slots.read_files.Goals as goal

pub loop-index-init : goal.loop-index-init
loop-index-init g c =
    let t = tables_of c.args.memory.now in let slots = c.args.memory.now.files.slots in let order = c.args.order.now in let window = c.args.window.now in
    record {
      read = unread (λ (image : Image) (r : Result (Unit {0}) ReadErr). AllAs 0 (λ i. FileRead c.args.shape t (slot_of slots (slot_at order i)) image) r × OnOk r (IsHeldInWindow (image Recipes) (record { at = 0; asked = 0; count = 0 }) window))
          (g.V.Shelf.cloud_at c.args.shelf.now) c.args.cloud.0 (g.V.Shelf.faults c.args.shelf.now) tt
          (λ image. (none_yet (λ i. FileRead c.args.shape t (slot_of slots (slot_at order i)) image), record { bytes = refl }));
      count = omega arith;
    }

pub loop-index-preserved : goal.loop-index-preserved
loop-index-preserved g c =
    let t = tables_of c.args.memory.now in let slots = c.args.memory.now.files.slots in let order = c.args.order.now in let index = c.loop-index.index in
    let held = c.loop-index.held in let window = c.loop-index.window in let new = c.read_file.new.held in let after = c.read_file.new.window in
    record {
      read = joined (λ (image : Image) (r : Result (Unit {0}) ReadErr). AllAs index (λ i. FileRead c.args.shape t (slot_of slots (slot_at order i)) image) r × OnOk r (IsHeldInWindow (image Recipes) held window))
          (Along Recipes (FileRead c.args.shape t (slot_of slots (slot_at order index))) held window new after)
          (λ (image : Image) (r : Result (Unit {0}) ReadErr). AllAs (index + 1) (λ i. FileRead c.args.shape t (slot_of slots (slot_at order i)) image) r × OnOk r (IsHeldInWindow (image Recipes) new after))
          (g.V.Shelf.cloud_at c.args.shelf.now) (g.V.Shelf.cloud_at c.loop-index.shelf) (g.V.Shelf.cloud_at c.read_file.new.shelf) c.args.cloud.0
          (g.V.Shelf.faults c.args.shelf.now) (g.V.Shelf.faults c.loop-index.shelf) (g.V.Shelf.faults c.read_file.new.shelf) tt (Ok tt) (Ok tt) refl
          (λ image before here. one_along Recipes (λ i. FileRead c.args.shape t (slot_of slots (slot_at order i))) index held new window after image before here)
          c.loop-index.invariant.read c.in-Ok.ensures.read;
      count = c.read_file.ensures.count;
    }

pub returns-in-Err-clause-read : goal.returns-in-Err-clause-read
returns-in-Err-clause-read g c =
    let t = tables_of c.args.memory.now in let slots = c.args.memory.now.files.slots in let order = c.args.order.now in let index = c.loop-index.index in
    let held = c.loop-index.held in let window = c.loop-index.window in let new = c.read_file.new.held in let after = c.read_file.new.window in
    joined (λ (image : Image) (r : Result (Unit {0}) ReadErr). AllAs index (λ i. FileRead c.args.shape t (slot_of slots (slot_at order i)) image) r × OnOk r (IsHeldInWindow (image Recipes) held window))
    (Along Recipes (FileRead c.args.shape t (slot_of slots (slot_at order index))) held window new after) (FilesRead c.args.shape c.args.memory.now)
    (g.V.Shelf.cloud_at c.args.shelf.now) (g.V.Shelf.cloud_at c.loop-index.shelf) (g.V.Shelf.cloud_at c.read_file.new.shelf) c.args.cloud.0
    (g.V.Shelf.faults c.args.shelf.now) (g.V.Shelf.faults c.loop-index.shelf) (g.V.Shelf.faults c.read_file.new.shelf) tt (Err c.in-Err.error) (Err c.in-Err.error) refl
    (λ image before bad. (slot_at order index, (bad before.1).0)) c.loop-index.invariant.read c.in-Err.ensures.read

pub returns-clause-read : goal.returns-clause-read
returns-clause-read g c =
    let t = tables_of c.args.memory.now in let slots = c.args.memory.now.files.slots in let order = c.args.order.now in
    let end : c.loop-index.index ≡ length order = omega (arith, c.loop-index-test.false, c.loop-index.auto.index-end) in
    retold (λ (image : Image) (r : Result (Unit {0}) ReadErr). AllAs c.loop-index.index (λ i. FileRead c.args.shape t (slot_of slots (slot_at order i)) image) r × OnOk r (IsHeldInWindow (image Recipes) c.loop-index.held c.loop-index.window)) (FilesRead c.args.shape c.args.memory.now)
    (g.V.Shelf.cloud_at c.args.shelf.now) (g.V.Shelf.cloud_at c.loop-index.shelf) c.args.cloud.0
    (g.V.Shelf.faults c.args.shelf.now) (g.V.Shelf.faults c.loop-index.shelf) (Ok tt) (Ok tt) refl
    (λ image all.
    all_read (λ s. FileRead c.args.shape t (slot_of slots s) image) (length slots) order c.requires.all
    (subst (λ (n : ℕ). AllAs n (λ i. FileRead c.args.shape t (slot_of slots (slot_at order i)) image) (Ok tt)) end all.0))
    c.loop-index.invariant.read
