use Rattle.std.proofs.Common.{Option, Ok, subst}
use Rattle.audit_base.specs.CdEdges.area.Area.TheVariants.{Recipes}
use Rattle.audit_base.specs.FileIndex.key.Entry.{Entry}
use Rattle.audit_base.specs.FileIndex.key.FileKey.{FileKey}
use Rattle.pool_map.specs.Slots.{slot_of}
use Rattle.audit_base.specs.Whole.{tables_of}
use Rattle.blob_audit.specs.Holding.{Along}
use Rattle.blob_audit.specs.Steps.{IsOnlyRead, FileRead}
use Rattle.blob_audit.proofs.Joining.{unread}
use Rattle.blob_audit.proofs.slots.read_file.Goals as goal

pub returns-in-Some-clause-read : goal.returns-in-Some-clause-read
returns-in-Some-clause-read g c =
    subst (λ (o : Option (FileKey × Entry)). IsOnlyRead {A = Unit {0}} (Along Recipes (FileRead c.args.shape (tables_of c.args.memory.now) o) c.args.held.now c.args.window.now c.compare_entry.new.held c.compare_entry.new.window)
    (g.V.Shelf.cloud_at c.args.shelf.now) (g.V.Shelf.cloud_at c.compare_entry.new.shelf) c.args.cloud.0
    (g.V.Shelf.faults c.args.shelf.now) (g.V.Shelf.faults c.compare_entry.new.shelf) c.compare_entry.result)
    c.in-Some.ensures.value c.compare_entry.ensures.read

pub returns-in-None-clause-read : goal.returns-in-None-clause-read
returns-in-None-clause-read g c =
    let held = c.args.held.now in let window = c.args.window.now in
    unread (Along Recipes (FileRead c.args.shape (tables_of c.args.memory.now) (slot_of c.args.memory.now.files.slots c.args.slot)) held window held window)
    (g.V.Shelf.cloud_at c.args.shelf.now) c.args.cloud.0 (g.V.Shelf.faults c.args.shelf.now) tt
    (λ image was. (subst (λ (o : Option (FileKey × Entry)). FileRead c.args.shape (tables_of c.args.memory.now) o image (Ok tt)) c.in-None.ensures.value tt, was))
