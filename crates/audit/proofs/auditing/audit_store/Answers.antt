use Rattle.std.proofs.Common.{◌≡◌, refl, sym, subst, Err}
use Rattle.audit.specs.Inner.{IsAudited}
use Rattle.audit.proofs.Composing.{audit_ended, audit_done, audit_lacks}
use Rattle.audit.proofs.auditing.audit_store.Goals as goal

pub returns-in-Err : goal.returns-in-Err
returns-in-Err g c =
    subst (λ e. IsAudited c.args.store.now (g.V.Shelf.cloud_at c.args.shelf.now) (g.V.Shelf.cloud_at c.read_stored.new.shelf) (g.V.Shelf.faults c.args.shelf.now) (g.V.Shelf.faults c.read_stored.new.shelf) (Err e) c.args.out.now c.args.out.now)
    (sym c.audit_err.ensures)
    (audit_ended c.args.store.now (g.V.Shelf.cloud_at c.args.shelf.now) (g.V.Shelf.cloud_at c.read_stored.new.shelf) (g.V.Shelf.faults c.args.shelf.now) (g.V.Shelf.faults c.read_stored.new.shelf) c.in-Err.error
    c.in-Err.ensures.judged c.in-Err.ensures.stays c.in-Err.ensures.call c.in-Err.ensures.counts c.args.out.now c.args.out.now refl)

pub returns-in-Ok-write_own : goal.returns-in-Ok-write_own
returns-in-Ok-write_own g c =
    audit_done c.args.store.now (g.V.Shelf.cloud_at c.args.shelf.now) (g.V.Shelf.cloud_at c.read_stored.new.shelf) (g.V.Shelf.faults c.args.shelf.now) (g.V.Shelf.faults c.read_stored.new.shelf)
    c.in-Ok.ensures.judged c.in-Ok.ensures.stays c.in-Ok.ensures.call c.in-Ok.ensures.counts c.in-Ok-write_own.count c.args.out.now c.write_own.new.out c.in-Ok-write_own.ensures.count c.in-Ok-write_own.ensures.ok

pub returns-in-Err-write_own : goal.returns-in-Err-write_own
returns-in-Err-write_own g c =
    audit_lacks c.args.store.now (g.V.Shelf.cloud_at c.args.shelf.now) (g.V.Shelf.cloud_at c.read_stored.new.shelf) (g.V.Shelf.faults c.args.shelf.now) (g.V.Shelf.faults c.read_stored.new.shelf)
    c.in-Ok.ensures.stays c.in-Ok.ensures.call c.in-Ok.ensures.counts c.args.out.now c.write_own.new.out c.in-Err-write_own.ensures.err
