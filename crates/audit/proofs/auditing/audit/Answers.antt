use Rattle.std.proofs.Common.{◌≡◌, sym, subst}
use Rattle.audit.specs.Inner.{IsAudited}
use Rattle.audit.proofs.auditing.audit.Goals as goal

pub returns-clause-appends : goal.returns-clause-appends
returns-clause-appends g c =
    (subst (λ s. IsAudited s (g.V.Shelf.cloud_at c.args.shelf.now) (g.V.Shelf.cloud_at c.audit_store.new.shelf) (g.V.Shelf.faults c.args.shelf.now) (g.V.Shelf.faults c.audit_store.new.shelf) c.audit_store.result c.args.out.now c.audit_store.new.out)
    c.store.ensures.same c.audit_store.ensures).appends
