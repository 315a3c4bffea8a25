use Rattle.std.proofs.Common.{◌≡◌, refl, sym, subst, Err}
use Rattle.audit.specs.Inner.{IsChecked}
use Rattle.audit.proofs.Composing.{all_placed, check_ended, check_done, check_refused}
use Rattle.audit.proofs.checking.check_store.Goals as goal

pub returns-in-Err-clause-checked : goal.returns-in-Err-clause-checked
returns-in-Err-clause-checked g c =
    check_refused c.args.store.now c.args.certificate.now (g.V.Shelf.cloud_at c.args.shelf.now) (g.V.Shelf.faults c.args.shelf.now) c.in-Err.error
    c.in-Err.ensures.judged c.in-Err.ensures.unread c.in-Err.ensures.uncalled c.in-Err.ensures.own

pub returns-in-Ok-read_good-clause-checked : goal.returns-in-Ok-read_good-clause-checked
returns-in-Ok-read_good-clause-checked g c =
    check_done c.args.store.now (g.V.Shelf.cloud_at c.args.shelf.now) (g.V.Shelf.cloud_at c.read_good.new.shelf) (g.V.Shelf.faults c.args.shelf.now) (g.V.Shelf.faults c.read_good.new.shelf)
    c.args.certificate.now c.in-Ok.count (all_placed c.args.store.now.memory (c.requires.settled.fit c.requires.«open»).placed) c.in-Ok.ensures.judged
    c.in-Ok-read_good.ensures.judged c.in-Ok-read_good.ensures.stays c.in-Ok-read_good.ensures.call c.in-Ok-read_good.ensures.counts

pub returns-in-Err-read_good-clause-checked : goal.returns-in-Err-read_good-clause-checked
returns-in-Err-read_good-clause-checked g c =
    subst (λ e. IsChecked c.args.store.now c.args.certificate.now (g.V.Shelf.cloud_at c.args.shelf.now) (g.V.Shelf.cloud_at c.read_good.new.shelf) (g.V.Shelf.faults c.args.shelf.now) (g.V.Shelf.faults c.read_good.new.shelf) (Err e))
    (sym c.check_err.ensures)
    (check_ended c.args.store.now (g.V.Shelf.cloud_at c.args.shelf.now) (g.V.Shelf.cloud_at c.read_good.new.shelf) (g.V.Shelf.faults c.args.shelf.now) (g.V.Shelf.faults c.read_good.new.shelf)
    c.args.certificate.now c.in-Err-read_good.error c.in-Ok.ensures.judged.0
    c.in-Err-read_good.ensures.judged c.in-Err-read_good.ensures.stays c.in-Err-read_good.ensures.call c.in-Err-read_good.ensures.counts)
