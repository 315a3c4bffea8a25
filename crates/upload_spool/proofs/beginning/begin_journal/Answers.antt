use Rattle.std.proofs.Common.{◌≢◌, Err, sym, ap, ◌∙◌, subst}
use Rattle.commit_journal.specs.CdEdges.area.Area.{Area}
use Rattle.commit_journal.specs.CdEdges.area.Area.TheVariants.{Journal}
use Rattle.commit_journal.specs.CdEdges.Disk.{Areas}
use Rattle.commit_journal.proofs.CdEdges.Moments.{told_on}
use Rattle.commit_journal.specs.States as half
use Rattle.upload_spool.specs.declared.error.SpoolErr.{SpoolErr}
use Rattle.upload_spool.specs.States.{HasNoOpenJob, IsSpoolOkOrFault}
use Rattle.upload_spool.proofs.Begins.{still_none, reopened_none, new_read, opens_well, on_all}
use Rattle.upload_spool.proofs.beginning.begin_journal.Goals as goal

pub returns-in-Ok-clause-any_moment : goal.returns-in-Ok-clause-any_moment
returns-in-Ok-clause-any_moment g c told unbegun nojob =
    let c0 = g.V.Shelf.cloud_at c.args.shelf.now 0 in let c1 = g.V.Shelf.cloud_at c.reopen.new.shelf 0 in let c2 = g.V.Shelf.cloud_at c.read_to_end.new.shelf 0 in
    still_none c0 c1 c2 (HasNoOpenJob c0.now) (reopened_none c0 c1 c.args.header.now nojob (c.reopen.ensures.opens told).any_moment) c.read_to_end.ensures.stays

pub returns-in-Ok-clause-begun : goal.returns-in-Ok-clause-begun
returns-in-Ok-clause-begun g c told unbegun =
    let c0 = g.V.Shelf.cloud_at c.args.shelf.now 0 in let c1 = g.V.Shelf.cloud_at c.reopen.new.shelf 0 in
    let opening = c.in-Ok.ensures.opens told in let told1 = told_on c0 c1 c.reopen.ensures.call.told told in
    (c.read_to_end.ensures.ended told1 c.args.header.now (new_read (half.state_of c.reopen.new.self) c1 c.args.header.now opening.opened (opening.unbegun unbegun) (opening.alone unbegun))).1

pub returns-in-Ok-clause-answers : goal.returns-in-Ok-clause-answers
returns-in-Ok-clause-answers g c told unbegun =
    let c0 = g.V.Shelf.cloud_at c.args.shelf.now 0 in let c1 = g.V.Shelf.cloud_at c.reopen.new.shelf 0 in
    let opening = c.in-Ok.ensures.opens told in let told1 = told_on c0 c1 c.reopen.ensures.call.told told in
    (c.read_to_end.ensures.ended told1 c.args.header.now (new_read (half.state_of c.reopen.new.self) c1 c.args.header.now opening.opened (opening.unbegun unbegun) (opening.alone unbegun))).0

pub returns-in-Ok-clause-others : goal.returns-in-Ok-clause-others
returns-in-Ok-clause-others g c told =
    let opening = c.in-Ok.ensures.opens told in
    on_all c.read_to_end.result _ (λ (other : Area) (ne : other ≢ Journal). ap (λ (a : Areas). a other) c.read_to_end.ensures.stays.now ∙ opening.others other ne)

pub returns-in-Err-clause-any_moment : goal.returns-in-Err-clause-any_moment
returns-in-Err-clause-any_moment g c told unbegun nojob =
    reopened_none (g.V.Shelf.cloud_at c.args.shelf.now 0) (g.V.Shelf.cloud_at c.reopen.new.shelf 0) c.args.header.now nojob (c.reopen.ensures.opens told).any_moment

pub returns-in-Err-clause-answers : goal.returns-in-Err-clause-answers
returns-in-Err-clause-answers g c told unbegun =
    subst (λ (e : SpoolErr). IsSpoolOkOrFault {T = Unit {0}} (Err e)) (sym c.opening_error.ensures)
    (opens_well (Unit {0}) ((g.V.Shelf.cloud_at c.args.shelf.now 0).now Journal).read c.args.header.now c.in-Err.error unbegun (c.in-Err.ensures.opens told).answer)
