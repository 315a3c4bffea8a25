use Rattle.std.proofs.Common.{◌<◌, ◌≤◌, arith}
use Rattle.journal_halves.specs.CdEdges.area.Area.TheVariants.{Journal}
use Rattle.journal_halves.proofs.CdEdges.Moments.{started, weaker}
use Rattle.commit_journal.proofs.Calls.{on_ok}
use Rattle.commit_journal.proofs.Opening.{free_image, free_wrote, ready_already, ready_wrote}
use Rattle.commit_journal.proofs.open.close.Goals as goal

pub returns-then-len-ge2-clause-any_moment : goal.returns-then-len-ge2-clause-any_moment
returns-then-len-ge2-clause-any_moment g c told is =
    let c0 = g.V.Shelf.cloud_at c.args.shelf.now c.args.cloud.0 in
    started c0 _ (λ image now. record { area = free_image (c0.now Journal) c.args.len (image Journal) is (now Journal); others = λ other ne. now other })

pub returns-then-len-ge2-clause-ready : goal.returns-then-len-ge2-clause-ready
returns-then-len-ge2-clause-ready g c told is =
    let long : 2 ≤ c.args.len = omega arith in
    ready_already ((g.V.Shelf.cloud_at c.args.shelf.now c.args.cloud.0).now Journal) c.args.len is long

pub returns-clause-any_moment : goal.returns-clause-any_moment
returns-clause-any_moment g c told is =
    let short : c.args.len < 2 = omega arith in
    let c0 = g.V.Shelf.cloud_at c.args.shelf.now c.args.cloud.0 in let c1 = g.V.Shelf.cloud_at c.write_synced.new.shelf c.args.cloud.0 in
    weaker c0 c1 _ _ (c.write_synced.ensures.any_moment told) (λ image at. record { area = free_wrote (c0.now Journal) c.args.len (image Journal) is short at.area; others = at.others })

pub returns-clause-ready : goal.returns-clause-ready
returns-clause-ready g c told is =
    let short : c.args.len < 2 = omega arith in
    let c0 = g.V.Shelf.cloud_at c.args.shelf.now c.args.cloud.0 in let c1 = g.V.Shelf.cloud_at c.write_synced.new.shelf c.args.cloud.0 in
    on_ok c.write_synced.result _ _ (c.write_synced.ensures.written told) (λ written. ready_wrote (c0.now Journal) (c1.now Journal) c.args.len is short written)
