use Rattle.std.proofs.Common.{Err}
use Rattle.reclaim.proofs.CdEdges.Calls.{called_twice}
use Rattle.command_cloud.proofs.Standing.{call_at}
use Rattle.reclaim_command.proofs.Completing.{completes}
use Rattle.reclaim_command.proofs.Ends.{reclaimed, reclaimed_at, unopened_reclaim}
use Rattle.reclaim_command.proofs.reclaiming.reclaim_cloud.Goals as goal

pub reclaim_opened-requires : goal.reclaim_opened-requires
reclaim_opened-requires g c = c.in-Ok.ensures.opens.1.at_end

pub returns-in-Ok-clause-reclaimed : goal.returns-in-Ok-clause-reclaimed
returns-in-Ok-clause-reclaimed g c =
    let o = c.in-Ok.ensures.opens in
    let mid = g.V.Shelf.cloud_at c.open_cloud.new.shelf in
    let new = g.V.Shelf.cloud_at c.reclaim_opened.new.shelf in
    reclaimed c.args.shape c.args.cloud o.0 c.in-Ok.server (g.V.Shelf.cloud_at c.args.shelf.now c.args.cloud.0)
    (mid c.args.cloud.0) (new c.args.cloud.0) _ _ _ _ _ c.in-Ok.ensures.call.told o.1
    (reclaimed_at o.0 c.in-Ok.server c.args.shape c.args.cloud mid new _ _ _ _ o.1.header_is c.reclaim_opened.ensures.reclaimed)

pub returns-in-Ok-clause-call : goal.returns-in-Ok-clause-call
returns-in-Ok-clause-call g c =
    let o = c.in-Ok.ensures.opens in
    let mid = g.V.Shelf.cloud_at c.open_cloud.new.shelf in
    let new = g.V.Shelf.cloud_at c.reclaim_opened.new.shelf in
    called_twice _ _ _ c.args.cloud.0 _ _ _ c.in-Ok.ensures.call
    (call_at o.0 c.in-Ok.server c.args.shape c.args.cloud mid new _ _ o.1.header_is c.reclaim_opened.ensures.call)

pub returns-in-Ok-clause-complete : goal.returns-in-Ok-clause-complete
returns-in-Ok-clause-complete g c = λ well.
    let o = c.in-Ok.ensures.opens in
    let mid = g.V.Shelf.cloud_at c.open_cloud.new.shelf in
    let new = g.V.Shelf.cloud_at c.reclaim_opened.new.shelf in
    completes _ _ well _ (reclaimed c.args.shape c.args.cloud o.0 c.in-Ok.server (g.V.Shelf.cloud_at c.args.shelf.now c.args.cloud.0)
    (mid c.args.cloud.0) (new c.args.cloud.0) _ _ _ _ _ c.in-Ok.ensures.call.told o.1
    (reclaimed_at o.0 c.in-Ok.server c.args.shape c.args.cloud mid new _ _ _ _ o.1.header_is c.reclaim_opened.ensures.reclaimed))

pub returns-in-Err-clause-reclaimed : goal.returns-in-Err-clause-reclaimed
returns-in-Err-clause-reclaimed g c = unopened_reclaim _ c.in-Err.why _ _ c.in-Err.ensures.opens c.write_unopened.ensures

pub returns-in-Err-clause-complete : goal.returns-in-Err-clause-complete
returns-in-Err-clause-complete g c = λ well.
    completes _ _ well _ (unopened_reclaim _ c.in-Err.why _ _ c.in-Err.ensures.opens c.write_unopened.ensures)
