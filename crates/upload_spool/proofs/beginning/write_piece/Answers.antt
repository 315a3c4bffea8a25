use Rattle.std.proofs.Common.{take, ap, ◌∙◌, ◌≤◌, length, arith}
use Rattle.upload_spool.proofs.Begins.{one_piece, further}
use Rattle.upload_spool.proofs.beginning.write_piece.Goals as goal

pub returns-in_err-write_synced-clause-any_moment :
    goal.returns-in_err-write_synced-clause-any_moment
returns-in_err-write_synced-clause-any_moment g c told start along =
    one_piece start (g.V.Shelf.cloud_at c.args.shelf.now 0) (g.V.Shelf.cloud_at c.write_synced.new.shelf 0) c.args.at c.args.bytes.now c.split_at-2.result.0.now along (c.write_synced.ensures.any_moment told)

pub returns-clause-any_moment : goal.returns-clause-any_moment
returns-clause-any_moment g c told start along =
    one_piece start (g.V.Shelf.cloud_at c.args.shelf.now 0) (g.V.Shelf.cloud_at c.write_synced.new.shelf 0) c.args.at c.args.bytes.now c.split_at-2.result.0.now along (c.write_synced.ensures.any_moment told)

pub returns-clause-along : goal.returns-clause-along
returns-clause-along g c told start along =
    let within : c.args.at ≤ length c.args.bytes.now = omega (arith, c.requires) in
    further start (g.V.Shelf.cloud_at c.args.shelf.now 0) (g.V.Shelf.cloud_at c.write_synced.new.shelf 0) c.args.at c.args.bytes.now c.split_at-2.result.0.now c.min-count.result within along
    (c.split_at-2.ensures.front ∙ ap (take c.min-count.result) c.split_at.ensures.back) (c.write_synced.ensures.any_moment told) (c.in_ok-write_synced.ensures.written told) (c.in_ok-write_synced.ensures.others told)
