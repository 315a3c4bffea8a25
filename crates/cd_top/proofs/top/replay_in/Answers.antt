use Rattle.std.proofs.Common.{refl}
use Rattle.cd_top.proofs.Closing.{replayed_by}
use Rattle.cd_top.proofs.Unopened.{rootless, from_root}
use Rattle.cd_top.proofs.top.replay_in.Goals as goal

pub returns-in-Err : goal.returns-in-Err
returns-in-Err g c = rootless _ _ c.root.ensures.stays c.in-Err.ensures.cause.failed refl

pub returns : goal.returns
returns g c =
    from_root c.finish.result (g.V.Shelf.cloud_at c.root.new.self) _ (g.V.Shelf.faults c.root.new.self) _ _ _ _ _ _ _ _ _ _ _
    c.root.ensures.stays c.in-Ok.ensures.cause.still
    (replayed_by c.replay-end.result c.finish.result _ (g.K.Sink.written c.args.sink.now) _ _ _ _ c.finish.ensures refl c.replay-end.ensures)
