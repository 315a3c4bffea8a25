use Rattle.std.proofs.Common.{refl}
use Rattle.command_words.specs.Views.{asked_session}
use Rattle.cd_top.proofs.Generating.{unplaced_session, made_in}
use Rattle.cd_top.proofs.generate.generate_in.Goals as goal

pub returns-in-Err : goal.returns-in-Err
returns-in-Err g c = unplaced_session _ _ _ c.root.ensures.stays refl c.in-Err.ensures.cause.failed

pub returns : goal.returns
returns g c =
    made_in c.finish.result (asked_session c.args.asked.now) c.generate-end.result (g.V.Shelf.cloud_at c.root.new.self) _ _
    (g.V.Shelf.faults c.root.new.self) _ _ _ _ _ _ _ _ c.root.ensures.stays c.in-Ok.ensures.cause.still
    c.generate-end.ensures.generates c.finish.ensures
