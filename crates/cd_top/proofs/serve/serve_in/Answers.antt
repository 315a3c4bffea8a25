use Rattle.command_words.specs.Views.{asked_serve}
use Rattle.cd_top.proofs.Placing.{served_in}
use Rattle.cd_top.proofs.serve.serve_in.Goals as goal

pub returns : goal.returns
returns g c =
    served_in c.serve.result (asked_serve c.args.asked.now) _ _ (g.V.Shelf.cloud_at c.root.new.self) _ _
    (g.V.Shelf.faults c.root.new.self) _ _ _ _ _ c.root.ensures.stays c.in-Ok.ensures.cause.still
    c.serve.ensures.served c.serve.ensures.call c.serve.ensures.complete
