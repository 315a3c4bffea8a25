use Rattle.std.proofs.Common.{[], ◌∷◌}
use Rattle.session_model.specs.Session.event.Event.TheVariants as events
use Rattle.session_model.specs.Transcript.line.Line.TheVariants as lines
use Rattle.script_lines.proofs.Going.{cut_behind}
use Rattle.script_lines.proofs.Lines.{on_ok, on_err}
use Rattle.script_lines.proofs.Others.{arm_goes}
use Rattle.script_lines.proofs.one.arm_line.Goals as goal

pub returns-clause-does : goal.returns-clause-does
returns-clause-does g c =
    let e = c.arm.ensures in
    on_ok c.put_line.result _ _ (λ said s v is. (
      lines.Armed c.args.cloud ∷ [],
      arm_goes g.V.Shelf.cloud_at s c.args.link.now c.arm.new.self c.args.cloud c.args.calls c.args.keep c.args.jobs.now v c.requires.below e.arms e.armed e.others e.rest e.still.0 e.still.1 is,
      said,
    )) c.put_line.ensures.ok

pub returns-clause-cut : goal.returns-clause-cut
returns-clause-cut g c =
    let e = c.arm.ensures in
    on_err c.put_line.result _ (λ s v is.
    cut_behind g.V.Shelf.cloud_at s (events.Arm c.args.cloud c.args.calls c.args.keep) c.args.link.now c.arm.new.self c.args.jobs.now v (lines.Armed c.args.cloud ∷ [])
    (arm_goes g.V.Shelf.cloud_at s c.args.link.now c.arm.new.self c.args.cloud c.args.calls c.args.keep c.args.jobs.now v c.requires.below e.arms e.armed e.others e.rest e.still.0 e.still.1 is))
