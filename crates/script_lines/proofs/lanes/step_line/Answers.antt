use Rattle.std.proofs.Common.{◌<◌, length, ap, subst}
use Rattle.recipe.specs.CdBase.shape.Shape.{Shape}
use Rattle.session_model.specs.LocalLink.Tells.{is_delivered}
use Rattle.session_model.specs.Session.event.Event.TheVariants as events
use Rattle.script_lines.specs.Stepping.{step_lines}
use Rattle.script_lines.proofs.Reaching.{all_done_is, lane_below}
use Rattle.script_lines.proofs.Lines.{both_ok, on_err, step_came, step_goes, step_cut}
use Rattle.script_lines.proofs.lanes.step_line.Goals as goal

pub step-came-requires-clause-below : goal.step-came-requires-clause-below
step-came-requires-clause-below g c = lane_below c.args.link.now.servers.shape c.args.jobs.now c.args.job c.requires.job c.args.lane.0 c.requires.reached c.requires.below

pub returns-clause-does : goal.returns-clause-does
returns-clause-does g c =
    let clouds = g.V.Shelf.cloud_at in
    let old = c.args.link.now in
    let new = c.step-came.new.link in
    let job = c.args.job in
    let lane = c.args.lane.0 in
    let x = c.step-came.ensures.steps in
    both_ok c.put_step.result _ _ _ (λ told said s v is. (
      step_lines job lane c.step-came.result c.becomes-stored.result,
      step_goes clouds (λ link cloud t. ⊥) s job lane old new c.step-came.new.self v c.step-came.result c.becomes-stored.result told
          (step_came clouds (λ link cloud t. ⊥) s job lane old new c.args.jobs.now c.step-came.new.self v c.step-came.result x.0 c.is_stored-before.result c.is_stored.result c.becomes-stored.result is
          (subst (λ (sh : Shape). lane < sh.n) is.link_at.shape c.requires.below) c.requires.job x.1 x.3 (c.step-came.ensures.lossless (ap is_delivered is.link_at.fate)).0 (all_done_is _ _ c.is_stored-before.ensures) (all_done_is _ _ c.is_stored.ensures) c.becomes-stored.ensures),
      said,
    )) c.put_step.ensures.told c.put_step.ensures.text

pub returns-clause-cut : goal.returns-clause-cut
returns-clause-cut g c =
    let clouds = g.V.Shelf.cloud_at in
    let old = c.args.link.now in
    let new = c.step-came.new.link in
    let job = c.args.job in
    let lane = c.args.lane.0 in
    let x = c.step-came.ensures.steps in
    on_err c.put_step.result _ (λ s v is.
    let lt = subst (λ (sh : Shape). lane < sh.n) is.link_at.shape c.requires.below in
    step_cut clouds (λ link cloud t. ⊥) s job lane old new c.step-came.new.self c.args.jobs.now v c.step-came.result c.becomes-stored.result is
    (c.law_of_parts.ensures.unmoved s v (length c.args.jobs.now) (events.Step job c.args.lane) (c.requires.job, lt))
    (step_came clouds (λ link cloud t. ⊥) s job lane old new c.args.jobs.now c.step-came.new.self v c.step-came.result x.0 c.is_stored-before.result c.is_stored.result c.becomes-stored.result is
    lt c.requires.job x.1 x.3 (c.step-came.ensures.lossless (ap is_delivered is.link_at.fate)).0 (all_done_is _ _ c.is_stored-before.ensures) (all_done_is _ _ c.is_stored.ensures) c.becomes-stored.ensures))
