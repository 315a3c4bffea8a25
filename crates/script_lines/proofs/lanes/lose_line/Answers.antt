use Rattle.std.proofs.Common.{◌<◌, List, length, refl, sym, subst}
use Rattle.recipe.specs.CdBase.shape.Shape.{Shape}
use Rattle.session_model.specs.UploadJob.Lanes.{LaneView, request_at, IsAsked}
use Rattle.session_model.specs.Session.event.Event.TheVariants as events
use Rattle.session_model.specs.Vault.{lanes_of}
use Rattle.session_model.specs.Steps.{lose_lines}
use Rattle.script_lines.specs.Does.{Goes}
use Rattle.script_lines.proofs.Reaching.{lane_below}
use Rattle.script_lines.proofs.Going.{cut_before}
use Rattle.script_lines.proofs.Walking.{views_are}
use Rattle.script_lines.proofs.Lines.{both_ok, on_err}
use Rattle.script_lines.proofs.Others.{lost_text, lose_goes}
use Rattle.script_lines.proofs.lanes.lose_line.Goals as goal

pub next-requires-clause-below : goal.next-requires-clause-below
next-requires-clause-below g c = lane_below c.args.link.now.servers.shape c.args.jobs.now c.args.job c.requires.job c.args.lane.0 c.requires.reached c.requires.below

pub returns-in-Err-clause-cut : goal.returns-in-Err-clause-cut
returns-in-Err-clause-cut g c s v is =
    cut_before g.V.Shelf.cloud_at s (events.Lose c.args.job c.args.lane) c.args.link.now c.args.link.now c.args.jobs.now v is refl
    (c.law_of_parts.ensures.unmoved s v (length c.args.jobs.now) (events.Lose c.args.job c.args.lane) (c.requires.job, subst (λ (sh : Shape). c.args.lane.0 < sh.n) is.link_at.shape c.requires.below))

pub returns-clause-does : goal.returns-clause-does
returns-clause-does g c =
    let job = c.args.job in
    let lane = c.args.lane.0 in
    both_ok c.put_lost.result _ _ _ (λ lost done s v is.
    let asked = subst (λ (views : List LaneView). IsAsked (request_at views lane) c.in-Ok.more c.args.content.now c.next.new.out) (sym (views_are v.jobs c.args.jobs.now job is.jobs_are)) c.in-Ok.ensures.request in (
      lose_lines job lane (request_at (lanes_of v.jobs job) lane),
      subst (λ (jobs : List (List LaneView)). Goes g.V.Shelf.cloud_at s (events.Lose job c.args.lane) c.args.link.now c.args.link.now jobs v (lose_lines job lane (request_at (lanes_of v.jobs job) lane))) (sym c.in-Ok.ensures.same)
          (lose_goes g.V.Shelf.cloud_at s job lane c.args.link.now c.args.jobs.now v is),
      lost_text job lane (request_at (lanes_of v.jobs job) lane) c.in-Ok.more c.args.content.now c.next.new.out c.args.text.now c.put_lost.new.text asked lost done,
    )) c.put_lost.ensures.asks c.put_lost.ensures.done

pub returns-clause-cut : goal.returns-clause-cut
returns-clause-cut g c = on_err c.put_lost.result _ (λ s v is.
    cut_before g.V.Shelf.cloud_at s (events.Lose c.args.job c.args.lane) c.args.link.now c.args.link.now c.args.jobs.now v is refl
    (c.law_of_parts.ensures.unmoved s v (length c.args.jobs.now) (events.Lose c.args.job c.args.lane) (c.requires.job, subst (λ (sh : Shape). c.args.lane.0 < sh.n) is.link_at.shape c.requires.below)))
