use Rattle.std.proofs.Common.{◌<◌, List, length, refl, sym, subst}
use Rattle.recipe.specs.CdBase.shape.Shape.{Shape}
use Rattle.session_model.specs.UploadJob.Lanes.{LaneView, request_at, IsAsked}
use Rattle.session_model.specs.Session.event.Event.TheVariants as events
use Rattle.session_model.specs.Vault.{lanes_of}
use Rattle.session_model.specs.Steps.{lose_lines}
use Rattle.script_lines.proofs.Reaching.{job_reached, lane_below}
use Rattle.script_lines.proofs.Going.{cut_before, cut_behind}
use Rattle.script_lines.proofs.Walking.{views_are}
use Rattle.script_lines.proofs.Lines.{both_ok, on_err}
use Rattle.script_lines.proofs.Others.{lost_text, drop_came}
use Rattle.script_lines.proofs.lanes.drop_line.Goals as goal

pub next-requires-clause-below : goal.next-requires-clause-below
next-requires-clause-below g c = lane_below c.args.link.now.servers.shape c.args.jobs.now c.args.job c.requires.job c.args.lane.0 c.requires.reached c.requires.below

pub returns-in-Err-clause-cut : goal.returns-in-Err-clause-cut
returns-in-Err-clause-cut g c s v is =
    cut_before g.V.Shelf.cloud_at s (events.Drop c.args.job c.args.lane) c.args.link.now c.args.link.now c.args.jobs.now v is refl
    (c.law_of_parts.ensures.unmoved s v (length c.args.jobs.now) (events.Drop c.args.job c.args.lane) (c.requires.job, subst (λ (sh : Shape). c.args.lane.0 < sh.n) is.link_at.shape c.requires.below))

pub returns-clause-does : goal.returns-clause-does
returns-clause-does g c =
    let clouds = g.V.Shelf.cloud_at in
    let old = c.args.link.now in
    let jobs = c.args.jobs.now in
    let job = c.args.job in
    let lane = c.args.lane.0 in
    both_ok c.put_lost.result _ _ _ (λ lost done s v is.
    let asked = subst (λ (views : List LaneView). IsAsked (request_at views lane) c.in-Ok.more c.args.content.now c.next.new.out) (sym (views_are v.jobs jobs job is.jobs_are)) c.in-Ok.ensures.request in (
      lose_lines job lane (request_at (lanes_of v.jobs job) lane),
      drop_came clouds s job lane c.in-Ok.more c.args.content.now c.next.new.out c.as_slice.result.now old c.drop_reply.new.link jobs c.next.new.self v is
          (subst (λ (sh : Shape). lane < sh.n) is.link_at.shape c.requires.below) (job_reached old.servers.shape jobs job c.requires.job c.requires.reached) c.in-Ok.ensures.request c.as_slice.ensures
          c.law_of_lane_requests.ensures.read c.drop_reply.ensures.dropped c.in-Ok.ensures.same,
      lost_text job lane (request_at (lanes_of v.jobs job) lane) c.in-Ok.more c.args.content.now c.next.new.out c.args.text.now c.put_lost.new.text asked lost done,
    )) c.put_lost.ensures.asks c.put_lost.ensures.done

pub returns-clause-cut : goal.returns-clause-cut
returns-clause-cut g c =
    let clouds = g.V.Shelf.cloud_at in
    let old = c.args.link.now in
    let jobs = c.args.jobs.now in
    let job = c.args.job in
    let lane = c.args.lane.0 in
    on_err c.put_lost.result _ (λ s v is.
    cut_behind clouds s (events.Drop job c.args.lane) old c.drop_reply.new.link c.next.new.self v (lose_lines job lane (request_at (lanes_of v.jobs job) lane))
    (drop_came clouds s job lane c.in-Ok.more c.args.content.now c.next.new.out c.as_slice.result.now old c.drop_reply.new.link jobs c.next.new.self v is
    (subst (λ (sh : Shape). lane < sh.n) is.link_at.shape c.requires.below) (job_reached old.servers.shape jobs job c.requires.job c.requires.reached) c.in-Ok.ensures.request c.as_slice.ensures
    c.law_of_lane_requests.ensures.read c.drop_reply.ensures.dropped c.in-Ok.ensures.same))
