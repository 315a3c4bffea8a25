use Rattle.std.proofs.Common.{◌<◌, ◌+◌, not, ◌&&◌, ℕ, List, [], length, sym, ap, ◌∙◌, subst}
use Rattle.std.specs.Prelude.{Ok, sum_by, if◌then◌else◌}
use Rattle.lane_steps.specs.CdBase.shape.Shape.{Shape}
use Rattle.lane_steps.specs.UploadJob.news.LaneNews.{LaneNews}
use Rattle.lane_steps.specs.UploadJob.Lanes.{LaneView}
use Rattle.replay_core.specs.LocalLink.Tells.{is_delivered, telling}
use Rattle.lane_steps.specs.Steps.{Finishes}
use Rattle.lane_steps.proofs.Reaching.{reached_len}
use Rattle.replay_core.specs.ScriptLines.Jobs.{with_job}
use Rattle.replay_core.proofs.ScriptLines.Reaching.{count_with, lanes_with, all_done_is}
use Rattle.replay_core.proofs.ScriptLines.Bringing.{lane_cut, one_leaves}
use Rattle.generated_session.specs.declared.numbers.Numbers.{Numbers}
use Rattle.generated_session.specs.Progress.{sent_by, known_by}
use Rattle.generated_session.proofs.Tallies.{adds_lane}
use Rattle.generated_session.proofs.Lanes.{lane_brought}
use Rattle.generated_session.proofs.carrying.finish_one.Goals as goal

pub finish_lane-came-requires-clause-below : goal.finish_lane-came-requires-clause-below
finish_lane-came-requires-clause-below g c =
    subst (λ (n : ℕ). c.args.lane.0 < n) (sym (reached_len c.args.link.now.servers.shape c.args.job.now c.requires.reached)) c.requires.below

pub returns-in-Err-clause-cut : goal.returns-in-Err-clause-cut
returns-in-Err-clause-cut g c = λ s v jobs job is number same.
    let clouds = g.V.Shelf.cloud_at in
    let old = c.args.link.now in
    let new = c.finish_lane-came.new.link in
    let lane = c.args.lane.0 in
    let f = subst (λ (l : List LaneNews). Finishes (telling clouds) (λ link cloud t. ⊥) lane old c.args.job.now l c.finish_lane-came.result new c.finish_lane-came.new.job c.finish_lane-came.new.told.items) c.clear.ensures.items c.finish_lane-came.ensures.finishes in
    let has = subst (λ (n : ℕ). lane < n) (sym (reached_len c.args.link.now.servers.shape c.args.job.now c.requires.reached)) c.requires.below in
    lane_cut clouds (λ link cloud t. ⊥) s job lane old new jobs v c.finish_lane-came.result c.finish_lane-came.new.job c.finish_lane-came.new.told.items is
    (subst (λ (sh : Shape). lane < sh.n) is.link_at.shape c.requires.below)
    (subst (λ (l : List LaneView). lane < length l) (sym same) has)
    (subst (λ (l : List LaneView). Finishes (telling clouds) (λ link cloud t. ⊥) lane old l [] c.finish_lane-came.result new c.finish_lane-came.new.job c.finish_lane-came.new.told.items) (sym same) f)
    (c.finish_lane-came.ensures.lossless (ap is_delivered is.link_at.fate)).0

pub returns-in-Err-clause-leaves : goal.returns-in-Err-clause-leaves
returns-in-Err-clause-leaves g c =
    (one_leaves g.V.Shelf.cloud_at (λ link cloud t. ⊥) c.args.lane.0 c.args.job.now c.finish_lane-came.new.job c.args.link.now c.finish_lane-came.new.link c.finish_lane-came.result c.clear.new.self.items c.finish_lane-came.new.told.items c.finish_lane-came.ensures.finishes).0

pub returns-in-Err-clause-same_reference : goal.returns-in-Err-clause-same_reference
returns-in-Err-clause-same_reference g c =
    (one_leaves g.V.Shelf.cloud_at (λ link cloud t. ⊥) c.args.lane.0 c.args.job.now c.finish_lane-came.new.job c.args.link.now c.finish_lane-came.new.link c.finish_lane-came.result c.clear.new.self.items c.finish_lane-came.new.told.items c.finish_lane-came.ensures.finishes).1

pub returns-clause-does : goal.returns-clause-does
returns-clause-does g c = λ s v jobs job is number same.
    let clouds = g.V.Shelf.cloud_at in
    let old = c.args.link.now in
    let new = c.finish_lane-came.new.link in
    let lane = c.args.lane.0 in
    let n = c.args.numbers.now in
    let after = c.finish_lane-came.new.job in
    let now = c.finish_lane-came.new.told.items in
    let before = c.stored-before.result in
    let f = subst (λ (l : List LaneNews). Finishes (telling clouds) (λ link cloud t. ⊥) lane old c.args.job.now l (Ok tt) new after now) c.clear.ensures.items c.in-Ok.ensures.finishes in (
      with_job jobs job after,
      count_with jobs job after,
      lanes_with s.shape jobs job number after,
      lane_brought clouds (λ link cloud t. ⊥) s job lane old new jobs v c.args.job.now after now before c.stored-now.result n c.count_lane.new.numbers is
          (subst (λ (sh : Shape). lane < sh.n) is.link_at.shape c.requires.below) same f
          (all_done_is c.args.job.now before c.stored-before.ensures) (all_done_is after c.stored-now.result c.stored-now.ensures)
          (adds_lane job lane now (not before && c.stored-now.result) n c.count_lane.new.numbers
          (c.count_lane.ensures.counts ∙ ap (λ (l : List LaneNews). record n { stored = n.stored + (if not before && c.stored-now.result then 1 else 0); sent = n.sent + sum_by sent_by l; known = n.known + sum_by known_by l }) c.as_slice.ensures.value)),
    )

pub returns-clause-leaves : goal.returns-clause-leaves
returns-clause-leaves g c =
    (one_leaves g.V.Shelf.cloud_at (λ link cloud t. ⊥) c.args.lane.0 c.args.job.now c.finish_lane-came.new.job c.args.link.now c.finish_lane-came.new.link c.finish_lane-came.result c.clear.new.self.items c.finish_lane-came.new.told.items c.finish_lane-came.ensures.finishes).0

pub returns-clause-same_reference : goal.returns-clause-same_reference
returns-clause-same_reference g c =
    (one_leaves g.V.Shelf.cloud_at (λ link cloud t. ⊥) c.args.lane.0 c.args.job.now c.finish_lane-came.new.job c.args.link.now c.finish_lane-came.new.link c.finish_lane-came.result c.clear.new.self.items c.finish_lane-came.new.told.items c.finish_lane-came.ensures.finishes).1
