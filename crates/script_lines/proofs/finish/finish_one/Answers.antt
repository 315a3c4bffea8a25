use Rattle.std.proofs.Common.{◌<◌, List, ◌++◌, ap, ◌∙◌, subst}
use Rattle.recipe.specs.CdBase.shape.Shape.{Shape}
use Rattle.session_model.specs.UploadJob.news.LaneNews.{LaneNews}
use Rattle.session_model.specs.LocalLink.Tells.{is_delivered, telling}
use Rattle.session_jobs.specs.LaneSteps.Steps.{Finishes}
use Rattle.session_model.specs.Session.Texts.{text_of}
use Rattle.script_lines.specs.Jobs.{job_lanes}
use Rattle.script_lines.specs.Finishing.{lane_lines}
use Rattle.script_lines.proofs.Reaching.{all_done_is, lane_below}
use Rattle.script_lines.proofs.Lines.{both_ok, on_err}
use Rattle.script_lines.proofs.Bringing.{lane_finished, lane_cut, one_leaves}
use Rattle.script_lines.proofs.finish.finish_one.Goals as goal

pub finish-came-requires-clause-below : goal.finish-came-requires-clause-below
finish-came-requires-clause-below g c = lane_below c.args.link.now.servers.shape c.args.jobs.now c.args.job c.requires.job c.args.lane.0 c.requires.reached c.requires.below

pub returns-clause-does : goal.returns-clause-does
returns-clause-does g c =
    let clouds = g.V.Shelf.cloud_at in
    let old = c.args.link.now in
    let new = c.finish-came.new.link in
    let jobs = c.args.jobs.now in
    let job = c.args.job in
    let lane = c.args.lane.0 in
    let x = c.finish-came.ensures.finishes in
    let now = c.finish-came.new.told.items in
    let f = subst (λ (l : List LaneNews). Finishes (telling clouds) (λ link cloud t. ⊥) lane old (job_lanes jobs job) l c.finish-came.result new x.0 now) c.clear.ensures.items x.3 in
    both_ok c.put_lane.result _ _ _ (λ brought said s v is.
    lane_finished clouds (λ link cloud t. ⊥) s job lane old new jobs c.finish-came.new.self v c.finish-came.result x.0 now c.is_stored-before.result c.is_stored.result c.becomes-stored.result c.args.text.now c.put_lane.new.text is
    (subst (λ (sh : Shape). lane < sh.n) is.link_at.shape c.requires.below) c.requires.job x.1 f (c.finish-came.ensures.lossless (ap is_delivered is.link_at.fate)).0 brought (all_done_is _ _ c.is_stored-before.ensures) (all_done_is _ _ c.is_stored.ensures) c.becomes-stored.ensures
    (said ∙ ap (λ (l : List LaneNews). c.args.text.now ++ text_of (lane_lines job lane c.finish-came.result l c.becomes-stored.result)) c.as_slice.ensures.value)) c.put_lane.ensures.brought c.put_lane.ensures.text

pub returns-clause-cut : goal.returns-clause-cut
returns-clause-cut g c =
    let clouds = g.V.Shelf.cloud_at in
    let old = c.args.link.now in
    let new = c.finish-came.new.link in
    let jobs = c.args.jobs.now in
    let job = c.args.job in
    let lane = c.args.lane.0 in
    let x = c.finish-came.ensures.finishes in
    let now = c.finish-came.new.told.items in
    let f = subst (λ (l : List LaneNews). Finishes (telling clouds) (λ link cloud t. ⊥) lane old (job_lanes jobs job) l c.finish-came.result new x.0 now) c.clear.ensures.items x.3 in
    on_err c.put_lane.result _ (λ s v is.
    lane_cut clouds (λ link cloud t. ⊥) s job lane old new jobs v c.finish-came.result x.0 now is (subst (λ (sh : Shape). lane < sh.n) is.link_at.shape c.requires.below)
    (lane_below old.servers.shape jobs job c.requires.job lane c.requires.reached c.requires.below) f (c.finish-came.ensures.lossless (ap is_delivered is.link_at.fate)).0)

pub returns-clause-leaves : goal.returns-clause-leaves
returns-clause-leaves g c =
    let x = c.finish-came.ensures.finishes in
    (one_leaves g.V.Shelf.cloud_at (λ link cloud t. ⊥) c.args.lane.0 (job_lanes c.args.jobs.now c.args.job) x.0 c.args.link.now c.finish-came.new.link c.finish-came.result c.clear.new.self.items c.finish-came.new.told.items x.3).0

pub returns-clause-same_reference : goal.returns-clause-same_reference
returns-clause-same_reference g c =
    let x = c.finish-came.ensures.finishes in
    (one_leaves g.V.Shelf.cloud_at (λ link cloud t. ⊥) c.args.lane.0 (job_lanes c.args.jobs.now c.args.job) x.0 c.args.link.now c.finish-came.new.link c.finish-came.result c.clear.new.self.items c.finish-came.new.told.items x.3).1
