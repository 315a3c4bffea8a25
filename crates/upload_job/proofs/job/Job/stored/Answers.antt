use Rattle.std.proofs.Common.{◌≡◌, List, subst}
use Rattle.std.proofs.Common.{◌↔◌}
use Rattle.std.specs.Prelude.{IsTrue, All}
use Rattle.upload_job.specs.declared.lane.Lane.{Lane}
use Rattle.upload_job.specs.declared.lane.LaneStage.TheVariants as stages
use Rattle.upload_job.specs.Lane.{Done}
use Rattle.upload_job.specs.Lanes.{LaneView}
use Rattle.upload_job.proofs.Laning.{done_in}
use Rattle.upload_job.proofs.job.Job.stored.Goals as goal

pub returns : goal.returns
returns c =
    let stages_done = subst (λ (xs : List Lane). IsTrue c.are_done.result ↔ All (λ (l : Lane). l.stage ≡ stages.Done) xs) c.as_slice.ensures.value c.are_done.ensures in
    let both = done_in c.self.inside.key c.self.inside.lanes.items in
    subst (λ (xs : List LaneView). IsTrue c.are_done.result ↔ All (λ (l : LaneView). l.state ≡ Done) xs) c.self.view_is
    (λ t. both.0 (stages_done.0 t), λ a. stages_done.1 (both.1 a))
