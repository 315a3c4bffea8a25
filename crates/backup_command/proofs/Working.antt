-- What a lane has to bring stays, whatever comes of it.
use Rattle.std.proofs.Common.{◌≡◌, ℕ, List, Option, Some, None, ap, ◌∙◌, Ok, Err}
use Rattle.std.specs.Prelude.{Result}
use Rattle.transcript.specs.CdEdges.Ports.{Telling}
use Rattle.ports_link.specs.Messages.request.Request.{Request}
use Rattle.lane_steps.specs.UploadJob.news.LaneNews.{LaneNews}
use Rattle.lane_steps.specs.UploadJob.Lane.{Refused}
use Rattle.lane_steps.specs.UploadJob.Lanes.{LaneView, with_state}
use Rattle.lane_steps.specs.Runs.{request_of}
use Rattle.lane_steps.specs.declared.error.StepErr.{StepErr}
use Rattle.lane_steps.specs.declared.error.StepErr.TheVariants as errors
use Rattle.lane_steps.specs.Steps.{LaneSteps, Finishes}
use Rattle.lane_steps.proofs.UploadJob.Laning.{works, state_works}
use Rattle.ports_link.specs.declared.link.PortsLink.{PortsLink}
use Rattle.ports_link.specs.Tells.{telling}
use Rattle.backup_command.specs.Steps.{Talked}

module _ {P : Type 0} (tells : P → Telling) (faults : P → ℕ) (cloud : ℕ) where
  step_works : (views after : List LaneView) (mid new : PortsLink P) (o : Option Request) (e : StepErr)
      → LaneSteps (telling tells faults) (Talked tells) cloud mid views o (Err e) new after → works after ≡ works views
  step_works views after mid new None errors.Lost step = absurd step
  step_works views after mid new None (errors.Strange kind) step = absurd step
  step_works views after mid new None errors.NoMemory step = ap works step.1
  step_works views after mid new (Some request) errors.Lost step = ap works step.1
  step_works views after mid new (Some request) (errors.Strange kind) step =
      ap works step.1 ∙ state_works views cloud Refused
  step_works views after mid new (Some request) errors.NoMemory step = ap works step.1

  pub works_all : (views after : List LaneView) (old new : PortsLink P) (came : Result (Unit {0}) StepErr)
      (before news : List LaneNews)
      → Finishes (telling tells faults) (Talked tells) cloud old views before came new after news
      → works after ≡ works views
  works_all views after old new (Ok u) before news f = ap works f.6 ∙ state_works views cloud f.1.lane.state
  works_all views after old new (Err e) before news f =
      step_works (with_state views cloud f.1.lane.state) after f.3 new (request_of f.1.lane) e f.8
      ∙ state_works views cloud f.1.lane.state
