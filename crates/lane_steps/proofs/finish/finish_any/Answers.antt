use Rattle.std.proofs.Common.{◌++◌, ◌∷◌, [], List, Option, Ok, Err, sym, ap, ◌∙◌, subst}
use Rattle.upload_job.specs.declared.news.LaneNews.{LaneNews}
use Rattle.upload_job.specs.Lanes.{request_at}
use Rattle.lane_steps.specs.declared.error.StepErr.TheVariants as errors
use Rattle.lane_steps.specs.Steps.{LaneSteps, Finishes}
use Rattle.lane_steps.proofs.Asking.{step_unbegun}
use Rattle.lane_steps.proofs.Finishing.{along_none, along_on, reached_then, step_tells, finishes_stopped, finishes_done, finishes_failed, loses_by, less_left}
use Rattle.lane_steps.proofs.finish.finish_any.Goals as goal

pub requests-init : goal.requests-init
requests-init g c = along_none g.L.Link.tells g.L.Link.talk c.args.lane.0 c.args.link.now c.args.job.now c.args.told.now.items c.requires.below c.requires.way c.requires.reaches

pub returns-in-Ok-None-clause-finishes : goal.returns-in-Ok-None-clause-finishes
returns-in-Ok-None-clause-finishes g c =
    let t = g.L.Link.tells in
    let talk = g.L.Link.talk in
    let cloud = c.args.lane.0 in
    let l = c.requests in
    let steps = subst (λ (o : Option LaneNews). LaneSteps t talk cloud l.link l.job (request_at l.job cloud) (Ok o) c.step_any.new.link c.step_any.new.job) c.in-Ok-None.field-0-is c.in-Ok-None.ensures.steps in
    subst (λ (all : List LaneNews). Finishes t talk cloud c.args.link.now c.args.job.now c.args.told.now.items (Ok tt) c.step_any.new.link c.step_any.new.job all) (sym c.make_room.ensures.items)
    (finishes_done t talk cloud c.args.link.now c.args.job.now c.args.told.now.items l.link l.job l.lacked l.told.items c.step_any.new.link c.step_any.new.job l.invariant steps)

pub returns-then-stops-clause-finishes : goal.returns-then-stops-clause-finishes
returns-then-stops-clause-finishes g c =
    let t = g.L.Link.tells in
    let talk = g.L.Link.talk in
    let cloud = c.args.lane.0 in
    let l = c.requests in
    let steps = subst (λ (o : Option LaneNews). LaneSteps t talk cloud l.link l.job (request_at l.job cloud) (Ok o) c.step_any.new.link c.step_any.new.job) c.in-Ok-Some.field-0-is c.in-Ok-Some.ensures.steps in
    finishes_stopped t talk cloud c.args.link.now c.args.job.now c.args.told.now.items l.link l.job l.lacked l.told.items c.in-Ok-Some.news c.step_any.new.link c.step_any.new.job c.tell.new.told.items l.invariant
    (step_tells t talk cloud l.link l.job c.in-Ok-Some.news c.step_any.new.link c.step_any.new.job steps)
    (c.tell.ensures ∙ ap (λ (all : List LaneNews). all ++ c.in-Ok-Some.news ∷ []) c.make_room.ensures.items)
    (sym c.stops.ensures ∙ c.if-stops.true)

pub requests-preserved : goal.requests-preserved
requests-preserved g c =
    let t = g.L.Link.tells in
    let talk = g.L.Link.talk in
    let cloud = c.args.lane.0 in
    let l = c.requests in
    let steps = subst (λ (o : Option LaneNews). LaneSteps t talk cloud l.link l.job (request_at l.job cloud) (Ok o) c.step_any.new.link c.step_any.new.job) c.in-Ok-Some.field-0-is c.in-Ok-Some.ensures.steps in
    let step = c.step_any.ensures in
    along_on t talk cloud c.args.link.now c.args.job.now c.args.told.now.items l.link l.job l.lacked l.told.items c.in-Ok-Some.news c.step_any.new.link c.step_any.new.job c.tell.new.told.items c.has_lacked-lacked.result
    l.invariant (step_tells t talk cloud l.link l.job c.in-Ok-Some.news c.step_any.new.link c.step_any.new.job steps)
    (c.tell.ensures ∙ ap (λ (all : List LaneNews). all ++ c.in-Ok-Some.news ∷ []) c.make_room.ensures.items)
    (sym c.stops.ensures ∙ c.if-stops.false) c.has_lacked-lacked.ensures step.way step.reached step.others step.later (λ h. (step.lossless h).1)

pub requests-smaller : goal.requests-smaller
requests-smaller g c =
    let t = g.L.Link.tells in
    let talk = g.L.Link.talk in
    let cloud = c.args.lane.0 in
    let l = c.requests in
    let steps = subst (λ (o : Option LaneNews). LaneSteps t talk cloud l.link l.job (request_at l.job cloud) (Ok o) c.step_any.new.link c.step_any.new.job) c.in-Ok-Some.field-0-is c.in-Ok-Some.ensures.steps in
    less_left t talk cloud l.link l.job l.lacked c.in-Ok-Some.news c.step_any.new.link c.step_any.new.job c.has_lacked-lacked.result l.invariant.below
    (step_tells t talk cloud l.link l.job c.in-Ok-Some.news c.step_any.new.link c.step_any.new.job steps)
    (sym c.stops.ensures ∙ c.if-stops.false) c.has_lacked-lacked.ensures

pub returns-in-Err-step_any-clause-finishes : goal.returns-in-Err-step_any-clause-finishes
returns-in-Err-step_any-clause-finishes g c =
    let t = g.L.Link.tells in
    let talk = g.L.Link.talk in
    let cloud = c.args.lane.0 in
    let l = c.requests in
    subst (λ (all : List LaneNews). Finishes t talk cloud c.args.link.now c.args.job.now c.args.told.now.items (Err c.in-Err-step_any.e) c.step_any.new.link c.step_any.new.job all) (sym c.make_room.ensures.items)
    (finishes_failed t talk cloud c.args.link.now c.args.job.now c.args.told.now.items l.link l.job l.lacked l.told.items c.in-Err-step_any.e c.step_any.new.link c.step_any.new.job l.invariant c.in-Err-step_any.ensures.steps)

pub returns-in-Err-clause-finishes : goal.returns-in-Err-clause-finishes
returns-in-Err-clause-finishes g c =
    let t = g.L.Link.tells in
    let talk = g.L.Link.talk in
    let cloud = c.args.lane.0 in
    let l = c.requests in
    subst (λ (all : List LaneNews). Finishes t talk cloud c.args.link.now c.args.job.now c.args.told.now.items (Err errors.NoMemory) l.link l.job all) (sym c.make_room.ensures.items)
    (finishes_failed t talk cloud c.args.link.now c.args.job.now c.args.told.now.items l.link l.job l.lacked l.told.items errors.NoMemory l.link l.job l.invariant
    (step_unbegun t talk cloud l.link l.job (request_at l.job cloud)))

pub returns-in-Err-step_any-clause-lost : goal.returns-in-Err-step_any-clause-lost
returns-in-Err-step_any-clause-lost g c =
    let t = g.L.Link.tells in
    let talk = g.L.Link.talk in
    let cloud = c.args.lane.0 in
    let l = c.requests in
    loses_by t talk cloud c.args.link.now c.args.job.now c.args.told.now.items l.link l.job l.lacked l.told.items (request_at l.job cloud) c.in-Err-step_any.e c.step_any.new.link c.step_any.new.job l.invariant c.in-Err-step_any.ensures.steps

pub returns-in-Ok-None-clause-reached : goal.returns-in-Ok-None-clause-reached
returns-in-Ok-None-clause-reached g c =
    let l = c.requests in
    reached_then (g.L.Link.tells.shape c.args.link.now) (g.L.Link.tells.shape l.link) c.args.job.now l.job c.step_any.new.job l.invariant.others.shape l.invariant.reached c.step_any.ensures.reached

pub returns-then-stops-clause-reached : goal.returns-then-stops-clause-reached
returns-then-stops-clause-reached g c =
    let l = c.requests in
    reached_then (g.L.Link.tells.shape c.args.link.now) (g.L.Link.tells.shape l.link) c.args.job.now l.job c.step_any.new.job l.invariant.others.shape l.invariant.reached c.step_any.ensures.reached

pub returns-in-Err-step_any-clause-reached : goal.returns-in-Err-step_any-clause-reached
returns-in-Err-step_any-clause-reached g c =
    let l = c.requests in
    reached_then (g.L.Link.tells.shape c.args.link.now) (g.L.Link.tells.shape l.link) c.args.job.now l.job c.step_any.new.job l.invariant.others.shape l.invariant.reached c.step_any.ensures.reached
