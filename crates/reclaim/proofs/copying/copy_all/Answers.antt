use Rattle.std.proofs.Common.{◌≡◌, Bool, true, Ok, Result, subst}
use Rattle.share_server.specs.declared.copies.ReclaimErr.{ReclaimErr}
use Rattle.reclaim.specs.Inner.{StepsCopying}
use Rattle.reclaim.proofs.Going.{one_more, all_done, given_up, fewer_left}
use Rattle.reclaim.proofs.copying.copy_all.Goals as goal

answered : Bool → Result Bool ReclaimErr
answered more = Ok more

pub steps-smaller : goal.steps-smaller
unfolding answered
steps-smaller g c =
    let first = c.args.server.now in let old = c.steps.server in let new = c.copy_step.new.self in let at = g.V.Shelf.cloud_at in let faults = g.V.Shelf.faults in
    let s0 = c.args.shelf.now in let s1 = c.steps.shelf in let s2 = c.copy_step.new.shelf in let s = c.copy_step.ensures in
    let e = c.in-Ok-true.ensures in
    let step : StepsCopying (s2 ≡ s1) old.store new.store old.copies new.copies (at s1) (at s2) (faults s1) (faults s2) (answered true) =
    subst (λ (b : Bool). StepsCopying (s2 ≡ s1) old.store new.store old.copies new.copies (at s1) (at s2) (faults s1) (faults s2) (answered b)) c.in-Ok-true.field-0-test
    (record { any_moment = s.any_moment; copied = e.copied; answers = e.answers; step = e.step; laid = e.laid; rotten = e.rotten; beside = e.beside; right = e.right; same = s.same; stage = e.stage; call = s.call; counts = e.counts }) in
    fewer_left old.store new.store old.copies new.copies s.same step.step

pub steps-preserved : goal.steps-preserved
unfolding answered
steps-preserved g c =
    let first = c.args.server.now in let old = c.steps.server in let new = c.copy_step.new.self in let at = g.V.Shelf.cloud_at in let faults = g.V.Shelf.faults in
    let s0 = c.args.shelf.now in let s1 = c.steps.shelf in let s2 = c.copy_step.new.shelf in let s = c.copy_step.ensures in
    let e = c.in-Ok-true.ensures in
    one_more (s2 ≡ s1) first.store old.store new.store first.copies old.copies new.copies (at s0) (at s1) (at s2) (faults s0) (faults s1) (faults s2) c.steps.invariant
    (subst (λ (b : Bool). StepsCopying (s2 ≡ s1) old.store new.store old.copies new.copies (at s1) (at s2) (faults s1) (faults s2) (answered b)) c.in-Ok-true.field-0-test
    (record { any_moment = s.any_moment; copied = e.copied; answers = e.answers; step = e.step; laid = e.laid; rotten = e.rotten; beside = e.beside; right = e.right; same = s.same; stage = e.stage; call = s.call; counts = e.counts }))

pub returns-in-Ok-false : goal.returns-in-Ok-false
unfolding answered
returns-in-Ok-false g c =
    let first = c.args.server.now in let old = c.steps.server in let new = c.copy_step.new.self in let at = g.V.Shelf.cloud_at in let faults = g.V.Shelf.faults in
    let s0 = c.args.shelf.now in let s1 = c.steps.shelf in let s2 = c.copy_step.new.shelf in let s = c.copy_step.ensures in
    let e = c.in-Ok-false.ensures in
    all_done (s2 ≡ s1) first.store old.store new.store first.copies old.copies new.copies (at s0) (at s1) (at s2) (faults s0) (faults s1) (faults s2) c.steps.invariant
    (subst (λ (b : Bool). StepsCopying (s2 ≡ s1) old.store new.store old.copies new.copies (at s1) (at s2) (faults s1) (faults s2) (answered b)) c.in-Ok-false.field-0-test
    (record { any_moment = s.any_moment; copied = e.copied; answers = e.answers; step = e.step; laid = e.laid; rotten = e.rotten; beside = e.beside; right = e.right; same = s.same; stage = e.stage; call = s.call; counts = e.counts }))

pub returns-in-Err : goal.returns-in-Err
returns-in-Err g c =
    let first = c.args.server.now in let old = c.steps.server in let new = c.copy_step.new.self in let at = g.V.Shelf.cloud_at in let faults = g.V.Shelf.faults in
    let s0 = c.args.shelf.now in let s1 = c.steps.shelf in let s2 = c.copy_step.new.shelf in let s = c.copy_step.ensures in
    let e = c.in-Err.ensures in
    given_up (s2 ≡ s1) first.store old.store new.store first.copies old.copies new.copies (at s0) (at s1) (at s2) (faults s0) (faults s1) (faults s2) c.steps.invariant c.in-Err.error
    (record { any_moment = s.any_moment; copied = e.copied; answers = e.answers; step = e.step; laid = e.laid; rotten = e.rotten; beside = e.beside; right = e.right; same = s.same; stage = e.stage; call = s.call; counts = e.counts })
