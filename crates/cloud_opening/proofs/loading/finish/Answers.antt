use Rattle.std.proofs.Common.{ℕ, Ok, Err, ◌∙◌, ap, subst}
use Rattle.cloud_disk.specs.JournalStart.start.Start.{Start}
use Rattle.record_laws.specs.RecordChecks.CloudMemory.Rooms.{memory_of}
use Rattle.cloud_opening.specs.Exact.{Closes, number_behind}
use Rattle.cloud_opening.proofs.Bounds.{closes_kind, closes_unfailed}
use Rattle.cloud_opening.proofs.loading.finish.Goals as goal

pub returns-in-Ok-clause-closes : goal.returns-in-Ok-clause-closes
returns-in-Ok-clause-closes c =
    subst (λ (n : ℕ). Closes c.args.ground.now (memory_of c.args.memory.now) c.args.taking.now n (Ok c.in-Ok.number))
    (c.number_of-number.ensures ∙ ap (λ (s : Start). number_behind s c.args.records) c.start.ensures) c.in-Ok.ensures.closes

pub returns-in-Err-clause-closes : goal.returns-in-Err-clause-closes
returns-in-Err-clause-closes c =
    subst (λ (n : ℕ). Closes c.args.ground.now (memory_of c.args.memory.now) c.args.taking.now n (Err c.in-Err.error))
    (c.number_of-number.ensures ∙ ap (λ (s : Start). number_behind s c.args.records) c.start.ensures) c.in-Err.ensures.closes

pub returns-in-Err-clause-kind : goal.returns-in-Err-clause-kind
returns-in-Err-clause-kind c = closes_kind c.args.ground.now (memory_of c.args.memory.now) c.args.taking.now _ (Err c.in-Err.error) c.in-Err.ensures.closes

pub returns-in-Err-clause-unfailed : goal.returns-in-Err-clause-unfailed
returns-in-Err-clause-unfailed c = closes_unfailed c.args.ground.now (memory_of c.args.memory.now) c.args.taking.now _ (Err c.in-Err.error) c.in-Err.ensures.closes
