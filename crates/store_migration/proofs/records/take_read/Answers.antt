use Rattle.std.proofs.Common.{ℕ, List, length, ◌∙◌, ap, subst, arith, length-take}
use Rattle.cloud_opening.specs.CommitJournal.States.{state_of}
use Rattle.fresh_checkpoints.specs.CloudMemory.Rooms.{memory_of}
use Rattle.store_migration.specs.Steps.{FirstBodyAs}
use Rattle.store_migration.proofs.Cases.{of_all}
use Rattle.store_migration.proofs.records.take_read.Goals as goal

pub returns-in-Ok-clause-judged : goal.returns-in-Ok-clause-judged
returns-in-Ok-clause-judged g c told =
    let journal = state_of c.args.journal.now in let m = memory_of c.take_body.new.memory in let result = c.take_body.result in
    of_all result _ (subst (λ (read : List ℕ). FirstBodyAs c.args.ground.now c.args.inside read (memory_of c.args.memory.now) journal.current.body_at journal.current.body m result)
    (c.front.ensures ∙ c.in-Ok.ensures.bytes told) c.take_body.ensures.judged)

pub take_body-requires-clause-read : goal.take_body-requires-clause-read
take_body-requires-clause-read g c =
    omega (arith, ap length c.front.ensures, length-take c.in-Ok.count c.read_at.new.buffer, c.in-Ok.ensures.few)
