use Rattle.std.proofs.Common.{ℕ, List, length, drop, ◌∙◌, ap, subst, arith, length-take}
use Rattle.cloud_disk.specs.CommitJournal.States.{state_of}
use Rattle.record_laws.specs.RecordChecks.CloudMemory.Rooms.{memory_of}
use Rattle.cloud_opening.specs.Steps.{BodyAs}
use Rattle.cloud_opening.proofs.Synced.{of_all}
use Rattle.cloud_opening.proofs.records.take_read.Goals as goal

pub returns-in-Ok-clause-judged : goal.returns-in-Ok-clause-judged
returns-in-Ok-clause-judged g c told =
    let journal = state_of c.args.journal.now in let m = memory_of c.take_body.new.memory in let result = c.take_body.result in
    of_all result _ (subst (λ (read : List ℕ). BodyAs c.args.judging.now.ground.now c.args.judging.now.inside read (memory_of c.args.memory.now) c.args.taking.now journal.current.body_at journal.current.body m c.take_body.new.taking result)
    (c.of.ensures ∙ c.in-Ok.ensures.bytes told) c.take_body.ensures.judged)

pub take_body-requires-clause-read : goal.take_body-requires-clause-read
take_body-requires-clause-read g c =
    omega (arith, ap length c.of.ensures, length-take c.in-Ok.part.len (drop c.in-Ok.part.from c.look.new.buffer), c.in-Ok.ensures.few)
