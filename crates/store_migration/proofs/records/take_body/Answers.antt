use Rattle.std.proofs.Common.{ℕ, List, Err, refl, sym, subst}
use Rattle.cloud_opening.specs.CommitJournal.States.{state_of}
use Rattle.fresh_checkpoints.specs.CloudMemory.Rooms.{memory_of}
use Rattle.first_laws.specs.FirstRecords.Judging.{JudgesFirst}
use Rattle.store_migration.specs.declared.errors.MigrateErr.{MigrateErr}
use Rattle.store_migration.specs.Steps.{FirstBodyAs, IsOfFirstRecords}
use Rattle.store_migration.proofs.records.take_body.Goals as goal

pub returns-in-Err-clause-judged : goal.returns-in-Err-clause-judged
returns-in-Err-clause-judged c =
    let journal = state_of c.args.journal.now in let old = memory_of c.args.memory.now in let read = c.args.read.now in let error = c.in-Err.error in
    let judged = subst (λ (n : ℕ). JudgesFirst c.args.ground.now c.args.inside read old n journal.current.body (Err error)) c.body_at.ensures
    (subst (λ (l : List ℕ). JudgesFirst c.args.ground.now c.args.inside read old c.body_at.result l (Err error)) c.body.ensures c.in-Err.ensures.judged) in
    subst (λ (e : MigrateErr). FirstBodyAs c.args.ground.now c.args.inside read old journal.current.body_at journal.current.body (memory_of c.take.new.memory) (Err e)) (sym c.untaken.ensures) (error, judged, refl)

pub returns-in-Err-clause-kind : goal.returns-in-Err-clause-kind
returns-in-Err-clause-kind c = subst (λ (e : MigrateErr). IsOfFirstRecords {T = Unit {0}} (Err e)) (sym c.untaken.ensures) tt
