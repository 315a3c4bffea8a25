use Rattle.std.proofs.Common.{◌≡◌, Bool, Result, Ok, Err, true, length, sym, ◌∙◌, ap, subst}
use Rattle.fresh_checkpoints.specs.CdEdges.area.Area.TheVariants.{Journal, Recipes}
use Rattle.fresh_checkpoints.specs.CdEdges.Disk.{Areas}
use Rattle.fresh_checkpoints.proofs.CdEdges.Moments.{told_on}
use Rattle.fresh_checkpoints.specs.JournalHalves.errors.RecordErr.{RecordErr}
use Rattle.fresh_checkpoints.specs.JournalHalves.Outcomes.{StepIs}
use Rattle.cloud_opening.specs.CommitJournal.States.{JournalState, state_of}
use Rattle.cloud_opening.specs.CommitJournal.Outcomes as journals
use Rattle.fresh_checkpoints.specs.CloudMemory.Rooms.{memory_of}
use Rattle.store_migration.specs.declared.errors.OldErr.{OldErr}
use Rattle.store_migration.specs.declared.errors.OldErr.TheVariants.{Damaged}
use Rattle.store_migration.specs.Answers.{OnMigrateFault}
use Rattle.store_migration.specs.Steps.{ReplaysFirstFrom, IsFirstOneAs, NextFirstAs}
use Rattle.store_migration.proofs.Stepping.{as_taken, as_refused, as_ended, as_damaged}
use Rattle.store_migration.proofs.records.take_next.Goals as goal

pub returns-in-Ok-clause-exact : goal.returns-in-Ok-clause-exact
returns-in-Ok-clause-exact g c told w reading is =
    let number = c.args.cloud.0 in let c0 = g.V.Shelf.cloud_at c.args.shelf.now number in let c1 = g.V.Shelf.cloud_at c.next.new.shelf number in
    let store = c0.now Journal in let recipes = (c0.now Recipes).read in let back : c1.now ≡ c0.now = c.next.ensures.stays.now in
    let old = state_of c.args.journal.now in let mid = state_of c.next.new.self in let ground = c.args.ground.now in let before = memory_of c.args.memory.now in
    let m = memory_of c.take_record.new.memory in
    let further = subst (λ (r : Result Bool RecordErr). journals.NextIs old mid store w r) (c.in-Ok-true.is ∙ ap Ok c.in-Ok-true.field-0-test) (c.next.ensures.reads told w reading) in
    let over = subst (λ (r : Result Bool RecordErr). StepIs old.current mid.current r) (c.in-Ok-true.is ∙ ap Ok c.in-Ok-true.field-0-test) c.next.ensures.step in
    let one = subst (λ (a : Areas). IsFirstOneAs ground c.args.inside (a Recipes).read before mid.current.body_at mid.current.body m (Ok tt)) back (c.in-Ok.ensures.judged (told_on c0 c1 c.next.ensures.call.told told)) in
    subst (λ (s : JournalState). NextFirstAs ground recipes store w old before s m (Ok true)) (sym c.in-Ok.ensures.journal)
    (as_taken ground recipes store old mid w before reading c.args.inside is further over mid.stage m c.next.ensures.start one)

pub returns-in-Err-clause-exact : goal.returns-in-Err-clause-exact
returns-in-Err-clause-exact g c told w reading is =
    let number = c.args.cloud.0 in let c0 = g.V.Shelf.cloud_at c.args.shelf.now number in let c1 = g.V.Shelf.cloud_at c.next.new.shelf number in
    let store = c0.now Journal in let recipes = (c0.now Recipes).read in let back : c1.now ≡ c0.now = c.next.ensures.stays.now in
    let old = state_of c.args.journal.now in let mid = state_of c.next.new.self in let ground = c.args.ground.now in let before = memory_of c.args.memory.now in
    let m = memory_of c.take_record.new.memory in let error = c.in-Err.error in
    let further = subst (λ (r : Result Bool RecordErr). journals.NextIs old mid store w r) (c.in-Ok-true.is ∙ ap Ok c.in-Ok-true.field-0-test) (c.next.ensures.reads told w reading) in
    let over = subst (λ (r : Result Bool RecordErr). StepIs old.current mid.current r) (c.in-Ok-true.is ∙ ap Ok c.in-Ok-true.field-0-test) c.next.ensures.step in
    let one = subst (λ (a : Areas). OnMigrateFault {T = Unit {0}} (Err error) (Unit {0}) (IsFirstOneAs ground c.args.inside (a Recipes).read before mid.current.body_at mid.current.body m (Err error))) back
    (c.in-Err.ensures.judged (told_on c0 c1 c.next.ensures.call.told told)) in
    as_refused ground recipes store old mid w before reading c.args.inside is further over (state_of c.take_record.new.journal) m error one

pub returns-in-Ok-false-clause-exact : goal.returns-in-Ok-false-clause-exact
returns-in-Ok-false-clause-exact g c told w reading is =
    let number = c.args.cloud.0 in let c0 = g.V.Shelf.cloud_at c.args.shelf.now number in
    let store = c0.now Journal in let recipes = (c0.now Recipes).read in
    let old = state_of c.args.journal.now in let mid = state_of c.next.new.self in
    let ended = subst (λ (r : Result Bool RecordErr). journals.NextIs old mid store w r) (c.in-Ok-false.is ∙ ap Ok c.in-Ok-false.field-0-test) (c.next.ensures.reads told w reading) in
    let stood = subst (λ (r : Result Bool RecordErr). StepIs old.current mid.current r) (c.in-Ok-false.is ∙ ap Ok c.in-Ok-false.field-0-test) c.next.ensures.step in
    as_ended c.args.ground.now recipes store old mid w (memory_of c.args.memory.now) reading stood.0 ended

pub returns-in-Err-Damaged-clause-exact : goal.returns-in-Err-Damaged-clause-exact
returns-in-Err-Damaged-clause-exact g c told w reading is new =
    let number = c.args.cloud.0 in let c0 = g.V.Shelf.cloud_at c.args.shelf.now number in
    let store = c0.now Journal in let recipes = (c0.now Recipes).read in
    let old = state_of c.args.journal.now in let mid = state_of c.next.new.self in
    let damage = subst (λ (r : Result Bool RecordErr). journals.NextIs old mid store w r) (c.in-Err-Damaged.is ∙ ap Err c.in-Err-Damaged.field-0-is) (c.next.ensures.reads told w reading) in
    let ground = c.args.ground.now in let before = memory_of c.args.memory.now in
    let from : ReplaysFirstFrom ground recipes store new old (length w.bodies) before (Err (Damaged c.in-Err-Damaged.at c.in-Err-Damaged.byte)) =
    as_damaged ground recipes store old mid w before reading c.in-Err-Damaged.at c.in-Err-Damaged.byte damage new in
    subst (λ (e : OldErr). ReplaysFirstFrom ground recipes store new old (length w.bodies) before (Err e)) (λ i. Damaged (sym c.in-Err-Damaged.at-is i) (sym c.in-Err-Damaged.byte-is i)) from
