use Rattle.std.proofs.Common.{◌≡◌, Bool, Result, Ok, Err, true, length, sym, ◌∙◌, ap, subst}
use Rattle.cloud_disk.specs.CdEdges.area.Area.TheVariants.{Journal, Recipes}
use Rattle.cloud_disk.specs.CdEdges.Disk.{Areas}
use Rattle.cloud_disk.proofs.CdEdges.Moments.{told_on}
use Rattle.cloud_disk.specs.JournalHalves.errors.RecordErr.{RecordErr}
use Rattle.cloud_disk.specs.JournalHalves.Outcomes.{StepIs}
use Rattle.cloud_disk.specs.CommitJournal.errors.OpenErr.{OpenErr}
use Rattle.cloud_disk.specs.CommitJournal.errors.OpenErr.TheVariants.{Damaged}
use Rattle.cloud_disk.specs.CommitJournal.Openings.{OnFault}
use Rattle.cloud_disk.specs.CommitJournal.States.{JournalState, state_of}
use Rattle.cloud_disk.specs.CommitJournal.Outcomes as journals
use Rattle.record_laws.specs.RecordChecks.CloudMemory.Rooms.{memory_of}
use Rattle.cloud_opening.specs.Steps.{From, OneAs, NextAs}
use Rattle.cloud_opening.proofs.Looking.{shows_still}
use Rattle.cloud_opening.proofs.Stepping.{as_taken, as_refused, as_ended, as_damaged}
use Rattle.cloud_opening.proofs.records.take_next.Goals as goal

pub returns-in-Ok-clause-exact : goal.returns-in-Ok-clause-exact
returns-in-Ok-clause-exact g c told w reading is =
    let number = c.args.judging.now.cloud.0 in let c0 = g.V.Shelf.cloud_at c.args.shelf.now number in let c1 = g.V.Shelf.cloud_at c.next.new.shelf number in
    let store = c0.now Journal in let recipes = (c0.now Recipes).read in let back : c1.now ≡ c0.now = c.next.ensures.stays.now in
    let old = state_of c.args.journal.now in let mid = state_of c.next.new.self in let ground = c.args.judging.now.ground.now in let before = memory_of c.args.memory.now in let t = c.args.taking.now in
    let m = memory_of c.take_record.new.memory in let u = c.take_record.new.taking in
    let further = subst (λ (r : Result Bool RecordErr). journals.NextIs old mid store w r) (c.in-Ok-true.is ∙ ap Ok c.in-Ok-true.field-0-test) (c.next.ensures.reads told w reading) in
    let over = subst (λ (r : Result Bool RecordErr). StepIs old.current mid.current r) (c.in-Ok-true.is ∙ ap Ok c.in-Ok-true.field-0-test) c.next.ensures.step in
    let one = subst (λ (a : Areas). OneAs ground c.args.judging.now.inside (a Recipes).read before t mid.current.body_at mid.current.body m u (Ok tt)) back (c.in-Ok.ensures.judged (told_on c0 c1 c.next.ensures.call.told told)) in
    subst (λ (s : JournalState). NextAs ground recipes store w old before t s m u (Ok true)) (sym c.in-Ok.ensures.journal)
    (as_taken ground recipes store old mid w before t reading c.args.judging.now.inside is further over mid.stage m u c.next.ensures.start one)

pub returns-in-Err-clause-exact : goal.returns-in-Err-clause-exact
returns-in-Err-clause-exact g c told w reading is =
    let number = c.args.judging.now.cloud.0 in let c0 = g.V.Shelf.cloud_at c.args.shelf.now number in let c1 = g.V.Shelf.cloud_at c.next.new.shelf number in
    let store = c0.now Journal in let recipes = (c0.now Recipes).read in let back : c1.now ≡ c0.now = c.next.ensures.stays.now in
    let old = state_of c.args.journal.now in let mid = state_of c.next.new.self in let ground = c.args.judging.now.ground.now in let before = memory_of c.args.memory.now in let t = c.args.taking.now in
    let m = memory_of c.take_record.new.memory in let u = c.take_record.new.taking in let error = c.in-Err.error in
    let further = subst (λ (r : Result Bool RecordErr). journals.NextIs old mid store w r) (c.in-Ok-true.is ∙ ap Ok c.in-Ok-true.field-0-test) (c.next.ensures.reads told w reading) in
    let over = subst (λ (r : Result Bool RecordErr). StepIs old.current mid.current r) (c.in-Ok-true.is ∙ ap Ok c.in-Ok-true.field-0-test) c.next.ensures.step in
    let one = subst (λ (a : Areas). OnFault {T = Unit {0}} (Err error) (Unit {0}) (OneAs ground c.args.judging.now.inside (a Recipes).read before t mid.current.body_at mid.current.body m u (Err error))) back
    (c.in-Err.ensures.judged (told_on c0 c1 c.next.ensures.call.told told)) in
    as_refused ground recipes store old mid w before t reading c.args.judging.now.inside is further over (state_of c.take_record.new.journal) m u error one

pub returns-in-Ok-false-clause-exact : goal.returns-in-Ok-false-clause-exact
returns-in-Ok-false-clause-exact g c told w reading is =
    let number = c.args.judging.now.cloud.0 in let c0 = g.V.Shelf.cloud_at c.args.shelf.now number in
    let store = c0.now Journal in let recipes = (c0.now Recipes).read in
    let old = state_of c.args.journal.now in let mid = state_of c.next.new.self in
    let ended = subst (λ (r : Result Bool RecordErr). journals.NextIs old mid store w r) (c.in-Ok-false.is ∙ ap Ok c.in-Ok-false.field-0-test) (c.next.ensures.reads told w reading) in
    let stood = subst (λ (r : Result Bool RecordErr). StepIs old.current mid.current r) (c.in-Ok-false.is ∙ ap Ok c.in-Ok-false.field-0-test) c.next.ensures.step in
    as_ended c.args.judging.now.ground.now recipes store old mid w (memory_of c.args.memory.now) c.args.taking.now reading stood.0 ended

pub returns-in-Err-Damaged-clause-exact : goal.returns-in-Err-Damaged-clause-exact
returns-in-Err-Damaged-clause-exact g c told w reading is new =
    let number = c.args.judging.now.cloud.0 in let c0 = g.V.Shelf.cloud_at c.args.shelf.now number in
    let store = c0.now Journal in let recipes = (c0.now Recipes).read in
    let old = state_of c.args.journal.now in let mid = state_of c.next.new.self in
    let damage = subst (λ (r : Result Bool RecordErr). journals.NextIs old mid store w r) (c.in-Err-Damaged.is ∙ ap Err c.in-Err-Damaged.field-0-is) (c.next.ensures.reads told w reading) in
    let ground = c.args.judging.now.ground.now in let before = memory_of c.args.memory.now in let t = c.args.taking.now in
    let from : From ground recipes store new old (length w.bodies) before t (Err (Damaged c.in-Err-Damaged.at c.in-Err-Damaged.byte)) =
    as_damaged ground recipes store old mid w before t reading c.in-Err-Damaged.at c.in-Err-Damaged.byte damage new in
    subst (λ (e : OpenErr). From ground recipes store new old (length w.bodies) before t (Err e)) (λ i. Damaged (sym c.in-Err-Damaged.at-is i) (sym c.in-Err-Damaged.byte-is i)) from

pub take_record-requires-clause-shows : goal.take_record-requires-clause-shows
take_record-requires-clause-shows g c =
    shows_still (g.V.Shelf.cloud_at c.args.shelf.now c.args.judging.now.cloud.0) (g.V.Shelf.cloud_at c.next.new.shelf c.args.judging.now.cloud.0) c.args.window.now c.args.buffer.now c.next.ensures.stays c.next.ensures.call.told c.requires.shows

pub returns-in-Ok-false-clause-shows : goal.returns-in-Ok-false-clause-shows
returns-in-Ok-false-clause-shows g c =
    shows_still (g.V.Shelf.cloud_at c.args.shelf.now c.args.judging.now.cloud.0) (g.V.Shelf.cloud_at c.next.new.shelf c.args.judging.now.cloud.0) c.args.window.now c.args.buffer.now c.next.ensures.stays c.next.ensures.call.told c.requires.shows

pub returns-in-Err-Damaged-clause-shows : goal.returns-in-Err-Damaged-clause-shows
returns-in-Err-Damaged-clause-shows g c =
    shows_still (g.V.Shelf.cloud_at c.args.shelf.now c.args.judging.now.cloud.0) (g.V.Shelf.cloud_at c.next.new.shelf c.args.judging.now.cloud.0) c.args.window.now c.args.buffer.now c.next.ensures.stays c.next.ensures.call.told c.requires.shows

pub returns-in-Err-Failed-clause-shows : goal.returns-in-Err-Failed-clause-shows
returns-in-Err-Failed-clause-shows g c =
    shows_still (g.V.Shelf.cloud_at c.args.shelf.now c.args.judging.now.cloud.0) (g.V.Shelf.cloud_at c.next.new.shelf c.args.judging.now.cloud.0) c.args.window.now c.args.buffer.now c.next.ensures.stays c.next.ensures.call.told c.requires.shows
