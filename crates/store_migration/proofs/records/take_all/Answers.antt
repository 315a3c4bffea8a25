use Rattle.std.proofs.Common.{◌≡◌, ℕ, ◌+◌, ◌≤◌, Bool, true, false, List, [], length, Result, Ok, Err, refl, sym, ◌∙◌, ap, subst, rules}
use Rattle.std.proofs.lemmas.Result.{err_from_is_err_and}
use Rattle.fresh_checkpoints.specs.CdEdges.area.Area.TheVariants.{Journal, Recipes}
use Rattle.cloud_opening.specs.JournalStart.Spelling.{records_of}
use Rattle.cloud_opening.specs.CommitJournal.States.{state_of, IsJournalReading}
use Rattle.fresh_checkpoints.specs.CloudMemory.Fitting.{FitsRecords}
use Rattle.fresh_checkpoints.specs.CloudMemory.Rooms.{memory_of}
use Rattle.cloud_opening.proofs.Along.{with_bodies}
use Rattle.store_migration.specs.declared.errors.MigrateErr.{MigrateErr}
use Rattle.store_migration.specs.Steps.{OnRecordTaken, AllFirstRecordsAs, stage_of}
use Rattle.store_migration.proofs.Along.{further, all_taken, not_taken, StepAs}
use Rattle.store_migration.proofs.records.take_all.Goals as goal

pub loop-records-init : goal.loop-records-init
loop-records-init g c = record {
  stays = search rules;
  call = search rules;
  counts = search rules;
  reading = c.requires.reading;
  start_is = refl;
  limit = refl;
  has_rooms = c.requires.rooms;
  few = search rules;
  len_is = refl;
  unspent = refl;
  fit = λ fits. fits;
  exact = λ told w reading none. record {
    bodies = [];
    count = refl;
    reading = subst (λ (l : List (List ℕ)). IsJournalReading (state_of c.args.journal.now) ((g.V.Shelf.cloud_at c.args.shelf.now c.args.cloud.0).now Journal) (with_bodies w l)) none reading;
    leads = λ last answer rest. rest;
  };
}

pub loop-records-preserved : goal.loop-records-preserved
loop-records-preserved g c =
    let number = c.args.cloud.0 in let c0 = g.V.Shelf.cloud_at c.args.shelf.now in let c1 = g.V.Shelf.cloud_at c.loop-records.shelf in let c2 = g.V.Shelf.cloud_at c.take_next.new.shelf in
    let before = g.V.Shelf.faults c.args.shelf.now in let mid = g.V.Shelf.faults c.loop-records.shelf in let now = g.V.Shelf.faults c.take_next.new.shelf in
    let ground = c.args.ground.now in let start = state_of c.args.journal.now in let old = state_of c.loop-records.journal in let new = state_of c.take_next.new.journal in
    let first = c.args.memory.now in let memory = c.loop-records.memory in let after = c.take_next.new.memory in
    let records = c.loop-records.records in let long = length c.args.buffer.now in let len = length c.loop-records.buffer in let len2 = length c.take_next.new.buffer in
    let of = c.from-of_checkpoint.result in let of_is : of ≡ records_of start.start.checkpoint = c.from-of_checkpoint.ensures ∙ c.records.ensures in let along = c.loop-records.invariant in
    let is : c.take_next.result ≡ Ok true = c.in_ok-take_next.was ∙ ap Ok c.if-branch.true in
    let gate : old.current.gate + 6 ≤ new.current.gate = subst (λ (r : Result Bool MigrateErr). OnRecordTaken r (old.current.gate + 6 ≤ new.current.gate)) is c.take_next.ensures.gate in
    let stage = c.take_next.ensures.stage ∙ ap stage_of is in
    let unspent : after.spent ≡ memory.spent = c.in_ok-take_next.ensures.unspent in
    let fit : FitsRecords (memory_of memory) → FitsRecords (memory_of after) = c.in_ok-take_next.ensures.fit in
    further c0 c1 c2 number before mid now ground start old new first memory after records long len len2 of of_is along c.take_next.ensures.stays c.take_next.ensures.call c.in_ok-take_next.ensures.counts stage c.take_next.ensures.start c.take_next.ensures.limit c.take_next.ensures.rooms gate
    c.take_next.ensures.buffer unspent fit (subst (StepAs c0 c1 c2 number before mid now ground start old new first memory after records long len len2 of of_is along) is c.take_next.ensures.exact)

pub returns-clause-exact : goal.returns-clause-exact
returns-clause-exact g c told w reading none =
    let number = c.args.cloud.0 in let c0 = g.V.Shelf.cloud_at c.args.shelf.now in let c1 = g.V.Shelf.cloud_at c.loop-records.shelf in let c2 = g.V.Shelf.cloud_at c.take_next.new.shelf in
    let before = g.V.Shelf.faults c.args.shelf.now in let mid = g.V.Shelf.faults c.loop-records.shelf in let now = g.V.Shelf.faults c.take_next.new.shelf in
    let ground = c.args.ground.now in let start = state_of c.args.journal.now in let old = state_of c.loop-records.journal in let new = state_of c.take_next.new.journal in
    let first = c.args.memory.now in let memory = c.loop-records.memory in let after = c.take_next.new.memory in
    let records = c.loop-records.records in let long = length c.args.buffer.now in let len = length c.loop-records.buffer in let len2 = length c.take_next.new.buffer in
    let of = c.from-of_checkpoint.result in let of_is : of ≡ records_of start.start.checkpoint = c.from-of_checkpoint.ensures ∙ c.records.ensures in let along = c.loop-records.invariant in
    let is : c.take_next.result ≡ Ok false = c.in_ok-take_next.was ∙ ap Ok c.if-branch.false in
    all_taken c0 c1 c2 number before mid now ground start old new first memory after records long len len2 of of_is along (subst (StepAs c0 c1 c2 number before mid now ground start old new first memory after records long len len2 of of_is along) is c.take_next.ensures.exact) told w reading none

pub returns-in_err-take_next-clause-exact : goal.returns-in_err-take_next-clause-exact
returns-in_err-take_next-clause-exact g c told w reading none =
    let number = c.args.cloud.0 in let c0 = g.V.Shelf.cloud_at c.args.shelf.now in let c1 = g.V.Shelf.cloud_at c.loop-records.shelf in let c2 = g.V.Shelf.cloud_at c.take_next.new.shelf in
    let before = g.V.Shelf.faults c.args.shelf.now in let mid = g.V.Shelf.faults c.loop-records.shelf in let now = g.V.Shelf.faults c.take_next.new.shelf in
    let ground = c.args.ground.now in let start = state_of c.args.journal.now in let old = state_of c.loop-records.journal in let new = state_of c.take_next.new.journal in
    let first = c.args.memory.now in let memory = c.loop-records.memory in let after = c.take_next.new.memory in
    let records = c.loop-records.records in let long = length c.args.buffer.now in let len = length c.loop-records.buffer in let len2 = length c.take_next.new.buffer in
    let of = c.from-of_checkpoint.result in let of_is : of ≡ records_of start.start.checkpoint = c.from-of_checkpoint.ensures ∙ c.records.ensures in let along = c.loop-records.invariant in
    let error = c.in_err-take_next.field-0.0 in
    let is : c.take_next.result ≡ Err error = c.in_err-take_next.was in
    let p = err_from_is_err_and c.from_residual.result c.from_residual.ensures.1 in
    let residual : c.from_residual.result ≡ Err error = p.1 ∙ ap Err p.2 in
    subst (λ (r : Result (Unit {0}) MigrateErr). AllFirstRecordsAs ground ((c0 number).now Recipes).read ((c0 number).now Journal) w start (memory_of first) new (memory_of after) r) (sym residual)
    (not_taken c0 c1 c2 number before mid now ground start old new first memory after records long len len2 of of_is along error (subst (StepAs c0 c1 c2 number before mid now ground start old new first memory after records long len len2 of of_is along) is c.take_next.ensures.exact) told w reading none)

pub returns-clause-fit : goal.returns-clause-fit
returns-clause-fit g c first = c.in_ok-take_next.ensures.fit (c.loop-records.invariant.fit first)

pub returns-clause-unspent : goal.returns-clause-unspent
returns-clause-unspent g c = c.in_ok-take_next.ensures.unspent ∙ c.loop-records.invariant.unspent
