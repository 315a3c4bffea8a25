use Rattle.std.proofs.Common.{List, refl, sym, ap, ◌∙◌, subst}
use Rattle.message_fields.specs.CdBase.ids.Fp.{Fp}
use Rattle.message_fields.specs.CdBase.rooms.Room.TheVariants.{Recipes}
use Rattle.record_checks.specs.RecordBody.Spelling.{Commit}
use Rattle.record_checks.specs.UserDedup.Requests.{fps_of}
use Rattle.record_checks.specs.CloudMemory.Rooms.{memory_of}
use Rattle.record_checks.specs.CloudMemory.Sharing.{AreOwned}
use Rattle.record_checks.specs.CloudMemory.Steps.{with_entry}
use Rattle.first_records.specs.Judging.{NotWhole, CommitLeaves, Crowded, Fails}
use Rattle.first_records.proofs.Judged.{ends, commit_faulty}
use Rattle.first_records.proofs.commits.take_commit.Goals as goal

pub returns-in-Some-clause-judged : goal.returns-in-Some-clause-judged
returns-in-Some-clause-judged c = Crowded c.in-Some.room (sym c.crowded_by.ensures ∙ c.in-Some.is)

pub returns-in-Some-commit_fault-clause-judged : goal.returns-in-Some-commit_fault-clause-judged
returns-in-Some-commit_fault-clause-judged c =
    Fails c.in-Some-commit_fault.place (sym c.crowded_by.ensures ∙ c.in-None.is)
    (commit_faulty c.args.ground.now c.args.inside c.args.read.now (memory_of c.args.memory.now) c.args.commit.now c.in-Some-commit_fault.place c.in-Some-commit_fault.ensures.fault)

pub returns-in-None-whole-clause-judged : goal.returns-in-None-whole-clause-judged
returns-in-None-whole-clause-judged c =
    let right = c.in-None-commit_fault.ensures.fault in
    Fails 57 (sym c.crowded_by.ensures ∙ c.in-None.is) (NotWhole c.args.commit.now right.lies right.new c.in-None-whole.ensures)

pub enter-requires-clause-room : goal.enter-requires-clause-room
enter-requires-clause-room c = sym c.crowded_by.ensures ∙ c.in-None.is

pub enter-requires-clause-new : goal.enter-requires-clause-new
enter-requires-clause-new c = c.in-None-commit_fault.ensures.fault.new

pub enter-requires-clause-end : goal.enter-requires-clause-end
enter-requires-clause-end c = c.in-None-commit_fault.ensures.small

pub enter-requires-clause-owned : goal.enter-requires-clause-owned
enter-requires-clause-owned c = c.in-Some-whole.ensures.2

pub returns-in-Some-whole-clause-judged : goal.returns-in-Some-whole-clause-judged
returns-in-Some-whole-clause-judged c =
    let g = c.args.ground.now in
    let read = c.args.read.now in
    let old = memory_of c.args.memory.now in
    let new = memory_of c.enter.new.memory in
    let commit = c.args.commit.now in
    let names = fps_of g.shape read in
    let right = c.in-None-commit_fault.ensures.fault in
    let whole = c.in-Some-whole.ensures in
    ends g c.args.inside read old new (with_entry names commit old) (Commit commit) Recipes new.recipes_end c.recipes_within.result
    (sym c.crowded_by.ensures ∙ c.in-None.is)
    (CommitLeaves commit right.lies right.new (whole.0, subst (λ (l : List Fp). AreOwned old.owners commit.user l) (sym whole.1) whole.2))
    (c.enter.ensures.taken ∙ ap (λ (l : List Fp). with_entry l commit old) (sym whole.1)) refl c.recipes_within.ensures.room
