use Rattle.std.proofs.Common.{subst, refl, sym, ap, ◌∙◌, List}
use Rattle.cloud_memory.specs.CdBase.ids.Fp.{Fp}
use Rattle.cloud_memory.specs.UserDedup.Owning.{fps_in}
use Rattle.cloud_memory.specs.Memory.{Memory}
use Rattle.cloud_memory.specs.Rooms.{memory_of}
use Rattle.cloud_memory.specs.Sharing.{AreOwned}
use Rattle.record_checks.proofs.Faults.{not_so}
use Rattle.record_checks.proofs.Judged.{commit_faulty, commit_not_whole, commit_past, commit_taken, commit_grows, ends_kept, full_of_files}
use Rattle.record_checks.proofs.commits.take_commit.Goals as goal

pub returns-in-Some-clause-judged : goal.returns-in-Some-clause-judged
returns-in-Some-clause-judged c = λ marks.
    commit_faulty c.args.ground.now c.args.inside c.args.read.now marks (memory_of c.args.memory.now) c.args.commit.now c.in-Some.place c.in-Some.ensures.fault

pub returns-in-None-whole-clause-judged : goal.returns-in-None-whole-clause-judged
returns-in-None-whole-clause-judged c = λ marks.
    commit_not_whole c.args.ground.now c.args.inside c.args.read.now marks (memory_of c.args.memory.now) c.args.commit.now c.in-None.ensures.fault c.in-None-whole.ensures

pub returns-then-not-may_spend-clause-judged : goal.returns-then-not-may_spend-clause-judged
returns-then-not-may_spend-clause-judged c = λ marks.
    let old = memory_of c.args.memory.now in
    let whole = c.in-Some-whole.ensures in
    commit_past c.args.ground.now c.args.inside c.args.read.now marks old c.args.commit.now c.in-None.ensures.fault
    (whole.0, subst (λ (l : List Fp). AreOwned old.owners c.args.commit.now.user l) (sym whole.1) whole.2)
    (λ fits. not_so c.may_spend.result c.may_spend.ensures c.if-not-may_spend.true fits.recipes)

pub take_entry-requires-clause-end : goal.take_entry-requires-clause-end
take_entry-requires-clause-end c = c.in-None.ensures.small

pub returns-in-Err-clause-judged : goal.returns-in-Err-clause-judged
returns-in-Err-clause-judged c = λ marks.
    let old = memory_of c.args.memory.now in
    let whole = c.in-Some-whole.ensures in
    commit_past c.args.ground.now c.args.inside c.args.read.now marks old c.args.commit.now c.in-None.ensures.fault
    (whole.0, subst (λ (l : List Fp). AreOwned old.owners c.args.commit.now.user l) (sym whole.1) whole.2)
    (λ fits. fits.entries ((full_of_files c.args.ground.now.rooms c.args.memory.now c.args.commit.now.user c.requires.rooms).0 (c.in-Err.ensures.full.0 refl)))

pub returns-in-Ok-clause-judged : goal.returns-in-Ok-clause-judged
returns-in-Ok-clause-judged c = λ marks.
    let old = memory_of c.args.memory.now in
    let whole = c.in-Some-whole.ensures in
    commit_taken c.args.ground.now c.args.inside c.args.read.now marks old (memory_of c.take_entry.new.self) (memory_of c.spend_recipe.new.memory) c.args.commit.now (fps_in c.in-Some-whole.recipe.items)
    c.in-None.ensures.fault
    (whole.0, subst (λ (l : List Fp). AreOwned old.owners c.args.commit.now.user l) (sym whole.1) whole.2)
    (record { entries = λ full. let wrong = c.in-Ok.ensures.full.1 ((full_of_files c.args.ground.now.rooms c.args.memory.now c.args.commit.now.user c.requires.rooms).1 full) in cc; recipes = c.may_spend.ensures.0 c.if-not-may_spend.false })
    whole.1 c.in-Ok.ensures.taken c.spend_recipe.ensures.taken

pub returns-in-Ok-clause-ends : goal.returns-in-Ok-clause-ends
returns-in-Ok-clause-ends c =
    let spent = c.spend_recipe.ensures.taken in
    let taken = c.in-Ok.ensures.taken in
    let kept = ends_kept c.args.inside c.args.commit.now.user _ (memory_of c.take_entry.new.self) in
    commit_grows c.args.ground.now c.args.inside (memory_of c.args.memory.now) (memory_of c.spend_recipe.new.memory) c.args.commit.now c.in-None.ensures.fault.lies
    (ap (λ (m : Memory). m.shares_end) spent ∙ kept.0 ∙ ap (λ (m : Memory). m.shares_end) taken)
    (ap (λ (m : Memory). m.recipes_end) spent ∙ kept.1 ∙ ap (λ (m : Memory). m.recipes_end) taken)
