use Rattle.std.proofs.Common.{List, refl, sym, ap, ◌∙◌, subst}
use Rattle.message_fields.specs.CdBase.ids.Fp.{Fp}
use Rattle.record_checks.specs.FileIndex.Files.{key_of}
use Rattle.record_checks.specs.RecordBody.Spelling.{Delete}
use Rattle.record_checks.specs.CloudMemory.Rooms.{memory_of}
use Rattle.record_checks.specs.CloudMemory.Steps.{without_entry}
use Rattle.first_records.specs.Judging.{Leaves, NoEntry, NotNamed, DeleteLeaves, Fails, Fits}
use Rattle.first_records.proofs.Rooms.{rooms_kept}
use Rattle.first_records.proofs.commits.take_delete.Goals as goal

pub returns-in-None-clause-judged : goal.returns-in-None-clause-judged
returns-in-None-clause-judged c = Fails 5 refl (NoEntry c.args.delete.now (sym c.entry.ensures.kept ∙ c.in-None.is))

pub returns-in-None-named-clause-judged : goal.returns-in-None-named-clause-judged
returns-in-None-named-clause-judged c = Fails 5 refl (NotNamed c.args.delete.now c.in-Some.entry (sym c.entry.ensures.kept ∙ c.in-Some.is) c.in-None-named.ensures)

pub returns-in-Some-named-clause-judged : goal.returns-in-Some-named-clause-judged
returns-in-Some-named-clause-judged c =
    let d = c.args.delete.now in
    let old = memory_of c.args.memory.now in
    let key = key_of d.user.0 d.tag.0 d.version.0 in
    Fits (memory_of c.delete.new.self) refl
    (subst (Leaves c.args.ground.now c.args.inside c.args.read.now old (Delete d))
    (ap (λ (l : List Fp). without_entry l d.user key old) c.in-Some-named.ensures.1 ∙ sym c.delete.ensures.taken)
    (DeleteLeaves d c.in-Some.entry (sym c.entry.ensures.kept ∙ c.in-Some.is) c.in-Some-named.ensures.0)) refl

pub returns-in-Some-named-clause-rooms : goal.returns-in-Some-named-clause-rooms
returns-in-Some-named-clause-rooms c = rooms_kept c.args.memory.now c.delete.new.self c.delete.ensures.greatest c.requires.rooms
