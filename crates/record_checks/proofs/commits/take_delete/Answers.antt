use Rattle.std.proofs.Common.{sym, ap, subst, Ok, ◌∙◌, List}
use Rattle.cloud_memory.specs.CdBase.ids.Fp.{Fp}
use Rattle.cloud_memory.specs.Memory.{Memory}
use Rattle.cloud_memory.specs.Rooms.{memory_of}
use Rattle.cloud_memory.specs.Steps.{without_entry}
use Rattle.cloud_memory.specs.FileIndex.Files.{key_of}
use Rattle.cloud_memory.specs.RecordBody.Spelling.{Delete}
use Rattle.record_checks.specs.Judging.{JudgesBody, NoEntry, NotNamed, Deleted}
use Rattle.record_checks.proofs.commits.take_delete.Goals as goal

pub returns-in-None-clause-judged : goal.returns-in-None-clause-judged
returns-in-None-clause-judged c = λ marks. NoEntry c.args.delete.now (sym c.entry.ensures.kept ∙ c.in-None.is)

pub returns-in-None-named-clause-judged : goal.returns-in-None-named-clause-judged
returns-in-None-named-clause-judged c = λ marks. NotNamed c.args.delete.now c.in-Some.entry (sym c.entry.ensures.kept ∙ c.in-Some.is) c.in-None-named.ensures

pub returns-in-Some-named-clause-judged : goal.returns-in-Some-named-clause-judged
returns-in-Some-named-clause-judged c = λ marks.
    let d = c.args.delete.now in
    let key = key_of d.user.0 d.tag.0 d.version.0 in
    subst (λ (m : Memory). JudgesBody c.args.ground.now c.args.inside c.args.read.now marks (memory_of c.args.memory.now) (Delete d) (Ok m))
    (ap (λ (l : List Fp). without_entry l d.user key (memory_of c.args.memory.now)) c.in-Some-named.ensures.1 ∙ sym c.delete.ensures.taken)
    (Deleted d c.in-Some.entry (sym c.entry.ensures.kept ∙ c.in-Some.is) c.in-Some-named.ensures.0)
