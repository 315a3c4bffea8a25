use Rattle.std.proofs.Common.{ℕ, sym, subst}
use Rattle.std.specs.Prelude.{Option}
use Rattle.transcript.specs.declared.line.Line.{Line}
use Rattle.transcript.specs.declared.line.Line.TheVariants as lines
use Rattle.deletions.specs.Replies.{HasLine, Says, Strange, ReadsDeleteReply}
use Rattle.deletions.proofs.Reading.{strange, one_line, no_line}
use Rattle.deletions.proofs.replies.line_of.Goals as goal

pub returns-in-Ok-Some-clause-line : goal.returns-in-Ok-Some-clause-line
returns-in-Ok-Some-clause-line c =
    let it = subst (λ (o : Option Line). ReadsDeleteReply c.args.cloud c.args.content.now o) c.in-Ok-Some.field-0-is
    c.in-Ok-Some.ensures.reads in
    Says it.0 c.in-Ok-Some.line it.1 it.2

pub returns-in-Ok-Some-clause-told : goal.returns-in-Ok-Some-clause-told
returns-in-Ok-Some-clause-told c reply told is has =
    let it = subst (λ (o : Option Line). ReadsDeleteReply c.args.cloud c.args.content.now o) c.in-Ok-Some.field-0-is
    c.in-Ok-Some.ensures.reads in
    one_line c.args.cloud reply it.0 c.in-Ok-Some.line told (c.in-Ok-Some.ensures.one reply it.0 is it.1) it.2 has

pub returns-in-Ok-None-clause-line : goal.returns-in-Ok-None-clause-line
returns-in-Ok-None-clause-line c =
    let none = subst (λ (o : Option Line). ReadsDeleteReply c.args.cloud c.args.content.now o) c.in-Ok-None.field-0-is
    c.in-Ok-None.ensures.reads in
    subst (λ (kind : ℕ). HasLine c.args.cloud c.args.content.now (lines.Strange c.args.cloud kind)) (sym c.kind_of.ensures)
    (Strange (strange c.args.cloud c.args.content.now none))

pub returns-in-Ok-None-clause-told : goal.returns-in-Ok-None-clause-told
returns-in-Ok-None-clause-told c reply told is has =
    absurd (no_line c.args.cloud c.args.content.now reply told (subst (λ (o : Option Line). ReadsDeleteReply c.args.cloud c.args.content.now o) c.in-Ok-None.field-0-is
    c.in-Ok-None.ensures.reads) is has)
