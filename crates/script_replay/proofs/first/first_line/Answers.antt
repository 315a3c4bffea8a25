use Rattle.std.proofs.Common.{refl}
use Rattle.script_replay.proofs.Firsts.{head_here, end_here, no_end_first, end_told}
use Rattle.script_replay.proofs.first.first_line.Goals as goal

pub returns-in-Ok-true-clause-header : goal.returns-in-Ok-true-clause-header
returns-in-Ok-true-clause-header g c =
    head_here (g.S.Source.left c.args.source.now) c.args.reader.now c.next.new.self (g.S.Source.left c.next.new.source) c.in-Ok-true.field-0 c.next.new.self.line c.header_of_line.result
    c.in-Ok-true.field-0-test c.requires c.in-Ok-true.ensures.told refl c.header_of_line.ensures.says

pub returns-in-Ok-true-clause-end : goal.returns-in-Ok-true-clause-end
returns-in-Ok-true-clause-end g c =
    end_here (g.S.Source.left c.args.source.now) c.args.reader.now c.next.new.self (g.S.Source.left c.next.new.source) c.in-Ok-true.field-0 c.next.new.self.line c.header_of_line.result _ _
    c.in-Ok-true.field-0-test c.requires c.in-Ok-true.ensures.told refl c.header_of_line.ensures.says

pub returns-in-Ok-false-clause-end : goal.returns-in-Ok-false-clause-end
returns-in-Ok-false-clause-end g c =
    no_end_first (g.S.Source.left c.args.source.now) c.args.reader.now c.next.new.self (g.S.Source.left c.next.new.source) c.in-Ok-false.field-0 (g.S.Source.faults c.args.source.now) (g.S.Source.faults c.next.new.source) c.in-Ok-false.field-0-test c.requires c.in-Ok-false.ensures.told

pub returns-in-Err-clause-end : goal.returns-in-Err-clause-end
returns-in-Err-clause-end g c =
    end_told (g.S.Source.left c.args.source.now) c.args.reader.now c.next.new.self (g.S.Source.left c.next.new.source) c.in-Err.error c.end_of_reader.result _ _
    c.requires c.in-Err.ensures.told c.in-Err.ensures.cause c.end_of_reader.ensures
