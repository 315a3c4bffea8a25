use Rattle.std.proofs.Common.{refl, ◌+◌}
use Rattle.script_replay.proofs.Steps.{says_line, ends_script, ends_reader, ends_there}
use Rattle.script_replay.proofs.lines.next_event.Goals as goal

pub returns-in-Ok-clause-says : goal.returns-in-Ok-clause-says
returns-in-Ok-clause-says g c =
    says_line c.args.shape c.args.jobs c.args.reader.now c.next.new.self c.event_of_line.new.reader (g.S.Source.left c.args.source.now) (g.S.Source.left c.next.new.source) c.in-Ok-true.field-0 c.in-Ok.event
    c.in-Ok-true.field-0-test c.in-Ok-true.ensures.told c.in-Ok.ensures.says c.event_of_line.ensures.ahead c.event_of_line.ensures.taken

pub returns-in-Err-event_of_line-clause-end : goal.returns-in-Err-event_of_line-clause-end
returns-in-Err-event_of_line-clause-end g c =
    ends_script c.args.shape c.args.jobs c.args.events (c.args.events + 2) c.args.reader.now c.next.new.self (g.S.Source.left c.args.source.now) (g.S.Source.left c.next.new.source)
    c.in-Ok-true.field-0 c.next.new.self.line c.in-Err-event_of_line.error c.end_of_line.result _ _ refl c.end_of_line.ensures c.in-Ok-true.field-0-test c.in-Ok-true.ensures.told
    refl c.in-Err-event_of_line.ensures.says

pub returns-in-Ok-false-clause-says : goal.returns-in-Ok-false-clause-says
returns-in-Ok-false-clause-says g c =
    ends_there c.args.jobs c.args.reader.now c.next.new.self (g.S.Source.left c.args.source.now) (g.S.Source.left c.next.new.source) c.in-Ok-false.field-0
    c.in-Ok-false.field-0-test c.in-Ok-false.ensures.told

pub returns-in-Err-clause-end : goal.returns-in-Err-clause-end
returns-in-Err-clause-end g c =
    ends_reader c.args.shape c.args.jobs c.args.events (c.args.events + 2) c.args.reader.now c.next.new.self (g.S.Source.left c.args.source.now) (g.S.Source.left c.next.new.source)
    c.in-Err.error c.end_of_reader.result _ _ refl c.end_of_reader.ensures c.in-Err.ensures.told c.in-Err.ensures.cause
