use Rattle.std.proofs.Common.{refl}
use Rattle.script_replay.proofs.Steps.{answers_on, ends_answering, ends_carry}
use Rattle.script_replay.proofs.lines.answer_line.Goals as goal

pub returns-in-Ok-clause-answers : goal.returns-in-Ok-clause-answers
returns-in-Ok-clause-answers g c =
    answers_on g.V.Shelf.cloud_at c.args.event.now c.args.link.now c.args.jobs.now c.carry_out.new.link c.carry_out.new.jobs c.clear.new.self c.carry_out.new.text c.carry_out.new.text
    (g.K.Sink.written c.args.sink.now) (g.K.Sink.written c.write_text.new.sink) c.write_text.result c.clear.ensures refl c.in-Ok.ensures.does c.write_text.ensures.ok

pub returns-in-Ok-clause-end : goal.returns-in-Ok-clause-end
returns-in-Ok-clause-end g c =
    ends_answering g.V.Shelf.cloud_at c.args.event.now c.args.link.now c.args.jobs.now c.carry_out.new.link c.carry_out.new.jobs c.clear.new.self c.carry_out.new.text c.carry_out.new.text
    (g.K.Sink.written c.args.sink.now) (g.K.Sink.written c.write_text.new.sink) _ _ c.write_text.result c.clear.ensures refl c.in-Ok.ensures.does c.write_text.ensures.end

pub returns-in-Err-clause-end : goal.returns-in-Err-clause-end
returns-in-Err-clause-end g c =
    ends_carry g.V.Shelf.cloud_at c.args.event.now c.args.link.now c.args.jobs.now c.carry_out.new.link c.carry_out.new.jobs c.in-Err.error c.end_of_error.result
    (g.K.Sink.written c.args.sink.now) (g.K.Sink.written c.args.sink.now) (g.K.Sink.faults c.args.sink.now) (g.K.Sink.faults c.args.sink.now) c.end_of_error.ensures c.in-Err.ensures.cut c.in-Err.ensures.shelf refl refl
