use Rattle.std.proofs.Common.{refl}
use Rattle.two_worlds.specs.Transcript.Endings.{ending_text as text_of_ending}
use Rattle.cd_top.specs.Ends.{Silent, Unsaid}
use Rattle.cd_top.proofs.Closing.{said_as, cut_as}
use Rattle.cd_top.proofs.ending.finish.Goals as goal

pub returns-in-None : goal.returns-in-None
returns-in-None g c = Silent c.in-None.ensures.none c.status_of.ensures refl refl

pub returns-in-Ok : goal.returns-in-Ok
returns-in-Ok g c =
    said_as c.args.end.now c.status_of-in-Ok.result (g.K.Sink.written c.args.sink.now) (g.K.Sink.written c.write_last.new.sink)
    (g.K.Sink.faults c.args.sink.now) (g.K.Sink.faults c.write_last.new.sink) (text_of_ending c.in-Some.last) c.in-Some.ensures.some
    c.in-Some.ensures.line c.status_of-in-Ok.ensures c.in-Ok.ensures.0 c.in-Ok.ensures.1

pub returns-in-Err-SinkFault : goal.returns-in-Err-SinkFault
returns-in-Err-SinkFault g c =
    let wrote = rw c.in-Err-SinkFault.field-0-is at c.in-Err-SinkFault.ensures in
    cut_as c.args.end.now 4 (g.K.Sink.written c.args.sink.now) (g.K.Sink.written c.write_last.new.sink)
    (g.K.Sink.faults c.args.sink.now) (g.K.Sink.faults c.write_last.new.sink) (text_of_ending c.in-Some.last) c.in-Some.ensures.some
    c.in-Some.ensures.line refl wrote.0 wrote.1

pub returns-in-Err-NoMemory : goal.returns-in-Err-NoMemory
returns-in-Err-NoMemory g c =
    let wrote = rw c.in-Err-NoMemory.field-0-is at c.in-Err-NoMemory.ensures in
    Unsaid c.in-Some.ensures.some refl wrote.0 wrote.1
