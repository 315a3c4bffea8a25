use Rattle.two_worlds.specs.Transcript.Endings.{ending_text as text_of_ending}
use Rattle.cd_top.proofs.ReadClosing.{closes_read, says_why, fails_why, forgets_why}
use Rattle.cd_top.proofs.read.finish_read.Goals as goal

pub returns-in-None : goal.returns-in-None
returns-in-None g c = λ faults text before counts appends empty.
    closes_read c.args.end.now before _ faults _ text counts appends c.status_of.result c.status_of.ensures
    c.in-None.ensures.none

pub returns-in-Ok : goal.returns-in-Ok
returns-in-Ok g c = λ faults text before counts appends empty.
    says_why c.args.end.now before _ faults _ text counts appends _ _ (text_of_ending c.in-Some.last)
    c.in-Some.ensures.line c.status_of-in-Ok.result c.status_of-in-Ok.ensures c.in-Ok.ensures.0 c.in-Ok.ensures.1

pub returns-in-Err-SinkFault : goal.returns-in-Err-SinkFault
returns-in-Err-SinkFault g c = λ faults text before counts appends empty.
    let wrote = rw c.in-Err-SinkFault.field-0-is at c.in-Err-SinkFault.ensures in
    fails_why c.args.end.now before _ faults _ text counts appends _ _ (text_of_ending c.in-Some.last)
    c.in-Some.ensures.line c.in-Some.ensures.some (empty c.in-Some.ensures.some) wrote.0 wrote.1

pub returns-in-Err-NoMemory : goal.returns-in-Err-NoMemory
returns-in-Err-NoMemory g c = λ faults text before counts appends empty.
    let wrote = rw c.in-Err-NoMemory.field-0-is at c.in-Err-NoMemory.ensures in
    forgets_why c.args.end.now before _ faults _ text counts appends _ _ (text_of_ending c.in-Some.last)
    c.in-Some.ensures.line c.in-Some.ensures.some (empty c.in-Some.ensures.some) wrote.0 wrote.1
