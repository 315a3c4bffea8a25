use Rattle.std.proofs.Common.{ℕ, ◌<◌, ◌≤◌, length, sym, ◌∙◌, subst, arith}
use Rattle.std.specs.Prelude.{Some, None}
use Rattle.share_server.specs.CdBase.shape.Shape.{Shape}
use Rattle.script_lines.specs.Jobs.{AreReached}
use Rattle.script_replay.specs.Answering.{EndsReading}
use Rattle.script_replay.proofs.Ends.{over, goes_on, few_after, can_at, says_at, said_some, ends_reading, ends_writing, ends_done, ends_answered}
use Rattle.script_replay.proofs.script.carry_lines.Goals as goal

pub returns-in-Err-answered-clause-replays : goal.returns-in-Err-answered-clause-replays
returns-in-Err-answered-clause-replays g c = λ start s first.
    let come = c.lines.invariant.come start s first in
    let shape = c.shape-shape.ensures ∙ sym c.lines.invariant.shape ∙ come.is_at.link_at.shape in
    ends_answered g.V.Shelf.cloud_at (record { given = c.law_of_acknowledged.ensures.given; more = c.law_of_acknowledged.ensures.more; kept = c.law_of_acknowledged.ensures.kept; private = c.law_of_own_replies.ensures })
    start s c.lines.link c.lines.jobs c.lines.reader (g.S.Source.left c.lines.source) (g.S.Source.faults c.lines.source) (g.K.Sink.written c.lines.sink) (g.K.Sink.faults c.lines.sink) c.lines.events come
    c.answer_event-answered.new.link c.in-Ok-Some.event c.next_event-next.new.reader (g.S.Source.left c.next_event-next.new.source) (g.S.Source.faults c.next_event-next.new.source)
    (can_at c.shape-shape.result s.shape c.len.result (length c.lines.jobs) c.in-Ok-Some.field-0 c.in-Ok-Some.event shape c.len.ensures c.in-Ok-Some.field-0-is c.in-Ok-Some.ensures.can)
    (says_at c.shape-shape.result s.shape c.len.result (length c.lines.jobs) c.in-Ok-Some.field-0 (Some c.in-Ok-Some.event) c.lines.reader c.next_event-next.new.reader
    (g.S.Source.left c.lines.source) (g.S.Source.left c.next_event-next.new.source) shape c.len.ensures c.in-Ok-Some.field-0-is c.in-Ok-Some.ensures.says)
    c.answer_event-answered.ensures.leaves c.answer_event-answered.new.jobs c.law_of_moments.ensures.later c.law_of_moments.ensures.here c.law_of_moments.ensures.part
    (g.V.Shelf.faults c.answer_event-answered.new.link.shelf.now) (λ cloud told. g.met.V.Shelf.reads_image c.answer_event-answered.new.link.shelf.now cloud told)
    c.in-Err-answered.end (g.K.Sink.written c.answer_event-answered.new.sink) (g.K.Sink.faults c.answer_event-answered.new.sink) c.in-Err-answered.ensures.end

pub lines-preserved : goal.lines-preserved
lines-preserved g c = record {
  come = λ start s first.
      let come = c.lines.invariant.come start s first in
      let shape = c.shape-shape.ensures ∙ sym c.lines.invariant.shape ∙ come.is_at.link_at.shape in
      goes_on g.V.Shelf.cloud_at start s c.lines.link c.answer_event-answered.new.link c.lines.jobs c.answer_event-answered.new.jobs c.lines.reader c.next_event-next.new.reader
      (g.S.Source.left c.lines.source) (g.S.Source.left c.next_event-next.new.source) (g.S.Source.faults c.lines.source) (g.S.Source.faults c.next_event-next.new.source)
      (g.K.Sink.written c.lines.sink) (g.K.Sink.written c.answer_event-answered.new.sink) (g.K.Sink.faults c.lines.sink) (g.K.Sink.faults c.answer_event-answered.new.sink)
      c.lines.events c.in-Ok-Some.event c.law_of_moments.ensures.later c.law_of_moments.ensures.here come
      (can_at c.shape-shape.result s.shape c.len.result (length c.lines.jobs) c.in-Ok-Some.field-0 c.in-Ok-Some.event shape c.len.ensures c.in-Ok-Some.field-0-is c.in-Ok-Some.ensures.can)
      (says_at c.shape-shape.result s.shape c.len.result (length c.lines.jobs) c.in-Ok-Some.field-0 (Some c.in-Ok-Some.event) c.lines.reader c.next_event-next.new.reader
      (g.S.Source.left c.lines.source) (g.S.Source.left c.next_event-next.new.source) shape c.len.ensures c.in-Ok-Some.field-0-is c.in-Ok-Some.ensures.says)
      c.in-Ok-Some.ensures.still c.in-Ok.ensures.still c.in-Ok.ensures.answers c.answer_event-answered.ensures.leaves c.in-Ok.ensures.count;
  shape = c.answer_event-answered.ensures.leaves.shape ∙ c.lines.invariant.shape;
  reached = subst (λ (sh : Shape). AreReached sh c.answer_event-answered.new.jobs) c.lines.invariant.shape c.answer_event-answered.ensures.reached;
  few = subst (λ (n : ℕ). n ≤ 1000) (sym c.in-Ok.ensures.count) (few_after c.lines.link.servers.shape (length c.lines.jobs) c.in-Ok-Some.event
      (can_at c.shape-shape.result c.lines.link.servers.shape c.len.result (length c.lines.jobs) c.in-Ok-Some.field-0 c.in-Ok-Some.event
      (c.shape-shape.ensures ∙ sym c.lines.invariant.shape) c.len.ensures c.in-Ok-Some.field-0-is c.in-Ok-Some.ensures.can).fits c.lines.invariant.few);
  counted = (let more = said_some c.in-Ok-Some.field-0 c.in-Ok-Some.event (c.lines.reader.taken < c.next_event-next.new.reader.taken) c.in-Ok-Some.field-0-is c.in-Ok-Some.ensures.counted in
      let few = c.lines.invariant.counted in omega arith);
  limited = c.next_event-next.ensures.limited;
  same_reference = c.answer_event-answered.ensures.same_reference ∙ c.lines.invariant.same_reference;
}

pub returns-in-Err-clause-replays : goal.returns-in-Err-clause-replays
returns-in-Err-clause-replays g c = λ start s first.
    let come = c.lines.invariant.come start s first in
    let shape = c.shape-shape.ensures ∙ sym c.lines.invariant.shape ∙ come.is_at.link_at.shape in
    ends_reading g.V.Shelf.cloud_at (record { given = c.law_of_acknowledged.ensures.given; more = c.law_of_acknowledged.ensures.more; kept = c.law_of_acknowledged.ensures.kept; private = c.law_of_own_replies.ensures })
    start s c.lines.link c.lines.jobs c.lines.reader (g.S.Source.left c.lines.source) (g.S.Source.faults c.lines.source) (g.K.Sink.written c.lines.sink) (g.K.Sink.faults c.lines.sink) c.lines.events come
    (g.V.Shelf.faults c.lines.link.shelf.now) (λ cloud told. g.met.V.Shelf.reads_image c.lines.link.shelf.now cloud told)
    c.in-Err.end (g.S.Source.left c.next_event-next.new.source) (g.S.Source.faults c.next_event-next.new.source)
    (over (λ (sh : Shape) (n : ℕ). EndsReading sh n c.lines.events c.lines.reader (g.S.Source.left c.lines.source) (g.S.Source.faults c.lines.source)
    (g.S.Source.faults c.next_event-next.new.source) c.in-Err.end) c.shape-shape.result s.shape c.len.result (length c.lines.jobs) shape c.len.ensures c.in-Err.ensures.end)

pub returns-in-Ok-write_one-clause-replays : goal.returns-in-Ok-write_one-clause-replays
returns-in-Ok-write_one-clause-replays g c = λ start s first.
    let come = c.lines.invariant.come start s first in
    let shape = c.shape-shape.ensures ∙ sym c.lines.invariant.shape ∙ come.is_at.link_at.shape in
    ends_done g.V.Shelf.cloud_at (record { given = c.law_of_acknowledged.ensures.given; more = c.law_of_acknowledged.ensures.more; kept = c.law_of_acknowledged.ensures.kept; private = c.law_of_own_replies.ensures })
    start s c.lines.link c.lines.jobs c.lines.reader (g.S.Source.left c.lines.source) (g.S.Source.faults c.lines.source) (g.K.Sink.written c.lines.sink) (g.K.Sink.faults c.lines.sink) c.lines.events come
    (g.V.Shelf.faults c.lines.link.shelf.now) (λ cloud told. g.met.V.Shelf.reads_image c.lines.link.shelf.now cloud told)
    (g.S.Source.left c.next_event-next.new.source) (g.S.Source.faults c.next_event-next.new.source) (g.K.Sink.written c.write_one.new.sink) (g.K.Sink.faults c.write_one.new.sink)
    (says_at c.shape-shape.result s.shape c.len.result (length c.lines.jobs) c.in-Ok-None.field-0 None c.lines.reader c.next_event-next.new.reader
    (g.S.Source.left c.lines.source) (g.S.Source.left c.next_event-next.new.source) shape c.len.ensures c.in-Ok-None.field-0-is c.in-Ok-None.ensures.says)
    c.in-Ok-write_one.ensures.still c.in-Ok-write_one.ensures.ok

pub returns-clause-replays : goal.returns-clause-replays
returns-clause-replays g c = λ start s first.
    let come = c.lines.invariant.come start s first in
    let shape = c.shape-shape.ensures ∙ sym c.lines.invariant.shape ∙ come.is_at.link_at.shape in
    ends_writing g.V.Shelf.cloud_at (record { given = c.law_of_acknowledged.ensures.given; more = c.law_of_acknowledged.ensures.more; kept = c.law_of_acknowledged.ensures.kept; private = c.law_of_own_replies.ensures })
    start s c.lines.link c.lines.jobs c.lines.reader (g.S.Source.left c.lines.source) (g.S.Source.faults c.lines.source) (g.K.Sink.written c.lines.sink) (g.K.Sink.faults c.lines.sink) c.lines.events come
    (g.V.Shelf.faults c.lines.link.shelf.now) (λ cloud told. g.met.V.Shelf.reads_image c.lines.link.shelf.now cloud told)
    c.in-Err-write_one.end (g.S.Source.left c.next_event-next.new.source) (g.S.Source.faults c.next_event-next.new.source) (g.K.Sink.written c.write_one.new.sink) (g.K.Sink.faults c.write_one.new.sink)
    (says_at c.shape-shape.result s.shape c.len.result (length c.lines.jobs) c.in-Ok-None.field-0 None c.lines.reader c.next_event-next.new.reader
    (g.S.Source.left c.lines.source) (g.S.Source.left c.next_event-next.new.source) shape c.len.ensures c.in-Ok-None.field-0-is c.in-Ok-None.ensures.says)
    c.in-Err-write_one.ensures.end
