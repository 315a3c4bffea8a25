use Rattle.std.proofs.Common.{ℕ, List, inl, inr, refl, subst}
use Rattle.ports_link.specs.Refusals.{refused_text}
use Rattle.subset_restore.specs.Refusals.{refusal_text}
use Rattle.restore_command.specs.Ends.{Fails, Gives, Refuses, HasWrittenBytes}
use Rattle.restore_command.proofs.restoring.restore.Goals as goal

pub returns-in-Ok-clause-fetched : goal.returns-in-Ok-clause-fetched
returns-in-Ok-clause-fetched g c =
    Gives c.fetch.new.file c.in-Ok.ensures.fetches
    (subst (λ (bytes : List ℕ). HasWrittenBytes bytes 0 (g.K.Sink.written c.args.sink.now)
    (g.K.Sink.written c.write_text.new.sink) (g.K.Sink.faults c.args.sink.now) (g.K.Sink.faults c.write_text.new.sink)
    c.write_text.result) c.as_slice.ensures c.write_text.ensures)

pub returns-in-Err-Hello-clause-fetched : goal.returns-in-Err-Hello-clause-fetched
returns-in-Err-Hello-clause-fetched g c =
    let why = c.in-Err-Hello.refused in
    Refuses (refused_text why) (inl (why, rw c.in-Err-Hello.field-0-is at c.in-Err-Hello.ensures.fetches, refl))
    c.write_hello.ensures

pub returns-in-Err-Refused-clause-fetched : goal.returns-in-Err-Refused-clause-fetched
returns-in-Err-Refused-clause-fetched g c =
    let why = c.in-Err-Refused.why in
    let refused = rw c.in-Err-Refused.field-0-is at c.in-Err-Refused.ensures.fetches in
    Refuses (refusal_text why) (inr (refused.0, why, refused.1, refused.2, refl)) c.write_refusal.ensures

pub returns-in-Err-Lost-clause-fetched : goal.returns-in-Err-Lost-clause-fetched
returns-in-Err-Lost-clause-fetched g c =
    let lost = rw c.in-Err-Lost.field-0-is at c.in-Err-Lost.ensures.fetches in
    Fails refl lost.0 lost.1 refl refl
