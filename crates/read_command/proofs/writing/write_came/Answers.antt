use Rattle.std.proofs.Common.{refl, sym, ◌∙◌, subst}
use Rattle.std.specs.Prelude.{Result, Ok, Err}
use Rattle.subset_restore.specs.RestoreJob.error.RestoreErr.{RestoreErr}
use Rattle.read_command.specs.declared.end.ReadEnd.{ReadEnd}
use Rattle.subset_restore.specs.Refusals.{refusal_text}
use Rattle.read_command.specs.Ends.{IsReadWritten, WritesBytes}
use Rattle.read_command.proofs.Written.{not_whole}
use Rattle.read_command.proofs.writing.write_came.Goals as goal

pub returns-in-Err-write_text-clause-written : goal.returns-in-Err-write_text-clause-written
returns-in-Err-write_text-clause-written g c =
    let file = c.args.file.now in
    let old = g.K.Sink.written c.args.sink.now in
    let new = g.K.Sink.written c.write_text.new.sink in
    let before = g.K.Sink.faults c.args.sink.now in
    let now = g.K.Sink.faults c.write_text.new.sink in
    let end = c.in-Err-write_text.end in
    subst (λ (came : Result (Unit {0}) RestoreErr). IsReadWritten came file old new end) (sym c.in-Ok.is)
    (not_whole (Ok c.in-Ok.field-0) file file old new before now end refl
    (subst (λ (r : Result (Unit {0}) ReadEnd). WritesBytes old new before now file r) c.in-Err-write_text.is c.write_text.ensures))

pub returns-in-Err-write_refusal-clause-written : goal.returns-in-Err-write_refusal-clause-written
returns-in-Err-write_refusal-clause-written g c =
    let file = c.args.file.now in
    let old = g.K.Sink.written c.args.sink.now in
    let new = g.K.Sink.written c.write_refusal.new.sink in
    let before = g.K.Sink.faults c.args.sink.now in
    let now = g.K.Sink.faults c.write_refusal.new.sink in
    let end = c.in-Err-write_refusal.end in
    let why = c.in-Some.why in
    subst (λ (came : Result (Unit {0}) RestoreErr). IsReadWritten came file old new end) (sym c.in-Err.is)
    (not_whole (Err c.in-Err.error) file (refusal_text why) old new before now end (why, sym c.as_refusal.ensures ∙ c.in-Some.is, refl)
    (subst (λ (r : Result (Unit {0}) ReadEnd). WritesBytes old new before now (refusal_text why) r) c.in-Err-write_refusal.is c.write_refusal.ensures))
