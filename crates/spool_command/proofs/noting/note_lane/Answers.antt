use Rattle.std.proofs.Common.{inl, refl, sym, subst, Err}
use Rattle.upload_spool.specs.CdEdges.Shelf.{HasFailed, KeepsCounts}
use Rattle.upload_spool.specs.States.{state_of}
use Rattle.backup_command.specs.LaneSteps.Runs.{lane_at}
use Rattle.spool_command.specs.declared.interruption.Interruption.{Interruption}
use Rattle.spool_command.specs.Noted.{NoteIs, KeepsNote, IfShelf}
use Rattle.spool_command.proofs.Notes.{done_of, not_due, kept_same, kept_noted, failed_note, failed_kept, failed_counts}
use Rattle.spool_command.proofs.noting.note_lane.Goals as goal

pub returns-then-not-is_due-clause-notes : goal.returns-then-not-is_due-clause-notes
returns-then-not-is_due-clause-notes g c =
    not_due c.args.job.now c.args.lane (state_of c.args.spool.now).noted c.is_due.result c.requires.long c.is_due.ensures c.if-not-is_due.true

pub returns-then-not-is_due-clause-kept : goal.returns-then-not-is_due-clause-kept
returns-then-not-is_due-clause-kept g c =
    let state = state_of c.args.spool.now in
    kept_same state state (g.V.Shelf.cloud_at c.args.shelf.now 0) refl

pub note-requires-clause-committed : goal.note-requires-clause-committed
note-requires-clause-committed g c = (c.is_due.ensures.0 c.if-not-is_due.false).0

pub note-requires-clause-new : goal.note-requires-clause-new
note-requires-clause-new g c = (c.is_due.ensures.0 c.if-not-is_due.false).1

pub returns-in-Ok-clause-notes : goal.returns-in-Ok-clause-notes
returns-in-Ok-clause-notes g c =
    let due = c.is_due.ensures.0 c.if-not-is_due.false in
    inl (done_of c.args.job.now c.args.lane.0 due.0, due.1, c.in-Ok.ensures.added)

pub returns-in-Ok-clause-kept : goal.returns-in-Ok-clause-kept
returns-in-Ok-clause-kept g c =
    kept_noted (state_of c.args.spool.now) (state_of c.note.new.self) c.args.lane (g.V.Shelf.cloud_at c.args.shelf.now 0) (g.V.Shelf.cloud_at c.note.new.shelf 0) c.in-Ok.ensures.added c.in-Ok.ensures.any_moment
    c.in-Ok.ensures.noted

pub returns-in-Err-clause-notes : goal.returns-in-Err-clause-notes
returns-in-Err-clause-notes g c =
    let due = c.is_due.ensures.0 c.if-not-is_due.false in
    let before = state_of c.args.spool.now in
    let after = state_of c.note.new.self in
    let state = (lane_at c.args.job.now c.args.lane.0).state in
    subst (λ (w : Interruption). NoteIs before after c.args.lane state (Err w)) (sym c.interruption.ensures)
    (failed_note c.in-Err.error before after c.args.lane state (g.V.Shelf.cloud_at c.args.shelf.now 0) (g.V.Shelf.cloud_at c.note.new.shelf 0) c.in-Err.ensures.answers
    (done_of c.args.job.now c.args.lane.0 due.0, due.1) c.in-Err.ensures.memory)

pub returns-in-Err-clause-kept : goal.returns-in-Err-clause-kept
returns-in-Err-clause-kept g c =
    let before = state_of c.args.spool.now in
    let after = state_of c.note.new.self in
    let old = g.V.Shelf.cloud_at c.args.shelf.now 0 in
    let new = g.V.Shelf.cloud_at c.note.new.shelf 0 in
    subst (λ (w : Interruption). KeepsNote before after c.args.lane old new (Err w)) (sym c.interruption.ensures)
    (failed_kept c.in-Err.error before after c.args.lane old new c.in-Err.ensures.answers c.in-Err.ensures.shape c.in-Err.ensures.any_moment c.in-Err.ensures.memory)

pub returns-in-Err-clause-failed : goal.returns-in-Err-clause-failed
returns-in-Err-clause-failed g c =
    let cloud_at = g.V.Shelf.cloud_at in
    let faults = g.V.Shelf.faults in
    let failed = HasFailed (cloud_at c.args.shelf.now 0) (cloud_at c.note.new.shelf 0) (faults c.args.shelf.now) (faults c.note.new.shelf) in
    let kept = KeepsCounts (cloud_at c.args.shelf.now 0) (cloud_at c.note.new.shelf 0) (faults c.args.shelf.now) (faults c.note.new.shelf) in
    subst (λ (w : Interruption). IfShelf {T = Unit {0}} (Err w) failed) (sym c.interruption.ensures)
    (failed_counts c.in-Err.error failed kept c.in-Err.ensures.answers c.in-Err.ensures.counts)
