use Rattle.std.proofs.Common.{refl, subst}
use Rattle.journal_halves.specs.declared.frame.Frame.{Frame}
use Rattle.journal_halves.specs.Frames.{IsFrameAhead}
use Rattle.journal_halves.proofs.Taken.{closed_on}
use Rattle.journal_halves.specs.States.{state_of}
use Rattle.journal_halves.proofs.Reading.{bad_taken, short_taken}
use Rattle.journal_halves.proofs.records.HalfRecords.take.Goals as goal

pub returns-in-BadLength-clause-taken : goal.returns-in-BadLength-clause-taken
returns-in-BadLength-clause-taken c rest window short some few =
    let self = c.args.self.now in let old = state_of self in
    bad_taken old old rest window (subst (λ (f : Frame). IsFrameAhead old.ahead f) c.in-BadLength.is c.requires.frame) c.damage.result c.damage.ensures

pub returns-in-Short-clause-taken : goal.returns-in-Short-clause-taken
returns-in-Short-clause-taken c rest window short some few =
    let self = c.args.self.now in let old = state_of self in
    short_taken old old rest (short c.in-Short.is) some (subst (λ (f : Frame). IsFrameAhead old.ahead f) c.in-Short.is c.requires.frame) c.damage-in-Short.result c.damage-in-Short.ensures

pub returns-in-Record-clause-taken : goal.returns-in-Record-clause-taken
returns-in-Record-clause-taken c rest window short some few = let found = c.step.ensures.found rest window in (found.0, c.step.ensures.over, found.1)

pub returns-in-Closed-clause-taken : goal.returns-in-Closed-clause-taken
returns-in-Closed-clause-taken c rest window short some few =
    let old = state_of c.args.self.now in (closed_on old.ahead rest window (subst (λ (f : Frame). IsFrameAhead old.ahead f) c.in-Closed.is c.requires.frame), refl)
