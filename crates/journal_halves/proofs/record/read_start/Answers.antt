use Rattle.std.proofs.Common.{◌∙◌, subst}
use Rattle.journal_halves.specs.declared.frame.Frame.{Frame}
use Rattle.journal_halves.specs.Frames.{IsFrameAhead}
use Rattle.journal_halves.proofs.Looks.{never_closed, bad_length, cut_off, is_right, is_wrong, body_read}
use Rattle.journal_halves.proofs.record.read_start.Goals as goal

pub returns-in-Ok-clause-start : goal.returns-in-Ok-clause-start
returns-in-Ok-clause-start c rest is few begun =
    let half = c.args.half in let ahead = c.args.ahead.now in
    let frame = subst (λ (f : Frame). IsFrameAhead ahead f) c.in-Record.is c.frame_of.ensures in
    let same = c.body_in.ensures ∙ body_read ahead frame.0 c.in-Record.len frame.1 frame.2 in
    is_right half ahead rest is begun frame.0 c.body_in.result.now c.in-Ok.start frame.1 same ((c.read.ensures.grammar c.in-Ok.start).0 c.in-Ok.is)

pub returns-in-Err-clause-start : goal.returns-in-Err-clause-start
returns-in-Err-clause-start c rest is few begun =
    let half = c.args.half in let ahead = c.args.ahead.now in
    let frame = subst (λ (f : Frame). IsFrameAhead ahead f) c.in-Record.is c.frame_of.ensures in
    let same = c.body_in.ensures ∙ body_read ahead frame.0 c.in-Record.len frame.1 frame.2 in
    is_wrong half ahead rest is begun frame.0 c.body_in.result.now c.in-Err.fault c.body_damage.result.at c.body_damage.result.byte frame.1 same c.in-Err.ensures.reads c.body_damage.ensures.place

pub returns-in-Closed-clause-start : goal.returns-in-Closed-clause-start
returns-in-Closed-clause-start c rest is few begun =
    let half = c.args.half in let ahead = c.args.ahead.now in
    absurd (never_closed half ahead rest is begun (subst (λ (f : Frame). IsFrameAhead ahead f) c.in-Closed.is c.frame_of.ensures))

pub returns-in-BadLength-clause-start : goal.returns-in-BadLength-clause-start
returns-in-BadLength-clause-start c rest is few begun =
    let half = c.args.half in let ahead = c.args.ahead.now in let d = c.frame_damage-in-BadLength in
    bad_length half ahead rest is begun (subst (λ (f : Frame). IsFrameAhead ahead f) c.in-BadLength.is c.frame_of.ensures) d.result.at d.result.byte d.ensures.damage

pub returns-in-Short-clause-start : goal.returns-in-Short-clause-start
returns-in-Short-clause-start c rest is few begun =
    let half = c.args.half in let ahead = c.args.ahead.now in let d = c.frame_damage-in-Short in
    cut_off half ahead rest is begun (subst (λ (f : Frame). IsFrameAhead ahead f) c.in-Short.is c.frame_of.ensures) d.result.at d.result.byte d.ensures.damage

pub returns-in-Ok-clause-is_start : goal.returns-in-Ok-clause-is_start
returns-in-Ok-clause-is_start c = ((c.read.ensures.grammar c.in-Ok.start).0 c.in-Ok.is).is_start
