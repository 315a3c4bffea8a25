use Rattle.std.proofs.Common.{◌≡◌, ◌∙◌, ℕ, List, take, sym, ap, subst}
use Rattle.journal_halves.specs.declared.frame.Frame.{Frame}
use Rattle.journal_halves.specs.Frames.{IsFrameAhead}
use Rattle.journal_halves.proofs.Taken.{prefix_of, all_of}
use Rattle.journal_halves.specs.States.{state_of}
use Rattle.journal_halves.proofs.records.HalfRecords.look.Goals as goal

pub returns-clause-ahead : goal.returns-clause-ahead
returns-clause-ahead g c told rest is window =
    let ahead = (state_of c.load.new.self).ahead in
    let loaded : ahead ≡ take 65541 rest = c.in_ok-load.ensures.ahead told ∙ ap (λ (l : List ℕ). take 65541 l) (sym is) in
    (prefix_of ahead rest 65541 loaded, λ short. let cut = subst (λ (f : Frame). IsFrameAhead ahead f) short (subst (λ (l : List ℕ). IsFrameAhead l c.frame_of.result) c.ahead-2.ensures c.frame_of.ensures) in all_of ahead rest loaded cut.few)
