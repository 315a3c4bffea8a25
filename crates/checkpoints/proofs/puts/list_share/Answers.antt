use Rattle.std.proofs.Common.{subst, sym}
use Rattle.checkpoints.specs.Ready.{AreMarked}
use Rattle.std.proofs.Common.{Bool, List, ◌++◌, ◌∷◌, []}
use Rattle.checkpoints.proofs.Marking.{marked_more, unplaced_more}
use Rattle.checkpoints.proofs.puts.list_share.Goals as goal

pub returns-then-mark-clause-marks : goal.returns-then-mark-clause-marks
returns-then-mark-clause-marks c fps m =
    subst (λ (marks : List Bool). AreMarked c.args.shares.now marks (fps ++ c.args.fp ∷ [])) (sym c.mark.ensures.marked)
    (marked_more c.args.shares.now c.args.marks.now fps c.args.fp m c.requires.stand c.in-Some.slot c.in-Some.ensures.slot c.in-Some.ensures.placed)

pub returns-else-mark-clause-marks : goal.returns-else-mark-clause-marks
returns-else-mark-clause-marks c fps m =
    subst (λ (marks : List Bool). AreMarked c.args.shares.now marks (fps ++ c.args.fp ∷ [])) (sym c.mark.ensures.marked)
    (marked_more c.args.shares.now c.args.marks.now fps c.args.fp m c.requires.stand c.in-Some.slot c.in-Some.ensures.slot c.in-Some.ensures.placed)

pub returns-in-None-clause-marks : goal.returns-in-None-clause-marks
returns-in-None-clause-marks c fps m = unplaced_more c.args.shares.now c.args.marks.now fps c.args.fp m c.requires.stand c.in-None.ensures.placed
