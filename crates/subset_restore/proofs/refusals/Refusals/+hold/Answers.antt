use Rattle.std.proofs.Common.{ℕ, List, sym, ap, subst}
use Rattle.std.specs.Bool.{MatchBool}
use Rattle.transcript.specs.CdBase.Numbers.{numbers_of}
use Rattle.subset_restore.specs.Tracking.{HoldsMarked}
use Rattle.subset_restore.proofs.Marks.{holds_more}
use Rattle.subset_restore.proofs.refusals.Refusals.+hold.Goals as goal

pub returns : goal.returns
returns t c =
    subst (λ (l : List ℕ). MatchBool c.hold.result (HoldsMarked c.args.self.now.marks l) (HoldsMarked c.args.self.now.marks l → ⊥)) (sym (ap numbers_of c.in-Some.ensures))
    (holds_more c.args.self.now.marks c.in-Some.cloud.0 (numbers_of c.in-Some.more.now) c.hold.result c.if-is_marked.ensures c.hold.ensures)
