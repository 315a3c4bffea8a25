use Rattle.std.proofs.Common.{◌≡◌, ◌/◌, ◌<◌, ℕ, length, slice_index, subst, arith}
use Rattle.reed_solomon.specs.CdBase.shape.Shape.{Shape}
use Rattle.reed_solomon.specs.Dispersal.{row, share_of}
use Rattle.caont_rs.proofs.Openings.{united}
use Rattle.caont_rs.proofs.opening.unite.Goals as goal

pub returns : goal.returns
returns c = united c.args.shape c.args.points.now c.args.shares.now c.decode.new.out c.requires.choice c.requires.whole (omega arith)
    (λ i. omega (arith, c.type_inv.shares i)) (λ i. omega (arith, c.type_inv.sealed i))
    (subst (λ (s : Shape). (t : ℕ) → t < s.k → share_of s c.decode.new.out (slice_index c.args.points.now t) ≡ row (length c.args.shares.now / s.k) t c.args.shares.now) c.of.ensures c.decode.ensures.shares)
