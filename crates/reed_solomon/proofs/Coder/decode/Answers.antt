use Rattle.std.proofs.Common.{◌/◌, arith, length}
use Rattle.reed_solomon.proofs.Recovery.{recovered}
use Rattle.reed_solomon.proofs.Shares.{decoded}
use Rattle.reed_solomon.proofs.Coder.decode.Goals as goal

pub returns-clause-recovers : goal.returns-clause-recovers
returns-clause-recovers c = λ original shares d a.
    recovered c.args.self.now.shape (length c.args.pieces.now / c.args.self.now.shape.k) c.args.points.now c.args.pieces.now c.evaluate_rows.new.target original shares
    (omega arith) c.args.self.now.shape.spare c.args.self.now.shape.few c.requires.choice c.requires.whole (omega arith) c.evaluate_rows.ensures d a

pub returns-clause-shares : goal.returns-clause-shares
returns-clause-shares c =
    decoded c.args.self.now.shape (length c.args.pieces.now / c.args.self.now.shape.k) c.args.points.now c.args.pieces.now c.evaluate_rows.new.target
    c.requires.choice (λ i. omega (arith, c.type_inv.pieces i)) c.requires.whole (omega arith) c.evaluate_rows.ensures
