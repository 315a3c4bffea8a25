use Rattle.std.proofs.Common.{◌≤◌, ◌/◌, ℕ, arith, length, take, sym}
use Rattle.reed_solomon.specs.declared.TheConstants.{NUMBERS}
use Rattle.reed_solomon.proofs.Recovery.{dispersed, number_at, numbers_length, numbers_named}
use Rattle.reed_solomon.proofs.Shares.{dispersed_share}
use Rattle.reed_solomon.proofs.Coder.encode.Goals as goal

pub evaluate_rows-requires-clause-apart : goal.evaluate_rows-requires-clause-apart
evaluate_rows-requires-clause-apart c = numbers_named c.args.self.now.shape.k (omega arith)

pub returns-clause-dispersed : goal.returns-clause-dispersed
returns-clause-dispersed c =
    let k : ℕ = c.args.self.now.shape.k in
    let few : k ≤ 16 = omega arith in
    dispersed c.args.self.now.shape (length c.args.given.now / k) (take k NUMBERS) c.args.given.now c.evaluate_rows.new.target
    c.args.self.now.shape.spare c.args.self.now.shape.few (numbers_length k few) (λ t l. number_at k t few l)
    (λ i. omega (arith, c.type_inv.given i)) c.requires.whole (omega arith) c.evaluate_rows.ensures

pub returns-clause-rows : goal.returns-clause-rows
returns-clause-rows c = λ j h. sym (dispersed_share c.args.self.now.shape c.args.given.now c.evaluate_rows.new.target j (returns-clause-dispersed c) h)
