use Rattle.std.proofs.Common.{◌≡◌, length, drop, sym, ◌∙◌, arith}
use Rattle.std.proofs.Common.{length-drop}
use Rattle.cloud_memory.specs.RecordBody.Spelling.{FitsSpent}
use Rattle.checkpoints.specs.Records.{spents_from}
use Rattle.checkpoints.proofs.RoomLaw.{spents_few}
use Rattle.checkpoints.proofs.Tallied.{tally_number, tally_fit, tally_full}
use Rattle.checkpoints.proofs.tally.count_spents.Goals as goal

pub returns-clause-count : goal.returns-clause-count
returns-clause-count c =
    let all = spents_from c.args.table.now c.args.from in let rest = spents_from c.args.table.now c.loop-count.at in let count = c.loop-count.count in
    let ends : count ≡ length c.args.table.now = let no = c.loop-count-test.false in let most = c.loop-count.auto.count-end in omega (arith, no, most, c.users-count-end.ensures) in
    let none = tally_full (FitsSpent) all rest count c.loop-count.invariant (omega (arith, ends, spents_few c.args.from (drop c.args.from c.args.table.now), length-drop c.args.from c.args.table.now)) in
    c.users.ensures ∙ sym ends ∙ tally_number (FitsSpent) all rest count c.loop-count.invariant none

pub returns-clause-fit : goal.returns-clause-fit
returns-clause-fit c =
    let all = spents_from c.args.table.now c.args.from in let rest = spents_from c.args.table.now c.loop-count.at in let count = c.loop-count.count in
    let ends : count ≡ length c.args.table.now = let no = c.loop-count-test.false in let most = c.loop-count.auto.count-end in omega (arith, no, most, c.users-count-end.ensures) in
    let none = tally_full (FitsSpent) all rest count c.loop-count.invariant (omega (arith, ends, spents_few c.args.from (drop c.args.from c.args.table.now), length-drop c.args.from c.args.table.now)) in
    tally_fit (FitsSpent) all rest count c.loop-count.invariant none
