use Rattle.std.proofs.Common.{◌≡◌, length, drop, sym, ◌∙◌, arith}
use Rattle.std.proofs.Common.{length-drop}
use Rattle.cloud_memory.specs.RecordBody.FirstSpelling.{FitsCommit}
use Rattle.checkpoints.specs.Records.{commit_at, commits_from}
use Rattle.checkpoints.proofs.RoomLaw.{picked_few}
use Rattle.checkpoints.proofs.Tallied.{tally_number, tally_fit, tally_full, one_tally}
use Rattle.checkpoints.proofs.tally.count_commits.Goals as goal

pub returns-clause-count : goal.returns-clause-count
returns-clause-count c =
    let all = commits_from c.args.files.now c.args.from in let rest = commits_from c.args.files.now c.loop-count.at in let count = c.loop-count.count in
    let ends : count ≡ length c.args.files.now.slots = let no = c.loop-count-test.false in let most = c.loop-count.auto.count-end in omega (arith, no, most, c.slots-count-end.ensures) in
    let none = tally_full (FitsCommit) all rest count c.loop-count.invariant (omega (arith, ends, picked_few commit_at (drop c.args.from c.args.files.now.slots), length-drop c.args.from c.args.files.now.slots)) in
    c.slots.ensures ∙ sym ends ∙ tally_number (FitsCommit) all rest count c.loop-count.invariant none

pub returns-clause-fit : goal.returns-clause-fit
returns-clause-fit c =
    let all = commits_from c.args.files.now c.args.from in let rest = commits_from c.args.files.now c.loop-count.at in let count = c.loop-count.count in
    let ends : count ≡ length c.args.files.now.slots = let no = c.loop-count-test.false in let most = c.loop-count.auto.count-end in omega (arith, no, most, c.slots-count-end.ensures) in
    let none = tally_full (FitsCommit) all rest count c.loop-count.invariant (omega (arith, ends, picked_few commit_at (drop c.args.from c.args.files.now.slots), length-drop c.args.from c.args.files.now.slots)) in
    tally_fit (FitsCommit) all rest count c.loop-count.invariant none

pub loop-count-preserved : goal.loop-count-preserved
loop-count-preserved c =
    let files = c.args.files.now in
    one_tally FitsCommit (commits_from files c.args.from) (commits_from files c.loop-count.at) (commits_from files c.in-Some.behind) c.loop-count.count c.in-Some._commit
    c.loop-count.invariant c.in-Some.ensures.next.rest c.in-Some.ensures.fits
