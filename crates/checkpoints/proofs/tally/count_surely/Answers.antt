use Rattle.std.proofs.Common.{◌+◌, ◌*◌, arith}
use Rattle.std.proofs.lemmas.Grind.{div_ceil_times}
use Rattle.checkpoints.specs.Records.{puts_from, kept_from, commits_from, spents_from, coming}
use Rattle.checkpoints.proofs.MarkedOwners.{marked_owned}
use Rattle.checkpoints.proofs.Tallied.{whole_fit, whole_number, whole_short, tallied}
use Rattle.checkpoints.proofs.tally.count_surely.Goals as goal

pub count_kept-kept-requires-clause-owned : goal.count_kept-kept-requires-clause-owned
count_kept-kept-requires-clause-owned c =
    let at = c.args.at.now in
    marked_owned c.args.shares.now c.owner_at.ensures.each c.args.marks.now at.user at.owner c.requires.ready.puts.listing

pub returns-clause-fit : goal.returns-clause-fit
returns-clause-fit c =
    let at = c.args.at.now in
    whole_fit (puts_from c.args.shares.now at.left at.user at.owner) (kept_from c.args.shares.now at.place) (commits_from c.args.files.now at.file) (spents_from c.args.spent.now at.row)
    c.count_puts-puts.ensures.fit c.count_kept-kept.ensures.fit c.count_commits-commits.ensures.fit c.count_spents-spents.ensures.fit

pub returns-clause-count : goal.returns-clause-count
returns-clause-count c =
    let at = c.args.at.now in
    let puts = puts_from c.args.shares.now at.left at.user at.owner in let kept = kept_from c.args.shares.now at.place in
    let commits = commits_from c.args.files.now at.file in let spents = spents_from c.args.spent.now at.row in
    let p = c.count_puts-puts.result in let k = c.count_kept-kept.result in let m = c.count_commits-commits.result in let s = c.count_spents-spents.result in
    let puts_is = c.count_puts-puts.ensures.puts in let items_is = c.count_puts-puts.ensures.items in
    let kept_is = c.count_kept-kept.ensures.count in let commits_is = c.count_commits-commits.ensures.count in let spents_is = c.count_spents-spents.ensures.count in
    let ceil = div_ceil_times k 256 (omega arith) in let low = ceil.0 in let high = ceil.1 in let n = c.div_ceil.ensures in
    let number =
    whole_number puts kept commits spents c.count_puts-puts.ensures.fit c.count_kept-kept.ensures.fit c.count_commits-commits.ensures.fit c.count_spents-spents.ensures.fit
    c.div_ceil.result (omega (arith, low, n, kept_is), omega (arith, high, n, kept_is)) in
    let short =
    whole_short puts kept commits spents c.count_puts-puts.ensures.fit c.count_kept-kept.ensures.fit c.count_commits-commits.ensures.fit c.count_spents-spents.ensures.fit in
    tallied (coming c.args.shares.now c.args.files.now c.args.spent.now at) c.args.limit (p.0 + c.div_ceil.result + m + s) (63 + 57 * p.1 + 52 * k + 94 * m + 30 * s) c.within.result c.within.ensures
    (omega (arith, number, puts_is, commits_is, spents_is)) (omega (arith, short, items_is, kept_is, commits_is, spents_is))
