use Rattle.std.proofs.Common.{◌+◌, ◌∙◌, ap, refl, arith}
use Rattle.sha2.specs.Sha256.{sha256 as sha256_of}
use Rattle.restore_job.specs.Restored.{item_of}
use Rattle.restore_job.proofs.Taking.{here_is, taken_over, taken_more}
use Rattle.restore_job.proofs.shares.take_shares.Goals as goal

pub returns-in_default-clause-takes : goal.returns-in_default-clause-takes
returns-in_default-clause-takes c =
    taken_over c.args.shape c.args.firsts.now c.args.items.now c.args.place c.args.shares.now c.args.rooms.now c.loop-j.rooms c.loop-j.rest c.loop-j.j c.args.count c.loop-j.invariant c.in_default.ensures.value c.loop-j-test.true c.requires.all

pub loop-j-preserved : goal.loop-j-preserved
loop-j-preserved c =
    taken_more c.args.shape c.args.firsts.now c.args.items.now c.args.place c.args.shares.now c.args.rooms.now c.loop-j.rooms c.loop-j.rest c.append.new.self c.loop-j.j c.in-Some.share.now c.in-Some.more
    (item_of c.args.firsts.now (c.args.place + c.loop-j.j)) (item_of c.args.items.now (c.args.place + c.loop-j.j)) c.loop-j.invariant c.in-Some.ensures.value (omega (arith, c.loop-j.invariant.len)) refl refl
    c.in_ok-check_share.ensures.0 c.in_ok-check_share.ensures.1 c.in_ok-append.ensures.ok

pub check_share-requires-clause-digest : goal.check_share-requires-clause-digest
check_share-requires-clause-digest c =
    c.digests_of-digests.ensures c.loop-j.j (omega (arith, c.requires.all))
    ∙ ap sha256_of (here_is c.args.shape c.args.firsts.now c.args.items.now c.args.place c.args.shares.now c.args.rooms.now c.loop-j.rooms c.loop-j.rest c.loop-j.j c.in-Some.share.now c.in-Some.more c.loop-j.invariant c.in-Some.ensures.value)
