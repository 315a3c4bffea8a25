use Rattle.std.proofs.Common.{◌≤◌, length, ap, ◌∙◌, arith}
use Rattle.server_reads.proofs.Copied.{seen_is, all_named}
use Rattle.server_reads.proofs.together.has_named.Goals as goal

pub are_named-requires-clause-few : goal.are_named-requires-clause-few
are_named-requires-clause-few c =
    let same = seen_is (length c.args.fps.now) c.args.content.now c.split_at.result.1.now c.in-Ok.field-0-1.now c.in-Ok.shares c.requires c.split_at.ensures.back c.in-Ok.ensures in
    let few : length c.requires.shares ≤ 256 = c.requires.is.fits.0.1 in
    omega (arith, ap length same, few)

pub are_named-requires-clause-one_each : goal.are_named-requires-clause-one_each
are_named-requires-clause-one_each c =
    ap length (seen_is (length c.args.fps.now) c.args.content.now c.split_at.result.1.now c.in-Ok.field-0-1.now c.in-Ok.shares c.requires c.split_at.ensures.back c.in-Ok.ensures)
    ∙ c.requires.many

pub returns-in-Ok : goal.returns-in-Ok
returns-in-Ok c = λ all.
    all_named c.args.fps.now c.args.content.now c.requires c.in-Ok.shares
    (seen_is (length c.args.fps.now) c.args.content.now c.split_at.result.1.now c.in-Ok.field-0-1.now c.in-Ok.shares c.requires c.split_at.ensures.back c.in-Ok.ensures)
    (c.are_named.ensures all)
