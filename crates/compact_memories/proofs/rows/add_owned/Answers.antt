use Rattle.std.proofs.Common.{◌+◌, ◌<◌, List, sym, subst, arith}
use Rattle.checkpoints.specs.SpentTable.Spent.{Spent}
use Rattle.compact_memories.specs.Passes.{OwnedSoFar, row_of}
use Rattle.compact_memories.proofs.Passing.{owned_none, owned_one}
use Rattle.compact_memories.proofs.rows.add_owned.Goals as goal

pub add_share-requires-clause-owners : goal.add_share-requires-clause-owners
add_share-requires-clause-owners c =
    let is : (row_of c.args.rows.now c.in-Some.user.0).owners < 4294967295 = let f = c.requires.so_far.few c.in-Some.user.0 in let l = c.requires.few in omega (arith, f, l) in is

pub add_share-requires-clause-shares : goal.add_share-requires-clause-shares
add_share-requires-clause-shares c =
    let is : (row_of c.args.rows.now c.in-Some.user.0).shares + c.placed_len-bytes.result < 18446744073709551616 =
    let f = c.requires.so_far.small c.in-Some.user.0 in let l = c.requires.few in let b = c.placed_len-bytes.ensures.small in omega (arith, f, l, b) in is

pub returns-in-Some-clause-so_far : goal.returns-in-Some-clause-so_far
returns-in-Some-clause-so_far c =
    subst (λ (rows : List Spent). OwnedSoFar c.args.shares.now rows (c.args.slot + 1)) (sym c.add_share.ensures)
    (owned_one c.args.shares.now c.args.rows.now c.args.slot c.requires.inside c.requires.so_far c.in-Some.user.0 c.in-Some.fp c.placed_len-bytes.result
    (sym c.in-Some.ensures.owner) c.placed_len-bytes.ensures.len c.placed_len-bytes.ensures.small)

pub returns-in-None-clause-so_far : goal.returns-in-None-clause-so_far
returns-in-None-clause-so_far c = owned_none c.args.shares.now c.args.rows.now c.args.slot c.requires.inside c.requires.so_far (sym c.in-None.ensures.owner)
