use Rattle.std.proofs.Common.{rules, ◌+◌, ◌<◌, List, sym, subst, arith}
use Rattle.checkpoints.specs.FileIndex.Files.{key_of}
use Rattle.checkpoints.specs.SpentTable.Spent.{Spent}
use Rattle.compact_memories.specs.Passes.{AreRowsSmall, KeptSoFar, row_of}
use Rattle.compact_memories.proofs.Passing.{entry_none, entry_one, still_small}
use Rattle.compact_memories.proofs.rows.add_entry.Goals as goal

pub add_recipe-requires : goal.add_recipe-requires
add_recipe-requires c =
    let few : c.in-Some.entry.len < 4294967296 = search rules in
    let is : (row_of c.args.rows.now c.in-Some.user.0).recipes + c.in-Some.entry.len < 18446744073709551616 =
    let f = c.requires.small c.in-Some.user.0 in let l = c.ranges.slot.fits in omega (arith, f, l, few) in is

pub returns-in-Some-clause-so_far : goal.returns-in-Some-clause-so_far
returns-in-Some-clause-so_far c shares so =
    let key = key_of c.in-Some.user.0 c.in-Some.field-0-1.0 c.in-Some.field-0-2.0 in
    subst (λ (rows : List Spent). KeptSoFar shares c.args.files.now rows (c.args.slot + 1)) (sym c.add_recipe.ensures)
    (entry_one shares c.args.files.now c.args.rows.now c.args.slot c.requires.inside so key c.in-Some.entry (sym c.in-Some.ensures.entry))

pub returns-in-None-clause-so_far : goal.returns-in-None-clause-so_far
returns-in-None-clause-so_far c shares so = entry_none shares c.args.files.now c.args.rows.now c.args.slot c.requires.inside so (sym c.in-None.ensures.entry)

pub returns-in-Some-clause-small : goal.returns-in-Some-clause-small
returns-in-Some-clause-small c =
    let few : c.in-Some.entry.len < 4294967296 = search rules in
    subst (λ (rows : List Spent). AreRowsSmall rows (c.args.slot + 1)) (sym c.add_recipe.ensures)
    (still_small c.args.rows.now c.in-Some.user.0 c.in-Some.entry.len c.args.slot c.requires.small few)

pub returns-in-None-clause-small : goal.returns-in-None-clause-small
returns-in-None-clause-small c user = let f = c.requires.small user in omega (arith, f)
