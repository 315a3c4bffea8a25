use Rattle.std.proofs.Common.{List, length, sym, ap, ◌∙◌, subst, arith}
use Rattle.cloud_memory.specs.FileIndex.Files.{Files}
use Rattle.cloud_memory.specs.ShareIndex.Shares.{Shares}
use Rattle.cloud_memory.specs.SpentTable.Spent.{Spent as Row}
use Rattle.checkpoints.specs.Chained.{HasChains}
use Rattle.checkpoints.specs.Records.{first_of}
use Rattle.cloud_memory.specs.Fitting.{AreSharePlaces, AreRecipes}
use Rattle.checkpoints.proofs.Unmarked.{ready_first}
use Rattle.checkpoints.proofs.records.MemoryRecords.of.Goals as goal

pub returns-clause-ready : goal.returns-clause-ready
returns-clause-ready c =
    let shares = c.shares-shares.ensures in
    ready_first c.shares-shares.result.now c.files-files.result.now c.spent_table-spent.result.now c.args.chains.now c.clear.new.self c.first.result
    (subst (λ (s : Shares). HasChains s.owner_slots c.args.chains.now) (sym shares) c.requires.chained)
    (subst (λ (s : Shares). AreSharePlaces s.places) (sym shares) c.requires.fit.shares)
    (subst (λ (f : Files). AreRecipes f.files) (sym c.files-files.ensures) c.requires.fit.recipes)
    (omega (arith, c.requires.users, ap (λ (rows : List Row). length rows) c.spent_table-spent.ensures))
    (omega (arith, c.requires.slots, ap (λ (s : Shares). length s.place_slots) shares))
    c.clear.ensures c.place_at.ensures.each c.entry_at.ensures.each (c.first.ensures ∙ ap first_of c.users.ensures)
