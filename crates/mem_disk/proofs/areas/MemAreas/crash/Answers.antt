use Rattle.cd_edges.specs.declared.area.Area.TheVariants.{Journal, Shares, Recipes}
use Rattle.mem_disk.proofs.areas.MemAreas.crash.Goals as goal

pub crash-requires-clause-cut : goal.crash-requires-clause-cut
crash-requires-clause-cut c = c.requires.cut Journal

pub crash-requires-2-clause-cut : goal.crash-requires-2-clause-cut
crash-requires-2-clause-cut c = c.requires.cut Shares

pub crash-requires-3-clause-cut : goal.crash-requires-3-clause-cut
crash-requires-3-clause-cut c = c.requires.cut Recipes
