use Rattle.file_recipe.proofs.Shares.{Along}
use Rattle.file_recipe.proofs.disperse.add_secrets.Given as goal

abbrev pub invariant-loop-end : goal.invariant-loop-end
invariant-loop-end l = Along l.shape l.first l.base l.part l.ends l.end-index l.start l.fn.files l.files
