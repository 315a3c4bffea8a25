use Rattle.audit_base.specs.Whole.{tables_of}
use Rattle.blob_audit.proofs.Compared.{own_recipe_is}
use Rattle.blob_audit.proofs.judging.is_own_recipe.Goals as goal

pub returns-in-Ok : goal.returns-in-Ok
returns-in-Ok c =
    own_recipe_is c.args.shape (tables_of c.args.memory.now) c.args.user c.args.bytes.now c.in-Ok.view c.owns_all.result
    ((c.in-Ok.ensures.grammar c.in-Ok.view).0 c.in-Ok.ensures.checks) c.owns_all.ensures.kept
