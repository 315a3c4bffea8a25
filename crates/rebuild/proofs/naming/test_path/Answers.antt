use Rattle.std.proofs.Common.{ℕ, Option, sym, subst}
use Rattle.rebuild.specs.Found.{path_judged}
use Rattle.rebuild.specs.Steps.{NameIs, tested}
use Rattle.rebuild.proofs.Names.{no_zero_in, on_any}
use Rattle.rebuild.proofs.naming.test_path.Goals as goal

pub test_tag-requires : goal.test_tag-requires
test_tag-requires c = record { path = record { some = c.requires.some; few = c.requires.few; no_zero = no_zero_in c.args.path.now (sym c.in-None.ensures.value) } }

pub returns-in-None-clause-judges : goal.returns-in-None-clause-judges
returns-in-None-clause-judges c version =
    subst (λ (o : Option ℕ). NameIs (path_judged c.args.shape (c.args.tag, version) c.args.path.now o) (tested c.args.path.now c.test_tag.result)) c.in-None.ensures.value (c.test_tag.ensures version)

pub returns-in-None-clause-path : goal.returns-in-None-clause-path
returns-in-None-clause-path c = on_any c.test_tag.result (record { some = c.requires.some; few = c.requires.few; no_zero = no_zero_in c.args.path.now (sym c.in-None.ensures.value) })
