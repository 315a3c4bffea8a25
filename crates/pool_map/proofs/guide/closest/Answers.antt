use Rattle.std.proofs.Common.{◌∙◌, sym, subst, inr}
use Rattle.pool_map.specs.Index.{IsStart}
use Rattle.pool_map.proofs.guide.closest.Goals as goal
use Rattle.pool_map.proofs.guide.closest.Goals.{in-Less, in_default}

pub loop-level-preserved : goal.loop-level-preserved
loop-level-preserved g c =
    elim c.match-cmp.branch [
      | in-Less w ↦ subst (IsStart g.K.Ord.cmp c.args.pool.now.slots c.args.key.now) (sym w.closest-is) (inr (record {
        account = c.in-Held.field-0;
        entry = c.in-Held.entry;
        holds = sym c.look.ensures ∙ c.in-Held.is;
        smaller = sym c.cmp.ensures ∙ w.in-Less.is;
      }))
      | in_default w ↦ subst (IsStart g.K.Ord.cmp c.args.pool.now.slots c.args.key.now) (sym w.closest-is) c.loop-level.invariant
    ]
