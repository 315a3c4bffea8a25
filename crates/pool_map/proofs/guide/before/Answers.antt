use Rattle.std.proofs.Common.{◌∙◌, sym, inr}
use Rattle.pool_map.proofs.guide.before.Goals as goal

pub returns-in-Less : goal.returns-in-Less
returns-in-Less g c = inr (record {
  account = c.in-Held.field-0;
  entry = c.in-Held.entry;
  holds = sym c.look.ensures ∙ c.in-Held.is;
  smaller = sym c.cmp.ensures ∙ c.in-Less.is;
})
