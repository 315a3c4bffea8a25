use Rattle.std.proofs.Common.{◌∙◌}
use Rattle.spent_table.proofs.Adding.{shares_more}
use Rattle.spent_table.proofs.SpentTable.add_shares.Goals as goal

pub returns : goal.returns
returns c = c.set.ensures ∙ shares_more c.args.self.now c.args.user.0 c.of-spent.result _ c.args.owners c.args.bytes c.of-spent.ensures
