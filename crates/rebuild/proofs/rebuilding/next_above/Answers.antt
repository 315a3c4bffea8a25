use Rattle.std.proofs.Common.{arith}
use Rattle.rebuild.proofs.Pages.{last_split}
use Rattle.rebuild.proofs.rebuilding.next_above.Goals as goal

pub returns-in-len1-up : goal.returns-in-len1-up
returns-in-len1-up c = last_split c.args.page.now _ (omega (arith, c.in-len1-up.len_at_least))
