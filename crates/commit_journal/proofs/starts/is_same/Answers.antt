use Rattle.std.proofs.Common.{sym, ◌∙◌}
use Rattle.commit_journal.proofs.Same.{header_eq}
use Rattle.commit_journal.proofs.starts.is_same.Goals as goal

pub returns-clause-same : goal.returns-clause-same
returns-clause-same c e = header_eq c.args.one.now c.args.two.now (sym c.eq.ensures ∙ e)
