use Rattle.rabin_chunker.proofs.RuleLaws.{ends_cut}
use Rattle.rabin_chunker.proofs.laws.ends_obey_the_rule.Goals as goal

pub returns : goal.returns
returns c = ends_cut c.args.file.now
