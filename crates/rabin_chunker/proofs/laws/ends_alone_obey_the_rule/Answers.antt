use Rattle.rabin_chunker.proofs.RuleLaws.{cut_only, ends_cut}
use Rattle.rabin_chunker.proofs.laws.ends_alone_obey_the_rule.Goals as goal

pub returns : goal.returns
returns c = cut_only c.args.file.now 0 c.args.places.now _ c.requires (ends_cut c.args.file.now)
