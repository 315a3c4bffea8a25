use Rattle.rabin_chunker.proofs.RuleLaws.{ends_of_all}
use Rattle.rabin_chunker.proofs.laws.ends_are_whole.Goals as goal

pub returns : goal.returns
returns c = ends_of_all c.args.file.now
