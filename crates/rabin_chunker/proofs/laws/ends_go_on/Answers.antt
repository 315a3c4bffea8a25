use Rattle.rabin_chunker.proofs.RuleLaws.{ends_of_more}
use Rattle.rabin_chunker.proofs.laws.ends_go_on.Goals as goal

pub returns : goal.returns
returns c = ends_of_more c.args.fed.now c.args.piece.now
