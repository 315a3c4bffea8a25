use Rattle.rabin_chunker.proofs.RuleLaws.{pieces_do_not_matter}
use Rattle.rabin_chunker.proofs.laws.pieces_do_not_matter.Goals as goal

pub returns : goal.returns
returns c = pieces_do_not_matter c.args.pieces.now
