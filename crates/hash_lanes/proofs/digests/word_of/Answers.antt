use Rattle.std.proofs.Common.{sym}
use Rattle.hash_lanes.proofs.Vectors.{lane_word}
use Rattle.hash_lanes.proofs.digests.word_of.Goals as goal

pub returns : goal.returns
returns c = sym (lane_word c.args.j c.args.state.now c.args.i)
