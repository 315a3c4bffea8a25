use Rattle.std.proofs.Common.{length, arith, sym, ap, ◌∙◌, ℕ, List}
use Rattle.generated_session.specs.Drawn.{drawn}
use Rattle.generated_session.proofs.Draws.{wrote_byte, wrote_all}
use Rattle.generated_session.proofs.drawing.draw.Goals as goal

pub loop-byte-preserved : goal.loop-byte-preserved
loop-byte-preserved c = wrote_byte c.loop-byte.out c.loop-byte.byte-index c.loop-byte.state c.following-state.result c.args.from (let a = c.loop-byte.auto.out in omega arith) c.following-state.ensures c.loop-byte.invariant

pub returns : goal.returns
returns c = wrote_all c.loop-byte.out c.loop-byte.byte-index c.loop-byte.state c.args.from (length c.args.out.now) (omega arith) (c.loop-byte.invariant ∙ ap (drawn c.args.from) c.loop-byte.auto.out)
