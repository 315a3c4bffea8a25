use Rattle.std.proofs.Common.{◌∙◌}
use Rattle.serve_command.proofs.frames_in_turn.serve_piece.Goals as goal

pub returns-in-Err-clause-stops : goal.returns-in-Err-clause-stops
returns-in-Err-clause-stops g c = λ first start received told along.
    c.in-Err.ensures.stops first start received (c.loop-rest.invariant.told ∙ told) (c.loop-rest.invariant.along first start received told along)
