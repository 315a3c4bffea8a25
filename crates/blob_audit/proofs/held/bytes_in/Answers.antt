use Rattle.std.proofs.Common.{arith}
use Rattle.blob_audit.proofs.Windowed.{blob_in}
use Rattle.blob_audit.proofs.held.bytes_in.Goals as goal

pub returns-clause-bytes : goal.returns-clause-bytes
returns-clause-bytes c = λ area is.
    blob_in area c.args.held.now c.args.place.now c.args.window.now c.split_at.result.0.now c.split_at-2.result.1.now c.split_at-3.result.0.now c.min.result c.min-2.result
    c.requires.covers is c.split_at.ensures.front c.min.ensures c.split_at-2.ensures.back c.min-2.ensures c.split_at-3.ensures.front

pub returns-clause-len : goal.returns-clause-len
returns-clause-len c = omega (arith, c.split_at-3.ensures.front_len, c.min-2.ensures)
