use Rattle.std.proofs.Common.{◌<◌, ◌^◌, arith}
use Rattle.rabin_chunker.specs.Rolling.{rolled_by}
use Rattle.rabin_chunker.proofs.Algebra.{rolls, rolled_lt}
use Rattle.rabin_chunker.proofs.tables.roll.Goals as goal

pub returns-clause-is : goal.returns-clause-is
returns-clause-is c = rolls c.args.fingerprint c.leaving.result c.carried.result c.args.oldest c.args.newest c.requires c.leaving.ensures c.carried.ensures

pub returns-clause-below : goal.returns-clause-below
returns-clause-below c =
    let l : rolled_by c.args.fingerprint c.args.oldest c.args.newest < 2 ^ 53 = rolled_lt c.args.fingerprint c.args.oldest c.args.newest c.requires (omega arith) (omega arith) in
    rw (rolls c.args.fingerprint c.leaving.result c.carried.result c.args.oldest c.args.newest c.requires c.leaving.ensures c.carried.ensures) l
