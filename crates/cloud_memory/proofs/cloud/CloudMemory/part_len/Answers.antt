use Rattle.std.proofs.Common.{rules, ◌≡◌, length}
use Rattle.cloud_memory.proofs.PutLength.{known_len, fresh_len}
use Rattle.cloud_memory.proofs.cloud.CloudMemory.part_len.Goals as goal

pub returns-in-Some-clause-len : goal.returns-in-Some-clause-len
returns-in-Some-clause-len c =
    let long : length c.args.new.fp.0 ≡ 32 = search rules in
    known_len _ c.args.new long _ _ c.place_of.ensures c.in-Some.is

pub returns-in-None-clause-len : goal.returns-in-None-clause-len
returns-in-None-clause-len c =
    let long : length c.args.new.fp.0 ≡ 32 = search rules in
    fresh_len _ c.args.new long _ c.place_of.ensures c.in-None.is
