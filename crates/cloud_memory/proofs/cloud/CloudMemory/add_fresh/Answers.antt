use Rattle.std.proofs.Common.{arith}
use Rattle.cloud_memory.proofs.Taking.{room_behind, fresh_added}
use Rattle.cloud_memory.proofs.cloud.CloudMemory.add_fresh.Goals as goal

pub own-requires : goal.own-requires
own-requires c =
    room_behind c.args.self.now c.lay.new.self c.args.user c.args.new.fp (record { at = c.place_behind-at.result; len = c.args.new.len }) c.requires.room c.lay.ensures

pub returns : goal.returns
returns c =
    fresh_added c.args.self.now c.lay.new.self c.own.new.self c.args.user c.args.new c.place_behind-at.result c.requires.fresh c.requires.room
    c.place_behind-at.ensures.place c.place_behind-at.ensures.near (omega arith) c.lay.ensures c.own.ensures
