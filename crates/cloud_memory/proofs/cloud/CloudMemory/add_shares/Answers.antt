use Rattle.std.proofs.Common.{◌≡◌, [], length, arith}
use Rattle.cloud_memory.proofs.Adding.{adding_room, adding_more, first_room, first_end}
use Rattle.cloud_memory.proofs.cloud.CloudMemory.add_shares.Goals as goal

pub add_share-requires-clause-room : goal.add_share-requires-clause-room
add_share-requires-clause-room c =
    first_room c.loop-place.self c.args.user _ _
    (adding_room c.args.self.now c.loop-place.self c.args.user c.args.news.now c.loop-place.items c.loop-place.place (record { fp = record { 0 = [] }; len = 0 }) (omega arith) c.loop-place.invariant)

pub add_share-requires-clause-end : goal.add_share-requires-clause-end
add_share-requires-clause-end c = first_end c.loop-place.self c.args.user _ c.loop-place.invariant.room

pub loop-place-preserved : goal.loop-place-preserved
loop-place-preserved c =
    let same : length c.loop-place.items ≡ length c.args.news.now = omega arith in
    adding_more c.args.self.now c.loop-place.self c.add_share.new.self c.args.user c.args.news.now c.loop-place.items c.loop-place.place (record { fp = record { 0 = [] }; len = 0 }) c.add_share.result
    (omega arith) same c.loop-place.invariant c.add_share.ensures
