use Rattle.std.proofs.Common.{length, ap, subst, arith}
use Rattle.server_requests.specs.CloudStore.Store.{IsOpen}
use Rattle.server_requests.specs.CloudStore.store.CloudStore.{CloudStore}
use Rattle.blob_copy.specs.ShareIndex.Placed.{AreAllPlaced}
use Rattle.share_server.proofs.server.Server.live_share.Goals as goal

pub returns-clause-few : goal.returns-clause-few
returns-clause-few c =
    let same = ap (λ (s : CloudStore). length s.memory.shares.place_slots) c.store.ensures.same in
    let slots = c.store.ensures.settled.rooms.slots in let most = c.store.ensures.settled.header.rooms.owners in
    omega (arith, same, slots, most)

pub returns-clause-placed : goal.returns-clause-placed
returns-clause-placed c =
    subst (λ (s : CloudStore). IsOpen s → AreAllPlaced s.memory.shares.places s.memory.shares.owners) c.store.ensures.same (λ is_open. (c.store.ensures.settled.fit is_open).placed)
