use Rattle.std.proofs.Common.{length, ap, arith}
use Rattle.server_requests.specs.CloudStore.store.CloudStore.{CloudStore}
use Rattle.share_server.proofs.server.Server.live_file.Goals as goal

pub returns-clause-few : goal.returns-clause-few
returns-clause-few c =
    let same = ap (λ (s : CloudStore). length s.memory.files.slots) c.store.ensures.same in
    let slots = c.store.ensures.settled.rooms.entries in let most = c.store.ensures.settled.header.rooms.files in
    omega (arith, same, slots, most)
