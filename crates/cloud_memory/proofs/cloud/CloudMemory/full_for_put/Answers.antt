use Rattle.std.proofs.Common.{◌∙◌, ap, length}
use Rattle.cloud_memory.specs.Rooms.{memory_of, full_put}
use Rattle.cloud_memory.proofs.cloud.CloudMemory.full_for_put.Goals as goal

pub returns : goal.returns
returns c =
    c.room_for_put.ensures ∙ ap (full_put c.args.rooms.now c.args.user (memory_of c.args.self.now) (length c.args.news.now)) c.held_lens-more.ensures.sum
