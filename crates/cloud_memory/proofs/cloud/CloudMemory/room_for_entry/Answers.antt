use Rattle.std.proofs.Common.{◌∙◌}
use Rattle.cloud_memory.specs.Rooms.{memory_of}
use Rattle.cloud_memory.proofs.Entering.{crowded_is, roomy_is}
use Rattle.cloud_memory.proofs.cloud.CloudMemory.room_for_entry.Goals as goal

pub returns-then-used-limit : goal.returns-then-used-limit
returns-then-used-limit c =
    crowded_is c.args.rooms.now c.args.user (memory_of c.args.self.now) c.from-used.result c.entries_limit-limit.result
    (c.from-used.ensures ∙ c.files_of.ensures.kept c.args.rooms.now c.requires) c.entries_limit-limit.ensures c.if-used-limit.true

pub returns-else-used-limit : goal.returns-else-used-limit
returns-else-used-limit c =
    roomy_is c.args.rooms.now c.args.user (memory_of c.args.self.now) c.from-used.result c.entries_limit-limit.result
    (c.from-used.ensures ∙ c.files_of.ensures.kept c.args.rooms.now c.requires) c.entries_limit-limit.ensures c.if-used-limit.false
