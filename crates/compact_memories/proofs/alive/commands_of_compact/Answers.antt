use Rattle.std.proofs.Common.{rules, ◌≡◌, ◌+◌, ◌∙◌}
use Rattle.checkpoints.specs.CloudMemory.Rooms.{memory_of}
use Rattle.compact_memories.specs.Kept.{commands_in}
use Rattle.compact_memories.proofs.alive.commands_of_compact.Goals as goal

pub returns-clause-meaning : goal.returns-clause-meaning
returns-clause-meaning c shape cloud list sound r =
    let number : c.from.result + c.from-2.result ≡ commands_in (memory_of c.args.memory.now) = search rules in
    number ∙ c.law_of_kept.ensures.numbers shape cloud list (memory_of c.args.memory.now) sound r
