use Rattle.std.proofs.Common.{ap, ◌∙◌}
use Rattle.compact_memories.specs.FileIndex.key.FileKey.{FileKey}
use Rattle.compact_memories.specs.FileIndex.Files.{Files}
use Rattle.compact_memories.specs.PoolMap.Accounts.{keys_of}
use Rattle.compact_memories.specs.ShareIndex.key.Owner.{Owner}
use Rattle.compact_memories.specs.ShareIndex.Shares.{Shares}
use Rattle.compact_memories.specs.SpentTable.Spent.{Spent as Row}
use Rattle.compact_memories.specs.CloudMemory.Rooms.{memory_of}
use Rattle.large_users.specs.Counting.{recipes_in}
use Rattle.large_users.proofs.Passed.{room_is}
use Rattle.large_users.proofs.large.too_large.Goals as goal

pub returns-clause-full : goal.returns-clause-full
returns-clause-full c m users is le =
    let entries = c.entries_of-entries in
    c.passed_by.ensures.full
    ∙ room_is m c.args.user c.args.rooms.now users (memory_of c.args.memory.now)
    (record { owners = c.owned_by.result; shares = c.spent.result.shares; recipes = entries.result.bytes }) entries.result.count is le
    (c.owned_by.ensures ∙ ap (λ (s : Shares). keys_of (λ (k : Owner). k.user) s.owners c.args.user.0) c.shares.ensures)
    (ap (λ (row : Row). row.shares) c.spent.ensures.kept)
    (entries.ensures.bytes ∙ ap (λ (f : Files). recipes_in f.files c.args.user.0) c.files.ensures)
    (entries.ensures.count ∙ ap (λ (f : Files). keys_of (λ (k : FileKey). k.user) f.files c.args.user.0) c.files.ensures)
