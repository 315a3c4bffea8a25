use Rattle.std.proofs.Common.{rules, ◌≡◌, ◌<◌, length, sym, subst}
use Rattle.checkpoints.specs.CloudMemory.Rooms.{memory_of}
use Rattle.compact_memories.proofs.Setting.{compacted}
use Rattle.compact_memories.proofs.making.make_compact.Goals as goal

pub returns-clause-compacted : goal.returns-clause-compacted
returns-clause-compacted c =
    let rows = c.fill_rows.new.rows in
    let long : length rows ≡ 256 = search rules in
    compacted c.args.memory.now c.drop_dead.new.memory (memory_of c.set_rows.new.memory) rows c.requires.users
    (λ user lt. c.fill_rows.ensures.kept user (subst (λ n. user.0 < n) (sym long) lt))
    c.drop_dead.ensures.dropped c.drop_dead.ensures.each c.set_rows.ensures.set
