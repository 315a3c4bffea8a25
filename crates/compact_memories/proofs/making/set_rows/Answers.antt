use Rattle.std.proofs.Common.{◌+◌, sym, subst, arith}
use Rattle.checkpoints.specs.CloudMemory.Memory.{Memory}
use Rattle.checkpoints.specs.CloudMemory.Rooms.{memory_of}
use Rattle.compact_memories.specs.Passes.{SetSoFar}
use Rattle.compact_memories.proofs.Setting.{none_set, one_set, as_set}
use Rattle.compact_memories.proofs.making.set_rows.Goals as goal

pub loop-user-init : goal.loop-user-init
loop-user-init c = record { so_far = none_set c.args.rows.now (memory_of c.args.memory.now); rooms = λ rooms h. h; greatest = λ fps owners files users h. h }

pub loop-user-preserved : goal.loop-user-preserved
loop-user-preserved c = record {
  so_far =
      subst (λ (m : Memory). SetSoFar c.args.rows.now (memory_of c.args.memory.now) m (c.loop-user.user + 1)) (sym c.take_spent.ensures.taken)
      (one_set c.args.rows.now (memory_of c.args.memory.now) (memory_of c.loop-user.memory) c.loop-user.user c.row_at-row.result c.row_at-row.ensures c.loop-user.invariant.so_far);
  rooms = λ rooms h. c.take_spent.ensures.rooms rooms (c.loop-user.invariant.rooms rooms h);
  greatest = λ fps owners files users h. c.take_spent.ensures.greatest fps owners files users (c.loop-user.invariant.greatest fps owners files users h);
}

pub returns-clause-set : goal.returns-clause-set
returns-clause-set c =
    as_set c.args.rows.now (memory_of c.args.memory.now) (memory_of c.loop-user.memory) c.loop-user.user (let past = c.loop-user-test.false in omega (arith, past)) c.loop-user.invariant.so_far
