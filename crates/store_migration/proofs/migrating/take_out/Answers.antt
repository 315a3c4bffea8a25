use Rattle.std.proofs.Common.{◌≤◌, arith}
use Rattle.fresh_checkpoints.specs.CloudMemory.Rooms.{memory_of}
use Rattle.store_migration.proofs.Answering.{first_still}
use Rattle.store_migration.proofs.migrating.take_out.Goals as goal

pub make_compact-requires : goal.make_compact-requires
make_compact-requires c = (let users = c.requires.first.users in omega (arith, users))

pub returns-clause-first : goal.returns-clause-first
returns-clause-first c = first_still c.args.memory.now c.make_compact.new.memory c.requires.first c.make_compact.ensures.greatest

pub returns-clause-fit : goal.returns-clause-fit
returns-clause-fit c =
    c.law_of_compacted_fits.ensures c.args.memory.now (memory_of c.make_compact.new.memory) c.slots_list.ensures c.requires.fit c.make_compact.ensures.compacted
