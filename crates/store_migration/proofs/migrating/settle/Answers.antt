use Rattle.std.proofs.Common.{◌≡◌, ◌≤◌, ℕ, ◌+◌, length, refl, sym, ap, ◌∙◌, subst, arith}
use Rattle.cloud_opening.specs.CommitJournal.States as journals
use Rattle.fresh_checkpoints.specs.CloudMemory.Rooms.{memory_of}
use Rattle.fresh_checkpoints.specs.Checkpoints.Laying.{records_len}
use Rattle.fresh_checkpoints.specs.Checkpoints.Records.{records_of}
use Rattle.fresh_checkpoints.specs.Checkpoints.Known.{checkpoint_in}
use Rattle.store_migration.proofs.Answering.{failed_only, images_stand}
use Rattle.store_migration.proofs.Whole.{ended_chain}
use Rattle.fresh_checkpoints.specs.CdEdges.area.Area.TheVariants.{Journal}
use Rattle.store_migration.specs.Left.{checkpoint_for}
use Rattle.store_migration.proofs.migrating.settle.Goals as goal

pub lay_fresh-laid-requires : goal.lay_fresh-laid-requires
lay_fresh-laid-requires g c = record {
  at_end = c.requires.at_end;
  limit = c.requires.limit;
  header = c.requires.header;
  format = c.requires.format;
  region = omega arith;
  fit = c.requires.fit;
  users = (let users = c.requires.first.users in omega (arith, users));
  slots = (let slots : length c.args.kit.now.memory.shares.place_slots ≡ 262144 = c.requires.first.rooms.slots in omega (arith, slots));
}

pub returns-in-Ok-clause-any_moment : goal.returns-in-Ok-clause-any_moment
returns-in-Ok-clause-any_moment g c one list other chain read next = c.lay_fresh-laid.ensures.migrating one list other chain read next

pub returns-in-Err-clause-any_moment : goal.returns-in-Err-clause-any_moment
returns-in-Err-clause-any_moment g c one list other chain read next = c.lay_fresh-laid.ensures.migrating one list other chain read next

pub returns-in-Ok-clause-migrated : goal.returns-in-Ok-clause-migrated
returns-in-Ok-clause-migrated g c one list other chain read next =
    images_stand c.args.header.now other (checkpoint_in c.args.header.now other chain c.args.commands 0 c.args.kit.now.memory)
    (journals.state_of c.lay_fresh-laid.new.journal) (g.V.Shelf.cloud_at c.lay_fresh-laid.new.shelf c.args.cloud.0) (c.in-Ok.ensures.migrated one list other chain read next)

pub returns-in-Ok-clause-goes_on : goal.returns-in-Ok-clause-goes_on
returns-in-Ok-clause-goes_on g c told w ended = let run = c.lay_fresh-laid.ensures.chain told w ended in (run.since, run.past)

pub returns-in-Err-clause-goes_on : goal.returns-in-Err-clause-goes_on
returns-in-Err-clause-goes_on g c told w ended = let run = c.lay_fresh-laid.ensures.chain told w ended in (run.since, run.past)

pub returns-in-Err-clause-counts : goal.returns-in-Err-clause-counts
returns-in-Err-clause-counts g c =
    failed_only c.lay_fresh-laid.result _ (journals.state_of c.args.kit.now.journal).limit (63 + records_len (records_of c.args.kit.now.memory)) _ c.in-Err.is
    (let short = c.requires.short in let limit = c.requires.limit in omega (arith, short, limit)) c.lay_fresh-laid.ensures.long c.lay_fresh-laid.ensures.failed

pub returns-in-Ok-clause-laid : goal.returns-in-Ok-clause-laid
returns-in-Ok-clause-laid g c told w ended =
    let after = g.V.Shelf.cloud_at c.lay_fresh-laid.new.shelf c.args.cloud.0 in
    record {
      any_moment = c.lay_fresh-laid.ensures.chain told w ended;
      settled = ended_chain (journals.state_of c.lay_fresh-laid.new.journal) (after.now Journal) (checkpoint_for c.args.header.now c.args.commands c.args.kit.now.memory w)
          (c.in-Ok.ensures.taken told w ended);
      others = c.in-Ok.ensures.others told;
    }

pub returns-in-Err-clause-laid : goal.returns-in-Err-clause-laid
returns-in-Err-clause-laid g c told w ended = record { any_moment = c.lay_fresh-laid.ensures.chain told w ended; settled = tt; others = tt }
