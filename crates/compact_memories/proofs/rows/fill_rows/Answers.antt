use Rattle.std.proofs.Common.{subst}
use Rattle.checkpoints.specs.PoolMap.Slots.{IsListed}
use Rattle.checkpoints.specs.FileIndex.Files.{Files}
use Rattle.checkpoints.specs.ShareIndex.Shares.{Shares}
use Rattle.compact_memories.specs.Passes.{IsRow, row_of}
use Rattle.compact_memories.proofs.KeptRows.{kept_row}
use Rattle.compact_memories.proofs.Passing.{kept_ends}
use Rattle.compact_memories.proofs.rows.fill_rows.Goals as goal

pub returns-clause-kept : goal.returns-clause-kept
returns-clause-kept c user inside =
    let memory = c.args.memory.now in let rows = c.fill_rows_of.new.rows in
    kept_row memory user (row_of rows user.0)
    (subst (λ (s : Shares). IsListed s.owners s.owner_slots) c.shares.ensures c.fill_rows_of.ensures.owners)
    (subst (λ (f : Files). IsListed f.files f.slots) c.files.ensures c.fill_rows_of.ensures.entries)
    (subst (λ (s : Shares). IsRow s.places s.owner_slots memory.files.slots user.0 (row_of rows user.0)) c.shares.ensures
    (subst (λ (f : Files). IsRow c.shares.result.now.places c.shares.result.now.owner_slots f.slots user.0 (row_of rows user.0)) c.files.ensures
    (kept_ends c.shares.result.now c.files.result.now rows c.fill_rows_of.ensures.kept user.0 inside)))
