use Rattle.compact_memories.proofs.rows.fill_rows_of.Goals as goal

pub add_all_entries-requires : goal.add_all_entries-requires
add_all_entries-requires c = record { small = c.add_all_owned.ensures.small }

pub returns-clause-kept : goal.returns-clause-kept
returns-clause-kept c = c.add_all_entries.ensures.kept c.args.shares.now (c.add_all_owned.ensures.kept c.args.files.now)
