use Rattle.cloud_opening.specs.CommitJournal.States.{state_of}
use Rattle.fresh_checkpoints.specs.CloudMemory.Rooms.{memory_of}
use Rattle.cloud_opening.proofs.Synced.{on_ok}
use Rattle.store_migration.proofs.Whole.{read_by_list, whole_by_list}
use Rattle.store_migration.proofs.reading.read_old.Goals as goal

pub returns-clause-read : goal.returns-clause-read
returns-clause-read g c list may =
    let number = c.args.cloud.0 in let c0 = g.V.Shelf.cloud_at c.args.shelf.now number in let c1 = g.V.Shelf.cloud_at c.read_journal.new.shelf number in
    read_by_list c.args.shape c.args.cloud list c0 c1 may (c.read_journal.ensures.any_moment may.told) (state_of c.read_journal.new.journal) (memory_of c.read_journal.new.memory)
    c.read_journal.ensures.call.told c.read_journal.result (c.read_journal.ensures.read may.told)

pub returns-clause-whole : goal.returns-clause-whole
returns-clause-whole g c list may =
    let number = c.args.cloud.0 in let c0 = g.V.Shelf.cloud_at c.args.shelf.now number in let c1 = g.V.Shelf.cloud_at c.read_journal.new.shelf number in
    whole_by_list c.args.shape c.args.cloud list c0 c1 may (c.read_journal.ensures.any_moment may.told) (state_of c.read_journal.new.journal) (memory_of c.read_journal.new.memory)
    c.read_journal.result (c.read_journal.ensures.synced may.told) (c.read_journal.ensures.exact may.told)

pub returns-clause-ended : goal.returns-clause-ended
returns-clause-ended g c told = on_ok c.read_journal.result _ _ (λ r. (r.w, r.ended)) (c.read_journal.ensures.read told)
