use Rattle.server_commands.proofs.EntryLaws.{names_entry, reads_file, only_reads}
use Rattle.server_commands.proofs.reading.read_entry.Goals as goal

pub returns-clause-rotten : goal.returns-clause-rotten
returns-clause-rotten g c = λ m key kept.
    let s = c.args.store.now in let e = c.read_on_disk.ensures in
    names_entry c.read_on_disk.result (g.V.Shelf.cloud_at c.args.shelf.now s.header.cloud.0) s.disk.recipes.area m key c.args.entry.now c.requires.settled.disk.recipes kept e.named e.found e.unfit

pub returns-clause-there : goal.returns-clause-there
returns-clause-there g c = λ list chain user tag version serves at.
    let s = c.args.store.now in let e = c.read_on_disk.ensures in
    reads_file s list chain (g.V.Shelf.cloud_at c.args.shelf.now s.header.cloud.0) user tag version c.args.entry.now _ c.read_on_disk.result serves at c.requires.settled.disk.recipes e.blob e.whole

pub returns-clause-store : goal.returns-clause-store
returns-clause-store g c =
    let s = c.args.store.now in let e = c.read_on_disk.ensures in
    only_reads s c.read_on_disk.new.disk (g.V.Shelf.cloud_at c.args.shelf.now s.header.cloud.0) (g.V.Shelf.cloud_at c.read_on_disk.new.shelf s.header.cloud.0) e.same e.log e.reads.stays e.reads.call.told
