use Rattle.std.proofs.Common.{sym, subst}
use Rattle.audit_base.specs.CdEdges.Disk.{Areas, reads}
use Rattle.audit_base.specs.Whole.{tables_of}
use Rattle.blob_audit.specs.Reading.{StoredIs}
use Rattle.blob_audit.proofs.Listed.{stored_is, counts_are}
use Rattle.blob_audit.proofs.reading.read_stored.Goals as goal

pub returns-in-Ok-both_in_order-clause-judged : goal.returns-in-Ok-both_in_order-clause-judged
returns-in-Ok-both_in_order-clause-judged g c = λ told.
    let memory = c.args.memory.now in let read = c.read_both.ensures.read in
    subst (λ (areas : Areas). StoredIs (reads areas) (tables_of memory) c.read_both.result) (sym read.stays.now)
    (stored_is memory (reads (g.V.Shelf.cloud_at c.args.shelf.now c.args.cloud.0).now) c.read_both.result c.in-Ok-both_in_order.ensures.live c.in-Ok-both_in_order.ensures.listed (read.told told))

pub returns-in-Ok-both_in_order-clause-counts : goal.returns-in-Ok-both_in_order-clause-counts
returns-in-Ok-both_in_order-clause-counts g c =
    counts_are c.read_both.result (g.V.Shelf.cloud_at c.args.shelf.now c.args.cloud.0) (g.V.Shelf.cloud_at c.read_both.new.shelf c.args.cloud.0)
    (g.V.Shelf.faults c.args.shelf.now) (g.V.Shelf.faults c.read_both.new.shelf) c.read_both.ensures.read.counts
