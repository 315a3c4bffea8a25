use Rattle.std.proofs.Common.{List, ℕ, sym, subst}
use Rattle.checkpoints.specs.CloudDisk.Disk.{IsPrepared}
use Rattle.cloud_store.proofs.writing.add_record.Goals as goal

pub returns-in-Ok-clause-added : goal.returns-in-Ok-clause-added
returns-in-Ok-clause-added g c list chain command b laid p =
    let store = c.args.store.now in
    let c0 = g.V.Shelf.cloud_at c.args.shelf.now store.header.cloud.0 in
    let is = subst (λ (bytes : List ℕ). IsPrepared store.header list chain command b laid store.disk bytes c0) (sym c.as_slice.ensures.value) p in
    (c.in-Ok.ensures.added store.header list chain command b laid is, c.in-Ok.ensures.kept store.header list chain command b laid is)
