use Rattle.std.proofs.Common.{Err, refl, inl}
use Rattle.blob_audit.specs.Steps.{SharesRead, FilesRead, BothRead}
use Rattle.blob_audit.proofs.Joining.{joined, retold}
use Rattle.blob_audit.proofs.Listed.{both_read}
use Rattle.blob_audit.proofs.reading.read_both.Goals as goal

pub returns-in-Ok-clause-read : goal.returns-in-Ok-clause-read
returns-in-Ok-clause-read g c =
    let memory = c.args.memory.now in
    joined (SharesRead memory) (FilesRead c.args.shape memory) (BothRead c.args.shape memory)
    (g.V.Shelf.cloud_at c.args.shelf.now) (g.V.Shelf.cloud_at c.read_shares.new.shelf) (g.V.Shelf.cloud_at c.read_files.new.shelf) c.args.cloud.0
    (g.V.Shelf.faults c.args.shelf.now) (g.V.Shelf.faults c.read_shares.new.shelf) (g.V.Shelf.faults c.read_files.new.shelf) tt c.read_files.result c.read_files.result refl
    (λ image shares files. both_read c.args.shape memory image c.read_files.result shares files) c.in-Ok.ensures.read c.read_files.ensures.read

pub returns-in-Err-clause-read : goal.returns-in-Err-clause-read
returns-in-Err-clause-read g c =
    retold (SharesRead c.args.memory.now) (BothRead c.args.shape c.args.memory.now)
    (g.V.Shelf.cloud_at c.args.shelf.now) (g.V.Shelf.cloud_at c.read_shares.new.shelf) c.args.cloud.0
    (g.V.Shelf.faults c.args.shelf.now) (g.V.Shelf.faults c.read_shares.new.shelf) (Err c.in-Err.error) (Err c.in-Err.error) refl (λ image shares. inl shares) c.in-Err.ensures.read
