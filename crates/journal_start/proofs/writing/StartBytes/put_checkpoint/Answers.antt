use Rattle.journal_start.proofs.Written.{four}
use Rattle.journal_start.proofs.writing.StartBytes.put_checkpoint.Goals as goal

pub returns : goal.returns
returns c = four c.args.self.now _ _ _ _ _ _ _ _ _ _ _ c.to_be_bytes.ensures c.put.ensures c.to_be_bytes-2.ensures c.put-2.ensures c.to_be_bytes-3.ensures c.put-3.ensures c.put_last.ensures
