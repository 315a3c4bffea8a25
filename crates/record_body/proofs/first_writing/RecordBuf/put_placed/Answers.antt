use Rattle.record_body.proofs.FirstSpelled.{placed_written}
use Rattle.record_body.proofs.first_writing.RecordBuf.put_placed.Goals as goal

pub returns-in-Some : goal.returns-in-Some
returns-in-Some c = placed_written c.args.self.now _ _ _ _ _ _ c.in-Some.place c.in-Some.is c.put-in-Some.ensures c.to_be_bytes.ensures c.put-in-Some-2.ensures c.to_be_bytes-in-Some.ensures c.put-in-Some-3.ensures
