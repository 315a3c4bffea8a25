use Rattle.journal_start.proofs.Written.{five}
use Rattle.journal_start.proofs.writing.StartBytes.put_rooms.Goals as goal

pub returns : goal.returns
returns c =
    five c.args.self.now _ _ _ _ _ _ _ _ _ _ _ _ _ _ _ c.to_be_bytes.ensures c.put.ensures c.to_be_bytes-2.ensures c.put-2.ensures c.to_be_bytes-3.ensures c.put-3.ensures
    c.to_be_bytes-4.ensures c.put-4.ensures c.to_be_bytes-5.ensures c.put-5.ensures
