use Rattle.record_body.proofs.Spelled.{place_written}
use Rattle.record_body.proofs.writing.BodyBuf.put_place.Goals as goal

pub returns : goal.returns
returns c = place_written c.args.self.now _ _ _ _ c.args.place.now c.to_be_bytes.ensures c.put.ensures c.to_be_bytes-2.ensures c.put-2.ensures
