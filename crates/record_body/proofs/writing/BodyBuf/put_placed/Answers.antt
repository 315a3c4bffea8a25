use Rattle.record_body.proofs.Spelled.{placed_written}
use Rattle.record_body.proofs.writing.BodyBuf.put_placed.Goals as goal

pub returns-in-Some : goal.returns-in-Some
returns-in-Some c = placed_written c.args.self.now _ _ c.args.place.now c.in-Some.place c.in-Some.is c.put-in-Some.ensures c.put_place.ensures
