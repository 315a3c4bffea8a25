use Rattle.record_body.proofs.FirstSpelled.{room}
use Rattle.record_body.proofs.first_laws.written_laws.Goals as goal

pub returns-clause-room : goal.returns-clause-room
returns-clause-room c = room
