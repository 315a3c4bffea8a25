use Rattle.script_replay.proofs.first.header_of_line.Goals as goal

pub returns-in-Ok-clause-rooms : goal.returns-in-Ok-clause-rooms
returns-in-Ok-clause-rooms c = c.in-Ok.ensures.allowed
