use Rattle.script_replay.proofs.writing.write_text.Goals as goal

pub returns-in-Err-clause-end : goal.returns-in-Err-clause-end
returns-in-Err-clause-end g c = (c.in-Err.ensures.writes.front, c.in-Err.ensures.writes.cause.failed)
