use Rattle.spool_command.proofs.resuming.resume.Goals as goal

pub returns-clause-resumed : goal.returns-clause-resumed
returns-clause-resumed g c = record {
  came = c.carry-came.result;
  text = c.carry-came.new.text;
  carries = c.carry-came.ensures.carries;
  writes = c.write_end.ensures;
}
