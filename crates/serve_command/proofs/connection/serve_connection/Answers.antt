use Rattle.std.proofs.Common.{rules}
use Rattle.serve_command.proofs.connection.serve_connection.Goals as goal

pub returns-clause-served : goal.returns-clause-served
returns-clause-served g c = λ told p serving. search (rules, c.serve_responder.ensures.served told p serving)
