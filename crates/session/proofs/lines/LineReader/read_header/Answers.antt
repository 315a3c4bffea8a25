use Rattle.session.proofs.Headers.{header_law}
use Rattle.session.proofs.lines.LineReader.read_header.Goals as goal

pub returns-clause-grammar : goal.returns-clause-grammar
returns-clause-grammar c = header_law c.args.self.now.line
