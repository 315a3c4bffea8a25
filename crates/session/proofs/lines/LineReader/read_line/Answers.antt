use Rattle.std.proofs.Common.{◌++◌, arith}
use Rattle.session.proofs.Events.{event_law}
use Rattle.session.proofs.Fronts.{fits_by}
use Rattle.session.proofs.lines.LineReader.read_line.Goals as goal

pub returns-clause-fits : goal.returns-clause-fits
returns-clause-fits c = fits_by c.args.shape c.args.jobs (omega arith) (c.replace-front.result ++ c.line-2.result.now) c.event_behind.result c.event_behind.ensures

pub returns-clause-grammar : goal.returns-clause-grammar
returns-clause-grammar c = event_law c.args.shape c.args.jobs (omega arith) c.args.self.now.line
