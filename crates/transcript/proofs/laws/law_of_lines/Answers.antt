use Rattle.transcript.proofs.LineLaws.{read_back, one_line, one_transcript}
use Rattle.transcript.proofs.laws.law_of_lines.Goals as goal

pub returns-clause-read_back : goal.returns-clause-read_back
returns-clause-read_back c = read_back

pub returns-clause-one_line : goal.returns-clause-one_line
returns-clause-one_line c = one_line

pub returns-clause-one_transcript : goal.returns-clause-one_transcript
returns-clause-one_transcript c = one_transcript
