use Rattle.command_words.proofs.Table.{read_row}
use Rattle.command_words.proofs.rows.row_of.Goals as goal

pub returns-in-Err-clause-memory : goal.returns-in-Err-clause-memory
returns-in-Err-clause-memory c = read_row c.args.row c.in-Read.is _ c.in-Err.ensures.memory
