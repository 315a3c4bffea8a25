use Rattle.command_words.proofs.Table.{one_command}
use Rattle.command_words.proofs.laws.law_of_words.Goals as goal

pub returns : goal.returns
returns c = record { one = one_command }
