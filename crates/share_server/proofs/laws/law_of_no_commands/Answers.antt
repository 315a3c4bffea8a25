use Rattle.share_server.proofs.NoCommands.{unbegun, unbegun_stands, none_within}
use Rattle.share_server.proofs.laws.law_of_no_commands.Goals as goal

pub returns : goal.returns
returns c = record { unbegun = unbegun; stands = unbegun_stands; within = none_within }
