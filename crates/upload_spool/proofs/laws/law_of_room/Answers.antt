use Rattle.upload_spool.proofs.Chains.{used, within}
use Rattle.upload_spool.proofs.laws.law_of_room.Goals as goal

pub returns : goal.returns
returns c = record { used = used; within = within }
