use Rattle.upload_spool.proofs.Chains.{noted_chain, noted}
use Rattle.upload_spool.proofs.laws.law_of_notes.Goals as goal

pub returns : goal.returns
returns c = record { chain = noted_chain; noted = noted }
