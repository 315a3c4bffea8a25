use Rattle.record_body.proofs.FirstSpelled.{length-put, length-commit, longest}
use Rattle.record_body.proofs.first_laws.length_laws.Goals as goal

pub returns : goal.returns
returns c = record { put = length-put; commit = length-commit; longest = longest }
