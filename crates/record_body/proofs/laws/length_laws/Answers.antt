use Rattle.record_body.proofs.Spelled.{length-delete, length-kept, length-spent, longest}
use Rattle.record_body.proofs.laws.length_laws.Goals as goal

pub returns : goal.returns
returns c = record { delete = length-delete; kept = length-kept; spent = length-spent; longest = longest }
