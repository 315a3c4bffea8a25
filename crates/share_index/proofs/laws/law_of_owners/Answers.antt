use Rattle.share_index.proofs.Holders.{owner-counts, owner-found}
use Rattle.share_index.proofs.laws.law_of_owners.Goals as goal

pub returns : goal.returns
returns c = record { counts = owner-counts; found = owner-found }
