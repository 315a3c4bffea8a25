use Rattle.kept_files.proofs.Giving.{kept_is_given}
use Rattle.kept_files.proofs.law_of_kept_files.Goals as goal

pub returns : goal.returns
returns c = kept_is_given
