use Rattle.session_model.proofs.Acknowledged.{acknowledged, given_from_more, disks_keep}
use Rattle.session_model.proofs.laws.law_of_acknowledged.Goals as goal

pub returns-clause-given : goal.returns-clause-given
returns-clause-given c = acknowledged

pub returns-clause-more : goal.returns-clause-more
returns-clause-more c = given_from_more

pub returns-clause-kept : goal.returns-clause-kept
returns-clause-kept c = disks_keep
