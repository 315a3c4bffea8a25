use Rattle.session_model.proofs.Settled.{none_pending, only_list}
use Rattle.session_model.proofs.laws.law_of_last_lists.Goals as goal

pub returns-clause-pending : goal.returns-clause-pending
returns-clause-pending c clouds run cloud is told still = none_pending clouds run cloud is told still

pub returns-clause-list : goal.returns-clause-list
returns-clause-list c clouds run cloud list is told still settles = only_list (run.last cloud) list (none_pending clouds run cloud is told still) settles
