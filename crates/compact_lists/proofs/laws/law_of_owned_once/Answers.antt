use Rattle.user_dedup.specs.Cloud.{user_view}
use Rattle.compact_lists.proofs.Parts.{own_once, one_place}
use Rattle.compact_lists.proofs.laws.law_of_owned_once.Goals as goal

pub returns : goal.returns
returns c = λ shape cloud list user i j fp sound at_i at_j. one_place (user_view shape list user).own (own_once shape cloud list sound user) i j fp at_i at_j
