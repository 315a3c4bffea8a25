use Rattle.cloud_areas.proofs.Behind.{rooms_more}
use Rattle.cloud_areas.proofs.Spends.{shares_spent, recipes_spent}
use Rattle.cloud_areas.proofs.OneMore.{holds_more, holds_still, where_more, chain_more}
use Rattle.cloud_areas.proofs.laws.law_of_one_more.Goals as goal

pub returns : goal.returns
returns c = record {
  holds = λ header image list c command body laid h a. holds_more header image list c h command body laid a;
  keeps = λ header image other list c h k. holds_still header image list c h other k;
  bodies = where_more;
  chain = chain_more;
  room = rooms_more;
  shares_spent = shares_spent;
  recipes_spent = recipes_spent;
}
