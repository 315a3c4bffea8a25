use Rattle.cloud_areas.proofs.Behind.{recipes_more, shares_grow, recipes_grow, share_within, recipe_within}
use Rattle.cloud_areas.proofs.Entries.{share_lies, entry_lies}
use Rattle.cloud_areas.proofs.Once.{sent_is_placed, placed_apart, placed_one}
use Rattle.cloud_areas.proofs.Placed.{shares_more}
use Rattle.cloud_areas.proofs.Room.{shares_far, recipes_far}
use Rattle.cloud_areas.proofs.laws.law_of_places.Goals as goal

pub returns : goal.returns
returns c = record {
  placed = λ header image list c fp h. sent_is_placed header image list c h fp;
  once = placed_apart;
  one = λ header image list c fp a b h. placed_one header image list c h fp a b;
  share_lies = λ header image list c fp place h. share_lies header image list c h fp place;
  entry_lies = λ header image list c user key entry h. entry_lies header image list c h user key entry;
  shares = shares_more;
  recipes = recipes_more;
  shares_grow = shares_grow;
  recipes_grow = recipes_grow;
  share_within = λ header image list c b h. share_within header image list c h b;
  recipe_within = λ header image list c b h. recipe_within header image list c h b;
  shares_far = shares_far;
  recipes_far = recipes_far;
}
