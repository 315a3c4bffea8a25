use Rattle.std.proofs.Common.{◌∙◌, ap, sym}
use Rattle.std.specs.Prelude.{unwrap_or}
use Rattle.pool_map.specs.Table.{contents}
use Rattle.pool_map.specs.Shown.{get-shown}
use Rattle.share_index.specs.Counts.{UserCounts, number_cmp, number_of, count_at}
use Rattle.share_index.proofs.Counting.{plain}
use Rattle.share_index.proofs.counts.UserCounts.count.Goals as goal

pub returns : goal.returns
returns c =
    c.unwrap_or.ensures
    ∙ ap (λ o. unwrap_or o 0) (c.copied.ensures ∙ c.get.ensures.value ∙ sym (get-shown plain (contents number_cmp c.self.inside.table) (number_of c.args.user)))
    ∙ ap (λ (u : UserCounts). count_at u.counts c.args.user) c.self.view_is
