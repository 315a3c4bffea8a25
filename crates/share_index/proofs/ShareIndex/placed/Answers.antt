use Rattle.std.proofs.Common.{◌∙◌, ap, sym}
use Rattle.std.specs.FinMap.{len}
use Rattle.pool_map.specs.Shown.{len-shown}
use Rattle.share_index.specs.Shares.{Shares}
use Rattle.share_index.specs.Indexed.{place_in}
use Rattle.share_index.proofs.ShareIndex.placed.Goals as goal

pub returns : goal.returns
returns c = c.len.ensures ∙ sym (len-shown place_in c.self.inside.places.kept) ∙ ap (λ (s : Shares). len s.places) c.self.view_is
