use Rattle.std.proofs.Common.{◌∙◌, ap}
use Rattle.share_index.specs.Shares.{Shares, ownerless_in}
use Rattle.share_index.proofs.Indexing.{ownerless-is}
use Rattle.share_index.proofs.ShareIndex.ownerless.Goals as goal

pub returns : goal.returns
returns c = c.ownerless.ensures ∙ ownerless-is c.self.inside.places c.self.inside.owners c.self.inside.unplaced c.self.invariant ∙ ap (λ (s : Shares). ownerless_in s.places s.owners) c.self.view_is
