use Rattle.std.proofs.Common.{◌∙◌, ap}
use Rattle.share_index.specs.Shares.{batches_of}
use Rattle.share_index.specs.Owning.{Owners}
use Rattle.share_index.proofs.Owning.{batches-is}
use Rattle.share_index.proofs.owners.OwnerTable.batches.Goals as goal

pub returns : goal.returns
returns c = c.batches.ensures ∙ batches-is c.self.inside.table c.self.inside.counts c.self.inside.accounts c.self.invariant ∙ ap (λ (o : Owners). batches_of o.owners) c.self.view_is
