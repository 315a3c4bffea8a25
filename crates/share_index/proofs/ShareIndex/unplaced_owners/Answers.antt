use Rattle.std.proofs.Common.{◌∙◌, ap}
use Rattle.std.specs.FinMap.{get}
use Rattle.share_index.specs.Shares.{Shares, owners_of}
use Rattle.share_index.proofs.Indexing.{absent-place, none-unplaced}
use Rattle.share_index.proofs.ShareIndex.unplaced_owners.Goals as goal

pub returns-then-self-eq0 : goal.returns-then-self-eq0
returns-then-self-eq0 c =
    let none = absent-place c.self.inside.places.kept c.args.fp.now.0 (ap (λ (s : Shares). get s.places c.args.fp.now.0) c.self.view_is ∙ c.requires) in
    none-unplaced c.self.inside.places c.self.inside.owners c.self.inside.unplaced c.self.invariant c.args.fp.now.0 none c.if-self-eq0.true
    ∙ ap (λ (s : Shares). owners_of s.owners c.args.fp.now.0) c.self.view_is
