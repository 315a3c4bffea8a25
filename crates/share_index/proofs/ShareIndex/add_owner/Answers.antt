use Rattle.std.proofs.Common.{◌∙◌, ap, sym, refl, arith}
use Rattle.std.specs.FinMap.{get, insert}
use Rattle.pool_map.specs.Shown.{shown}
use Rattle.share_index.specs.Order.{owner_of}
use Rattle.share_index.specs.Shares.{Shares}
use Rattle.share_index.specs.Indexed.{place_in}
use Rattle.share_index.proofs.Indexing.{add-fits, add-unplaced-fits, indexed-add, indexed-add_unplaced, places-same}
use Rattle.share_index.proofs.ShareIndex.add_owner.Goals as goal

pub overflow_add-kept : goal.overflow_add-kept
overflow_add-kept c = let fits = add-fits c.self.inside.places c.self.inside.owners c.self.inside.unplaced c.self.invariant c.add.new.self (owner_of c.args.user.0 c.args.fp.0) (c.in-Ok.ensures.ok ∙ ap (λ k. insert c.self.inside.owners.owners k 0) c.of.ensures) (ap (λ (s : Shares). get s.owners (owner_of c.args.user.0 c.args.fp.0)) c.self.view_is ∙ c.requires) c.in-Some.kept (sym c.get.ensures ∙ c.in-Some.is) in omega arith

pub invariant_of-self : goal.invariant_of-self
invariant_of-self c = indexed-add c.self.inside.places c.self.inside.owners c.self.inside.unplaced c.self.invariant c.add.new.self (owner_of c.args.user.0 c.args.fp.0) (c.in-Ok.ensures.ok ∙ ap (λ k. insert c.self.inside.owners.owners k 0) c.of.ensures) (ap (λ (s : Shares). get s.owners (owner_of c.args.user.0 c.args.fp.0)) c.self.view_is ∙ c.requires) c.set.new.self c.in-Some.kept _ c.set.ensures.kept (sym c.get.ensures ∙ c.in-Some.is) refl

pub overflow_add-self : goal.overflow_add-self
overflow_add-self c = let fits = add-unplaced-fits c.self.inside.places c.self.inside.owners c.self.inside.unplaced c.self.invariant c.add.new.self (owner_of c.args.user.0 c.args.fp.0) (c.in-Ok.ensures.ok ∙ ap (λ k. insert c.self.inside.owners.owners k 0) c.of.ensures) (ap (λ (s : Shares). get s.owners (owner_of c.args.user.0 c.args.fp.0)) c.self.view_is ∙ c.requires) (sym c.get.ensures ∙ c.in-None.is) in omega arith

pub invariant_of-self-in-None : goal.invariant_of-self-in-None
invariant_of-self-in-None c = indexed-add_unplaced c.self.inside.places c.self.inside.owners c.self.inside.unplaced c.self.invariant c.add.new.self (owner_of c.args.user.0 c.args.fp.0) (c.in-Ok.ensures.ok ∙ ap (λ k. insert c.self.inside.owners.owners k 0) c.of.ensures) (ap (λ (s : Shares). get s.owners (owner_of c.args.user.0 c.args.fp.0)) c.self.view_is ∙ c.requires) (sym c.get.ensures ∙ c.in-None.is)

pub returns-in-Some-clause-places : goal.returns-in-Some-clause-places
returns-in-Some-clause-places c =
    ap (shown place_in) c.set.ensures.kept
    ∙ places-same c.self.inside.places.kept c.args.fp.0 c.in-Some.kept _ (sym c.get.ensures ∙ c.in-Some.is) refl
    ∙ ap (λ (s : Shares). s.places) c.self.view_is
