use Rattle.std.proofs.Common.{◌∙◌, ap, sym}
use Rattle.std.specs.Prelude.{◌==◌}
use Rattle.pool_map.specs.Shown.{shown}
use Rattle.share_index.specs.declared.key.Owner.{Owner}
use Rattle.share_index.specs.Order.{owner_of}
use Rattle.share_index.specs.Shares.{Shares, uses_at, released}
use Rattle.share_index.specs.Indexed.{place_in}
use Rattle.share_index.proofs.Releasing.{has-owners, unplaced-fits, indexed-gone, indexed-gone_unplaced, indexed-stays, places-kept}
use Rattle.share_index.proofs.ShareIndex.release.Goals as goal

pub lower_owners-placed-requires : goal.lower_owners-placed-requires
lower_owners-placed-requires c = has-owners c.self.inside.places c.self.inside.owners c.self.inside.unplaced c.self.invariant c.release.new.self (owner_of c.args.user.0 c.args.fp.now.0) (c.release.ensures.owners ∙ ap (released c.self.inside.owners.owners) c.of.ensures) (sym c.if-release.true ∙ c.release.ensures.gone ∙ ap (λ (k : Owner). uses_at c.self.inside.owners.owners k == 1) c.of.ensures)

pub overflow_sub-self : goal.overflow_sub-self
overflow_sub-self c = unplaced-fits c.self.inside.places c.self.inside.owners c.self.inside.unplaced c.self.invariant c.release.new.self (owner_of c.args.user.0 c.args.fp.now.0) (c.release.ensures.owners ∙ ap (released c.self.inside.owners.owners) c.of.ensures) (sym c.if-release.true ∙ c.release.ensures.gone ∙ ap (λ (k : Owner). uses_at c.self.inside.owners.owners k == 1) c.of.ensures) (sym c.lower_owners-placed.ensures.placed ∙ c.if-not-placed.true)

pub invariant_of-self : goal.invariant_of-self
invariant_of-self c = indexed-gone_unplaced c.self.inside.places c.self.inside.owners c.self.inside.unplaced c.self.invariant c.release.new.self (owner_of c.args.user.0 c.args.fp.now.0) (c.release.ensures.owners ∙ ap (released c.self.inside.owners.owners) c.of.ensures) (sym c.if-release.true ∙ c.release.ensures.gone ∙ ap (λ (k : Owner). uses_at c.self.inside.owners.owners k == 1) c.of.ensures) c.lower_owners-placed.new.self c.lower_owners-placed.ensures.kept (sym c.lower_owners-placed.ensures.placed ∙ c.if-not-placed.true)

pub invariant_of-self-else-not-placed : goal.invariant_of-self-else-not-placed
invariant_of-self-else-not-placed c = indexed-gone c.self.inside.places c.self.inside.owners c.self.inside.unplaced c.self.invariant c.release.new.self (owner_of c.args.user.0 c.args.fp.now.0) (c.release.ensures.owners ∙ ap (released c.self.inside.owners.owners) c.of.ensures) (sym c.if-release.true ∙ c.release.ensures.gone ∙ ap (λ (k : Owner). uses_at c.self.inside.owners.owners k == 1) c.of.ensures) c.lower_owners-placed.new.self c.lower_owners-placed.ensures.kept (sym c.lower_owners-placed.ensures.placed ∙ c.if-not-placed.false)

pub invariant_of-self-else-release : goal.invariant_of-self-else-release
invariant_of-self-else-release c = indexed-stays c.self.inside.places c.self.inside.owners c.self.inside.unplaced c.self.invariant c.release.new.self (owner_of c.args.user.0 c.args.fp.now.0) (c.release.ensures.owners ∙ ap (released c.self.inside.owners.owners) c.of.ensures) (sym c.if-release.false ∙ c.release.ensures.gone ∙ ap (λ (k : Owner). uses_at c.self.inside.owners.owners k == 1) c.of.ensures)

pub returns-then-not-placed-clause-places : goal.returns-then-not-placed-clause-places
returns-then-not-placed-clause-places c =
    ap (shown place_in) c.lower_owners-placed.ensures.kept
    ∙ places-kept c.self.inside.places.kept c.args.fp.now.0
    ∙ ap (λ (s : Shares). s.places) c.self.view_is

pub returns-else-not-placed-clause-places : goal.returns-else-not-placed-clause-places
returns-else-not-placed-clause-places c =
    ap (shown place_in) c.lower_owners-placed.ensures.kept
    ∙ places-kept c.self.inside.places.kept c.args.fp.now.0
    ∙ ap (λ (s : Shares). s.places) c.self.view_is
