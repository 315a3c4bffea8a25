use Rattle.std.proofs.Common.{◌∙◌, ap, sym, refl, true≢false}
use Rattle.std.specs.Prelude.{is_some, option_map}
use Rattle.std.specs.FinMap.{get, insert}
use Rattle.pool_map.specs.Shown.{shown, get-shown, shown-insert}
use Rattle.pool_map.specs.Slots.{rewritten-through}
use Rattle.cd_base.specs.Order.{fp_exact}
use Rattle.share_index.specs.Shares.{Shares}
use Rattle.share_index.specs.Indexed.{place_in}
use Rattle.share_index.proofs.Placing.{fp_total}
use Rattle.share_index.proofs.Indexing.{indexed-move}
use Rattle.share_index.proofs.ShareIndex.move_place.Goals as goal

pub invariant_of-self : goal.invariant_of-self
invariant_of-self c = indexed-move c.self.inside.places c.self.inside.owners c.self.inside.unplaced c.self.invariant c.set.new.self c.args.fp.now.0 c.in-Some.kept _ c.set.ensures.kept (sym c.get.ensures ∙ c.in-Some.is) refl

pub unreachable-requires : goal.unreachable-requires
unreachable-requires c =
    true≢false (sym c.requires ∙ ap (λ (s : Shares). is_some (get s.places c.args.fp.now.0)) (sym c.self.view_is) ∙ ap is_some (get-shown place_in c.self.inside.places.kept c.args.fp.now.0 ∙ ap (option_map place_in) (sym c.get.ensures ∙ c.in-None.is)))

pub returns-clause-places : goal.returns-clause-places
returns-clause-places c =
    ap (shown place_in) c.set.ensures.kept
    ∙ shown-insert place_in fp_total fp_exact c.self.inside.places.kept c.args.fp.now.0 _
    ∙ ap (λ (s : Shares). insert s.places c.args.fp.now.0 c.args.place) c.self.view_is

pub returns-clause-moved : goal.returns-clause-moved
returns-clause-moved c = rw (← c.self.view_is) (rewritten-through place_in c.self.inside.places.slots c.set.new.self.slots c.args.fp.now.0 _ c.set.ensures.rewritten)
