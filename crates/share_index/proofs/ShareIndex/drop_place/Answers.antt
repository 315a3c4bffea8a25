use Rattle.std.proofs.Common.{◌∙◌, ap, sym, arith, true≢false}
use Rattle.std.specs.Prelude.{is_some, option_map}
use Rattle.std.specs.FinMap.{get, remove}
use Rattle.pool_map.specs.Shown.{shown, get-shown, shown-remove}
use Rattle.share_index.specs.Emptied.{emptied-through}
use Rattle.cd_base.specs.Order.{fp_exact}
use Rattle.share_index.specs.Shares.{Shares}
use Rattle.share_index.specs.Indexed.{place_in}
use Rattle.share_index.proofs.Placing.{fp_total}
use Rattle.share_index.proofs.Indexing.{indexed-drop_place, drop_place-fits}
use Rattle.share_index.proofs.ShareIndex.drop_place.Goals as goal

pub overflow_add-self : goal.overflow_add-self
overflow_add-self c = let fits = drop_place-fits c.self.inside.places c.self.inside.owners c.self.inside.unplaced c.self.invariant c.args.fp.now.0 c.in-Some.kept (sym c.get.ensures ∙ c.in-Some.is) in omega arith

pub invariant_of-self : goal.invariant_of-self
invariant_of-self c = indexed-drop_place c.self.inside.places c.self.inside.owners c.self.inside.unplaced c.self.invariant c.remove.new.self c.args.fp.now.0 c.in-Some.kept c.remove.ensures.kept (sym c.get.ensures ∙ c.in-Some.is)

pub unreachable-requires : goal.unreachable-requires
unreachable-requires c =
    true≢false (sym c.requires ∙ ap (λ (s : Shares). is_some (get s.places c.args.fp.now.0)) (sym c.self.view_is) ∙ ap is_some (get-shown place_in c.self.inside.places.kept c.args.fp.now.0 ∙ ap (option_map place_in) (sym c.get.ensures ∙ c.in-None.is)))

pub returns-clause-places : goal.returns-clause-places
returns-clause-places c =
    ap (shown place_in) c.remove.ensures.kept
    ∙ shown-remove place_in fp_total fp_exact c.self.inside.places.kept c.args.fp.now.0
    ∙ ap (λ (s : Shares). remove s.places c.args.fp.now.0) c.self.view_is

pub returns-clause-emptied : goal.returns-clause-emptied
returns-clause-emptied c = rw (← c.self.view_is) (emptied-through place_in c.self.inside.places.slots c.remove.new.self.slots c.args.fp.now.0 c.remove.ensures.emptied)
