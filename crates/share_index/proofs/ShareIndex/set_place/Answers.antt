use Rattle.std.proofs.Common.{◌∙◌, ap, sym, refl, arith, true≢false}
use Rattle.std.specs.FinMap.{get, insert}
use Rattle.pool_map.specs.Shown.{shown, len-shown, shown-insert}
use Rattle.pool_map.specs.declared.accounts.IndexErr.TheVariants.{Full}
use Rattle.share_index.specs.declared.key.Kept.{Kept}
use Rattle.cd_base.specs.Order.{fp_exact}
use Rattle.share_index.specs.Shares.{Shares, owners_of}
use Rattle.share_index.specs.Indexed.{place_in}
use Rattle.share_index.proofs.Placing.{fp_total}
use Rattle.share_index.proofs.Indexing.{absent-place, indexed-place, owners-le-unplaced}
use Rattle.share_index.proofs.ShareIndex.set_place.Goals as goal

pub returns-then-is_full-clause-refuses : goal.returns-then-is_full-clause-refuses
returns-then-is_full-clause-refuses c =
    rw (← c.self.view_is) ((λ e. len-shown place_in c.self.inside.places.kept ∙ c.is_full.ensures.full.0 c.if-is_full.true), (λ full. refl))

pub returns-then-is_full-clause-full : goal.returns-then-is_full-clause-full
returns-then-is_full-clause-full c =
    let used = c.len-used.ensures ∙ sym (len-shown place_in c.self.inside.places.kept) in
    let limit = c.len-used.ensures ∙ c.is_full.ensures.full.0 c.if-is_full.true in
    rw (← c.self.view_is) (λ i. Full (used i) (limit i))

pub add-requires-clause-absent : goal.add-requires-clause-absent
add-requires-clause-absent c = (absent-place c.self.inside.places.kept c.args.fp.0 (ap (λ (s : Shares). get s.places c.args.fp.0) c.self.view_is ∙ c.requires))

pub overflow_sub-self : goal.overflow_sub-self
overflow_sub-self c =
    let x : Kept = record { place = c.args.place; owners = c.unplaced_owners-owners.result } in
    let none = absent-place c.self.inside.places.kept c.args.fp.0 (ap (λ (s : Shares). get s.places c.args.fp.0) c.self.view_is ∙ c.requires) in
    let le = owners-le-unplaced c.self.inside.places c.self.inside.owners c.self.inside.unplaced c.self.invariant c.args.fp.0 x none in
    let count = c.unplaced_owners-owners.ensures ∙ ap (λ (s : Shares). owners_of s.owners c.args.fp.0) (sym c.self.view_is) in
    omega arith

pub invariant_of-self : goal.invariant_of-self
invariant_of-self c =
    let x : Kept = record { place = c.args.place; owners = c.unplaced_owners-owners.result } in
    let none = absent-place c.self.inside.places.kept c.args.fp.0 (ap (λ (s : Shares). get s.places c.args.fp.0) c.self.view_is ∙ c.requires) in
    let count = c.unplaced_owners-owners.ensures ∙ ap (λ (s : Shares). owners_of s.owners c.args.fp.0) (sym c.self.view_is) in
    indexed-place c.self.inside.places c.self.inside.owners c.self.inside.unplaced c.self.invariant c.add.new.self c.args.fp.0 x c.add.ensures.kept none count

pub returns-clause-ok : goal.returns-clause-ok
returns-clause-ok c =
    ap (shown place_in) c.add.ensures.kept
    ∙ shown-insert place_in fp_total fp_exact c.self.inside.places.kept c.args.fp.0 _
    ∙ ap (λ (s : Shares). insert s.places c.args.fp.0 c.args.place) c.self.view_is

pub returns-clause-refuses : goal.returns-clause-refuses
returns-clause-refuses c =
    let below = c.is_full.ensures.open c.if-is_full.false in
    let same = len-shown place_in c.self.inside.places.kept in
    rw (← c.self.view_is) ((λ e. absurd (true≢false (sym e))), (λ full. absurd (omega arith)))
