use Rattle.std.proofs.Common.{rules, ◌≡◌, ◌≤◌, true, false, length, arith}
use Rattle.std.proofs.lemmas.List.{length-map}
use Rattle.recipe.specs.declared.items.Item.{Item}
use Rattle.cloud_areas.specs.UserDedup.Owning.{fps_in}
use Rattle.cloud_memory.proofs.Unowned.{owned_more, owned_all, lacks_it}
use Rattle.cloud_memory.proofs.cloud.CloudMemory.unowned_place.Goals as goal

pub returns-then-not-owns : goal.returns-then-not-owns
returns-then-not-owns c =
    let lacks : c.owns.result ≡ false = search rules in
    record { fp = c.fp_at.result; here = c.fp_at.ensures; lacks = lacks_it c.owns.result _ c.owns.ensures.kept lacks; before = c.loop-place.invariant }

pub loop-place-preserved : goal.loop-place-preserved
loop-place-preserved c =
    let has : c.owns.result ≡ true = search rules in
    owned_more c.args.self.now.shares.owners c.args.user (fps_in c.args.recipe.now.items) c.loop-place.place c.fp_at.result c.fp_at.ensures (c.owns.ensures.kept.0 has) c.loop-place.invariant

pub returns : goal.returns
returns c =
    let past : length (fps_in c.args.recipe.now.items) ≤ c.loop-place.place = omega (arith, length-map c.args.recipe.now.items (λ (item : Item). item.fp)) in
    owned_all c.args.self.now.shares.owners c.args.user (fps_in c.args.recipe.now.items) c.loop-place.place past c.loop-place.invariant
