use Rattle.std.proofs.Common.{◌≤◌, length, refl, arith}
use Rattle.std.specs.Prelude.{IsSome}
use Rattle.std.specs.FinMap.{get}
use Rattle.std.proofs.lemmas.List.{length-map}
use Rattle.cloud_memory.specs.CdBase.ids.Fp.{Fp}
use Rattle.cloud_memory.specs.Recipe.items.Item.{Item}
use Rattle.cloud_memory.specs.ShareIndex.Order.{owner_of}
use Rattle.cloud_memory.specs.UserDedup.Owning.{fps_in}
use Rattle.record_checks.proofs.Faults.{not_so}
use Rattle.record_checks.proofs.Naming.{passes, fails, all_pass}
use Rattle.record_checks.proofs.commits.owns_all.Goals as goal

pub returns-then-not-owns : goal.returns-then-not-owns
returns-then-not-owns c =
    let no = fails (λ (fp : Fp). IsSome (get c.args.memory.now.shares.owners (owner_of c.args.user.0 fp.0))) (fps_in c.args.recipe.now.items) c.loop-place.place c.fp_at.result c.fp_at.ensures
    (not_so c.owns.result c.owns.ensures.kept c.if-not-owns.true) c.loop-place.invariant in
    (λ wrong. cc, λ all. absurd (no all))

pub loop-place-preserved : goal.loop-place-preserved
loop-place-preserved c =
    passes (λ (fp : Fp). IsSome (get c.args.memory.now.shares.owners (owner_of c.args.user.0 fp.0))) (fps_in c.args.recipe.now.items) c.loop-place.place c.fp_at.result c.fp_at.ensures
    (c.owns.ensures.kept.0 c.if-not-owns.false) c.loop-place.invariant

pub returns : goal.returns
returns c =
    let past : length (fps_in c.args.recipe.now.items) ≤ c.loop-place.place = omega (arith, length-map c.args.recipe.now.items (λ (item : Item). item.fp)) in
    let all = all_pass (λ (fp : Fp). IsSome (get c.args.memory.now.shares.owners (owner_of c.args.user.0 fp.0))) (fps_in c.args.recipe.now.items) c.loop-place.place past c.loop-place.invariant in
    (λ t. all, λ h. refl)
