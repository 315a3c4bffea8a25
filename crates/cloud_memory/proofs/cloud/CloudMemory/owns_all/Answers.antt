use Rattle.std.proofs.Common.{Bool, subst, sym}
use Rattle.std.specs.Prelude.{◌↔◌, IsTrue}
use Rattle.cloud_areas.specs.UserDedup.Owning.{fps_in}
use Rattle.cloud_memory.specs.Rooms.{memory_of}
use Rattle.cloud_memory.specs.Sharing.{AreOwned}
use Rattle.cloud_memory.proofs.Unowned.{none_is, owns_is, all_owned}
use Rattle.cloud_memory.proofs.cloud.CloudMemory.owns_all.Goals as goal

pub returns-clause-kept : goal.returns-clause-kept
returns-clause-kept c =
    let names = fps_in c.args.recipe.now.items in
    subst (λ (b : Bool). IsTrue b ↔ AreOwned c.args.self.now.shares.owners c.args.user names) (sym (none_is c.is_none.result c.unowned_place.result (sym c.is_none.ensures)))
    (owns_is c.args.self.now.shares.owners c.args.user names c.unowned_place.result c.unowned_place.ensures)

pub returns-clause-meaning : goal.returns-clause-meaning
returns-clause-meaning c = λ shape list r.
    let all = all_owned shape list (memory_of c.args.self.now) c.args.user r (fps_in c.args.recipe.now.items) in
    let kept = returns-clause-kept c in
    (λ t. all.0 (kept.0 t), λ o. kept.1 (all.1 o))
