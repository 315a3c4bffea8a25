use Rattle.std.proofs.Common.{Some, None, arith}
use Rattle.std.proofs.lemmas.List.{length-map}
use Rattle.recipe.specs.declared.items.Item.{Item}
use Rattle.cloud_areas.specs.UserDedup.Owning.{fps_in}
use Rattle.cloud_memory.specs.Rooms.{memory_of}
use Rattle.cloud_memory.proofs.Unowned.{lacking_is, found_within}
use Rattle.cloud_memory.proofs.cloud.CloudMemory.first_unowned.Goals as goal

pub returns-in-Some-clause-value : goal.returns-in-Some-clause-value
returns-in-Some-clause-value c = λ shape list r.
    lacking_is shape list (memory_of c.args.self.now) c.args.user r (fps_in c.args.recipe.now.items) (Some c.in-Some.place) c.in-Some.ensures

pub returns-in-Some-clause-within : goal.returns-in-Some-clause-within
returns-in-Some-clause-within c =
    let within = found_within c.args.self.now.shares.owners c.args.user (fps_in c.args.recipe.now.items) c.in-Some.place c.in-Some.ensures in
    omega (arith, within, length-map c.args.recipe.now.items (λ (item : Item). item.fp))

pub returns-in-None-clause-value : goal.returns-in-None-clause-value
returns-in-None-clause-value c = λ shape list r.
    lacking_is shape list (memory_of c.args.self.now) c.args.user r (fps_in c.args.recipe.now.items) None c.in-None.ensures
