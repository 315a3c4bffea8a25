use Rattle.std.proofs.Common.{◌∙◌}
use Rattle.std.specs.Option.{option_or}
use Rattle.spent_table.specs.CdBase.rooms.Room.TheVariants as names
use Rattle.cloud_areas.specs.UserDedup.Spending.{refusal}
use Rattle.cloud_memory.proofs.cloud.CloudMemory.full_for_commit.Goals as goal

pub returns : goal.returns
returns c =
    let by = c.full_room-recipes.ensures ∙ (λ i. refusal names.Recipes (c.of-spent.ensures i).recipes (c.from-more.ensures i) (c.recipes_limit-most.ensures i)) in
    c.either.ensures ∙ (λ i. option_or (c.room_for_entry-files.ensures i) (by i))
