use Rattle.std.proofs.Common.{◌∙◌, ap}
use Rattle.std.specs.Option.{option_or}
use Rattle.spent_table.specs.CdBase.rooms.Room.TheVariants as names
use Rattle.cloud_areas.specs.UserDedup.Spending.{refusal}
use Rattle.spent_table.specs.declared.Spent.{Spent}
use Rattle.cloud_memory.proofs.cloud.CloudMemory.room_for_put.Goals as goal

pub returns : goal.returns
returns c =
    let a = c.from-put.ensures ∙ ap (λ (r : Spent). r.owners) c.of-spent.ensures in
    let b = ap (λ (r : Spent). r.shares) c.of-spent.ensures in
    let n = c.from-need.ensures in
    let l = c.owners_limit-most.ensures in
    let k = c.shares_limit-bytes.ensures in
    let d = c.from-mine.ensures ∙ c.owned_by-own.ensures in
    let e = c.from-laid.ensures ∙ c.placed-all.ensures in
    let s = c.from-slots.ensures in
    c.either.ensures
    ∙ (λ i. option_or (c.full_room-owners.ensures i) ((c.either-second.ensures
    ∙ (λ i. option_or (c.full_room-shares.ensures i) ((c.either-third.ensures ∙ (λ i. option_or (c.full_room-owned.ensures i) (c.full_room-placed.ensures i))) i))) i))
    ∙ (λ i. option_or (refusal names.Owners (a i) (n i) (l i))
    (option_or (refusal names.Shares (b i) c.args.more (k i))
    (option_or (refusal names.Owners (d i) (n i) (l i)) (refusal names.Owners (e i) (n i) (s i)))))
