use Rattle.std.proofs.Common.{◌+◌, ◌<◌, ◌^◌, ℕ, Some, None, sym, ap, ◌∙◌, subst}
use Rattle.std.specs.Prelude.{is_some}
use Rattle.checkpoints.specs.CloudMemory.cloud.CloudMemory.{CloudMemory}
use Rattle.compact_memories.specs.Kept.{live_at}
use Rattle.compact_memories.specs.Relaid.{share_len, share_at, PlacesSoFar}
use Rattle.compact_memories.proofs.Summing.{live_is}
use Rattle.compact_memories.proofs.Relaying.{ends_within}
use Rattle.compact_memories.proofs.Carrying.{place_kept, place_moved}
use Rattle.compact_memories.proofs.copied.move_place.Goals as goal

pub place_behind-at-requires : goal.place_behind-at-requires
place_behind-at-requires c =
    let m = c.args.memory.now in
    ends_within (live_at m.shares.owners) share_len share_at m.shares.place_slots c.args.slot c.args.end (2 ^ 64) (c.in-Some.fp, c.in-Some.place) c.requires.inside
    (live_is m.shares c.args.slot (Some (c.in-Some.fp, c.in-Some.place)) c.in-Some.ensures.value) c.requires.within

pub move_share-requires : goal.move_share-requires
move_share-requires c =
    record { placed = ap is_some (c.in-Some.ensures.each.listed c.args.slot c.in-Some.fp.0 c.in-Some.place (sym c.in-Some.ensures.value)).0 }

pub returns-in-Some-clause-so_far : goal.returns-in-Some-clause-so_far
returns-in-Some-clause-so_far c start first p =
    let at_is = c.place_behind-at.ensures in
    subst (λ (n : ℕ). PlacesSoFar start first c.move_share.new.self (c.args.slot + 1) n) (sym (c.end_behind-next.ensures ∙ ap (λ (n : ℕ). n + c.in-Some.place.len) at_is))
    (place_moved start first c.args.memory.now c.args.slot c.args.end p c.requires.inside c.in-Some.fp c.in-Some.place (sym c.in-Some.ensures.value) c.in-Some.ensures.each
    c.move_share.new.self (record { at = c.place_behind-at.result; len = c.in-Some.place.len }) (λ i. record { at = at_is i; len = c.in-Some.place.len })
    c.move_share.ensures.taken c.move_share.ensures.moved c.move_share.ensures.files)

pub returns-in-None-clause-so_far : goal.returns-in-None-clause-so_far
returns-in-None-clause-so_far c start first p =
    place_kept start first c.args.memory.now c.args.slot c.args.end p c.requires.inside (live_is c.args.memory.now.shares c.args.slot None c.in-None.ensures.value)

pub end_behind-next-requires : goal.end_behind-next-requires
end_behind-next-requires c =
    subst (λ (n : ℕ). n + c.in-Some.place.len < 2 ^ 64) (sym c.place_behind-at.ensures)
    (let m = c.args.memory.now in
    ends_within (live_at m.shares.owners) share_len share_at m.shares.place_slots c.args.slot c.args.end (2 ^ 64) (c.in-Some.fp, c.in-Some.place) c.requires.inside
    (live_is m.shares c.args.slot (Some (c.in-Some.fp, c.in-Some.place)) c.in-Some.ensures.value) c.requires.within)
