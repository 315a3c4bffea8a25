use Rattle.std.proofs.Common.{◌≤◌, [], Some, refl, sym, ap, map, arith}
use Rattle.std.specs.Prelude.{Option}
use Rattle.compact_lists.specs.CdBase.ids.Fp.{Fp}
use Rattle.compact_lists.specs.CdBase.place.Place.{Place}
use Rattle.fresh_checkpoints.specs.Checkpoints.Picking.{onto}
use Rattle.fresh_checkpoints.specs.CompactMemories.Kept.{live_at, live_places}
use Rattle.fresh_checkpoints.proofs.CompactMemories.Summing.{live_is}
use Rattle.blob_copy.specs.Copies.{share_blob}
use Rattle.blob_copy.specs.Runs.{HasRotten}
use Rattle.blob_copy.proofs.Gathered.{first_within}
use Rattle.blob_copy.proofs.Going.{among, slot_staged}
use Rattle.blob_copy.proofs.staging.stage_share.Goals as goal

pub stage_blob-requires-clause-few : goal.stage_blob-requires-clause-few
stage_blob-requires-clause-few g c =
    let there = c.in-Some.ensures.each.listed c.args.slot c.in-Some.fp.0 c.in-Some.place (sym c.in-Some.ensures.value) in
    let bounds = c.requires.fits c.in-Some.fp.0 c.in-Some.place there.0 in
    let few : c.in-Some.place.len ≤ 8208 = bounds.1 in
    omega (arith, few)

pub stage_blob-requires-clause-within : goal.stage_blob-requires-clause-within
stage_blob-requires-clause-within g c =
    let m = c.args.memory.now in
    first_within (live_at m.shares.owners) share_blob m.shares.place_slots c.args.slot _ _ (c.in-Some.fp, c.in-Some.place) c.requires.inside
    (live_is m.shares c.args.slot (Some (c.in-Some.fp, c.in-Some.place)) c.in-Some.ensures.value) c.requires.within

pub returns-in-Some-clause-staged : goal.returns-in-Some-clause-staged
returns-in-Some-clause-staged g c =
    let m = c.args.memory.now in
    let x : Fp × Place = (c.in-Some.fp, c.in-Some.place) in
    let is = live_is m.shares c.args.slot (Some x) c.in-Some.ensures.value in
    slot_staged _ _ (share_blob x) _ c.args.log.now c.stage_blob.new.log (HasRotten share_blob (live_places m) _)
    (sym (ap (λ (r : Option (Fp × Place)). map share_blob (onto r [])) is))
    (λ name found same rotten. (x, among (live_at m.shares.owners) refl m.shares.place_slots c.args.slot x is, sym same, rotten))
    c.stage_blob.result c.stage_blob.ensures.staged
