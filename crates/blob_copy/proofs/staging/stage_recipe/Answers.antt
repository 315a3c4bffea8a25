use Rattle.std.proofs.Common.{[], refl, sym, ap, map}
use Rattle.std.specs.Prelude.{Option}
use Rattle.record_laws.specs.FileIndex.key.Entry.{Entry}
use Rattle.record_laws.specs.FileIndex.key.FileKey.{FileKey}
use Rattle.record_laws.specs.FileIndex.Files.{key_of}
use Rattle.fresh_checkpoints.specs.Checkpoints.Picking.{onto}
use Rattle.fresh_checkpoints.specs.CompactMemories.Kept.{live_entries}
use Rattle.blob_copy.specs.Copies.{entry_blob}
use Rattle.blob_copy.specs.Runs.{HasRotten}
use Rattle.blob_copy.proofs.Gathered.{first_within}
use Rattle.blob_copy.proofs.Going.{among, slot_staged}
use Rattle.blob_copy.proofs.staging.stage_recipe.Goals as goal

pub stage_blob-requires-clause-within : goal.stage_blob-requires-clause-within
stage_blob-requires-clause-within g c =
    let m = c.args.memory.now in
    first_within (λ (e : Option (FileKey × Entry)). e) entry_blob m.files.slots c.args.slot _ _ (key_of c.in-Some.field-0-0.0 c.in-Some.field-0-1.0 c.in-Some.field-0-2.0, c.in-Some.entry) c.requires.inside
    (sym c.in-Some.ensures.value) c.requires.within

pub returns-in-Some-clause-staged : goal.returns-in-Some-clause-staged
returns-in-Some-clause-staged g c =
    let m = c.args.memory.now in
    let x : FileKey × Entry = (key_of c.in-Some.field-0-0.0 c.in-Some.field-0-1.0 c.in-Some.field-0-2.0, c.in-Some.entry) in
    slot_staged _ _ (entry_blob x) _ c.args.log.now c.stage_blob.new.log (HasRotten entry_blob (live_entries m) _)
    (ap (λ (r : Option (FileKey × Entry)). map entry_blob (onto r [])) c.in-Some.ensures.value)
    (λ name found same rotten. (x, among (λ (e : Option (FileKey × Entry)). e) refl m.files.slots c.args.slot x (sym c.in-Some.ensures.value), sym same, rotten))
    c.stage_blob.result c.stage_blob.ensures.staged
