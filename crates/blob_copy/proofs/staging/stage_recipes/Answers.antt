use Rattle.std.proofs.Common.{◌∙◌, ap, arith, length}
use Rattle.std.specs.Prelude.{Option}
use Rattle.record_laws.specs.FileIndex.key.Entry.{Entry}
use Rattle.record_laws.specs.FileIndex.key.FileKey.{FileKey}
use Rattle.record_laws.specs.FileIndex.Files.{Files}
use Rattle.blob_copy.specs.Copies.{entry_blob}
use Rattle.blob_copy.proofs.Gathered.{some_before, some_at_end}
use Rattle.blob_copy.proofs.Going.{going_on, stopped_goes, next_within}
use Rattle.blob_copy.proofs.staging.stage_recipes.Goals as goal

pub stage_recipe-requires-clause-within : goal.stage_recipe-requires-clause-within
stage_recipe-requires-clause-within g c =
    next_within (λ (e : Option (FileKey × Entry)). e) entry_blob c.args.memory.now.files.slots c.args.from (g.V.Shelf.cloud_at c.args.shelf.now) c.args.cloud.0 (g.V.Shelf.faults c.args.shelf.now) c.args.log.now
    c.loop-slot.slot (g.V.Shelf.cloud_at c.loop-slot.shelf) (g.V.Shelf.cloud_at c.loop-slot.shelf) (g.V.Shelf.faults c.loop-slot.shelf) (g.V.Shelf.faults c.loop-slot.shelf) c.loop-slot.log c.loop-slot.log
    c.loop-slot.invariant.going c.requires.within (ap length c.requires.none.bytes)

pub returns-then-not-staged-clause-staged : goal.returns-then-not-staged-clause-staged
returns-then-not-staged-clause-staged g c =
    let stops = stopped_goes (λ (e : Option (FileKey × Entry)). e) entry_blob c.args.memory.now.files.slots c.args.from (g.V.Shelf.cloud_at c.args.shelf.now) c.args.cloud.0 (g.V.Shelf.faults c.args.shelf.now) c.args.log.now
    c.loop-slot.slot (g.V.Shelf.cloud_at c.loop-slot.shelf) (g.V.Shelf.cloud_at c.stage_recipe.new.shelf) (g.V.Shelf.faults c.loop-slot.shelf) (g.V.Shelf.faults c.stage_recipe.new.shelf) c.loop-slot.log c.stage_recipe.new.log
    c.loop-slot.invariant.going c.in-Ok.staged c.if-not-staged.true c.in-Ok.ensures.staged in
    some_before (λ (e : Option (FileKey × Entry)). e) entry_blob c.args.memory.now.files.slots (g.V.Shelf.cloud_at c.args.shelf.now c.args.cloud.0) c.args.from c.args.log.now c.loop-slot.slot c.stage_recipe.new.log
    (ap length c.requires.none.bytes) c.loop-slot.auto.slot stops.1 stops.0

pub loop-slot-preserved : goal.loop-slot-preserved
loop-slot-preserved g c = record {
  going =
      going_on (λ (e : Option (FileKey × Entry)). e) entry_blob c.args.memory.now.files.slots c.args.from (g.V.Shelf.cloud_at c.args.shelf.now) c.args.cloud.0 (g.V.Shelf.faults c.args.shelf.now) c.args.log.now
      c.loop-slot.slot (g.V.Shelf.cloud_at c.loop-slot.shelf) (g.V.Shelf.cloud_at c.stage_recipe.new.shelf) (g.V.Shelf.faults c.loop-slot.shelf) (g.V.Shelf.faults c.stage_recipe.new.shelf) c.loop-slot.log c.stage_recipe.new.log
      c.loop-slot.invariant.going
      (let more = c.loop-slot-test.true in let same = ap (λ (f : Files). length f.slots) c.files.ensures in omega (arith, more, same, c.slots-slots.ensures))
      c.in-Ok.staged c.if-not-staged.false c.in-Ok.ensures.staged c.in-Ok.ensures.reads c.in-Ok.ensures.counts;
  long = c.in-Ok.ensures.buffer ∙ c.loop-slot.invariant.long;
}

pub returns-clause-staged : goal.returns-clause-staged
returns-clause-staged g c =
    let same = ap (λ (f : Files). length f.slots) c.files.ensures in
    some_at_end (λ (e : Option (FileKey × Entry)). e) entry_blob c.args.memory.now.files.slots (g.V.Shelf.cloud_at c.args.shelf.now c.args.cloud.0) c.args.from c.args.log.now c.loop-slot.slot c.slots-slots.result c.loop-slot.log
    c.requires.some (c.slots-slots.ensures ∙ same) c.loop-slot-test.false c.loop-slot.auto.slot-end c.loop-slot.invariant.going.goes
