use Rattle.std.proofs.Common.{Bool, IsTrue, sym, subst}
use Rattle.std.specs.Prelude.{Option}
use Rattle.record_laws.specs.FileIndex.key.Entry.{Entry}
use Rattle.record_laws.specs.FileIndex.key.FileKey.{FileKey}
use Rattle.blob_copy.specs.Copies.{entry_blob}
use Rattle.blob_copy.proofs.Written.{untorn, torn, copies}
use Rattle.blob_copy.proofs.staging.copy_recipes.Goals as goal

pub returns-in-Ok-flush-clause-copied : goal.returns-in-Ok-flush-clause-copied
returns-in-Ok-flush-clause-copied g c =
    let e = c.in-Ok-flush.ensures in
    copies (λ (e : Option (FileKey × Entry)). e) entry_blob c.args.memory.now.files.slots c.args.from c.args.log.now c.stage_recipes.new.log c.requires.none (g.V.Shelf.cloud_at c.args.shelf.now c.args.cloud.0) (g.V.Shelf.cloud_at c.stage_recipes.new.shelf c.args.cloud.0) c.in-Ok.ensures.reads.stays c.in-Ok.to c.in-Ok.ensures.staged (g.V.Shelf.cloud_at c.flush.new.shelf c.args.cloud.0)
    c.in-Ok.ensures.reads.call.told c.flush.new.self _ e.log e.none e.written e.placed e.others (λ none i. g.V.Shelf.cloud_at ((e.nothing none).0 i) c.args.cloud.0) e.agrees

pub returns-in-Ok-flush-clause-torn : goal.returns-in-Ok-flush-clause-torn
returns-in-Ok-flush-clause-torn g c told =
    torn (λ (e : Option (FileKey × Entry)). e) entry_blob c.args.memory.now.files.slots c.args.from c.args.log.now c.stage_recipes.new.log c.requires.none (g.V.Shelf.cloud_at c.args.shelf.now c.args.cloud.0) (g.V.Shelf.cloud_at c.stage_recipes.new.shelf c.args.cloud.0) c.in-Ok.ensures.reads.stays c.in-Ok.to c.in-Ok.ensures.staged (g.V.Shelf.cloud_at c.flush.new.shelf c.args.cloud.0)
    (c.in-Ok-flush.ensures.torn (subst (λ (t : Bool). IsTrue t) (sym c.in-Ok.ensures.reads.call.told) told))

pub returns-in-Err-flush-clause-torn : goal.returns-in-Err-flush-clause-torn
returns-in-Err-flush-clause-torn g c told =
    torn (λ (e : Option (FileKey × Entry)). e) entry_blob c.args.memory.now.files.slots c.args.from c.args.log.now c.stage_recipes.new.log c.requires.none (g.V.Shelf.cloud_at c.args.shelf.now c.args.cloud.0) (g.V.Shelf.cloud_at c.stage_recipes.new.shelf c.args.cloud.0) c.in-Ok.ensures.reads.stays c.in-Ok.to c.in-Ok.ensures.staged (g.V.Shelf.cloud_at c.flush.new.shelf c.args.cloud.0)
    (c.in-Err-flush.ensures.torn (subst (λ (t : Bool). IsTrue t) (sym c.in-Ok.ensures.reads.call.told) told))

pub returns-in-Err-clause-torn : goal.returns-in-Err-clause-torn
returns-in-Err-clause-torn g c told =
    untorn (λ (e : Option (FileKey × Entry)). e) entry_blob c.args.memory.now.files.slots c.args.from c.args.log.now c.stage_recipes.new.log c.requires.none (g.V.Shelf.cloud_at c.args.shelf.now c.args.cloud.0) (g.V.Shelf.cloud_at c.stage_recipes.new.shelf c.args.cloud.0) c.in-Err.ensures.reads.stays
