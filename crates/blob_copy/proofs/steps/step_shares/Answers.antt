use Rattle.std.proofs.Common.{ℕ}
use Rattle.fresh_checkpoints.specs.CompactMemories.Kept.{live_at}
use Rattle.blob_copy.specs.Copies.{share_blob}
use Rattle.blob_copy.specs.Runs.{CopiesTo}
use Rattle.blob_copy.proofs.SharesCopied.{shares_within, shares_stop, shares_step}
use Rattle.blob_copy.proofs.steps.step_shares.Goals as goal

pub copy_shares_on_disk-requires-clause-within : goal.copy_shares_on_disk-requires-clause-within
copy_shares_on_disk-requires-clause-within g c =
    shares_within c.args.store.now c.requires.settled c.requires.open c.requires.each c.args.copying.now c.requires.laid

pub returns-in-Ok-clause-step : goal.returns-in-Ok-clause-step
returns-in-Ok-clause-step g c =
    let s = c.args.store.now in
    shares_step s c.requires.settled c.requires.open c.requires.each c.args.copying.now c.requires.laid
    (g.V.Shelf.cloud_at c.args.shelf.now s.header.cloud.0) (g.V.Shelf.cloud_at c.copy_shares_on_disk.new.shelf s.header.cloud.0) c.copy_shares_on_disk.new.disk
    c.copy_shares_on_disk.ensures.same c.copy_shares_on_disk.ensures.torn c.copy_shares_on_disk.ensures.call.told c.in-Ok.slot c.in-Ok.ensures.copied

pub returns-in-Err-clause-step : goal.returns-in-Err-clause-step
returns-in-Err-clause-step g c =
    let s = c.args.store.now in
    shares_stop s c.requires.settled c.requires.open c.requires.each c.args.copying.now c.requires.laid
    (g.V.Shelf.cloud_at c.args.shelf.now s.header.cloud.0) (g.V.Shelf.cloud_at c.copy_shares_on_disk.new.shelf s.header.cloud.0) c.copy_shares_on_disk.new.disk
    c.copy_shares_on_disk.ensures.same c.copy_shares_on_disk.ensures.torn c.shut_after.new.disk c.in-Err.error c.shut_after.ensures
    (λ (to : ℕ). CopiesTo (live_at s.memory.shares.owners) share_blob s.memory.shares.place_slots c.args.copying.now.place_slot to s.disk.shares c.copy_shares_on_disk.new.disk.shares
    (g.V.Shelf.cloud_at c.args.shelf.now s.header.cloud.0) (g.V.Shelf.cloud_at c.copy_shares_on_disk.new.shelf s.header.cloud.0))
    c.in-Err.ensures.copied
