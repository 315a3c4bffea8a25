use Rattle.std.proofs.Common.{refl, sym, ap, ◌∙◌, subst}
use Rattle.cloud_disk.specs.CdEdges.area.Area.TheVariants.{Journal}
use Rattle.cloud_disk.specs.CdEdges.Disk.{IsAtArea}
use Rattle.cloud_disk.proofs.CdEdges.Moments.{told_on, weaker}
use Rattle.cloud_disk.specs.CommitJournal.States as journals
use Rattle.cloud_disk.specs.CloudAreas.Standing.{where_of}
use Rattle.cloud_disk.specs.Disk.{Disk}
use Rattle.checkpoints.specs.Laying.{KeepsOrSettles, HasSettled}
use Rattle.checkpoints.proofs.InPlace.{keeps_list, settled_on}
use Rattle.checkpoints.proofs.entire.checkpoint.Goals as goal

pub returns-clause-any_moment : goal.returns-clause-any_moment
returns-clause-any_moment g c list chain recipes summed =
    let number = c.args.cloud.0 in let disk = c.args.disk.now in let bodies = g.R.CheckpointRecords.to_come c.args.records.now in
    let c0 = g.V.Shelf.cloud_at c.args.shelf.now number in let c1 = g.V.Shelf.cloud_at c.lay_checkpoint.new.shelf number in
    let ended = subst (λ (j : journals.JournalState). journals.IsJournalEnded j (c0.now Journal) (where_of chain)) (sym c.journal_mut.ensures.value) summed.on.read.ended in
    keeps_list c.args.header.now list chain c.args.head.commands c.args.head.count c.args.head.region bodies recipes disk c0 summed c1
    (c.lay_checkpoint.ensures.any_moment summed.on.read.told (where_of chain) ended)

pub returns-clause-only_journal : goal.returns-clause-only_journal
returns-clause-only_journal g c list chain recipes summed =
    let number = c.args.cloud.0 in
    let c0 = g.V.Shelf.cloud_at c.args.shelf.now number in let c1 = g.V.Shelf.cloud_at c.lay_checkpoint.new.shelf number in
    let ended = subst (λ (j : journals.JournalState). journals.IsJournalEnded j (c0.now Journal) (where_of chain)) (sym c.journal_mut.ensures.value) summed.on.read.ended in
    weaker c0 c1 _ (IsAtArea c0.now Journal (λ bytes. Unit {0})) (c.lay_checkpoint.ensures.any_moment summed.on.read.told (where_of chain) ended) (λ image at. record { area = tt; others = at.others })

pub returns-clause-settled : goal.returns-clause-settled
returns-clause-settled g c list chain recipes summed =
    let number = c.args.cloud.0 in let disk = c.args.disk.now in let bodies = g.R.CheckpointRecords.to_come c.args.records.now in
    let c0 = g.V.Shelf.cloud_at c.args.shelf.now number in let c1 = g.V.Shelf.cloud_at c.lay_checkpoint.new.shelf number in
    let ended = subst (λ (j : journals.JournalState). journals.IsJournalEnded j (c0.now Journal) (where_of chain)) (sym c.journal_mut.ensures.value) summed.on.read.ended in
    let new : Disk = record disk { journal = journals.state_of c.lay_checkpoint.new.journal } in
    settled_on c.args.header.now list chain c.args.head.commands c.args.head.count c.args.head.region bodies recipes disk c0 summed c.lay_checkpoint.result new c1
    (told_on c0 c1 c.lay_checkpoint.ensures.call.told summed.on.read.told)
    (c.lay_checkpoint.ensures.settled summed.on.read.told (where_of chain) ended) (c.lay_checkpoint.ensures.others summed.on.read.told)
    (c.lay_checkpoint.ensures.limit ∙ ap (λ (j : journals.JournalState). j.limit) c.journal_mut.ensures.value) refl refl

pub returns-clause-chain : goal.returns-clause-chain
returns-clause-chain g c =
    let number = c.args.cloud.0 in let bodies = g.R.CheckpointRecords.to_come c.args.records.now in
    let c0 = g.V.Shelf.cloud_at c.args.shelf.now number in let c1 = g.V.Shelf.cloud_at c.lay_checkpoint.new.shelf number in
    subst (λ (j : journals.JournalState). KeepsOrSettles j c.args.header.now c.args.head.commands c.args.head.count c.args.head.region bodies c0 c1) c.journal_mut.ensures.value c.lay_checkpoint.ensures.any_moment

pub returns-clause-taken : goal.returns-clause-taken
returns-clause-taken g c =
    let number = c.args.cloud.0 in let bodies = g.R.CheckpointRecords.to_come c.args.records.now in
    let c0 = g.V.Shelf.cloud_at c.args.shelf.now number in let c1 = g.V.Shelf.cloud_at c.lay_checkpoint.new.shelf number in
    subst (λ (j : journals.JournalState). HasSettled j (journals.state_of c.lay_checkpoint.new.journal) c.args.header.now c.args.head.commands c.args.head.count c.args.head.region bodies c0 c1 c.lay_checkpoint.result)
    c.journal_mut.ensures.value c.lay_checkpoint.ensures.settled
