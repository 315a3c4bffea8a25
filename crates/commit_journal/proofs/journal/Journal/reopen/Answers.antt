use Rattle.std.proofs.Common.{◌∙◌, sym, ap}
use Rattle.journal_halves.specs.CdEdges.area.Area.TheVariants.{Journal}
use Rattle.journal_halves.specs.CdEdges.Disk.{Store}
use Rattle.journal_halves.specs.CdEdges.Shelf.{stable}
use Rattle.journal_halves.proofs.CdEdges.Moments.{told_on}
use Rattle.journal_halves.proofs.CdEdges.Shrinks.{begun, sync_goes_on}
use Rattle.commit_journal.specs.States.{state_of}
use Rattle.commit_journal.proofs.Opening.{sync_failed, sync_opened, reopened}
use Rattle.commit_journal.proofs.journal.Journal.reopen.Goals as goal

pub returns-in-Err-clause-opens : goal.returns-in-Err-clause-opens
returns-in-Err-clause-opens g c told =
    let number = c.args.cloud.0 in let c0 = g.V.Shelf.cloud_at c.args.shelf.now number in let c1 = g.V.Shelf.cloud_at c.sync.new.self number in
    let run = sync_goes_on c.sync.result c0 c0 c1 Journal (begun c0) (λ image now. now) (g.met.V.Shelf.reads_image c.args.shelf.now number told Journal) (c.sync.ensures.sync told) in
    sync_failed c.args.asked.now c.args.begin c0 c1 _ run

pub returns-in-Ok-clause-opens : goal.returns-in-Ok-clause-opens
returns-in-Ok-clause-opens g c told =
    let number = c.args.cloud.0 in let c0 = g.V.Shelf.cloud_at c.args.shelf.now number in let c1 = g.V.Shelf.cloud_at c.sync.new.self number in let c2 = g.V.Shelf.cloud_at c.open.new.shelf number in
    let run = sync_goes_on c.sync.result c0 c0 c1 Journal (begun c0) (λ image now. now) (g.met.V.Shelf.reads_image c.args.shelf.now number told Journal) (c.sync.ensures.sync told) in
    let told1 = told_on c0 c1 c.sync.ensures.call.told told in let synced = (c.in-Ok.ensures.sync told).ok in
    sync_opened c.args.asked.now c.args.begin c0 c1 c2 (state_of c.open.new.self) c.open.result run synced
    (c.open.ensures.opens told1 (synced.area ∙ ap stable (sym (ap (λ (s : Store). s.read) synced.area))))

pub returns-in-Ok-clause-begun : goal.returns-in-Ok-clause-begun
returns-in-Ok-clause-begun g c told some =
    let number = c.args.cloud.0 in let c0 = g.V.Shelf.cloud_at c.args.shelf.now number in let c1 = g.V.Shelf.cloud_at c.sync.new.self number in let c2 = g.V.Shelf.cloud_at c.open.new.shelf number in
    let told1 = told_on c0 c1 c.sync.ensures.call.told told in
    reopened c0 c1 c2 c.open.result (c.in-Ok.ensures.sync told).ok.area some (c.open.ensures.begun told1)
