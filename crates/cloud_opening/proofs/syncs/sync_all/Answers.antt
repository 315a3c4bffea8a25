use Rattle.cloud_disk.specs.CdEdges.area.Area.TheVariants.{Journal, Shares, Recipes}
use Rattle.cloud_disk.specs.CdEdges.Disk.{IsImage}
use Rattle.cloud_disk.proofs.CdEdges.Moments.{at_end, told_on}
use Rattle.cloud_disk.proofs.CdEdges.Shrinks.{begun, sync_goes_on}
use Rattle.cloud_opening.proofs.syncs.sync_all.Goals as goal

pub returns-in_err-sync-clause-any_moment : goal.returns-in_err-sync-clause-any_moment
returns-in_err-sync-clause-any_moment g c told =
    let number = c.args.cloud.0 in let c0 = g.V.Shelf.cloud_at c.args.shelf.now number in let c1 = g.V.Shelf.cloud_at c.sync.new.self number in
    let run1 = sync_goes_on c.sync.result c0 c0 c1 Journal (begun c0) (λ image now. now) (g.met.V.Shelf.reads_image c.args.shelf.now number told Journal) (c.sync.ensures.sync told) in
    run1

pub returns-in_err-sync-2-clause-any_moment : goal.returns-in_err-sync-2-clause-any_moment
returns-in_err-sync-2-clause-any_moment g c told =
    let number = c.args.cloud.0 in let c0 = g.V.Shelf.cloud_at c.args.shelf.now number in let c1 = g.V.Shelf.cloud_at c.sync.new.self number in
    let run1 = sync_goes_on c.sync.result c0 c0 c1 Journal (begun c0) (λ image now. now) (g.met.V.Shelf.reads_image c.args.shelf.now number told Journal) (c.sync.ensures.sync told) in
    let c2 = g.V.Shelf.cloud_at c.sync-2.new.self number in let told1 = told_on c0 c1 c.sync.ensures.call.told told in
    let run2 = sync_goes_on c.sync-2.result c0 c1 c2 Shares run1 (at_end c0 c1 (IsImage c0.now) run1) (g.met.V.Shelf.reads_image c.sync.new.self number told1 Shares) (c.sync-2.ensures.sync told1) in
    run2

pub returns-in_err-sync-3-clause-any_moment : goal.returns-in_err-sync-3-clause-any_moment
returns-in_err-sync-3-clause-any_moment g c told =
    let number = c.args.cloud.0 in let c0 = g.V.Shelf.cloud_at c.args.shelf.now number in let c1 = g.V.Shelf.cloud_at c.sync.new.self number in
    let run1 = sync_goes_on c.sync.result c0 c0 c1 Journal (begun c0) (λ image now. now) (g.met.V.Shelf.reads_image c.args.shelf.now number told Journal) (c.sync.ensures.sync told) in
    let c2 = g.V.Shelf.cloud_at c.sync-2.new.self number in let told1 = told_on c0 c1 c.sync.ensures.call.told told in
    let run2 = sync_goes_on c.sync-2.result c0 c1 c2 Shares run1 (at_end c0 c1 (IsImage c0.now) run1) (g.met.V.Shelf.reads_image c.sync.new.self number told1 Shares) (c.sync-2.ensures.sync told1) in
    let c3 = g.V.Shelf.cloud_at c.sync-3.new.self number in let told2 = told_on c1 c2 c.sync-2.ensures.call.told told1 in
    sync_goes_on c.sync-3.result c0 c2 c3 Recipes run2 (at_end c0 c2 (IsImage c0.now) run2) (g.met.V.Shelf.reads_image c.sync-2.new.self number told2 Recipes) (c.sync-3.ensures.sync told2)

pub returns-clause-any_moment : goal.returns-clause-any_moment
returns-clause-any_moment g c told =
    let number = c.args.cloud.0 in let c0 = g.V.Shelf.cloud_at c.args.shelf.now number in let c1 = g.V.Shelf.cloud_at c.sync.new.self number in
    let run1 = sync_goes_on c.sync.result c0 c0 c1 Journal (begun c0) (λ image now. now) (g.met.V.Shelf.reads_image c.args.shelf.now number told Journal) (c.sync.ensures.sync told) in
    let c2 = g.V.Shelf.cloud_at c.sync-2.new.self number in let told1 = told_on c0 c1 c.sync.ensures.call.told told in
    let run2 = sync_goes_on c.sync-2.result c0 c1 c2 Shares run1 (at_end c0 c1 (IsImage c0.now) run1) (g.met.V.Shelf.reads_image c.sync.new.self number told1 Shares) (c.sync-2.ensures.sync told1) in
    let c3 = g.V.Shelf.cloud_at c.sync-3.new.self number in let told2 = told_on c1 c2 c.sync-2.ensures.call.told told1 in
    sync_goes_on c.sync-3.result c0 c2 c3 Recipes run2 (at_end c0 c2 (IsImage c0.now) run2) (g.met.V.Shelf.reads_image c.sync-2.new.self number told2 Recipes) (c.sync-3.ensures.sync told2)
