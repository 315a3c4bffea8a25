use Rattle.std.proofs.Common.{IsTrue, rules}
use Rattle.mem_disk.specs.CdEdges.Disk.{Cloud}
use Rattle.mem_disk.specs.CdEdges.Shelf.{Syncs}
use Rattle.cd_fakes.proofs.CloudsAt.{Step, between, at, at_both, others_stay, called, failed, uncounted}
use Rattle.cd_fakes.proofs.shelf.MemShelfShelf.sync.Goals as goal

pub returns-clause-call : goal.returns-clause-call
returns-clause-call c =
    let ms = c.args.self.now.clouds.items in let ms' = c.count.new.self.clouds.items in let number = c.args.cloud.0 in
    let m = c.index_mut.result.now in let m' = c.sync-outcome.new.self in
    let step : Step ms ms' number m m' = record { within = search rules; is = c.index_mut.ensures.value; changed = search rules } in
    called ms ms' number m m' step c.sync-outcome.result c.args.self.now.total c.count.new.self.total c.sync-outcome.ensures.told c.sync-outcome.ensures.armings c.sync-outcome.ensures.cause c.count.ensures.cause.later

pub returns-clause-failed : goal.returns-clause-failed
returns-clause-failed c =
    let ms = c.args.self.now.clouds.items in let ms' = c.count.new.self.clouds.items in let number = c.args.cloud.0 in
    let m = c.index_mut.result.now in let m' = c.sync-outcome.new.self in
    let step : Step ms ms' number m m' = record { within = search rules; is = c.index_mut.ensures.value; changed = search rules } in
    failed ms ms' number m m' step c.sync-outcome.result c.count.result c.args.self.now.total c.count.new.self.total c.count.ensures.same c.sync-outcome.ensures.cause c.count.ensures.cause

pub returns-clause-uncounted : goal.returns-clause-uncounted
returns-clause-uncounted c =
    let ms = c.args.self.now.clouds.items in let ms' = c.count.new.self.clouds.items in let number = c.args.cloud.0 in
    let m = c.index_mut.result.now in let m' = c.sync-outcome.new.self in
    let step : Step ms ms' number m m' = record { within = search rules; is = c.index_mut.ensures.value; changed = search rules } in
    uncounted ms ms' number m m' step c.sync-outcome.result c.count.result c.args.self.now.total c.count.new.self.total c.count.ensures.same c.sync-outcome.ensures.cause c.count.ensures.cause

pub returns-clause-fails : goal.returns-clause-fails
returns-clause-fails c =
    let ms = c.args.self.now.clouds.items in let ms' = c.count.new.self.clouds.items in let number = c.args.cloud.0 in
    let m = c.index_mut.result.now in let m' = c.sync-outcome.new.self in
    let step : Step ms ms' number m m' = record { within = search rules; is = c.index_mut.ensures.value; changed = search rules } in
    at ms ms' number m m' step _ (rw (c.count.ensures.same, ← c.deref.ensures.value) c.sync-outcome.ensures.fails)

pub returns-clause-counts : goal.returns-clause-counts
returns-clause-counts c =
    let ms = c.args.self.now.clouds.items in let ms' = c.count.new.self.clouds.items in let number = c.args.cloud.0 in
    let m = c.index_mut.result.now in let m' = c.sync-outcome.new.self in
    let step : Step ms ms' number m m' = record { within = search rules; is = c.index_mut.ensures.value; changed = search rules } in
    at_both ms ms' number m m' step _ (c.sync-outcome.ensures.calls, rw c.count.ensures.same c.sync-outcome.ensures.faults)

pub returns-clause-others_stay : goal.returns-clause-others_stay
returns-clause-others_stay c =
    let ms = c.args.self.now.clouds.items in let ms' = c.count.new.self.clouds.items in let number = c.args.cloud.0 in
    let m = c.index_mut.result.now in let m' = c.sync-outcome.new.self in
    let step : Step ms ms' number m m' = record { within = search rules; is = c.index_mut.ensures.value; changed = search rules } in
    others_stay ms ms' number m m' step

pub returns-clause-sync : goal.returns-clause-sync
returns-clause-sync c =
    let ms = c.args.self.now.clouds.items in let ms' = c.count.new.self.clouds.items in let number = c.args.cloud.0 in
    let m = c.index_mut.result.now in let m' = c.sync-outcome.new.self in
    let step : Step ms ms' number m m' = record { within = search rules; is = c.index_mut.ensures.value; changed = search rules } in
    between ms ms' number m m' step (λ (a b : Cloud). IsTrue a.told → Syncs a b c.args.area c.count.result) (λ told. rw c.count.ensures.same (c.sync-outcome.ensures.sync told))

pub returns-clause-areas : goal.returns-clause-areas
returns-clause-areas c =
    let ms = c.args.self.now.clouds.items in let ms' = c.count.new.self.clouds.items in let number = c.args.cloud.0 in
    let m = c.index_mut.result.now in let m' = c.sync-outcome.new.self in
    let step : Step ms ms' number m m' = record { within = search rules; is = c.index_mut.ensures.value; changed = search rules } in
    at_both ms ms' number m m' step _ c.sync-outcome.ensures.areas

pub returns-clause-reads : goal.returns-clause-reads
returns-clause-reads c =
    let ms = c.args.self.now.clouds.items in let ms' = c.count.new.self.clouds.items in let number = c.args.cloud.0 in
    let m = c.index_mut.result.now in let m' = c.sync-outcome.new.self in
    let step : Step ms ms' number m m' = record { within = search rules; is = c.index_mut.ensures.value; changed = search rules } in
    at_both ms ms' number m m' step _ c.sync-outcome.ensures.reads
