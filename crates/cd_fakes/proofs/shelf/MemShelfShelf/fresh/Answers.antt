use Rattle.std.proofs.Common.{IsTrue, rules}
use Rattle.mem_disk.specs.CdEdges.Disk.{Cloud}
use Rattle.mem_disk.specs.CdEdges.Shelf.{Refreshes}
use Rattle.cd_fakes.proofs.CloudsAt.{Step, between, at, at_both, others_stay, called, failed, uncounted, on_ok}
use Rattle.cd_fakes.proofs.shelf.MemShelfShelf.fresh.Goals as goal

pub returns-clause-call : goal.returns-clause-call
returns-clause-call c =
    let ms = c.args.self.now.clouds.items in let ms' = c.count.new.self.clouds.items in let number = c.args.cloud.0 in
    let m = c.index_mut.result.now in let m' = c.fresh-outcome.new.self in
    let step : Step ms ms' number m m' = record { within = search rules; is = c.index_mut.ensures.value; changed = search rules } in
    called ms ms' number m m' step c.fresh-outcome.result c.args.self.now.total c.count.new.self.total c.fresh-outcome.ensures.told c.fresh-outcome.ensures.armings c.fresh-outcome.ensures.cause c.count.ensures.cause.later

pub returns-clause-failed : goal.returns-clause-failed
returns-clause-failed c =
    let ms = c.args.self.now.clouds.items in let ms' = c.count.new.self.clouds.items in let number = c.args.cloud.0 in
    let m = c.index_mut.result.now in let m' = c.fresh-outcome.new.self in
    let step : Step ms ms' number m m' = record { within = search rules; is = c.index_mut.ensures.value; changed = search rules } in
    failed ms ms' number m m' step c.fresh-outcome.result c.count.result c.args.self.now.total c.count.new.self.total c.count.ensures.same c.fresh-outcome.ensures.cause c.count.ensures.cause

pub returns-clause-uncounted : goal.returns-clause-uncounted
returns-clause-uncounted c =
    let ms = c.args.self.now.clouds.items in let ms' = c.count.new.self.clouds.items in let number = c.args.cloud.0 in
    let m = c.index_mut.result.now in let m' = c.fresh-outcome.new.self in
    let step : Step ms ms' number m m' = record { within = search rules; is = c.index_mut.ensures.value; changed = search rules } in
    uncounted ms ms' number m m' step c.fresh-outcome.result c.count.result c.args.self.now.total c.count.new.self.total c.count.ensures.same c.fresh-outcome.ensures.cause c.count.ensures.cause

pub returns-clause-fails : goal.returns-clause-fails
returns-clause-fails c =
    let ms = c.args.self.now.clouds.items in let ms' = c.count.new.self.clouds.items in let number = c.args.cloud.0 in
    let m = c.index_mut.result.now in let m' = c.fresh-outcome.new.self in
    let step : Step ms ms' number m m' = record { within = search rules; is = c.index_mut.ensures.value; changed = search rules } in
    at ms ms' number m m' step _ (rw (c.count.ensures.same, ← c.deref.ensures.value) c.fresh-outcome.ensures.fails)

pub returns-clause-counts : goal.returns-clause-counts
returns-clause-counts c =
    let ms = c.args.self.now.clouds.items in let ms' = c.count.new.self.clouds.items in let number = c.args.cloud.0 in
    let m = c.index_mut.result.now in let m' = c.fresh-outcome.new.self in
    let step : Step ms ms' number m m' = record { within = search rules; is = c.index_mut.ensures.value; changed = search rules } in
    at_both ms ms' number m m' step _ (c.fresh-outcome.ensures.calls, rw c.count.ensures.same c.fresh-outcome.ensures.faults)

pub returns-clause-others_stay : goal.returns-clause-others_stay
returns-clause-others_stay c =
    let ms = c.args.self.now.clouds.items in let ms' = c.count.new.self.clouds.items in let number = c.args.cloud.0 in
    let m = c.index_mut.result.now in let m' = c.fresh-outcome.new.self in
    let step : Step ms ms' number m m' = record { within = search rules; is = c.index_mut.ensures.value; changed = search rules } in
    others_stay ms ms' number m m' step

pub returns-clause-fresh : goal.returns-clause-fresh
returns-clause-fresh c =
    let ms = c.args.self.now.clouds.items in let ms' = c.count.new.self.clouds.items in let number = c.args.cloud.0 in
    let m = c.index_mut.result.now in let m' = c.fresh-outcome.new.self in
    let step : Step ms ms' number m m' = record { within = search rules; is = c.index_mut.ensures.value; changed = search rules } in
    between ms ms' number m m' step (λ (a b : Cloud). IsTrue a.told → Refreshes a b c.count.result) (λ told. rw c.count.ensures.same (c.fresh-outcome.ensures.fresh told))

pub returns-clause-held : goal.returns-clause-held
returns-clause-held c =
    let ms = c.args.self.now.clouds.items in let ms' = c.count.new.self.clouds.items in let number = c.args.cloud.0 in
    let m = c.index_mut.result.now in let m' = c.fresh-outcome.new.self in
    let step : Step ms ms' number m m' = record { within = search rules; is = c.index_mut.ensures.value; changed = search rules } in
    on_ok c.fresh-outcome.result c.count.result _ _ c.count.ensures.same (λ done. at_both ms ms' number m m' step _ done.0) c.fresh-outcome.ensures.ok

pub returns-clause-reads : goal.returns-clause-reads
returns-clause-reads c =
    let ms = c.args.self.now.clouds.items in let ms' = c.count.new.self.clouds.items in let number = c.args.cloud.0 in
    let m = c.index_mut.result.now in let m' = c.fresh-outcome.new.self in
    let step : Step ms ms' number m m' = record { within = search rules; is = c.index_mut.ensures.value; changed = search rules } in
    at_both ms ms' number m m' step _ c.fresh-outcome.ensures.reads
