use Rattle.std.proofs.Common.{IsTrue, rules}
use Rattle.mem_disk.specs.CdEdges.Disk.{Cloud}
use Rattle.mem_disk.specs.CdEdges.Shelf.{Writes}
use Rattle.cd_fakes.proofs.CloudsAt.{Step, between, at, at_both, others_stay, called, failed, uncounted, on_ok, on_err}
use Rattle.cd_fakes.proofs.shelf.MemShelfShelf.write.Goals as goal

pub returns-clause-call : goal.returns-clause-call
returns-clause-call c =
    let ms = c.args.self.now.clouds.items in let ms' = c.count.new.self.clouds.items in let number = c.args.cloud.0 in
    let m = c.index_mut.result.now in let m' = c.write-outcome.new.self in
    let step : Step ms ms' number m m' = record { within = search rules; is = c.index_mut.ensures.value; changed = search rules } in
    called ms ms' number m m' step c.write-outcome.result c.args.self.now.total c.count.new.self.total c.write-outcome.ensures.told c.write-outcome.ensures.armings c.write-outcome.ensures.cause c.count.ensures.cause.later

pub returns-clause-failed : goal.returns-clause-failed
returns-clause-failed c =
    let ms = c.args.self.now.clouds.items in let ms' = c.count.new.self.clouds.items in let number = c.args.cloud.0 in
    let m = c.index_mut.result.now in let m' = c.write-outcome.new.self in
    let step : Step ms ms' number m m' = record { within = search rules; is = c.index_mut.ensures.value; changed = search rules } in
    failed ms ms' number m m' step c.write-outcome.result c.count.result c.args.self.now.total c.count.new.self.total c.count.ensures.same c.write-outcome.ensures.cause c.count.ensures.cause

pub returns-clause-uncounted : goal.returns-clause-uncounted
returns-clause-uncounted c =
    let ms = c.args.self.now.clouds.items in let ms' = c.count.new.self.clouds.items in let number = c.args.cloud.0 in
    let m = c.index_mut.result.now in let m' = c.write-outcome.new.self in
    let step : Step ms ms' number m m' = record { within = search rules; is = c.index_mut.ensures.value; changed = search rules } in
    uncounted ms ms' number m m' step c.write-outcome.result c.count.result c.args.self.now.total c.count.new.self.total c.count.ensures.same c.write-outcome.ensures.cause c.count.ensures.cause

pub returns-clause-fails : goal.returns-clause-fails
returns-clause-fails c =
    let ms = c.args.self.now.clouds.items in let ms' = c.count.new.self.clouds.items in let number = c.args.cloud.0 in
    let m = c.index_mut.result.now in let m' = c.write-outcome.new.self in
    let step : Step ms ms' number m m' = record { within = search rules; is = c.index_mut.ensures.value; changed = search rules } in
    at ms ms' number m m' step _ (rw (c.count.ensures.same, ← c.deref.ensures.value) c.write-outcome.ensures.fails)

pub returns-clause-counts : goal.returns-clause-counts
returns-clause-counts c =
    let ms = c.args.self.now.clouds.items in let ms' = c.count.new.self.clouds.items in let number = c.args.cloud.0 in
    let m = c.index_mut.result.now in let m' = c.write-outcome.new.self in
    let step : Step ms ms' number m m' = record { within = search rules; is = c.index_mut.ensures.value; changed = search rules } in
    at_both ms ms' number m m' step _ (c.write-outcome.ensures.calls, rw c.count.ensures.same c.write-outcome.ensures.faults)

pub returns-clause-others_stay : goal.returns-clause-others_stay
returns-clause-others_stay c =
    let ms = c.args.self.now.clouds.items in let ms' = c.count.new.self.clouds.items in let number = c.args.cloud.0 in
    let m = c.index_mut.result.now in let m' = c.write-outcome.new.self in
    let step : Step ms ms' number m m' = record { within = search rules; is = c.index_mut.ensures.value; changed = search rules } in
    others_stay ms ms' number m m' step

pub returns-clause-write : goal.returns-clause-write
returns-clause-write c =
    let ms = c.args.self.now.clouds.items in let ms' = c.count.new.self.clouds.items in let number = c.args.cloud.0 in
    let m = c.index_mut.result.now in let m' = c.write-outcome.new.self in
    let step : Step ms ms' number m m' = record { within = search rules; is = c.index_mut.ensures.value; changed = search rules } in
    between ms ms' number m m' step (λ (a b : Cloud). IsTrue a.told → Writes a b c.args.area c.args.at c.args.bytes.now c.count.result) (λ told. rw c.count.ensures.same (c.write-outcome.ensures.write told))

pub returns-clause-ok : goal.returns-clause-ok
returns-clause-ok c =
    let ms = c.args.self.now.clouds.items in let ms' = c.count.new.self.clouds.items in let number = c.args.cloud.0 in
    let m = c.index_mut.result.now in let m' = c.write-outcome.new.self in
    let step : Step ms ms' number m m' = record { within = search rules; is = c.index_mut.ensures.value; changed = search rules } in
    on_ok c.write-outcome.result c.count.result _ _ c.count.ensures.same (λ done. at_both ms ms' number m m' step _ (rw c.count.ensures.left done)) c.write-outcome.ensures.ok

pub returns-clause-err : goal.returns-clause-err
returns-clause-err c =
    let ms = c.args.self.now.clouds.items in let ms' = c.count.new.self.clouds.items in let number = c.args.cloud.0 in
    let m = c.index_mut.result.now in let m' = c.write-outcome.new.self in
    let step : Step ms ms' number m m' = record { within = search rules; is = c.index_mut.ensures.value; changed = search rules } in
    on_err c.write-outcome.result c.count.result _ _ c.count.ensures.same (λ done. at_both ms ms' number m m' step _ (rw (c.count.ensures.left, ← c.deref.ensures.value) done)) c.write-outcome.ensures.err

pub returns-clause-reads : goal.returns-clause-reads
returns-clause-reads c =
    let ms = c.args.self.now.clouds.items in let ms' = c.count.new.self.clouds.items in let number = c.args.cloud.0 in
    let m = c.index_mut.result.now in let m' = c.write-outcome.new.self in
    let step : Step ms ms' number m m' = record { within = search rules; is = c.index_mut.ensures.value; changed = search rules } in
    at_both ms ms' number m m' step _ c.write-outcome.ensures.reads
