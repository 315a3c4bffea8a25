use Rattle.std.proofs.Common.{◌≡◌, ◌∙◌, length, IsTrue, IfOk, rules, ap}
use Rattle.mem_disk.specs.CdEdges.Disk.{Cloud}
use Rattle.mem_disk.specs.CdEdges.Shelf.{Stays}
use Rattle.cd_fakes.specs.declared.cloud.MemCloud.{MemCloud}
use Rattle.mem_disk.specs.Areas.{held_of}
use Rattle.cd_fakes.specs.Clouds.{cloud_of}
use Rattle.cd_fakes.proofs.CloudsAt.{Step, between, at, at_both, others_stay, called, failed, uncounted, if_ok}
use Rattle.cd_fakes.proofs.shelf.MemShelfShelf.len.Goals as goal

pub returns-clause-call : goal.returns-clause-call
returns-clause-call c =
    let ms = c.args.self.now.clouds.items in let ms' = c.count.new.self.clouds.items in let number = c.args.cloud.0 in
    let m = c.index_mut.result.now in let m' = c.len-outcome.new.self in
    let step : Step ms ms' number m m' = record { within = search rules; is = c.index_mut.ensures.value; changed = search rules } in
    called ms ms' number m m' step c.len-outcome.result c.args.self.now.total c.count.new.self.total (ap (λ (x : MemCloud). x.disk.told) c.len-outcome.ensures.rest) (ap (λ (x : MemCloud). x.armings) c.len-outcome.ensures.rest) c.len-outcome.ensures.cause c.count.ensures.cause.later

pub returns-clause-failed : goal.returns-clause-failed
returns-clause-failed c =
    let ms = c.args.self.now.clouds.items in let ms' = c.count.new.self.clouds.items in let number = c.args.cloud.0 in
    let m = c.index_mut.result.now in let m' = c.len-outcome.new.self in
    let step : Step ms ms' number m m' = record { within = search rules; is = c.index_mut.ensures.value; changed = search rules } in
    failed ms ms' number m m' step c.len-outcome.result c.count.result c.args.self.now.total c.count.new.self.total c.count.ensures.same c.len-outcome.ensures.cause c.count.ensures.cause

pub returns-clause-uncounted : goal.returns-clause-uncounted
returns-clause-uncounted c =
    let ms = c.args.self.now.clouds.items in let ms' = c.count.new.self.clouds.items in let number = c.args.cloud.0 in
    let m = c.index_mut.result.now in let m' = c.len-outcome.new.self in
    let step : Step ms ms' number m m' = record { within = search rules; is = c.index_mut.ensures.value; changed = search rules } in
    uncounted ms ms' number m m' step c.len-outcome.result c.count.result c.args.self.now.total c.count.new.self.total c.count.ensures.same c.len-outcome.ensures.cause c.count.ensures.cause

pub returns-clause-fails : goal.returns-clause-fails
returns-clause-fails c =
    let ms = c.args.self.now.clouds.items in let ms' = c.count.new.self.clouds.items in let number = c.args.cloud.0 in
    let m = c.index_mut.result.now in let m' = c.len-outcome.new.self in
    let step : Step ms ms' number m m' = record { within = search rules; is = c.index_mut.ensures.value; changed = search rules } in
    at ms ms' number m m' step _ (rw (c.count.ensures.same, ← c.deref.ensures.value) c.len-outcome.ensures.fails)

pub returns-clause-counts : goal.returns-clause-counts
returns-clause-counts c =
    let ms = c.args.self.now.clouds.items in let ms' = c.count.new.self.clouds.items in let number = c.args.cloud.0 in
    let m = c.index_mut.result.now in let m' = c.len-outcome.new.self in
    let step : Step ms ms' number m m' = record { within = search rules; is = c.index_mut.ensures.value; changed = search rules } in
    at_both ms ms' number m m' step _ (ap (λ (x : MemCloud). x.calls) c.len-outcome.ensures.rest, rw c.count.ensures.same c.len-outcome.ensures.faults)

pub returns-clause-others_stay : goal.returns-clause-others_stay
returns-clause-others_stay c =
    let ms = c.args.self.now.clouds.items in let ms' = c.count.new.self.clouds.items in let number = c.args.cloud.0 in
    let m = c.index_mut.result.now in let m' = c.len-outcome.new.self in
    let step : Step ms ms' number m m' = record { within = search rules; is = c.index_mut.ensures.value; changed = search rules } in
    others_stay ms ms' number m m' step

pub returns-clause-stays : goal.returns-clause-stays
returns-clause-stays c =
    let ms = c.args.self.now.clouds.items in let ms' = c.count.new.self.clouds.items in let number = c.args.cloud.0 in
    let m = c.index_mut.result.now in let m' = c.len-outcome.new.self in
    let step : Step ms ms' number m m' = record { within = search rules; is = c.index_mut.ensures.value; changed = search rules } in
    between ms ms' number m m' step Stays (record { armed = ap (λ (x : MemCloud). (cloud_of x).armed) c.len-outcome.ensures.rest; past = ap (λ (x : MemCloud). (cloud_of x).past) c.len-outcome.ensures.rest; now = ap (λ (x : MemCloud). (cloud_of x).now) c.len-outcome.ensures.rest })

pub returns-clause-len : goal.returns-clause-len
returns-clause-len c =
    let ms = c.args.self.now.clouds.items in let ms' = c.count.new.self.clouds.items in let number = c.args.cloud.0 in
    let m = c.index_mut.result.now in let m' = c.len-outcome.new.self in
    let step : Step ms ms' number m m' = record { within = search rules; is = c.index_mut.ensures.value; changed = search rules } in
    between ms ms' number m m' step (λ (a b : Cloud). IsTrue a.told → IfOk c.count.result (λ len. len ≡ length (a.now c.args.area).read))
    (λ told. if_ok c.len-outcome.result c.count.result (λ len. len ≡ length (held_of m.disk.areas c.args.area)) (λ len. len ≡ length ((cloud_of m).now c.args.area).read) c.count.ensures.same (λ len is. is ∙ ap length (m.disk.tracks told c.args.area).read) c.len-outcome.ensures.len)

pub returns-clause-held : goal.returns-clause-held
returns-clause-held c =
    let ms = c.args.self.now.clouds.items in let ms' = c.count.new.self.clouds.items in let number = c.args.cloud.0 in
    let m = c.index_mut.result.now in let m' = c.len-outcome.new.self in
    let step : Step ms ms' number m m' = record { within = search rules; is = c.index_mut.ensures.value; changed = search rules } in
    at ms ms' number m m' step _ (rw c.count.ensures.same c.len-outcome.ensures.len)

pub returns-clause-reads : goal.returns-clause-reads
returns-clause-reads c =
    let ms = c.args.self.now.clouds.items in let ms' = c.count.new.self.clouds.items in let number = c.args.cloud.0 in
    let m = c.index_mut.result.now in let m' = c.len-outcome.new.self in
    let step : Step ms ms' number m m' = record { within = search rules; is = c.index_mut.ensures.value; changed = search rules } in
    at_both ms ms' number m m' step _ (ap (λ (x : MemCloud). x.reads) c.len-outcome.ensures.rest)
