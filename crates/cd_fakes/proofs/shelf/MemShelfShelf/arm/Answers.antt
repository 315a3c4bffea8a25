use Rattle.std.proofs.Common.{refl, rules, set, ap}
use Rattle.mem_disk.specs.CdEdges.Disk.{Cloud}
use Rattle.mem_disk.specs.CdEdges.Shelf.{Arms}
use Rattle.cd_fakes.specs.declared.cloud.MemCloud.{MemCloud}
use Rattle.cd_fakes.proofs.CloudsAt.{Step, between, at_both, clouds_stay, others_stay}
use Rattle.cd_fakes.proofs.shelf.MemShelfShelf.arm.Goals as goal

pub returns-clause-arms : goal.returns-clause-arms
returns-clause-arms c =
    let ms = c.args.self.now.clouds.items in let number = c.args.cloud.0 in
    let m = c.index_mut.result.now in let m' = c.arm.new.self in
    let step : Step ms (set ms number m') number m m' = record { within = search rules; is = c.index_mut.ensures.value; changed = refl } in
    between ms (set ms number m') number m m' step (λ (a b : Cloud). Arms a b c.args.calls c.args.keep) c.arm.ensures.arms

pub returns-clause-others : goal.returns-clause-others
returns-clause-others c =
    let ms = c.args.self.now.clouds.items in let number = c.args.cloud.0 in
    let m = c.index_mut.result.now in let m' = c.arm.new.self in
    let step : Step ms (set ms number m') number m m' = record { within = search rules; is = c.index_mut.ensures.value; changed = refl } in
    clouds_stay ms (set ms number m') number m m' step

pub returns-clause-reads : goal.returns-clause-reads
returns-clause-reads c =
    let ms = c.args.self.now.clouds.items in let number = c.args.cloud.0 in
    let m = c.index_mut.result.now in let m' = c.arm.new.self in
    let step : Step ms (set ms number m') number m m' = record { within = search rules; is = c.index_mut.ensures.value; changed = refl } in
    at_both ms (set ms number m') number m m' step _ (ap (λ (x : MemCloud). x.reads) c.arm.ensures.rest)

pub returns-clause-others_stay : goal.returns-clause-others_stay
returns-clause-others_stay c =
    let ms = c.args.self.now.clouds.items in let number = c.args.cloud.0 in
    let m = c.index_mut.result.now in let m' = c.arm.new.self in
    let step : Step ms (set ms number m') number m m' = record { within = search rules; is = c.index_mut.ensures.value; changed = refl } in
    others_stay ms (set ms number m') number m m' step
