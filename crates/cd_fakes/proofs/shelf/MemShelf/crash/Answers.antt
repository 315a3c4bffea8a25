use Rattle.std.proofs.Common.{refl, rules, set}
use Rattle.mem_disk.specs.CdEdges.Disk.{Cloud}
use Rattle.cd_fakes.specs.Clouds.{Crashes}
use Rattle.cd_fakes.proofs.CloudsAt.{Step, between, at, at_both, others_stay}
use Rattle.cd_fakes.proofs.shelf.MemShelf.crash.Goals as goal

pub returns-clause-crashes : goal.returns-clause-crashes
returns-clause-crashes c did =
    let ms = c.args.self.now.clouds.items in let number = c.args.cloud.0 in
    let m = c.index_mut.result.now in let m' = c.crash.new.self in
    let step : Step ms (set ms number m') number m m' = record { within = search rules; is = c.index_mut.ensures.value; changed = refl } in
    between ms (set ms number m') number m m' step (λ (a b : Cloud). Crashes a b c.args.fill c.args.whole) (c.crash.ensures.crashes did)

pub returns-clause-did : goal.returns-clause-did
returns-clause-did c =
    let ms = c.args.self.now.clouds.items in let number = c.args.cloud.0 in
    let m = c.index_mut.result.now in let m' = c.crash.new.self in
    let step : Step ms (set ms number m') number m m' = record { within = search rules; is = c.index_mut.ensures.value; changed = refl } in
    at ms (set ms number m') number m m' step _ c.crash.ensures.did

pub returns-clause-stays : goal.returns-clause-stays
returns-clause-stays c none =
    let ms = c.args.self.now.clouds.items in let number = c.args.cloud.0 in
    let m = c.index_mut.result.now in let m' = c.crash.new.self in
    let step : Step ms (set ms number m') number m m' = record { within = search rules; is = c.index_mut.ensures.value; changed = refl } in
    at_both ms (set ms number m') number m m' step _ (c.crash.ensures.stays none)

pub returns-clause-counts : goal.returns-clause-counts
returns-clause-counts c =
    let ms = c.args.self.now.clouds.items in let number = c.args.cloud.0 in
    let m = c.index_mut.result.now in let m' = c.crash.new.self in
    let step : Step ms (set ms number m') number m m' = record { within = search rules; is = c.index_mut.ensures.value; changed = refl } in
    at_both ms (set ms number m') number m m' step _ c.crash.ensures.rest

pub returns-clause-others_stay : goal.returns-clause-others_stay
returns-clause-others_stay c =
    let ms = c.args.self.now.clouds.items in let number = c.args.cloud.0 in
    let m = c.index_mut.result.now in let m' = c.crash.new.self in
    let step : Step ms (set ms number m') number m m' = record { within = search rules; is = c.index_mut.ensures.value; changed = refl } in
    others_stay ms (set ms number m') number m m' step
