use Rattle.std.proofs.Common.{refl, rules, set}
use Rattle.cd_fakes.proofs.CloudsAt.{Step, at}
use Rattle.cd_fakes.proofs.shelf.MemShelf.reads.Goals as goal

pub returns : goal.returns
returns c =
    let ms = c.args.self.now.clouds.items in let number = c.args.cloud.0 in
    let m = c.index.result.now in
    let step : Step ms (set ms number m) number m m = record { within = search rules; is = search rules; changed = refl } in
    at ms (set ms number m) number m m step _ c.get.ensures
