use Rattle.std.proofs.Common.{refl}
use Rattle.cd_fakes.specs.declared.cloud.MemCloud.{MemCloud}
use Rattle.cd_fakes.proofs.CloudSteps.{crashes}
use Rattle.cd_fakes.proofs.cloud.MemCloud.crash.Goals as goal

pub returns-clause-crashes : goal.returns-clause-crashes
returns-clause-crashes c did =
    let m = c.args.self.now in let m' : MemCloud = record m { disk = c.crash.new.self } in
    crashes m m' c.args.fill c.args.whole refl c.crash.ensures.told c.crash.ensures.history
