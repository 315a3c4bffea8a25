use Rattle.std.proofs.Common.{◌++◌, ◌∷◌, [], refl, ◌∙◌, ap}
use Rattle.cd_fakes.specs.declared.cloud.MemCloud.{MemCloud}
use Rattle.mem_disk.specs.Disks.{history_of}
use Rattle.mem_disk.specs.History.{Empty}
use Rattle.cd_fakes.proofs.CloudSteps.{emptied}
use Rattle.cd_fakes.proofs.cloud.MemCloud.fresh.Goals as goal

pub returns-clause-fresh : goal.returns-clause-fresh
returns-clause-fresh c told =
    let m = c.args.self.now in let b = c.begin.new.self in let m' : MemCloud = record b { disk = c.empty.new.self; cut = 0 } in
    emptied m m' tt refl (c.empty.ensures.history ∙ ap (λ (x : MemCloud). history_of x.disk ++ Empty ∷ []) c.begin.ensures.calls)
