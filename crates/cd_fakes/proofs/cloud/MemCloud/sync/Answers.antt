use Rattle.std.proofs.Common.{◌≡◌, ◌≢◌, ◌-◌, ◌++◌, ◌∷◌, [], ◌∙◌, sym, ap}
use Rattle.std.proofs.lemmas.Bool.{false≢true}
use Rattle.mem_disk.specs.CdEdges.Shelf.{arming_of}
use Rattle.cd_fakes.specs.declared.cloud.MemCloud.{MemCloud}
use Rattle.mem_disk.specs.Disks.{history_of}
use Rattle.mem_disk.specs.History.{Sync}
use Rattle.cd_fakes.proofs.CloudSteps.{synced_whole}
use Rattle.cd_fakes.proofs.cloud.MemCloud.sync.Goals as goal

pub returns-clause-sync : goal.returns-clause-sync
returns-clause-sync c told =
    let m = c.args.self.now in let d = c.count_down-cut.new.self in let m' : MemCloud = record d { disk = c.sync.new.self } in
    let armed : arming_of d.cut d.keep ≡ arming_of (m.cut - 1) m.keep = ap (λ (x : MemCloud). arming_of x.cut x.keep) c.count_down-cut.ensures.counted ∙ ap (λ (x : MemCloud). arming_of (x.cut - 1) x.keep) c.begin-refused.ensures.calls in
    let uncut : m.cut ≢ 1 = λ e. false≢true (sym c.if-cut.false ∙ c.count_down-cut.ensures.cut.1 (ap (λ (x : MemCloud). x.cut) c.begin-refused.ensures.calls ∙ e)) in
    synced_whole m m' armed c.args.area tt uncut (c.sync.ensures.history ∙ ap (λ (x : MemCloud). history_of x.disk ++ Sync c.args.area ∷ []) c.count_down-cut.ensures.counted ∙ ap (λ (x : MemCloud). history_of x.disk ++ Sync c.args.area ∷ []) c.begin-refused.ensures.calls)
