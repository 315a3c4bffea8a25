use Rattle.std.proofs.Common.{◌≡◌, ◌≢◌, ◌-◌, ◌++◌, ◌∷◌, [], ◌∙◌, sym, ap, take, arith, length-take}
use Rattle.std.proofs.lemmas.Bool.{false≢true}
use Rattle.mem_disk.specs.CdEdges.Shelf.{arming_of}
use Rattle.cd_fakes.specs.declared.cloud.MemCloud.{MemCloud}
use Rattle.mem_disk.specs.declared.disk.MemDisk.{MemDisk}
use Rattle.mem_disk.specs.Disks.{history_of}
use Rattle.mem_disk.specs.History.{Write}
use Rattle.cd_fakes.proofs.CloudSteps.{wrote_whole, wrote_none, wrote_cut}
use Rattle.cd_fakes.proofs.cloud.MemCloud.write.Goals as goal
use Rattle.cd_fakes.proofs.cloud.MemCloud.write.Goals.{then-not-refused, else-not-refused}

pub returns-then-count_down-clause-write : goal.returns-then-count_down-clause-write
returns-then-count_down-clause-write c told =
    let m = c.args.self.now in let d = c.count_down.new.self in let m' = c.refuse.new.self in let bytes = c.args.bytes.now in
    let before : d.disk ≡ m.disk = ap (λ (x : MemCloud). x.disk) (c.count_down.ensures.counted) ∙ ap (λ (x : MemCloud). x.disk) c.begin-refused.ensures.calls in
    let armed : arming_of d.cut d.keep ≡ arming_of (m.cut - 1) m.keep = ap (λ (x : MemCloud). arming_of x.cut x.keep) c.count_down.ensures.counted ∙ ap (λ (x : MemCloud). arming_of (x.cut - 1) x.keep) c.begin-refused.ensures.calls in
    elim c.if-not-refused.branch [
      | then-not-refused w ↦
          let n = w.put.new.self in
          let same : m'.disk ≡ n.disk = ap (λ (x : MemCloud). x.disk) c.refuse.ensures.faults ∙ ap (λ (x : MemCloud). x.disk) w.self-is in
          let still : arming_of m'.cut m'.keep ≡ arming_of d.cut d.keep = ap (λ (x : MemCloud). arming_of x.cut x.keep) c.refuse.ensures.faults ∙ ap (λ (x : MemCloud). arming_of x.cut x.keep) w.self-is ∙ ap (λ (x : MemCloud). arming_of x.cut x.keep) w.put.ensures.rest in
          wrote_cut _ _ m d n m' before same (still ∙ armed) w.put.result c.refuse.result c.args.area c.args.at (take w.min-kept.result bytes) bytes c.refuse.ensures.failed (omega (arith, length-take w.min-kept.result bytes)) w.put.ensures.ok w.put.ensures.err
      | else-not-refused w ↦
          let same : m'.disk ≡ d.disk = ap (λ (x : MemCloud). x.disk) c.refuse.ensures.faults ∙ ap (λ (x : MemCloud). x.disk) w.self-is in
          let still : arming_of m'.cut m'.keep ≡ arming_of d.cut d.keep = ap (λ (x : MemCloud). arming_of x.cut x.keep) c.refuse.ensures.faults ∙ ap (λ (x : MemCloud). arming_of x.cut x.keep) w.self-is in
          wrote_none m m' (still ∙ armed) c.refuse.result c.args.area c.args.at bytes c.refuse.ensures.failed (ap history_of (same ∙ before))
    ]

pub returns-in-Ok-clause-write : goal.returns-in-Ok-clause-write
returns-in-Ok-clause-write c told =
    let m = c.args.self.now in let b = c.begin-refused.new.self in let d = c.count_down.new.self in let m' = c.put-2.new.self in
    let ok = c.in-Ok.ensures.ok in
    let before : d.disk ≡ m.disk = ap (λ (x : MemCloud). x.disk) (c.count_down.ensures.counted) ∙ ap (λ (x : MemCloud). x.disk) c.begin-refused.ensures.calls in
    let armed : arming_of m'.cut m'.keep ≡ arming_of (m.cut - 1) m.keep = ap (λ (x : MemCloud). arming_of x.cut x.keep) c.put-2.ensures.rest ∙ ap (λ (x : MemCloud). arming_of x.cut x.keep) c.count_down.ensures.counted ∙ ap (λ (x : MemCloud). arming_of (x.cut - 1) x.keep) c.begin-refused.ensures.calls in
    let uncut : m.cut ≢ 1 = λ e. false≢true (sym c.if-count_down.false ∙ c.count_down.ensures.cut.1 (ap (λ (x : MemCloud). x.cut) c.begin-refused.ensures.calls ∙ e)) in
    wrote_whole m m' armed c.args.area c.args.at c.args.bytes.now tt uncut (ok.0.history ∙ ap (λ (k : MemDisk). history_of k ++ Write c.args.area c.args.at c.args.bytes.now ∷ []) before)
