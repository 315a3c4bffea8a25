use Rattle.std.proofs.Common.{inl, inr, ℕ, Bool, IsTrue, List, Ok, Err, refl, sym, subst}
use Rattle.std.specs.Prelude.{IfSome, Option, Result}
use Rattle.upload_spool.specs.CdEdges.Causes.{Rose}
use Rattle.upload_spool.specs.CdEdges.Disk.{reads}
use Rattle.upload_spool.specs.UploadJob.Lanes.{LaneView}
use Rattle.upload_spool.specs.Opens.{OpensSpoolIs, IsOpenedSpool, answer_of}
use Rattle.upload_spool.specs.declared.spool.Spool.{Spool}
use Rattle.spool_command.specs.declared.writing.Unspooled.{Unspooled}
use Rattle.spool_command.specs.Resumed.{GoesKept}
use Rattle.spool_command.proofs.Kept.{kept_by, kept_sends, no_job, not_cleared, opened_own, stopped_by}
use Rattle.spool_command.proofs.resuming.go_on_kept.Goals as goal
use Rattle.spool_command.proofs.resuming.go_on_kept.Goals.{in-Ok, in-Err-clear}

pub returns-in-Ok-None-clause-goes : goal.returns-in-Ok-None-clause-goes
returns-in-Ok-None-clause-goes g c = λ dialled on.
    let behind = g.P.Ports.tells c.args.ports.now in
    let faults = g.P.Ports.faults c.args.ports.now in
    let shape = c.args.greeted.now.shape in
    let items = c.args.greeted.now.lines.items in
    let c0 = g.V.Shelf.cloud_at c.args.shelf.now 0 in
    let c1 = g.V.Shelf.cloud_at c.open.new.shelf 0 in
    let c2 = g.V.Shelf.cloud_at c.clear.new.shelf 0 in
    let opened = c.in-Ok-None.ensures in
    let found = subst (λ (o : Option (Spool × List LaneView)). IsTrue c0.told → OpensSpoolIs shape (reads c0.now) (answer_of (Ok o))) c.in-Ok-None.field-0-is opened.found in
    elim c.match-clear.branch [
      | in-Ok w ↦ subst (λ (r : Result (Option Bool) Unspooled). GoesKept shape behind behind faults faults items c0 c2 r c.args.text.now) (sym w.result-is)
          (refl, no_job shape c0 c1 c2 opened.call.told opened.spared found w.in-Ok.ensures.clears)
      | in-Err-clear w ↦ subst (λ (r : Result (Option Bool) Unspooled). GoesKept shape behind behind faults faults items c0 c2 r c.args.text.now) (sym w.result-is)
          (refl, not_cleared shape c0 c1 c2 opened.call.told opened.spared w.in-Err-clear.ensures.clears (subst (λ (n : ℕ). Rose n c2.faults) opened.counts.cloud w.in-Err-clear.ensures.failed.cloud))
    ]

pub go_on-requires-clause-own : goal.go_on-requires-clause-own
go_on-requires-clause-own g c =
    let shape = c.args.greeted.now.shape in
    opened_own shape c.in-Ok-Some.opened (subst (λ (o : Option (Spool × List LaneView)). IfSome o (IsOpenedSpool shape)) c.in-Ok-Some.field-0-is c.in-Ok-Some.ensures.spool)

pub returns-in-Ok-go_on-clause-goes : goal.returns-in-Ok-go_on-clause-goes
returns-in-Ok-go_on-clause-goes g c = λ dialled on.
    let cloud_at = g.V.Shelf.cloud_at in
    let opened = c.in-Ok-Some.ensures in
    kept_by c.args.greeted.now.shape (cloud_at c.args.shelf.now 0) (cloud_at c.open.new.shelf 0) (cloud_at c.go_on.new.shelf 0) opened.call.told opened.spared c.in-Ok-Some.opened c.in-Ok-Some.field-0 c.in-Ok-Some.field-0-is
    opened.found opened.kept opened.spool (g.P.Ports.tells c.args.ports.now) (g.P.Ports.tells c.go_on.new.ports) c.args.greeted.now.lines.items (Ok c.in-Ok-go_on.stored) c.go_on.new.text
    (c.in-Ok-go_on.ensures.went dialled on)

pub returns-clause-goes : goal.returns-clause-goes
returns-clause-goes g c = λ dialled on.
    let cloud_at = g.V.Shelf.cloud_at in
    let tells = g.P.Ports.tells in
    let faults = g.P.Ports.faults in
    let opened = c.in-Ok-Some.ensures in
    let c0 = cloud_at c.args.shelf.now 0 in
    let c1 = cloud_at c.open.new.shelf 0 in
    let c2 = cloud_at c.go_on.new.shelf 0 in
    let shape = c.args.greeted.now.shape in
    let items = c.args.greeted.now.lines.items in
    stopped_by shape (tells c.args.ports.now) (tells c.go_on.new.ports) (faults c.args.ports.now) (faults c.go_on.new.ports) (g.V.Shelf.faults c.open.new.shelf) (g.V.Shelf.faults c.go_on.new.shelf) items c0 c1 c2
    c.in-Err-go_on.why c.go_on.new.text opened.counts.cloud c.in-Err-go_on.ensures.lost c.in-Err-go_on.ensures.failed
    (kept_by shape c0 c1 c2 opened.call.told opened.spared c.in-Ok-Some.opened c.in-Ok-Some.field-0 c.in-Ok-Some.field-0-is opened.found opened.kept opened.spool (tells c.args.ports.now) (tells c.go_on.new.ports) items
    (Err c.in-Err-go_on.why) c.go_on.new.text (c.in-Err-go_on.ensures.went dialled on))

pub returns-in-Ok-go_on-clause-sends : goal.returns-in-Ok-go_on-clause-sends
returns-in-Ok-go_on-clause-sends g c = λ dialled on told.
    let cloud_at = g.V.Shelf.cloud_at in
    let opened = c.in-Ok-Some.ensures in
    inr (kept_sends c.args.greeted.now.shape (cloud_at c.args.shelf.now 0) (cloud_at c.open.new.shelf 0) (cloud_at c.go_on.new.shelf 0) opened.call.told opened.spared c.in-Ok-Some.opened c.in-Ok-Some.field-0 c.in-Ok-Some.field-0-is
    opened.found opened.kept opened.spool dialled (g.P.Ports.tells c.args.ports.now) (g.P.Ports.tells c.go_on.new.ports)
    (c.in-Ok-go_on.ensures.sends dialled on told))

pub returns-clause-sends : goal.returns-clause-sends
returns-clause-sends g c = λ dialled on told.
    let cloud_at = g.V.Shelf.cloud_at in
    let opened = c.in-Ok-Some.ensures in
    inr (kept_sends c.args.greeted.now.shape (cloud_at c.args.shelf.now 0) (cloud_at c.open.new.shelf 0) (cloud_at c.go_on.new.shelf 0) opened.call.told opened.spared c.in-Ok-Some.opened c.in-Ok-Some.field-0 c.in-Ok-Some.field-0-is
    opened.found opened.kept opened.spool dialled (g.P.Ports.tells c.args.ports.now) (g.P.Ports.tells c.go_on.new.ports)
    (c.in-Err-go_on.ensures.sends dialled on told))

pub returns-in-Ok-None-clause-sends : goal.returns-in-Ok-None-clause-sends
returns-in-Ok-None-clause-sends g c = λ dialled on told. inl refl

pub returns-in-Err-clause-sends : goal.returns-in-Err-clause-sends
returns-in-Err-clause-sends g c = λ dialled on told. inl refl
