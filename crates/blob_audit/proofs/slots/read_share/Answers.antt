use Rattle.std.proofs.Common.{ℕ, List, Option, Ok, subst}
use Rattle.audit_base.specs.CdEdges.area.Area.TheVariants.{Shares}
use Rattle.audit_base.specs.CdBase.place.Place.{Place}
use Rattle.audit_base.specs.CloudMemory.Live.{live_at}
use Rattle.blob_audit.specs.Holding.{Along}
use Rattle.blob_audit.specs.Steps.{IsOnlyRead, ShareRead}
use Rattle.blob_audit.proofs.Joining.{unread}
use Rattle.blob_audit.proofs.slots.read_share.Goals as goal

pub returns-in-Some-clause-read : goal.returns-in-Some-clause-read
returns-in-Some-clause-read g c =
    subst (λ (o : Option (List ℕ × Place)). IsOnlyRead {A = Unit {0}} (Along Shares (ShareRead o) c.args.held.now c.args.window.now c.compare_share.new.held c.compare_share.new.window)
    (g.V.Shelf.cloud_at c.args.shelf.now) (g.V.Shelf.cloud_at c.compare_share.new.shelf) c.args.cloud.0
    (g.V.Shelf.faults c.args.shelf.now) (g.V.Shelf.faults c.compare_share.new.shelf) c.compare_share.result)
    c.in-Some.ensures.value c.compare_share.ensures.read

pub returns-in-None-clause-read : goal.returns-in-None-clause-read
returns-in-None-clause-read g c =
    let held = c.args.held.now in let window = c.args.window.now in
    unread (Along Shares (ShareRead (live_at c.args.memory.now.shares c.args.slot)) held window held window)
    (g.V.Shelf.cloud_at c.args.shelf.now) c.args.cloud.0 (g.V.Shelf.faults c.args.shelf.now) tt
    (λ image was. (subst (λ (o : Option (List ℕ × Place)). ShareRead o image (Ok tt)) c.in-None.ensures.value tt, was))
