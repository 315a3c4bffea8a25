use Rattle.std.proofs.Common.{refl}
use Rattle.command_cloud.proofs.CdEdges.Calls.{called_twice}
use Rattle.command_cloud.proofs.Standing.{call_at}
use Rattle.audit_command.proofs.Ends.{checked, checked_at, unopened_check}
use Rattle.audit_command.proofs.checking.check_cloud.Goals as goal

pub check_opened-requires : goal.check_opened-requires
check_opened-requires g c = c.in-Ok.ensures.opens.1.at_end

pub returns-in-Ok-clause-checked : goal.returns-in-Ok-clause-checked
returns-in-Ok-clause-checked g c =
    let o = c.in-Ok.ensures.opens in
    let mid = g.V.Shelf.cloud_at c.open_cloud.new.shelf in
    let new = g.V.Shelf.cloud_at c.check_opened.new.shelf in
    checked c.args.shape c.args.cloud o.0 c.in-Ok.server (g.V.Shelf.cloud_at c.args.shelf.now c.args.cloud.0)
    (mid c.args.cloud.0) (new c.args.cloud.0) _ _ _ _ _ c.in-Ok.ensures.call.told o.1 _ _
    (checked_at o.0 c.in-Ok.server c.args.shape c.args.cloud mid new _ _ _ _ _ o.1.header_is c.check_opened.ensures.checked)

pub returns-in-Ok-clause-call : goal.returns-in-Ok-clause-call
returns-in-Ok-clause-call g c =
    let o = c.in-Ok.ensures.opens in
    let mid = g.V.Shelf.cloud_at c.open_cloud.new.shelf in
    let new = g.V.Shelf.cloud_at c.check_opened.new.shelf in
    called_twice _ _ _ c.args.cloud.0 _ _ _ c.in-Ok.ensures.call
    (call_at o.0 c.in-Ok.server c.args.shape c.args.cloud mid new _ _ o.1.header_is c.check_opened.ensures.call)

pub returns-in-Err-clause-checked : goal.returns-in-Err-clause-checked
returns-in-Err-clause-checked g c = unopened_check _ c.in-Err.why _ _ _ _ refl c.in-Err.ensures.opens c.write_unopened.ensures
