use Rattle.std.proofs.Common.{Err}
use Rattle.command_cloud.proofs.CdEdges.Calls.{called_twice}
use Rattle.command_cloud.proofs.Standing.{call_at}
use Rattle.audit_command.proofs.Completing.{completes}
use Rattle.audit_command.proofs.Ends.{audited, audited_at, unopened_audit}
use Rattle.audit_command.proofs.auditing.audit_cloud.Goals as goal

pub audit_opened-requires : goal.audit_opened-requires
audit_opened-requires g c = c.in-Ok.ensures.opens.1.at_end

pub returns-in-Ok-clause-audited : goal.returns-in-Ok-clause-audited
returns-in-Ok-clause-audited g c =
    let o = c.in-Ok.ensures.opens in
    let mid = g.V.Shelf.cloud_at c.open_cloud.new.shelf in
    let new = g.V.Shelf.cloud_at c.audit_opened.new.shelf in
    audited c.args.shape c.args.cloud o.0 c.in-Ok.server (g.V.Shelf.cloud_at c.args.shelf.now c.args.cloud.0)
    (mid c.args.cloud.0) (new c.args.cloud.0) _ _ _ _ _ c.in-Ok.ensures.call.told o.1
    (audited_at o.0 c.in-Ok.server c.args.shape c.args.cloud mid new _ _ _ _ o.1.header_is c.audit_opened.ensures.audited)

pub returns-in-Ok-clause-call : goal.returns-in-Ok-clause-call
returns-in-Ok-clause-call g c =
    let o = c.in-Ok.ensures.opens in
    let mid = g.V.Shelf.cloud_at c.open_cloud.new.shelf in
    let new = g.V.Shelf.cloud_at c.audit_opened.new.shelf in
    called_twice _ _ _ c.args.cloud.0 _ _ _ c.in-Ok.ensures.call
    (call_at o.0 c.in-Ok.server c.args.shape c.args.cloud mid new _ _ o.1.header_is c.audit_opened.ensures.call)

pub returns-in-Ok-clause-complete : goal.returns-in-Ok-clause-complete
returns-in-Ok-clause-complete g c = λ well.
    let o = c.in-Ok.ensures.opens in
    let mid = g.V.Shelf.cloud_at c.open_cloud.new.shelf in
    let new = g.V.Shelf.cloud_at c.audit_opened.new.shelf in
    completes _ _ well _ (audited c.args.shape c.args.cloud o.0 c.in-Ok.server (g.V.Shelf.cloud_at c.args.shelf.now c.args.cloud.0)
    (mid c.args.cloud.0) (new c.args.cloud.0) _ _ _ _ _ c.in-Ok.ensures.call.told o.1
    (audited_at o.0 c.in-Ok.server c.args.shape c.args.cloud mid new _ _ _ _ o.1.header_is c.audit_opened.ensures.audited))

pub returns-in-Err-clause-audited : goal.returns-in-Err-clause-audited
returns-in-Err-clause-audited g c = unopened_audit _ c.in-Err.why _ _ c.in-Err.ensures.opens c.write_unopened.ensures

pub returns-in-Err-clause-complete : goal.returns-in-Err-clause-complete
returns-in-Err-clause-complete g c = λ well.
    completes _ _ well _ (unopened_audit _ c.in-Err.why _ _ c.in-Err.ensures.opens c.write_unopened.ensures)
