use Rattle.std.proofs.Common.{subst}
use Rattle.server_requests.specs.UserDedup.Compact.{compact}
use Rattle.server_requests.specs.CloudStore.store.CloudStore.{CloudStore}
use Rattle.share_server.specs.Copies.{SwitchesOver}
use Rattle.share_server.proofs.Copied.{served_after}
use Rattle.share_server.proofs.server.Server.copy_switch.Goals as goal

pub returns-clause-peer : goal.returns-clause-peer
returns-clause-peer g c list chain is =
    let old = c.args.self.now.store in let copying = c.args.self.now.copies.copying in let new = c.switch_over-result.new in
    let at = g.V.Shelf.cloud_at in let faults = g.V.Shelf.faults in let first = c.args.shelf.now in
    let over = subst (λ (s : CloudStore). SwitchesOver s copying new.store (at first) (at new.shelf) (faults first) (faults new.shelf) c.switch_over-result.result) c.resume.ensures.at c.switch_over-result.ensures in
    served_after c.switch_over-result.result new.store (at new.shelf old.header.cloud.0) (compact old.header.shape list) (over.switched list chain is.copied)

pub returns-clause-chain : goal.returns-clause-chain
returns-clause-chain g c =
    let old = c.args.self.now.store in let copying = c.args.self.now.copies.copying in let new = c.switch_over-result.new in
    let at = g.V.Shelf.cloud_at in let faults = g.V.Shelf.faults in let first = c.args.shelf.now in
    let over = subst (λ (s : CloudStore). SwitchesOver s copying new.store (at first) (at new.shelf) (faults first) (faults new.shelf) c.switch_over-result.result) c.resume.ensures.at c.switch_over-result.ensures in
    over.chain

pub returns-clause-taken : goal.returns-clause-taken
returns-clause-taken g c =
    let old = c.args.self.now.store in let copying = c.args.self.now.copies.copying in let new = c.switch_over-result.new in
    let at = g.V.Shelf.cloud_at in let faults = g.V.Shelf.faults in let first = c.args.shelf.now in
    let over = subst (λ (s : CloudStore). SwitchesOver s copying new.store (at first) (at new.shelf) (faults first) (faults new.shelf) c.switch_over-result.result) c.resume.ensures.at c.switch_over-result.ensures in
    over.taken
