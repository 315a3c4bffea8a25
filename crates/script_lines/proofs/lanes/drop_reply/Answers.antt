use Rattle.std.proofs.Common.{Bool, sym, subst}
use Rattle.script_lines.specs.Dropping.{Drops}
use Rattle.script_lines.proofs.Dropped.{dropped}
use Rattle.script_lines.proofs.lanes.drop_reply.Goals as goal

pub returns-then-has_request : goal.returns-then-has_request
returns-then-has_request g c =
    let e = c.ask_cloud-lost.ensures in
    record {
      dropped = subst (λ (b : Bool). Drops g.V.Shelf.cloud_at c.args.lane.0 b c.args.request.now c.args.link.now c.ask_cloud-lost.new.self) (sym c.if-has_request.true)
          (dropped g.V.Shelf.cloud_at c.args.lane.0 c.args.request.now c.args.link.now c.next_fate.new.self c.ask_cloud-lost.new.self c.next_fate.ensures c.requires.below e.next e.others e.rest e.same_reference e.executed e.images e.rooms);
    }
