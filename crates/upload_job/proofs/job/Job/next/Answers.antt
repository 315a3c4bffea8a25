use Rattle.std.proofs.Common.{Option, subst, arith}
use Rattle.user_dedup.specs.Messages.request.Request.{Request}
use Rattle.upload_job.specs.Lanes.{IsAsked}
use Rattle.upload_job.proofs.Laning.{below_seen, inside_here, request_found, asked_yes, asked_no}
use Rattle.upload_job.proofs.job.Job.next.Goals as goal

pub index-requires : goal.index-requires
index-requires c = let below = below_seen c.self.inside.key c.self.inside.lanes.items c.args.self.now c.args.lane.0 c.self.view_is c.requires in omega arith

pub put_request-requires-clause-is : goal.put_request-requires-clause-is
put_request-requires-clause-is c =
    inside_here c.self.inside.lanes.items c.args.lane.0 c.index.result.now c.self.invariant (below_seen c.self.inside.key c.self.inside.lanes.items c.args.self.now c.args.lane.0 c.self.view_is c.requires) c.index.ensures

pub returns-then-more-clause-request : goal.returns-then-more-clause-request
returns-then-more-clause-request c =
    let below = below_seen c.self.inside.key c.self.inside.lanes.items c.args.self.now c.args.lane.0 c.self.view_is c.requires in
    subst (λ (r : Option Request). IsAsked r c.in_ok-more.more c.args.out.now c.swap.new.y)
    (request_found c.self.inside.key c.self.inside.lanes.items c.args.self.now c.args.lane.0 c.index.result.now c.self.view_is below c.index.ensures)
    (asked_yes _ c.in_ok-more.more c.clear.new.self c.put_request.new.out c.args.out.now c.swap.new.y c.if-more.true c.in_ok-more.ensures c.swap.ensures.y_after)

pub returns-else-more-clause-request : goal.returns-else-more-clause-request
returns-else-more-clause-request c =
    let below = below_seen c.self.inside.key c.self.inside.lanes.items c.args.self.now c.args.lane.0 c.self.view_is c.requires in
    subst (λ (r : Option Request). IsAsked r c.in_ok-more.more c.args.out.now c.args.out.now)
    (request_found c.self.inside.key c.self.inside.lanes.items c.args.self.now c.args.lane.0 c.index.result.now c.self.view_is below c.index.ensures)
    (asked_no _ c.in_ok-more.more c.clear.new.self c.put_request.new.out c.args.out.now c.if-more.false c.in_ok-more.ensures)
