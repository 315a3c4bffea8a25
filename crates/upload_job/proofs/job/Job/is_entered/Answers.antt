use Rattle.std.proofs.Common.{arith}
use Rattle.upload_job.proofs.Laning.{below_seen, done_seen}
use Rattle.upload_job.proofs.job.Job.is_entered.Goals as goal

pub index-requires : goal.index-requires
index-requires c = let below = below_seen c.self.inside.key c.self.inside.lanes.items c.args.self.now c.args.lane.0 c.self.view_is c.requires in omega arith

pub returns : goal.returns
returns c =
    let below = below_seen c.self.inside.key c.self.inside.lanes.items c.args.self.now c.args.lane.0 c.self.view_is c.requires in
    let both = done_seen c.self.inside.key c.self.inside.lanes.items c.args.self.now c.args.lane.0 c.index.result.now c.self.view_is below c.index.ensures in
    (λ t. both.0 (c.is_done.ensures.0 t), λ d. c.is_done.ensures.1 (both.1 d))
