use Rattle.std.proofs.Common.{List, length, ap, arith}
use Rattle.upload_job.specs.Lanes.{LaneView}
use Rattle.upload_job.proofs.Laning.{length-lanes_in}
use Rattle.upload_job.proofs.job.Job.lanes.Goals as goal

pub returns : goal.returns
returns c =
    let lanes = length-lanes_in c.self.inside.key c.self.inside.lanes.items in
    let seen = ap (λ (xs : List LaneView). length xs) c.self.view_is in
    omega arith
