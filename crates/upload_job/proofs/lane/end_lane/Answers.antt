use Rattle.std.proofs.Common.{set, ap, ◌∙◌}
use Rattle.upload_job.proofs.Ending.{set_staged}
use Rattle.upload_job.proofs.lane.end_lane.Goals as goal

pub returns : goal.returns
returns c =
    ap (set c.args.lanes.now.items c.args.cloud.0) c.stand.ensures ∙ set_staged c.args.lanes.now.items c.args.cloud.0 c.index_mut.result.now c.requires c.index_mut.ensures.value
