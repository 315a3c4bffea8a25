use Rattle.std.proofs.Common.{List, length, get_or, ap, ◌∙◌}
use Rattle.upload_job.specs.declared.lane.Lane.{Lane}
use Rattle.upload_job.proofs.Ending.{first_below, rest_below, one_ended, length-staged_at}
use Rattle.upload_job.proofs.lane.end_lanes.Goals as goal

pub end_lane-requires : goal.end_lane-requires
end_lane-requires c = first_below c.args.clouds.now c.loop-cloud.cloud-index (length c.loop-cloud.lanes.items) c.loop-cloud-test.true c.loop-cloud.invariant.below

pub loop-cloud-preserved : goal.loop-cloud-preserved
loop-cloud-preserved c =
    let same = ap (λ (l : List Lane). length l) c.end_lane.ensures ∙ length-staged_at c.loop-cloud.lanes.items (get_or c.args.clouds.now c.loop-cloud.cloud-index (record { 0 = 0 })).0 in
    record {
      ended = one_ended c.loop-cloud.lanes.items c.end_lane.new.lanes.items c.args.lanes.now.items c.args.clouds.now c.loop-cloud.cloud-index c.loop-cloud-test.true c.end_lane.ensures c.loop-cloud.invariant.ended;
      below = rest_below c.args.clouds.now c.loop-cloud.cloud-index (length c.loop-cloud.lanes.items) (length c.end_lane.new.lanes.items) c.loop-cloud-test.true same c.loop-cloud.invariant.below;
    }
