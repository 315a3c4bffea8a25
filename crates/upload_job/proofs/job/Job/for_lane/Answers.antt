use Rattle.std.proofs.Common.{refl}
use Rattle.upload_job.proofs.Begun.{one_named, are_alone, one_begun}
use Rattle.upload_job.proofs.job.Job.for_lane.Goals as goal

pub lane_alone-requires-clause-few : goal.lane_alone-requires-clause-few
lane_alone-requires-clause-few c = (one_named c.args.shape c.args.lane.0 c.args.path.now c.args.bytes.now c.in_ok-file.file c.in_ok-file.ensures c.requires.few).0

pub lane_alone-requires-clause-named : goal.lane_alone-requires-clause-named
lane_alone-requires-clause-named c = (one_named c.args.shape c.args.lane.0 c.args.path.now c.args.bytes.now c.in_ok-file.file c.in_ok-file.ensures c.requires.few).1

pub invariant_of-result : goal.invariant_of-result
invariant_of-result c = are_alone c.args.shape c.args.lane.0 c.in_ok-file.file c.in_ok-lanes.lanes.items c.in_ok-lanes.ensures

pub returns : goal.returns
returns c =
    one_begun c.args.shape (record { user = c.args.user; path = c.args.path.now; number = c.args.version; file = c.args.bytes.now })
    (record { user = c.args.user; tag = c.in_ok-tag.tag; version = c.args.version }) c.args.lane.0 c.in_ok-file.file c.in_ok-lanes.lanes.items refl c.in_ok-tag.ensures refl
    c.in_ok-file.ensures c.in_ok-lanes.ensures
