use Rattle.std.proofs.Common.{◌∙◌, refl}
use Rattle.upload_job.proofs.Begun.{each_named, are_lanes, all_begun}
use Rattle.upload_job.proofs.job.Job.of_bytes.Goals as goal

pub lanes_of-requires : goal.lanes_of-requires
lanes_of-requires c = each_named c.args.shape c.args.path.now c.args.bytes c.into_vec.result.items (c.into_vec.ensures ∙ c.in_ok-files.ensures) c.requires.few

pub invariant_of-result : goal.invariant_of-result
invariant_of-result c = are_lanes c.args.shape.k c.into_vec.result.items c.in_ok-lanes.lanes.items c.in_ok-lanes.ensures.len c.in_ok-lanes.ensures.each

pub returns : goal.returns
returns c =
    all_begun c.args.shape (record { user = c.args.user; path = c.args.path.now; number = c.args.version; file = c.args.bytes })
    (record { user = c.args.user; tag = c.in_ok-tag.tag; version = c.args.version }) c.into_vec.result.items c.in_ok-lanes.lanes.items refl c.in_ok-tag.ensures refl
    (c.into_vec.ensures ∙ c.in_ok-files.ensures) c.in_ok-lanes.ensures.len c.in_ok-lanes.ensures.each
