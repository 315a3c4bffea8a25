use Rattle.std.proofs.Common.{ℕ, List, ◌<◌, length, refl, sym, ap, ◌∙◌, subst}
use Rattle.std.specs.Prelude.{All}
use Rattle.file_recipe.specs.declared.cloud_file.CloudFile.{CloudFile}
use Rattle.upload_job.specs.declared.lane.VersionKey.{VersionKey}
use Rattle.upload_job.specs.Upload.{FileVersion}
use Rattle.upload_job.specs.Lanes.{LaneView, entered_at}
use Rattle.upload_job.specs.Index.{AreLanes, lanes_in, done_at}
use Rattle.upload_job.proofs.Begun.{each_named, are_lanes, all_begun, length-dispersed}
use Rattle.upload_job.proofs.Ending.{done_in, done_lanes}
use Rattle.upload_job.proofs.job.Job.resume.Goals as goal

pub lanes_of-requires : goal.lanes_of-requires
lanes_of-requires c = each_named c.args.shape c.args.path.now c.args.bytes.now c.into_vec.result.items (c.into_vec.ensures ∙ c.in_ok-files.ensures) c.requires.few

pub end_lanes-requires : goal.end_lanes-requires
end_lanes-requires c =
    let size = c.in_ok-lanes.ensures.len ∙ ap (λ (l : List CloudFile). length l) (c.into_vec.ensures ∙ c.in_ok-files.ensures) ∙ length-dispersed c.args.shape c.args.path.now c.args.bytes.now in
    subst (λ (l : List ℕ). All (λ (cloud : ℕ). cloud < length c.in_ok-lanes.lanes.items) l) (sym c.as_slice.ensures)
    (subst (λ (n : ℕ). All (λ (cloud : ℕ). cloud < n) c.args.committed.now) (sym size) c.requires.below)

pub invariant_of-result : goal.invariant_of-result
invariant_of-result c =
    subst AreLanes (sym (c.end_lanes.ensures ∙ ap (done_at c.in_ok-lanes.lanes.items) c.as_slice.ensures)) (done_lanes c.in_ok-lanes.lanes.items c.args.committed.now
    (are_lanes c.args.shape.k c.into_vec.result.items c.in_ok-lanes.lanes.items c.in_ok-lanes.ensures.len c.in_ok-lanes.ensures.each))

pub returns : goal.returns
returns c =
    let key : VersionKey = record { user = c.args.user; tag = c.in_ok-tag.tag; version = c.args.version } in
    let v : FileVersion = record { user = c.args.user; path = c.args.path.now; number = c.args.version; file = c.args.bytes.now } in
    let begun = all_begun c.args.shape v key c.into_vec.result.items c.in_ok-lanes.lanes.items refl c.in_ok-tag.ensures refl
    (c.into_vec.ensures ∙ c.in_ok-files.ensures) c.in_ok-lanes.ensures.len c.in_ok-lanes.ensures.each in
    ap (lanes_in key) (c.end_lanes.ensures ∙ ap (done_at c.in_ok-lanes.lanes.items) c.as_slice.ensures)
    ∙ done_in key c.in_ok-lanes.lanes.items c.args.committed.now ∙ ap (λ (l : List LaneView). entered_at l c.args.committed.now) begun
