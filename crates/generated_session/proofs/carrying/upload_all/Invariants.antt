use Rattle.std.proofs.Common.{◌≡◌, List}
use Rattle.std.specs.List.{flat_map, range_with_len}
use Rattle.lane_steps.specs.UploadJob.Upload.{FileVersion}
use Rattle.generated_session.specs.Lines.{upload_lines}
use Rattle.generated_session.specs.Progress.{AreWithin, Makes}
use Rattle.generated_session.proofs.carrying.upload_all.Given as goal

abbrev pub invariant-loop-place : goal.invariant-loop-place
invariant-loop-place g l = record {
  makes : (all : List FileVersion) → Makes g.V.Shelf.cloud_at all (flat_map (upload_lines l.seed l.pieces) (range_with_len 1 l.place)) 0 l.place l.initial.link l.link l.initial.numbers l.numbers;
  within : AreWithin l.place l.numbers;
  equal : l.numbers.equal ≡ 0;
  shape : l.link.servers.shape ≡ l.initial.link.servers.shape;
  same_reference : l.link.shelf.ghost_name ≡ l.initial.link.shelf.ghost_name;
}
