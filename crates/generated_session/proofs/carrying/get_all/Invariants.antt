use Rattle.std.proofs.Common.{◌≡◌, ◌≤◌, map}
use Rattle.std.specs.List.{range_with_len}
use Rattle.replay_core.specs.SessionModel.Kept.{uploads}
use Rattle.generated_session.specs.Lines.{get_line, generated_lines}
use Rattle.generated_session.specs.Progress.{Makes}
use Rattle.generated_session.proofs.carrying.get_all.Given as goal

abbrev pub invariant-loop-place : goal.invariant-loop-place
invariant-loop-place g l = record {
  makes : Makes g.V.Shelf.cloud_at (uploads (generated_lines l.seed l.files l.pieces)) (map get_line (range_with_len 1 l.place)) l.files l.files l.initial.link l.link l.initial.numbers l.numbers;
  few : l.numbers.equal ≤ l.place;
  shape : l.link.servers.shape ≡ l.initial.link.servers.shape;
  same_reference : l.link.shelf.ghost_name ≡ l.initial.link.shelf.ghost_name;
}
