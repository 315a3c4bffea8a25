use Rattle.std.proofs.Common.{◌≡◌, ◌≤◌, ◌*◌, take}
use Rattle.std.specs.Prelude.{sum_by}
use Rattle.generated_session.specs.Progress.{known_by}
use Rattle.generated_session.proofs.counting.all_known.Given as goal

abbrev pub invariant-loop-place : goal.invariant-loop-place
invariant-loop-place l = record {
  sum : l.sum ≡ sum_by known_by (take l.place l.told);
  few : l.sum ≤ l.place * 65536;
}
