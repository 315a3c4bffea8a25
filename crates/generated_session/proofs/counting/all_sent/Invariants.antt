use Rattle.std.proofs.Common.{◌≡◌, ◌≤◌, ◌*◌, take}
use Rattle.std.specs.Prelude.{sum_by}
use Rattle.generated_session.specs.Progress.{sent_by}
use Rattle.generated_session.proofs.counting.all_sent.Given as goal

abbrev pub invariant-loop-place : goal.invariant-loop-place
invariant-loop-place l = record {
  sum : l.sum ≡ sum_by sent_by (take l.place l.told);
  few : l.sum ≤ l.place * 65536;
}
