use Rattle.std.proofs.Common.{ℕ, take, ap, ◌∙◌, arith}
use Rattle.std.specs.Prelude.{◌==◌}
use Rattle.std.specs.List.{count_by}
use Rattle.std.proofs.lemmas.List.Sums.{count_by-le-length}
use Rattle.upload_job.proofs.Machine.{length-unflagged}
use Rattle.upload_job.proofs.lane.zeros.Goals as goal

pub returns-clause-few : goal.returns-clause-few
returns-clause-few c =
    let least = count_by-le-length (λ flag. flag == 0) c.split_at.result.0.now in
    let len = c.split_at.ensures.front_len in
    let found = c.zeros_in.ensures in
    let first = c.min.ensures in
    omega arith

pub returns-clause-value : goal.returns-clause-value
returns-clause-value c = λ batch e. length-unflagged batch c.args.flags.now c.args.count c.zeros_in.result e (c.zeros_in.ensures ∙ ap (count_by (λ flag. flag == 0)) (c.split_at.ensures.front ∙ ap (λ (n : ℕ). take n c.args.flags.now) c.min.ensures))
