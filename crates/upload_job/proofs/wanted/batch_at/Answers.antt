use Rattle.std.proofs.Common.{ℕ, List, take, drop, ap, ◌∙◌}
use Rattle.upload_job.specs.declared.wanted.WantedShare.{WantedShare}
use Rattle.upload_job.proofs.Batches.{drop_least, take_least}
use Rattle.upload_job.proofs.wanted.batch_at.Goals as goal

pub returns : goal.returns
returns c =
    c.split_at-2.ensures.front ∙ ap (λ (n : ℕ). take n c.split_at.result.1.now) c.min-2.ensures ∙ take_least 256 c.split_at.result.1.now
    ∙ ap (λ (ws : List WantedShare). take 256 ws) (c.split_at.ensures.back ∙ ap (λ (n : ℕ). drop n c.args.wanted.now) c.min.ensures ∙ drop_least c.args.from c.args.wanted.now)
