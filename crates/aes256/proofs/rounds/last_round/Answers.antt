use Rattle.aes256.proofs.Round.{last_round_right}
use Rattle.aes256.proofs.rounds.last_round.Goals as goal

pub returns : goal.returns
returns c = λ k state words lt before key.
    last_round_right _ _ _ c.args.key k state words before key (λ p below. c.substitute-replaced.ensures k p lt below) (λ p below. c.finish.ensures k p below)
