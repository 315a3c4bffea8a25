use Rattle.std.proofs.Common.{[], ◌∷◌, refl}
use Rattle.aes256.specs.Planes.{next_row}
use Rattle.aes256.proofs.Round.{picked_lanes, next_row-lt}
use Rattle.aes256.proofs.rounds.up_two.Goals as goal

pub returns : goal.returns
returns c = picked_lanes c.args.x (2 ∷ 3 ∷ 0 ∷ 1 ∷ 6 ∷ 7 ∷ 4 ∷ 5 ∷ 10 ∷ 11 ∷ 8 ∷ 9 ∷ 14 ∷ 15 ∷ 12 ∷ 13 ∷ []) (λ p. next_row (next_row p)) c.fits-x.0 refl tt (λ p lt. next_row-lt (next_row p) (next_row-lt p lt))
