use Rattle.std.proofs.Common.{[], ◌∷◌, refl}
use Rattle.aes256.specs.Planes.{shifted, next_row}
use Rattle.aes256.proofs.Round.{picked_lanes, shifted-lt, next_row-lt}
use Rattle.aes256.proofs.rounds.shift_up.Goals as goal

pub returns : goal.returns
returns c = picked_lanes c.args.x (5 ∷ 10 ∷ 15 ∷ 0 ∷ 9 ∷ 14 ∷ 3 ∷ 4 ∷ 13 ∷ 2 ∷ 7 ∷ 8 ∷ 1 ∷ 6 ∷ 11 ∷ 12 ∷ []) (λ p. shifted (next_row p)) c.fits-x.0 refl tt (λ p lt. shifted-lt (next_row p) (next_row-lt p lt))
