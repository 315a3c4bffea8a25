use Rattle.std.proofs.Common.{[], ◌∷◌, refl}
use Rattle.aes256.specs.Planes.{shifted}
use Rattle.aes256.proofs.Round.{picked_lanes, shifted-lt}
use Rattle.aes256.proofs.rounds.shift.Goals as goal

pub returns : goal.returns
returns c = picked_lanes c.args.x (0 ∷ 5 ∷ 10 ∷ 15 ∷ 4 ∷ 9 ∷ 14 ∷ 3 ∷ 8 ∷ 13 ∷ 2 ∷ 7 ∷ 12 ∷ 1 ∷ 6 ∷ 11 ∷ []) shifted c.fits-x.0 refl tt shifted-lt
