use Rattle.std.proofs.Common.{◌<◌, ℕ, subst, sym, arith}
use Rattle.gf256.proofs.Lanes.{lane_fits}
use Rattle.aes256.proofs.Transpose.{first_lanes, second_lanes, swap_first-lt, swap_second-lt}
use Rattle.aes256.proofs.transposition.swap1.Goals as goal

pub returns : goal.returns
returns c =
    let first = first_lanes 1 85 c.args.a c.args.b c.fits-a.0 c.fits-b.0 in
    let second = second_lanes 1 85 c.args.a c.args.b c.fits-a.0 c.fits-b.0 in
    record {
      first = first;
      second = second;
      first_small = λ p lt. subst (λ (v : ℕ). v < 256) (sym (first p lt)) (swap_first-lt 1 85 _ _ (lane_fits c.args.a p c.fits-a.1));
      second_small = λ p lt. subst (λ (v : ℕ). v < 256) (sym (second p lt)) (swap_second-lt 1 85 _ _ (lane_fits c.args.b p c.fits-b.1) (omega arith));
    }
