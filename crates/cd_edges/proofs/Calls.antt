-- One call after another.
use Rattle.std.proofs.Common.{ℕ, ◌∙◌, arith}
use Rattle.cd_edges.specs.Disk.{Cloud}
use Rattle.cd_edges.specs.Shelf.{IsCall, HasFailed}

pub called_twice : (a b c : ℕ → Cloud) (number before mid now : ℕ) → IsCall a b number before mid → IsCall b c number mid now → IsCall a c number before now
called_twice a b c number before mid now first second = record {
  others = λ other ne. second.others other ne ∙ first.others other ne;
  told = second.told ∙ first.told;
  armings = second.armings ∙ first.armings;
  later = omega (arith, first.later, second.later);
  total_later = omega (arith, first.total_later, second.total_later);
}

-- a failure after other calls
pub failed_after : (a b c : ℕ → Cloud) (number before mid now : ℕ) → IsCall a b number before mid → HasFailed (b number) (c number) mid now → HasFailed (a number) (c number) before now
failed_after a b c number before mid now first second = record { cloud = omega (arith, first.later, second.cloud); total = omega (arith, first.total_later, second.total) }
