-- A journal has one current half.
use Rattle.std.proofs.Common.{◌≡◌, inl, inr, ℕ, ◌≤◌, List, Option, Some, None, sym, ◌∙◌, subst, arith}
use Rattle.cloud_disk.specs.JournalStart.start.Checkpoint.{Checkpoint}
use Rattle.cloud_disk.specs.JournalStart.start.Start.{Start}
use Rattle.cloud_disk.specs.JournalStart.Ranges.{IsBehind}
use Rattle.cloud_disk.specs.JournalStart.Spelling.{region_of}
use Rattle.cloud_disk.specs.JournalHalves.Halves.{HasStart, IsCurrent}
use Rattle.cloud_disk.proofs.JournalHalves.Current.{one_start, not_both}

-- a start's region is the first or the second
pub region_small : (half format : ℕ) (o : Option Checkpoint) → IsBehind half format o → region_of o ≤ 1
region_small half format None is = omega arith
region_small half format (Some c) is = is.region

pub same_half : (journal : List ℕ) (i j : ℕ) (a b : Start) → IsCurrent journal i a → IsCurrent journal j b → i ≡ j
same_half journal i j a b c d = elim c.is_half [
  | inl zero_i ↦ elim d.is_half [
    | inl zero_j ↦ zero_i ∙ sym zero_j
    | inr one_j ↦ absurd (not_both journal a b (subst (λ (h : ℕ). IsCurrent journal h a) zero_i c) (subst (λ (h : ℕ). IsCurrent journal h b) one_j d))
  ]
  | inr one_i ↦ elim d.is_half [
    | inl zero_j ↦ absurd (not_both journal b a (subst (λ (h : ℕ). IsCurrent journal h b) zero_j d) (subst (λ (h : ℕ). IsCurrent journal h a) one_i c))
    | inr one_j ↦ one_i ∙ sym one_j
  ]
]

pub same_start : (journal : List ℕ) (i j : ℕ) (a b : Start) → IsCurrent journal i a → IsCurrent journal j b → a ≡ b
same_start journal i j a b c d = one_start journal i a b c.begun (subst (λ (h : ℕ). HasStart journal h b) (sym (same_half journal i j a b c d)) d.begun)
