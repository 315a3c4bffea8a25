-- A text that was written is another one, where the two are equal.
use Rattle.std.proofs.Common.{◌≡◌, ℕ, List, subst}
use Rattle.backup_command.specs.Writing.{Output, HasWrittenOrCause}

pub written_as : (text other : List ℕ) (due wanted : ℕ) (out : Output) (status : ℕ) → text ≡ other → due ≡ wanted → HasWrittenOrCause text due out status
    → HasWrittenOrCause other wanted out status
written_as text other due wanted out status same is writes =
    subst (λ (n : ℕ). HasWrittenOrCause other n out status) is (subst (λ (t : List ℕ). HasWrittenOrCause t due out status) same writes)
