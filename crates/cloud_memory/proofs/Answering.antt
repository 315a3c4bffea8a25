-- What reads say, by the list.
use Rattle.std.proofs.Common.{◌≡◌, ℕ, Bool, true, false, cond, Option, Some, None, refl, sym, ap, ◌∙◌}
use Rattle.std.specs.Prelude.{◌↔◌, is_some, IsSome, IsTrue, IfSome}

pub owns_is : (result among : Bool) (o : Option ℕ) (n : ℕ) → (IsTrue result ↔ IsSome o) → o ≡ cond among (Some n) None → result ≡ among
owns_is true true o n iff is = refl
owns_is true false o n iff is = absurd (let never : false ≡ true = sym (ap is_some is) ∙ iff.0 refl in cc)
owns_is false true o n iff is = absurd (let never : false ≡ true = iff.1 (ap is_some is) in cc)
owns_is false false o n iff is = refl

pub if_some : {X : Type 0} (P : X → Type 0) (o : Option X) → ((x : X) → o ≡ Some x → P x) → IfSome o P
if_some P None each = tt
if_some P (Some x) each = each x refl
