-- What the tests of the checks say.
use mathlib.Core.Bool.{beq}
use Rattle.std.proofs.Common.{◌≡◌, ℕ, ◌+◌, ◌/◌, ◌%◌, ◌≤◌, Bool, true, false, Option, Some, None, refl, sym, ap, ◌∙◌, arith}
use Rattle.std.specs.Prelude.{◌↔◌, IsTrue, is_some, IsSome}
use Rattle.cloud_memory.specs.ContainerLog.Places.{LiesInOne}

-- a test that fails
pub not_so : {A : Type 0} (b : Bool) → (IsTrue b ↔ A) → b ≡ false → ¬ A
not_so b iff fails h = let t : b ≡ true = iff.1 h in cc

pub in_one : (at len : ℕ) → (at % 4194304 + len ≤ 4194304) ↔ LiesInOne at len
in_one at len = (λ h. record { container = at / 4194304; from = omega arith; to = omega arith }, λ l. omega (arith, l.from, l.to))

-- nothing is there
pub none_there : {A : Type 0} (o : Option A) → ¬ (IsSome o) → o ≡ None
none_there None lacks = refl
none_there (Some x) lacks = absurd (lacks refl)

-- a flag that agrees with what is there, and one that doesn't
pub flag_wrong : {A B : Type 0} (o : Option A) (there : Option B) (placed : Bool) → IsTrue placed ↔ IsSome there → is_some o ≡ placed → ¬ (IsSome o ↔ (there ≡ None))
flag_wrong None None placed laid same flagged = let has : false ≡ true = flagged.1 refl in cc
flag_wrong None (Some x) placed laid same flagged = let has : placed ≡ true = laid.1 refl in cc
flag_wrong (Some y) None placed laid same flagged = let has : false ≡ true = laid.0 (sym same) in cc
flag_wrong (Some y) (Some x) placed laid same flagged = let none : Some x ≡ None = flagged.0 refl in cc

pub flag_right : {A B : Type 0} (o : Option A) (there : Option B) (placed : Bool) → IsTrue placed ↔ IsSome there → ¬ (is_some o ≡ placed) → IsSome o ↔ (there ≡ None)
flag_right None None true laid other = absurd (let has : false ≡ true = laid.0 refl in cc)
flag_right None None false laid other = absurd (other refl)
flag_right None (Some x) placed laid other = (λ wrong. cc, λ wrong. cc)
flag_right (Some y) None placed laid other = (λ has. refl, λ none. refl)
flag_right (Some y) (Some x) true laid other = absurd (other refl)
flag_right (Some y) (Some x) false laid other = absurd (let has : false ≡ true = laid.1 refl in cc)

pub same_bool : (a b : Bool) → beq a b ≡ true → a ≡ b
same_bool true true e = refl
same_bool true false e = cc
same_bool false true e = cc
same_bool false false e = refl

pub other_bool : (a b : Bool) → beq a b ≡ false → ¬ (a ≡ b)
other_bool true true e same = cc
other_bool true false e same = cc
other_bool false true e same = cc
other_bool false false e same = cc

-- a place was found
pub found_iff : {A : Type 0} (r : Bool) (o there : Option A) → r ≡ is_some o → o ≡ there → IsTrue r ↔ IsSome there
found_iff r o there e f = (λ t. sym (e ∙ ap is_some f) ∙ t, λ s. e ∙ ap is_some f ∙ s)
