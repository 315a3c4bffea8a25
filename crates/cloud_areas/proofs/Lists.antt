-- Lists: what is true of some of their elements, and what maps give.
use Rattle.std.proofs.Common.{◌≡◌, List, [], ◌∷◌, ◌++◌, get_or, map, refl, ap, ◌∙◌, subst, inl, inr, append-nil}
use Rattle.std.specs.Prelude.{All}
use Rattle.std.specs.List.{Contains, flat_map}
use Rattle.std.proofs.lemmas.List.Elements.{Contains-get_or}
use Rattle.std.proofs.lemmas.Grind.{flat_map-append}
use Rattle.user_dedup.proofs.Owned.{contains_here, contains_later, contains_nothing, contains_cases}

-- one fact of all elements leads to another, where it does for each of them
pub step_all : {X : Type 0} (P Q : X → Type 0) (xs : List X) → ((x : X) → Contains xs x → P x → Q x) → All P xs → All Q xs
step_all P Q xs step all k d below = step (get_or xs k d) (Contains-get_or xs k d below) (all k d below)

pub in_map : {X Y : Type 0} (f : X → Y) (xs : List X) (x : X) → Contains xs x → Contains (map f xs) (f x)
in_map f [] x c = absurd (contains_nothing x c)
in_map f (y ∷ xs) x c = elim (contains_cases y xs x c) [
  | inl same ↦ subst (λ z. Contains (f y ∷ map f xs) (f z)) same (contains_here (f y) (map f xs))
  | inr later ↦ contains_later (f y) (map f xs) (f x) (in_map f xs x later)
]

pub from_map : {X Y : Type 0} (f : X → Y) (xs : List X) (y : Y) → Contains (map f xs) y → (x : X) × Contains xs x × (f x ≡ y)
from_map f [] y c = absurd (contains_nothing y c)
from_map f (x ∷ xs) y c = elim (contains_cases (f x) (map f xs) y c) [
  | inl same ↦ (x, contains_here x xs, same)
  | inr later ↦ let r = from_map f xs y later in (r.0, contains_later x xs r.0 r.1, r.2)
]

-- two maps that agree on the elements
pub map_same : {X Y : Type 0} (f g : X → Y) (xs : List X) → ((x : X) → Contains xs x → f x ≡ g x) → map f xs ≡ map g xs
map_same f g [] same = refl
map_same f g (x ∷ xs) same = λ i. same x (contains_here x xs) i ∷ map_same f g xs (λ y c. same y (contains_later x xs y c)) i

-- one element more
pub flat_more : {X Y : Type 0} (f : X → List Y) (xs : List X) (x : X) → flat_map f (xs ++ x ∷ []) ≡ flat_map f xs ++ f x
flat_more f xs x = flat_map-append f xs (x ∷ []) ∙ ap (λ l. flat_map f xs ++ l) (append-nil (f x))
