-- Lists in which nothing comes twice, and lists that are mapped.
use Rattle.std.proofs.Common.{List, [], ◌∷◌}
use Rattle.std.specs.Prelude.{All}
use Rattle.std.specs.List.{Contains}
use Rattle.std.proofs.lemmas.List.Elements.{All-nil, All-cons}
use Rattle.cloud_memory.proofs.UserDedup.Owned.{contains_here, contains_later}

-- what holds of each element
pub contained : {X : Type 0} (P : X → Type 0) (xs : List X) → ((x : X) → Contains xs x → P x) → All P xs
contained P [] h = All-nil P
contained P (x ∷ xs) h = All-cons P x xs (h x (contains_here x xs)) (contained P xs (λ y c. h y (contains_later x xs y c)))
