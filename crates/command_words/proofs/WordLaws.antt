-- Words that are read are those that were written.
use Rattle.std.proofs.Common.{◌≡◌, ◌≤◌, ℕ, true, false, List, [], ◌∷◌, length, map, arith, Option, Some, None, refl}
use Rattle.std.proofs.Common.{inl, inr}
use Rattle.std.specs.Prelude.{is_some}
use Rattle.std.proofs.lemmas.Bool.{cases_Bool}
use Rattle.session.specs.CdBase.Limits.{IsPath}
use Rattle.session.specs.CdBase.shape.Shape.{Shape}
use Rattle.session.specs.Reading.{names_file, sources}
use Rattle.session.proofs.Texts.{names_file_true, names_file_from}
use Rattle.command_words.specs.Reading.{path}

pub path_named : (word : List ℕ) → IsPath word → path word ≡ Some word
unfolding path
path_named word h = rw (names_file_from word h) refl

pub path_unnamed : (word : List ℕ) → (IsPath word → ⊥) → path word ≡ None
unfolding path
path_unnamed word h = elim (cases_Bool (names_file word)) [
  | inl t ↦ absurd (h (names_file_true word t))
  | inr f ↦ rw f refl
]

some_of : {A : Type 0} (o : Option A) → true ≡ is_some o → (x : A) × (o ≡ Some x)
some_of None e = absurd cc
some_of (Some x) e = (x, refl)

none_of : {A : Type 0} (o : Option A) → false ≡ is_some o → o ≡ None
none_of None e = refl
none_of (Some x) e = absurd cc

pub clouds_named : (shape : Shape) (word : List ℕ) → true ≡ is_some (sources shape word)
    → (list : List ℕ) × (sources shape word ≡ Some list) × (sources shape word ≡ Some list)
clouds_named shape word e = let s = some_of (sources shape word) e in (s.0, s.1, s.1)

pub clouds_unnamed : (shape : Shape) (word : List ℕ) → false ≡ is_some (sources shape word) → sources shape word ≡ None
clouds_unnamed shape word e = none_of (sources shape word) e

-- there is a first word
pub some_words : {X : Type 0} (text : X → List ℕ) (words : List X) → 1 ≤ length words
    → (word : List ℕ) × (rest : List (List ℕ)) × (map text words ≡ word ∷ rest)
some_words text [] some = absurd (omega arith)
some_words text (x ∷ xs) some = (text x, map text xs, refl)
