-- Each recipe that a chain of format 1 places is one that the list lays.
use Rattle.std.proofs.Common.{◌≡◌, inl, inr, ℕ, ◌+◌, ◌≤◌, List, [], ◌∷◌, ◌++◌, length, sym, ap, ◌∙◌, subst, append-nil, append_assoc}
use Rattle.std.specs.Prelude.{not}
use Rattle.std.specs.List.{Contains, flat_map}
use Rattle.std.proofs.lemmas.Grind.{flat_map-append}
use Rattle.std.proofs.lemmas.List.{map-append}
use Rattle.std.proofs.lemmas.List.Elements.{Contains-append_left, Contains-append_right, Contains-push_cases}
use Rattle.journal_halves.specs.CdBase.shape.Shape.{Shape}
use Rattle.record_laws.specs.ContainerLog.Laying.{Placed, lengths, placed}
use Rattle.record_laws.specs.ContainerLog.Places.{place_of, end_of_laid}
use Rattle.compact_memories.specs.UserDedup.command.Command.{Command}
use Rattle.compact_memories.specs.UserDedup.command.Command.TheVariants as commands
use Rattle.compact_memories.specs.UserDedup.Cloud.{recipes_of}
use Rattle.compact_memories.specs.UserDedup.Dedup.{IsSound}
use Rattle.compact_memories.proofs.UserDedup.CompactSound.{FitsCommand, all_fit}
use Rattle.compact_memories.proofs.UserDedup.Filtered.{from_filter, from_flat}
use Rattle.compact_memories.proofs.UserDedup.Owned.{contains_here, contains_nothing, contains_cases}
use Rattle.compact_memories.specs.CloudAreas.FormatOne.{laid_end, LaidEntry, is_entry, entries_after, entries_from, laid_entries, LaysRecipe, IsLaidRecipe}
use Rattle.compact_memories.proofs.CloudAreas.Lists.{from_map}
use Rattle.record_laws.proofs.Sized.{IsSized, sized}
use Rattle.first_laws.proofs.Laid.{end_far, end_append, placed_append}

-- the recipes of a list where they are laid
abbrev pub laid_now : List Command → List Placed
laid_now list = placed 0 (flat_map recipes_of list)

parts : (a b : List Command) → laid_now (a ++ b) ≡ laid_now a ++ placed (laid_end a) (flat_map recipes_of b)
parts a b = ap (placed 0) (flat_map-append recipes_of a b) ∙ placed_append 0 (flat_map recipes_of a) (flat_map recipes_of b)

pub more_laid : (a b : List Command) (r : Placed) → Contains (laid_now a) r → Contains (laid_now (a ++ b)) r
more_laid a b r c = subst (λ (l : List Placed). Contains l r) (sym (parts a b)) (Contains-append_left (laid_now a) (placed (laid_end a) (flat_map recipes_of b)) r c)

pub end_more : (a b : List Command) → laid_end a ≤ laid_end (a ++ b)
end_more a b =
    subst (λ (n : ℕ). laid_end a ≤ n)
    (sym (ap (λ (l : List (List ℕ)). end_of_laid 0 (lengths l)) (flat_map-append recipes_of a b)
    ∙ ap (end_of_laid 0) (map-append (λ (r : List ℕ). length r) (flat_map recipes_of a) (flat_map recipes_of b))
    ∙ end_append 0 (lengths (flat_map recipes_of a)) (lengths (flat_map recipes_of b))))
    (end_far (laid_end a) (lengths (flat_map recipes_of b)))

abbrev Stands : List Command → List LaidEntry → Type 0
Stands before entries = (e : LaidEntry) → Contains entries e → Contains (laid_now before) e.recipe

one_stands : (before : List Command) (entries : List LaidEntry) (c : Command) → Stands before entries → Stands (before ++ c ∷ []) (entries_after (laid_end before) entries c)
one_stands before entries (commands.Put user shares) old e here = more_laid before (commands.Put user shares ∷ []) e.recipe (old e here)
one_stands before entries (commands.Commit user tag version recipe) old e here =
    let command = commands.Commit user tag version recipe in
    let r : Placed = record { place = place_of (laid_end before) (length recipe); blob = recipe } in
    let new : LaidEntry = record { user = user; tag = tag; version = version; recipe = r } in
    elim (Contains-push_cases entries new e here) [
      | inl was ↦ more_laid before (command ∷ []) e.recipe (old e was)
      | inr same ↦
          subst (λ (x : LaidEntry). Contains (laid_now (before ++ command ∷ [])) x.recipe) same
          (subst (λ (l : List Placed). Contains l r) (sym (parts before (command ∷ [])))
          (Contains-append_right (laid_now before) (r ∷ []) r (contains_here r [])))
    ]
one_stands before entries (commands.Delete user tag version) old e here =
    more_laid before (commands.Delete user tag version ∷ []) e.recipe (old e (from_filter (λ (x : LaidEntry). not (is_entry user tag version x)) entries e here).0)

all_stand : (before : List Command) (entries : List LaidEntry) (cs : List Command) → Stands before entries → Stands (before ++ cs) (entries_from before entries cs)
all_stand before entries [] old e here = subst (λ (l : List Command). Contains (laid_now l) e.recipe) (sym (append-nil before)) (old e here)
all_stand before entries (c ∷ cs) old e here =
    subst (λ (l : List Command). Contains (laid_now l) e.recipe) (append_assoc before (c ∷ []) cs)
    (all_stand (before ++ c ∷ []) (entries_after (laid_end before) entries c) cs (one_stands before entries c old) e here)

lays_placed : (from : ℕ) (list : List Command) (r : Placed) → LaysRecipe from list r → Contains (laid_now list) r
lays_placed from list r l =
    let command = commands.Commit l.user l.tag l.version r.blob in
    let there : Placed = record { place = place_of (laid_end l.front) (length r.blob); blob = r.blob } in
    let same : there ≡ r = (λ i. record { place = sym l.place i; blob = r.blob }) in
    subst (λ (cs : List Command). Contains (laid_now cs) r) (sym l.list_is)
    (subst (λ (ps : List Placed). Contains ps r) (sym (parts l.front (command ∷ l.rest)))
    (subst (Contains (laid_now l.front ++ placed (laid_end l.front) (flat_map recipes_of (command ∷ l.rest)))) same
    (Contains-append_right (laid_now l.front) (placed (laid_end l.front) (flat_map recipes_of (command ∷ l.rest))) there
    (contains_here there (placed (there.place + length r.blob) (flat_map recipes_of l.rest))))))

pub laid_recipe : (before after list : List Command) → list ≡ before ++ after → (r : Placed) → IsLaidRecipe before list r → Contains (laid_now list) r
laid_recipe before after list is r (inl entry) =
    let e = from_map (λ (x : LaidEntry). x.recipe) (laid_entries before) r entry in
    subst (λ (cs : List Command). Contains (laid_now cs) r) (sym is)
    (more_laid before after r (subst (Contains (laid_now before)) e.2 (all_stand [] [] before (λ x none. absurd (contains_nothing x none)) e.0 e.1)))
laid_recipe before after list is r (inr later) = lays_placed (length before) list r later

-- ---- how long recipes are

sized_by : (shape : Shape) (c : Command) (r : List ℕ) → FitsCommand shape c → Contains (recipes_of c) r → IsSized shape r
sized_by shape (commands.Put user shares) r f c = absurd (contains_nothing r c)
sized_by shape (commands.Commit user tag version recipe) r f c = elim (contains_cases recipe [] r c) [
  | inl same ↦ subst (IsSized shape) same (sized shape recipe f.0.1 f.1)
  | inr none ↦ absurd (contains_nothing r none)
]
sized_by shape (commands.Delete user tag version) r f c = absurd (contains_nothing r c)

pub laid_sized : (shape : Shape) (cloud : ℕ) (list : List Command) → IsSound shape cloud list → (r : List ℕ) → Contains (flat_map recipes_of list) r → IsSized shape r
laid_sized shape cloud list sound r c =
    let f = from_flat recipes_of list r c in
    sized_by shape f.0 r (all_fit shape cloud list sound f.0 f.1).1 f.2
