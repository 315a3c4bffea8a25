-- Where blobs lie that are laid one behind another, and what of them is found.
use Rattle.std.proofs.Common.{◌≡◌, ◌⊎◌, inl, inr, ℕ, ◌+◌, ◌≤◌, List, [], ◌∷◌, ◌++◌, length, refl, sym, ap, ◌∙◌, subst, arith}
use Rattle.std.specs.List.{Contains}
use Rattle.record_laws.specs.ContainerLog.Laying.{Placed, lengths, placed}
use Rattle.record_laws.specs.ContainerLog.Places.{container_len, place_of, end_after, end_of_laid, LiesInOne}
use Rattle.record_laws.proofs.ContainerLog.Least.{place_behind, least_place}
use Rattle.compact_memories.proofs.UserDedup.Owned.{contains_here, contains_later, contains_nothing, contains_cases}

pub end_far : (end : ℕ) (lens : List ℕ) → end ≤ end_of_laid end lens
end_far end [] = omega arith
end_far end (len ∷ lens) = let rest = end_far (end_after end len) lens in let here = place_behind end len in omega (arith, rest, here)

pub end_append : (end : ℕ) (a b : List ℕ) → end_of_laid end (a ++ b) ≡ end_of_laid (end_of_laid end a) b
end_append end [] b = refl
end_append end (len ∷ a) b = end_append (end_after end len) a b

pub placed_append : (end : ℕ) (a b : List (List ℕ)) → placed end (a ++ b) ≡ placed end a ++ placed (end_of_laid end (lengths a)) b
placed_append end [] b = refl
placed_append end (blob ∷ a) b = ap (λ (l : List Placed). record { place = place_of end (length blob); blob = blob } ∷ l) (placed_append (end_after end (length blob)) a b)

-- a blob lies between two ends, in one container
pub record IsBetween (first last : ℕ) (b : Placed) : Type 0 where
  pub behind : first ≤ b.place
  pub in_one : LiesInOne b.place (length b.blob)
  pub within : b.place + length b.blob ≤ last

abbrev pub AllFit : List (List ℕ) → Type 0
AllFit blobs = (s : List ℕ) → Contains blobs s → length s ≤ container_len

pub each_laid : (end : ℕ) (blobs : List (List ℕ)) → AllFit blobs → (b : Placed) → Contains (placed end blobs) b → IsBetween end (end_of_laid end (lengths blobs)) b
each_laid end [] fit b c = absurd (contains_nothing b c)
each_laid end (blob ∷ blobs) fit b c =
    let here = least_place end (length blob) (fit blob (contains_here blob blobs)) in
    let next = end_after end (length blob) in
    elim (contains_cases (record { place = place_of end (length blob); blob = blob }) (placed next blobs) b c) [
      | inl same ↦ subst (IsBetween end (end_of_laid next (lengths blobs))) same (record { behind = here.behind; in_one = here.in_one; within = end_far next (lengths blobs) })
      | inr later ↦
          let rest = each_laid next blobs (λ s d. fit s (contains_later blob blobs s d)) b later in
          record { behind = (let a = rest.behind in let f = here.behind in omega (arith, a, f)); in_one = rest.in_one; within = rest.within }
    ]

-- one ends before the other begins
abbrev pub AreApart : Placed → Placed → Type 0
AreApart b d = (b.place + length b.blob ≤ d.place) ⊎ (d.place + length d.blob ≤ b.place)

pub two_laid : (end : ℕ) (blobs : List (List ℕ)) → AllFit blobs → (b d : Placed) → Contains (placed end blobs) b → Contains (placed end blobs) d → (b ≡ d) ⊎ AreApart b d
two_laid end [] fit b d cb cd = absurd (contains_nothing b cb)
two_laid end (blob ∷ blobs) fit b d cb cd =
    let first : Placed = record { place = place_of end (length blob); blob = blob } in
    let next = end_after end (length blob) in
    let more : AllFit blobs = λ s e. fit s (contains_later blob blobs s e) in
    elim (contains_cases first (placed next blobs) b cb) [
      | inl b_here ↦ elim (contains_cases first (placed next blobs) d cd) [
        | inl d_here ↦ inl (sym b_here ∙ d_here)
        | inr d_later ↦ inr (subst (λ (x : Placed). AreApart x d) b_here (inl (each_laid next blobs more d d_later).behind))
      ]
      | inr b_later ↦ elim (contains_cases first (placed next blobs) d cd) [
        | inl d_here ↦ inr (subst (AreApart b) d_here (inr (each_laid next blobs more b b_later).behind))
        | inr d_later ↦ two_laid next blobs more b d b_later d_later
      ]
    ]
