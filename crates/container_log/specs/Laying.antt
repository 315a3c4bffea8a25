-- Blobs laid one behind another.
use Rattle.std.specs.Prelude.{◌≡◌, ℕ, ◌+◌, ◌-◌, ◌≤◌, List, [], ◌∷◌, ◌++◌, length, take, drop, map, replicate, All}
use Rattle.container_log.specs.Places.{container_len, place_of, end_after, IsLeastPlace}

abbrev pub lengths : List (List ℕ) → List ℕ
lengths blobs = map (λ (blob : List ℕ). length blob) blobs

-- the bytes that lie from the end on, once the blobs are laid there: zeros up to a blob's place, and the blob
abbrev pub laid : ℕ → List (List ℕ) → List ℕ
laid end [] = []
laid end (blob ∷ blobs) = replicate (place_of end (length blob) - end) 0 ++ blob ++ laid (end_after end (length blob)) blobs

-- a blob at its place
pub record Placed : Type 0 where
  pub place : ℕ
  pub blob : List ℕ

-- the blobs at their places
abbrev pub placed : ℕ → List (List ℕ) → List Placed
placed end [] = []
placed end (blob ∷ blobs) = record { place = place_of end (length blob); blob = blob } ∷ placed (end_after end (length blob)) blobs

-- the places that blobs take, each by its first one and its end
abbrev pub ranges : List Placed → List (ℕ × ℕ)
ranges blobs = map (λ (b : Placed). (b.place, b.place + length b.blob)) blobs

-- A blob fits into a container.
abbrev pub Fit : List (List ℕ) → Type 0
Fit blobs = All (λ (blob : List ℕ). length blob ≤ container_len) blobs

-- The blob lies at its place in these bytes, the first of which has the place `start`.
abbrev pub IsFrom : ℕ → List ℕ → Placed → Type 0
IsFrom start bytes b = take (length b.blob) (drop (b.place - start) bytes) ≡ b.blob

-- The same, in an area.
abbrev pub IsAt : List ℕ → Placed → Type 0
IsAt bytes b = take (length b.blob) (drop b.place bytes) ≡ b.blob

-- Each blob lies in one container, behind the end and behind the blobs before it, at the least place at which it does.
abbrev pub AreLeast : ℕ → List Placed → Type 0
AreLeast end [] = Unit {0}
AreLeast end (b ∷ bs) = IsLeastPlace end (length b.blob) b.place × AreLeast (b.place + length b.blob) bs
