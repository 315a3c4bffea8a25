-- Where blobs lie in containers.
use Rattle.std.specs.Prelude.{ℕ, ◌+◌, ◌*◌, ◌/◌, ◌%◌, ◌≤◌, List, [], ◌∷◌, nat_le, if◌then◌else◌}

-- the bytes of a container; container i takes the places from i times as many on
abbrev pub container_len : ℕ
container_len = 4194304

-- the place of a blob of this length behind an end: the end, or, where the blob wouldn't fit into the rest of that
-- container, the next container's first place
abbrev pub place_of : ℕ → ℕ → ℕ
place_of end len = if nat_le (end % container_len + len) container_len then end else (end / container_len + 1) * container_len

-- the end behind that blob
abbrev pub end_after : ℕ → ℕ → ℕ
end_after end len = place_of end len + len

-- the end behind blobs of these lengths, laid in order
abbrev pub end_of_laid : ℕ → List ℕ → ℕ
end_of_laid end [] = end
end_of_laid end (len ∷ lens) = end_of_laid (end_after end len) lens

-- So many bytes from the place on lie in one container.
pub record LiesInOne (place len : ℕ) : Type 0 where
  pub container : ℕ
  pub from : container * container_len ≤ place
  pub to : place + len ≤ (container + 1) * container_len

-- The place is the least one behind the end from which so many bytes lie in one container.
pub record IsLeastPlace (end len place : ℕ) : Type 0 where
  pub behind : end ≤ place
  pub in_one : LiesInOne place len
  pub least : (other : ℕ) → end ≤ other → LiesInOne other len → place ≤ other
