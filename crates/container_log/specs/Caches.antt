-- Containers that are kept in memory.
use Rattle.std.specs.Prelude.{◌≡◌, ◌⊎◌, ℕ, ◌+◌, ◌-◌, ◌*◌, ◌/◌, Bool, IsTrue, cond, ◌&&◌, ◌||◌, List, [], ◌∷◌, length, take, drop, slice_get, All, Option, None, Some, nat_eq, nat_le, nat_lt}
use Rattle.std.specs.List.{filter}
use Rattle.std.specs.Map.{lookup, lookup_entry, remove_entry}
use Rattle.std.specs.Option.{option_map_or}
use Rattle.cd_edges.specs.declared.area.Area.{Area}
use Rattle.cd_edges.specs.Disk.{Cloud}
use Rattle.container_log.specs.Places.{container_len}

-- a container that is kept: its number, and its bytes up to the area's end
abbrev pub Kept : Type 0
Kept = ℕ × List ℕ

-- how many containers may be kept, and those that are, the last read first
pub record Cache : Type 0 where
  pub keep : ℕ
  pub kept : List Kept

-- what an area with these bytes has in a container
abbrev pub container_of : List ℕ → ℕ → List ℕ
container_of bytes number = take container_len (drop (number * container_len) bytes)

-- Each is what an area with these bytes has in that container.
abbrev pub AreContainersOf : List ℕ → List Kept → Type 0
AreContainersOf bytes kept = All (λ (k : Kept). k.1 ≡ container_of bytes k.0) kept

-- Where the cloud is told, and each of these is what its area has in that container, P holds.
abbrev pub OnKept : Cloud → Area → List Kept → Type 0 → Type 0
OnKept cloud area kept P = IsTrue cloud.told → AreContainersOf (cloud.now area).read kept → P

-- the bytes that are kept of a container
abbrev pub kept_of : List Kept → ℕ → Option (List ℕ)
kept_of kept number = lookup (nat_eq number) kept

-- the same containers, with this one in front
abbrev pub in_front : ℕ → List Kept → List Kept
in_front number kept = option_map_or (λ (k : Kept). k ∷ remove_entry (nat_eq number) kept) (lookup_entry (nat_eq number) kept) kept

-- those that stay where there is to be room for one more: where as many are kept as may be, the last one goes
abbrev pub with_room : ℕ → List Kept → List Kept
with_room keep kept = take (keep - 1) kept

-- a container more in front, with room made for it
abbrev pub with_container : ℕ → List ℕ → ℕ → List Kept → List Kept
with_container number bytes keep kept = (number, bytes) ∷ with_room keep kept

-- whether a write from the first to the last of these containers leaves the bytes of this one: they are a whole container's, and
-- it is another
abbrev pub is_left : ℕ → ℕ → Kept → Bool
is_left first last k = nat_le container_len (length k.1) && (nat_lt k.0 first || nat_lt last k.0)

-- what is kept over a write of these bytes at this place
abbrev pub kept_over : ℕ → List ℕ → List Kept → List Kept
kept_over place [] kept = kept
kept_over place (byte ∷ bytes) kept = filter (is_left (place / container_len) ((place + length bytes) / container_len)) kept

-- The container is kept in front, or the cache is as it was.
abbrev pub IsKeptOr : ℕ → List ℕ → Cache → Cache → Type 0
IsKeptOr number bytes old new = (new ≡ old) ⊎ (new ≡ record old { kept = with_container number bytes old.keep old.kept })

-- the last container in front where it passes, and gone where it doesn't
abbrev pub turned_by : (Kept → Bool) → Option Kept → List Kept → List Kept
turned_by p None kept = kept
turned_by p (Some k) kept = cond (p k) (k ∷ kept) kept

abbrev pub turned : (Kept → Bool) → List Kept → List Kept
turned p kept = turned_by p (slice_get kept (length kept - 1)) (take (length kept - 1) kept)

-- After a read of a container the cache is as it was, or that container is in front now: it was kept, or it is one more, with room made
-- for it. Or it wasn't kept and still isn't, and room was made for it all the same.
abbrev pub IsReadOf : Cache → ℕ → Cache → Type 0
IsReadOf old number new = (new ≡ old)
    ⊎ ((new ≡ record old { kept = in_front number old.kept })
    ⊎ ((kept_of old.kept number ≡ None)
    × ((new ≡ record old { kept = with_room old.keep old.kept })
    ⊎ ((bytes : List ℕ) × (new ≡ record old { kept = with_container number bytes old.keep old.kept })))))
