-- Which fingerprints are a user's, as a memory has it.
use Rattle.std.specs.Prelude.{ℕ, suc, Bool, List, [], ◌∷◌, map, Option, Some, None, is_some, if◌then◌else◌}
use Rattle.std.specs.FinMap.{get}
use Rattle.cloud_memory.specs.CdBase.ids.Fp.{Fp}
use Rattle.cloud_memory.specs.CdBase.ids.UserId.{UserId}
use Rattle.cloud_memory.specs.ShareIndex.Order.{owner_of}
use Rattle.cloud_memory.specs.Memory.{Memory}

-- the memory has the user as an owner of the fingerprint
abbrev pub is_owned : Memory → UserId → Fp → Bool
is_owned m user fp = is_some (get m.owners (owner_of user.0 fp.0))

-- 1 where the memory has the user as an owner of the fingerprint, and else 0
abbrev pub owned_flag : Memory → UserId → Fp → ℕ
owned_flag m user fp = if is_owned m user fp then 1 else 0

-- one flag for each fingerprint, as the memory has it
abbrev pub owned_flags : Memory → UserId → List Fp → List ℕ
owned_flags m user fps = map (owned_flag m user) fps

abbrev pub unowned_from : Memory → UserId → ℕ → List Fp → Option ℕ
unowned_from m user i [] = None
unowned_from m user i (fp ∷ fps) = if is_owned m user fp then unowned_from m user (suc i) fps else Some i

-- the place of the first of these fingerprints that isn't the user's, as the memory has it
abbrev pub first_unowned : Memory → UserId → List Fp → Option ℕ
first_unowned m user fps = unowned_from m user 0 fps
