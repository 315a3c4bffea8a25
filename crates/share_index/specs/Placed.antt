-- That all that is owned has a place.
use Rattle.std.specs.Prelude.{ℕ, List, IsSome}
use Rattle.std.specs.FinMap.{FinMap, get}
use Rattle.cd_base.specs.declared.place.Place.{Place}
use Rattle.cd_base.specs.Order.{fp_cmp}
use Rattle.share_index.specs.Order.{owner_cmp, owner_of}

-- each fingerprint that a user owns has a place
abbrev pub AreAllPlaced : FinMap fp_cmp Place → FinMap owner_cmp ℕ → Type 0
AreAllPlaced places owners = (user : ℕ) (fp : List ℕ) → IsSome (get owners (owner_of user fp)) → IsSome (get places fp)
