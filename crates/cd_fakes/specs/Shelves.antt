-- The clouds in memory, by their numbers.
use Rattle.std.specs.Prelude.{◌≡◌, ℕ, suc, zero, ◌<◌, false, nat_lt, List, [], ◌∷◌, None, Some, slice_get}
use Rattle.mem_disk.specs.CdEdges.area.Area.{Area}
use Rattle.mem_disk.specs.CdEdges.Disk.{Cloud}
use Rattle.cd_fakes.specs.declared.cloud.MemCloud.{MemCloud}
use Rattle.mem_disk.specs.Areas.{area_of, held_of, log_of}
use Rattle.mem_disk.specs.Numbers.{number_of}
use Rattle.mem_disk.specs.Disks.{history_of}
use Rattle.mem_disk.specs.History.{nothing}
use Rattle.cd_fakes.specs.Clouds.{cloud_of, HasSpare}

-- of a number past the last one
abbrev pub no_cloud : Cloud
no_cloud = record { told = false; faults = 0; armings = 0; armed = None; past = []; now = nothing }

-- what is told of the cloud of a number
abbrev pub clouds_of : List MemCloud → ℕ → Cloud
clouds_of [] number = no_cloud
clouds_of (m ∷ ms) zero = cloud_of m
clouds_of (m ∷ ms) (suc number) = clouds_of ms number

-- There is memory for the notes that are left, whichever cloud they will be of.
abbrev pub AllSpare : ℕ → List MemCloud → Type 0
AllSpare left ms = (number : ℕ) (m : MemCloud) → slice_get ms number ≡ Some m → HasSpare left m

-- what holds of the cloud of a number
abbrev pub At : List MemCloud → ℕ → (MemCloud → Type 0) → Type 0
At ms number P = (m : MemCloud) → slice_get ms number ≡ Some m → P m

-- what holds of the cloud of a number before and after a call
abbrev pub AtBoth : List MemCloud → List MemCloud → ℕ → (MemCloud → MemCloud → Type 0) → Type 0
AtBoth ms ms' number P = (m m' : MemCloud) → slice_get ms number ≡ Some m → slice_get ms' number ≡ Some m' → P m m'

-- A cloud as it is made.
pub record IsNew (clouds bytes number : ℕ) (m : MemCloud) : Type 0 where
  pub is_there : m.is_there ≡ nat_lt number clouds
  pub told : m.disk.told ≡ nat_lt number clouds
  pub room : number < clouds → (area : Area) → (area_of m.disk.areas area).room ≡ bytes
  pub held : (area : Area) → held_of m.disk.areas area ≡ []
  pub log : (area : Area) → log_of m.disk.areas area ≡ []
  pub history : history_of m.disk ≡ []
  pub calls : m.calls ≡ 0
  pub faults : m.faults ≡ 0
  pub armings : m.armings ≡ 0
  pub cut : m.cut ≡ 0
  pub reads : (area : Area) → number_of m.reads area ≡ 0
