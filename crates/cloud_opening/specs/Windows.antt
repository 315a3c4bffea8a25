-- What a buffer has of a cloud's area of recipes. No public clause cites this module.
use Rattle.std.specs.Prelude.{◌≡◌, ◌-◌, ◌≤◌, min, IsTrue, ℕ, List, length, take, drop}
use Rattle.cloud_disk.specs.CdEdges.area.Area.TheVariants.{Recipes}
use Rattle.cloud_disk.specs.CdEdges.Disk.{Cloud}
use Rattle.cloud_opening.specs.declared.window.Window.{Window}

-- The buffer holds so many bytes. Where the cloud is told they are what its area of recipes has from the window's place on.
pub record ShowsWindow (cloud : Cloud) (window : Window) (buffer : List ℕ) : Type 0 where
  pub held : window.len ≤ length buffer
  pub bytes : IsTrue cloud.told → take window.len buffer ≡ take window.len (drop window.at (cloud.now Recipes).read)

-- So many bytes were asked for from a place of an area on: so many are there, in front of the buffer.
pub record IsFrontOfWindow (held : List ℕ) (place len count : ℕ) (buffer : List ℕ) : Type 0 where
  pub lesser : count ≡ min len (length held - place)
  pub bytes : take count buffer ≡ take count (drop place held)
