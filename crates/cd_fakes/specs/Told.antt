-- Ports in memory as ports, and the causes for which their calls fail.
use Rattle.std.specs.Prelude.{◌≡◌, ℕ, length, Contains}
use Rattle.mem_disk.specs.CdEdges.Ports.{Telling}
use Rattle.cd_fakes.specs.Counts.{counted_up}
use Rattle.cd_fakes.specs.declared.ports.MemPorts.{MemPorts}
use Rattle.cd_fakes.specs.Streams.{IsPortOpen, telling_of}

abbrev pub telling : MemPorts → Telling
telling ports = telling_of ports.streams.items ports.opened

-- the next call fails by its number
abbrev pub IsFailingNext : MemPorts → Type 0
IsFailingNext ports = Contains ports.count.fails.items (counted_up ports.count.calls)

-- no stream is left for a further port
abbrev pub HasNoMore : MemPorts → Type 0
HasNoMore ports = ports.opened ≡ length ports.streams.items

abbrev pub HasOpen : MemPorts → ℕ → Type 0
HasOpen ports number = IsPortOpen ports.streams.items ports.opened number

-- how much a call passes stays
pub record KeepsSizes (old new : MemPorts) : Type 0 where
  pub room : new.room ≡ old.room
  pub most : new.most ≡ old.most
