-- What streams in memory tell as ports.
use Rattle.std.specs.Prelude.{◌≡◌, ◌≢◌, ℕ, ◌-◌, if◌then◌else◌, ◌≤◌, ◌<◌, Bool, true, false, List, [], drop, length, Some, slice_get, Option, None}
use Rattle.mem_disk.specs.CdEdges.Ports.{Port, Telling}
use Rattle.cd_fakes.specs.Counts.{counted_up}
use Rattle.cd_fakes.specs.declared.count.CallCount.{CallCount}
use Rattle.cd_fakes.specs.declared.stream.MemStream.{MemStream}

-- what is left of a stream, and what was sent on its port
abbrev pub port_of : MemStream → Port
port_of stream = record { to_come = drop stream.place stream.bytes.items; sent = stream.sent.items }

abbrev pub no_port : Port
no_port = record { to_come = []; sent = [] }

abbrev pub port_in : Option MemStream → Port
port_in None = no_port
port_in (Some stream) = port_of stream

-- a port by its number
abbrev pub port_at : List MemStream → ℕ → Port
port_at streams number = port_in (slice_get streams number)

abbrev pub telling_of : List MemStream → ℕ → Telling
telling_of streams opened = record { told = true; opened = opened; port = port_at streams }

-- nothing was sent on ports that aren't open yet
abbrev pub AreFresh : List MemStream → ℕ → Type 0
AreFresh streams opened = (number : ℕ) → opened ≤ number → (port_at streams number).sent ≡ []

-- whether a stream was closed
abbrev pub closed_in : Option MemStream → Bool
closed_in None = true
closed_in (Some stream) = stream.closed

-- The port was opened, and is not closed.
pub record IsPortOpen (streams : List MemStream) (opened number : ℕ) : Type 0 where
  pub below : number < opened
  pub live : closed_in (slice_get streams number) ≡ false

-- how many bytes can be sent on a port in all, and how many still
abbrev pub room_in : Option MemStream → ℕ
room_in None = 0
room_in (Some stream) = stream.room

abbrev pub left_in : Option MemStream → ℕ
left_in None = 0
left_in (Some stream) = stream.room - length stream.sent.items

abbrev pub room_left : List MemStream → ℕ → ℕ
room_left streams number = left_in (slice_get streams number)

-- There are as many streams as before, each with the room that it had.
pub record KeepRooms (old new : List MemStream) : Type 0 where
  pub many : length new ≡ length old
  pub room : (number : ℕ) → room_in (slice_get new number) ≡ room_in (slice_get old number)

-- No stream was closed.
abbrev pub KeepOpen : List MemStream → List MemStream → Type 0
KeepOpen old new = (number : ℕ) → closed_in (slice_get new number) ≡ closed_in (slice_get old number)

-- One stream at most was closed.
abbrev pub KeepOpenBut : List MemStream → List MemStream → ℕ → Type 0
KeepOpenBut old new closed = (number : ℕ) → number ≢ closed → closed_in (slice_get new number) ≡ closed_in (slice_get old number)

-- A call was counted, and a failure where it failed.
pub record Counts (old new : CallCount) (passed : Bool) : Type 0 where
  pub calls : new.calls ≡ counted_up old.calls
  pub faults : new.faults ≡ (if passed then old.faults else counted_up old.faults)
  pub fails : new.fails ≡ old.fails
