-- What connections do, one after another. No public clause cites this module.
use Rattle.std.specs.Prelude.{◌≡◌, ◌⊎◌, ℕ, ◌+◌, List, [], IsTrue, Result, Ok, Err}
use Rattle.ports_link.specs.CdBase.ids.CloudNo.{CloudNo}
use Rattle.share_server.specs.CdEdges.Disk.{Cloud}
use Rattle.share_server.specs.CdEdges.Ports.{Telling, OthersStay}
use Rattle.share_server.specs.CdEdges.Shelf.{IsCall, HasFailed, KeepsCounts}
use Rattle.share_server.specs.CommitJournal.errors.OpenErr.{OpenErr}
use Rattle.share_server.specs.CommitJournal.Openings.{OnFault}
use Rattle.share_server.specs.JournalStart.start.Header.{Header}
use Rattle.share_server.specs.UserDedup.Exec.{Peer}
use Rattle.serve_command.specs.Serving.{HeldStore, RepliesOne, ServesOne, held_of, standing}
use Rattle.serve_command.specs.declared.served.Served.{Served}
use Rattle.serve_command.specs.Connection.{Responds}
use Rattle.share_server.specs.Serving.{IsServing}
use Rattle.share_server.specs.declared.server.Server.{Server}
use Rattle.serve_command.specs.Runs.{Connection, HasConnectionBytes, ServeRun}
use Rattle.share_server.specs.JournalStart.rooms.UserRooms.{UserRooms}
use Rattle.serve_command.specs.Served.{ServeCall, IsUnmade, IsUnopenedOrServed, ServeOutput, HasServingEnded, IsTextWhole, IsSinkCut, IsLeftOut, Reports}
use Rattle.serve_command.specs.declared.stop.ServingStop.{ServingStop}
use Rattle.serve_command.specs.declared.stop.ServingStop.TheVariants as stops

-- a server, the clouds of its shelf with their count of faults in all, and what the ports tell
pub record ServingMoment : Type 0 where
  pub server : Server
  pub clouds : ℕ → Cloud
  pub total : ℕ
  pub tells : Telling

abbrev pub moment_of : Server → (ℕ → Cloud) → ℕ → Telling → ServingMoment
moment_of server clouds total tells = record { server = server; clouds = clouds; total = total; tells = tells }

-- the server of this header with its cloud
abbrev pub held_at : Header → ServingMoment → HeldStore
held_at header m = held_of m.server.store (m.clouds header.cloud.0) m.total

-- The next port was opened, and has the connection's bytes. No other port changes.
pub record PassesNext (old new : Telling) (connection : Connection) : Type 0 where
  pub opened : new.opened ≡ old.opened + 1
  pub bytes : HasConnectionBytes (old.port old.opened) (new.port old.opened) connection
  pub others : OthersStay old new old.opened

-- One connection was served, from a state to a state.
pub record OneServed {S : Type 0} (step : S → List ℕ → List ℕ → S → Type 0) (old new : Telling) (first last : S)
    (ended : Served)
    : Type 0 where
  pub requests : List (List ℕ)
  pub replies : List (List ℕ)
  pub responds : Responds step first requests replies last
  pub bytes : IsTrue old.told → PassesNext old new (record { ended = ended; requests = requests; replies = replies })

-- One connection was served by the server of this header.
pub record HasServedConnection (header : Header) (old new : ServingMoment) (ended : Served) : Type 0 where
  pub same : new.server.store.header ≡ old.server.store.header
  pub call : IsCall old.clouds new.clouds header.cloud.0 old.total new.total
  pub told : new.tells.told ≡ old.tells.told
  pub replied : OneServed RepliesOne old.tells new.tells (held_at header old) (held_at header new) ended
  pub served : IsTrue (old.clouds header.cloud.0).told → (p : Peer) → IsServing old.server (old.clouds header.cloud.0) p
      → (q : Peer) × IsServing new.server (new.clouds header.cloud.0) q
      × OneServed (ServesOne header) old.tells new.tells
      (standing p (old.clouds header.cloud.0)) (standing q (new.clouds header.cloud.0)) ended

-- Connections that ended so were served, from a count of the ports' faults to a count.
pub record HasServedConnections (header : Header) (old new : ServingMoment) (before : ℕ) (all : List Served) (after : ℕ)
    : Type 0 where
  pub same : new.server.store.header ≡ old.server.store.header
  pub call : IsCall old.clouds new.clouds header.cloud.0 old.total new.total
  pub told : new.tells.told ≡ old.tells.told
  pub replied : ServeRun RepliesOne old.tells new.tells (held_at header old) before all (held_at header new) after
  pub served : IsTrue (old.clouds header.cloud.0).told → (p : Peer) → IsServing old.server (old.clouds header.cloud.0) p
      → (q : Peer) × IsServing new.server (new.clouds header.cloud.0) q
      × ServeRun (ServesOne header) old.tells new.tells
      (standing p (old.clouds header.cloud.0)) before all (standing q (new.clouds header.cloud.0)) after

-- What a search for rooms does to the counts: they rise where a read failed, and else they stay.
abbrev pub CountsRoomSearch : {T : Type 0} → Cloud → Cloud → ℕ → ℕ → Result T OpenErr → Type 0
CountsRoomSearch old new before now result = OnFault result (HasFailed old new before now)
    (KeepsCounts old new before now)

-- A line was written; or the sink failed in it; or memory ran out for it.
abbrev pub WritesLine : List ℕ → ServeOutput → Result (Unit {0}) ServingStop → Type 0
WritesLine line out (Ok value) = IsTextWhole out line
WritesLine line out (Err stops.SinkFault) = IsSinkCut 4 out [] line
WritesLine line out (Err stops.NoMemory) = IsLeftOut 6 out []
WritesLine line out (Err stops.PortsFault) = ⊥

-- Of a cloud that isn't opened for the error the last line was written, and the status is the error's; or the line
-- wasn't.
pub record IsClosedUnopened (cloud : CloudNo) (error : OpenErr) (out : ServeOutput) (status : ℕ) : Type 0 where
  pub due : ℕ
  pub line : List ℕ
  pub reports : Reports cloud error due line
  pub ends : ((status ≡ due) × IsTextWhole out line) ⊎ (IsSinkCut status out [] line ⊎ IsLeftOut status out [])

-- Memory ran out before the cloud was opened with these rooms, or it was opened with them or not.
abbrev pub IsUnmadeOrServed : UserRooms → ℕ → ServeCall → Type 0
IsUnmadeOrServed rooms status call = IsUnmade status call ⊎ IsUnopenedOrServed rooms status call

-- the status of a serving that was stopped, or not
abbrev pub status_by : Result (Unit {0}) ServingStop → ℕ
status_by (Ok value) = 0
status_by (Err stops.SinkFault) = 4
status_by (Err stops.NoMemory) = 6
status_by (Err stops.PortsFault) = 9

-- Connections were served, up to the end that the status says.
pub record ServesAll (status : ℕ) (header : Header) (old new : ServingMoment) (address : List ℕ) (count : ℕ)
    (out : ServeOutput)
    (before now : ℕ) : Type 0 where
  pub all : List Served
  pub after : ℕ
  pub went : HasServedConnections header old new before all after
  pub ends : HasServingEnded status address count out all after now
