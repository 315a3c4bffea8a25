-- What the serving of a cloud promises.
use Rattle.std.specs.Prelude.{◌≡◌, ◌⊎◌, ℕ, ◌<◌, ◌≤◌, true, IsTrue, List, [], ◌∷◌, ◌++◌, length, Option, Ok}
use Rattle.std.specs.Io.KnownBytes.{Appends}
use Rattle.std.specs.List.{Contains}
use Rattle.ports_link.specs.CdBase.ids.CloudNo.{CloudNo}
use Rattle.ports_link.specs.CdBase.shape.Shape.{Shape}
use Rattle.share_server.specs.CdEdges.Causes.{Rose}
use Rattle.share_server.specs.CdEdges.area.Area.TheVariants.{Journal}
use Rattle.share_server.specs.CdEdges.Disk.{Cloud, reads}
use Rattle.share_server.specs.CdEdges.Ports.{Telling}
use Rattle.share_server.specs.CdEdges.Shelf.{HasFailed, KeepsCounts, Stays}
use Rattle.share_server.specs.CommitJournal.errors.OpenErr.{OpenErr}
use Rattle.share_server.specs.CommitJournal.errors.OpenErr.TheVariants as errors
use Rattle.share_server.specs.JournalStart.rooms.UserRooms.{UserRooms}
use Rattle.share_server.specs.JournalStart.start.Header.{Header}
use Rattle.share_server.specs.JournalStart.start.Start.{Start}
use Rattle.share_server.specs.JournalStart.Ranges.{AreRooms, usual_rooms}
use Rattle.share_server.specs.JournalHalves.Beginnings.{IsUnbegun}
use Rattle.share_server.specs.JournalHalves.Findings.{IsFoundDamage}
use Rattle.share_server.specs.JournalHalves.Halves.{IsCurrent}
use Rattle.share_server.specs.CommitJournal.Openings.{OnFault}
use Rattle.share_server.specs.UserDedup.command.Command.{Command}
use Rattle.share_server.specs.UserDedup.Exec.{Peer, MaySettleAs}
use Rattle.share_server.specs.CloudMemory.Rooms.{memory_of}
use Rattle.share_server.specs.CloudOpening.Exact.{Opens}
use Rattle.share_server.specs.CloudOpening.Spared.{IsOkOrFault, Spares}
use Rattle.share_server.specs.Openings.{OpensTo, OtherStoreIs}
use Rattle.share_server.specs.UserDedup.Spending.{IsWithin}
use Rattle.share_server.specs.CloudAreas.Peers.{ImagesNow, ImagesSince, StandsAs}
use Rattle.share_server.specs.CloudAreas.Standing.{StandsFor}
use Rattle.serve_command.specs.Serving.{HeldStore, RepliesOne, ServesOne, standing}
use Rattle.serve_command.specs.declared.served.Served.{Served}
use Rattle.share_server.specs.Names.{header_of}
use Rattle.share_server.specs.CloudStore.Store.{IsOpen}
use Rattle.share_server.specs.Serving.{an_error, settled_with, some_commands, IsReadToEnd}
use Rattle.ports_link.specs.Transcript.Endings.{ending_text}
use Rattle.ports_link.specs.Transcript.ending.Ending.TheVariants as endings
use Rattle.serve_command.specs.Lines.{ready_text, connection_text, serving_text}
use Rattle.serve_command.specs.Runs.{ServeRun}

-- the sink: its bytes and its count of faults, before and after
pub record ServeOutput : Type 0 where
  pub written_before : Option (List ℕ)
  pub written_after : Option (List ℕ)
  pub faults_before : ℕ
  pub faults_after : ℕ

abbrev pub output_of : Option (List ℕ) → Option (List ℕ) → ℕ → ℕ → ServeOutput
output_of before after faults now =
    record { written_before = before; written_after = after; faults_before = faults; faults_after = now }

-- what is served, and what the outside tells before and after: the sink, the shelf's clouds with their count of faults
-- in all, and the ports with theirs
pub record ServeCall : Type 0 where
  pub shape : Shape
  pub cloud : CloudNo
  pub address : List ℕ
  pub count : ℕ
  pub out : ServeOutput
  pub old : ℕ → Cloud
  pub new : ℕ → Cloud
  pub total_before : ℕ
  pub total_after : ℕ
  pub tells_before : Telling
  pub tells_after : Telling
  pub ports_before : ℕ
  pub ports_after : ℕ

-- the served cloud, before and after
abbrev pub old_cloud : ServeCall → Cloud
old_cloud call = call.old call.cloud.0

abbrev pub new_cloud : ServeCall → Cloud
new_cloud call = call.new call.cloud.0

-- the header of the served cloud's journal in these rooms
abbrev pub own_header : UserRooms → ServeCall → Header
own_header rooms call = header_of call.shape rooms call.cloud.0

-- ---- no memory

-- Memory ran out before anything was done but a read of the journal.
pub record IsUnmade (status : ℕ) (call : ServeCall) : Type 0 where
  pub status_is : status ≡ 6
  pub written : call.out.written_after ≡ call.out.written_before
  pub sink : call.out.faults_after ≡ call.out.faults_before
  pub clouds : call.new ≡ call.old
  pub total : call.total_after ≡ call.total_before
  pub tells : call.tells_after ≡ call.tells_before
  pub ports : call.ports_after ≡ call.ports_before

-- ---- a cloud that isn't opened

-- The opening ended with this error. On a told cloud it is what the bytes of the areas come to, record by record,
-- unless a device call failed; the areas are spared, whatever they hold; and each image since then stands for one of
-- the lists that the images stood for.
pub record IsOpeningRefused (rooms : UserRooms) (call : ServeCall) (error : OpenErr) : Type 0 where
  pub exact : IsTrue (old_cloud call).told → OnFault (an_error error) (Unit {0})
      (OpensTo (own_header rooms call) true (reads (old_cloud call).now) (an_error error))
  pub other_store : IsTrue (old_cloud call).told
      → OtherStoreIs ((old_cloud call).now Journal).read (own_header rooms call) (an_error error)
  pub whole : IsTrue (old_cloud call).told → (list : List Command)
      → StandsFor (reads (old_cloud call).now) (own_header rooms call) list
      → IsWithin call.shape rooms list → IsOkOrFault (an_error error)
  pub counts : OnFault (an_error error)
      (HasFailed (old_cloud call) (new_cloud call) call.total_before call.total_after)
      (KeepsCounts (old_cloud call) (new_cloud call) call.total_before call.total_after)
  pub spared : IsTrue (old_cloud call).told
      → Spares (own_header rooms call) true (old_cloud call) (new_cloud call) (an_error error)
  pub kept : IsTrue (old_cloud call).told → (lists : List (List Command))
      → ImagesNow (old_cloud call) (own_header rooms call) (Contains lists)
      → ImagesSince (old_cloud call) (new_cloud call) (own_header rooms call) (Contains lists)

-- the status for the error, and the last line
abbrev pub Reports : CloudNo → OpenErr → ℕ → List ℕ → Type 0
Reports cloud errors.Fault status line = (status ≡ 5) × (line ≡ ending_text (endings.Shelf cloud))
Reports cloud (errors.Damaged at byte) status line = (status ≡ 7) × (line ≡ ending_text (endings.Damaged cloud at byte))
Reports cloud (errors.OtherStore found asked at) status line =
    (status ≡ 7) × (line ≡ ending_text (endings.Other cloud found.format found.shape.n found.shape.k found.cloud))
Reports cloud (errors.NotBegun len) status line = ⊥

-- All of a text was written.
pub record IsTextWhole (out : ServeOutput) (text : List ℕ) : Type 0 where
  pub written : Appends out.written_before out.written_after text
  pub sink : out.faults_after ≡ out.faults_before

-- The sink failed in a line, behind what stands before it.
pub record IsSinkCut (status : ℕ) (out : ServeOutput) (front line : List ℕ) : Type 0 where
  pub status_is : status ≡ 4
  pub part : List ℕ
  pub rest : List ℕ
  pub parted : line ≡ part ++ rest
  pub written : Appends out.written_before out.written_after (front ++ part)
  pub sink : Rose out.faults_before out.faults_after

-- Memory ran out for a line, and nothing of it was written.
pub record IsLeftOut (status : ℕ) (out : ServeOutput) (front : List ℕ) : Type 0 where
  pub status_is : status ≡ 6
  pub whole : IsTextWhole out front

-- What is written of the error: its last line, whole with its status, or a front of it. No port was touched.
pub record IsReported (status : ℕ) (call : ServeCall) (error : OpenErr) : Type 0 where
  pub due : ℕ
  pub line : List ℕ
  pub reports : Reports call.cloud error due line
  pub ends : ((status ≡ due) × IsTextWhole call.out line)
      ⊎ (IsSinkCut status call.out [] line ⊎ IsLeftOut status call.out [])
  pub tells : call.tells_after ≡ call.tells_before
  pub ports : call.ports_after ≡ call.ports_before

-- The cloud wasn't opened.
pub record IsUnopenedToServe (rooms : UserRooms) (status : ℕ) (call : ServeCall) : Type 0 where
  pub error : OpenErr
  pub refuses : IsOpeningRefused rooms call error
  pub reported : IsReported status call error

-- ---- connections

-- The line that is due behind these connections, and the lines before it.
abbrev pub IsLastLine : List ℕ → List Served → List ℕ → List ℕ → Type 0
IsLastLine address all front line =
    ((all ≡ []) × (front ≡ []) × (line ≡ ready_text address))
    ⊎ ((before : List Served) × (last : Served) × (all ≡ before ++ last ∷ []) × (front ≡ serving_text address before)
    × (line ≡ connection_text (length all) last))

-- As many connections as were asked for were served, and all lines are written.
pub record IsServingDone (status : ℕ) (address : List ℕ) (count : ℕ) (out : ServeOutput) (all : List Served)
    (after now : ℕ)
    : Type 0 where
  pub status_is : status ≡ 0
  pub many : length all ≡ count
  pub whole : IsTextWhole out (serving_text address all)
  pub ports : now ≡ after

-- The line that was due wasn't written whole, and nothing was done behind it.
pub record IsServingStopped (status : ℕ) (address : List ℕ) (count : ℕ) (out : ServeOutput) (all : List Served)
    (after now : ℕ)
    : Type 0 where
  pub few : length all ≤ count
  pub front : List ℕ
  pub line : List ℕ
  pub last : IsLastLine address all front line
  pub ends : IsSinkCut status out front line ⊎ IsLeftOut status out front
  pub ports : now ≡ after

-- The ports failed, and no further connection was accepted; or they failed before there was any, and no line is
-- written.
pub record IsConnectionRefused (status : ℕ) (address : List ℕ) (count : ℕ) (out : ServeOutput) (all : List Served)
    (after now : ℕ)
    : Type 0 where
  pub status_is : status ≡ 9
  pub few : length all < count
  pub whole : IsTextWhole out (serving_text address all) ⊎ ((all ≡ []) × IsTextWhole out [])
  pub ports : Rose after now

-- How the serving ended behind these connections, the last of which left this count of the ports' faults: by what was
-- written, and by the count now.
abbrev pub HasServingEnded : ℕ → List ℕ → ℕ → ServeOutput → List Served → ℕ → ℕ → Type 0
HasServingEnded status address count out all after now = IsServingDone status address count out all after now
    ⊎ (IsServingStopped status address count out all after now
    ⊎ IsConnectionRefused status address count out all after now)

-- What the opening left, of an open server: no count rose. Over a told cloud its memory is what the bytes of the areas
-- came to, record by record; its journal was read to its end; they are spared; and each image since stands for one of the lists that the images stood
-- for.
pub record IsLeftOpen (rooms : UserRooms) (call : ServeCall) (opened : HeldStore) : Type 0 where
  pub header : opened.store.header ≡ own_header rooms call
  pub at_end : IsOpen opened.store
  pub counts : KeepsCounts (old_cloud call) opened.cloud call.total_before opened.total
  pub told : opened.cloud.told ≡ (old_cloud call).told
  pub exact : IsTrue (old_cloud call).told → (commands : ℕ)
      × Opens (own_header rooms call) true (reads (old_cloud call).now) (memory_of opened.store.memory) (Ok commands)
      × Spares (own_header rooms call) true (old_cloud call) opened.cloud (some_commands commands)
  pub read : IsTrue (old_cloud call).told → IsReadToEnd opened.store opened.cloud
  pub kept : IsTrue (old_cloud call).told → (lists : List (List Command))
      → ImagesNow (old_cloud call) (own_header rooms call) (Contains lists)
      → ImagesSince (old_cloud call) opened.cloud (own_header rooms call) (Contains lists)

-- Where the areas of a told cloud stood for a list: behind the opening they stand for it, with nothing pending, and the
-- first connection begins so. Each image between two requests stands for a list that the cloud has there, or for that
-- list with the command of the request that is answered next; and each image now stands for the list that the last
-- connection left, or for it with its pending command, all within the rooms.
pub record HasServed (rooms : UserRooms) (call : ServeCall) (opened : Cloud) (all : List Served) (after : ℕ)
    (list : List Command)
    : Type 0 where
  pub begins : StandsAs opened (own_header rooms call) (settled_with list (old_cloud call))
  pub left : Peer
  pub run : ServeRun (ServesOne (own_header rooms call)) call.tells_before call.tells_after
      (standing (settled_with list (old_cloud call)) opened) call.ports_before all
      (standing left (new_cloud call)) after
  pub stands : StandsAs (new_cloud call) (own_header rooms call) left
  pub within : (settled : List Command) → MaySettleAs left settled → IsWithin call.shape rooms settled

-- The cloud was opened, and connections that ended so were served, from what the opening left to what is held now: each
-- request was replied to as a server does whatever the cloud holds, and over a list by its rules.
pub record IsOpenedToServe (rooms : UserRooms) (status : ℕ) (call : ServeCall) : Type 0 where
  pub opened : HeldStore
  pub opens : IsLeftOpen rooms call opened
  pub all : List Served
  pub after : ℕ
  pub last : HeldStore
  pub replied : ServeRun RepliesOne call.tells_before call.tells_after opened call.ports_before all last after
  pub cloud : last.cloud ≡ new_cloud call
  pub total : last.total ≡ call.total_after
  pub served : IsTrue (old_cloud call).told → (list : List Command)
      → StandsFor (reads (old_cloud call).now) (own_header rooms call) list
      → IsWithin call.shape rooms list → HasServed rooms call opened.cloud all after list
  pub ends : HasServingEnded status call.address call.count call.out all after call.ports_after
  pub told : call.tells_after.told ≡ call.tells_before.told

abbrev pub IsUnopenedOrServed : UserRooms → ℕ → ServeCall → Type 0
IsUnopenedOrServed rooms status call = IsUnopenedToServe rooms status call ⊎ IsOpenedToServe rooms status call

-- ---- the rooms

-- The rooms that a journal of these bytes has: those of its current half's start, and the usual ones where no half is
-- begun.
abbrev pub HasJournalRooms : List ℕ → UserRooms → Type 0
HasJournalRooms journal rooms = (IsUnbegun journal × (rooms ≡ usual_rooms))
    ⊎ ((half : ℕ) × (start : Start) × IsCurrent journal half start × (rooms ≡ start.header.rooms))

-- Why a cloud's rooms aren't found: a read failed, or the starts of its journal's halves are damaged.
abbrev pub IsUnreadable : Cloud → OpenErr → Type 0
IsUnreadable cloud errors.Fault = Unit {0}
IsUnreadable cloud (errors.Damaged at byte) = IsTrue cloud.told → IsFoundDamage (cloud.now Journal).read at byte
IsUnreadable cloud (errors.OtherStore found asked at) = ⊥
IsUnreadable cloud (errors.NotBegun len) = ⊥

-- No rooms were found. Nothing of the cloud's areas changed.
pub record IsUnfound (status : ℕ) (call : ServeCall) : Type 0 where
  pub error : OpenErr
  pub unreadable : IsUnreadable (old_cloud call) error
  pub stays : Stays (old_cloud call) (new_cloud call)
  pub counts : OnFault (an_error error)
      (HasFailed (old_cloud call) (new_cloud call) call.total_before call.total_after)
      (KeepsCounts (old_cloud call) (new_cloud call) call.total_before call.total_after)
  pub reported : IsReported status call error

-- The cloud was to be opened with allowed rooms, which are those that a told cloud's journal has.
pub record IsInRooms (status : ℕ) (call : ServeCall) : Type 0 where
  pub rooms : UserRooms
  pub allowed : AreRooms rooms
  pub found : IsTrue (old_cloud call).told → HasJournalRooms ((old_cloud call).now Journal).read rooms
  pub served : IsUnopenedOrServed rooms status call

-- The whole promise.
abbrev pub IsServed : ℕ → ServeCall → Type 0
IsServed status call = IsUnmade status call ⊎ (IsUnfound status call ⊎ IsInRooms status call)
