-- How far a session has come behind its openings, and how a write of it ends.
use Rattle.std.specs.Prelude.{◌≡◌, ℕ, ◌<◌, ◌≤◌, ◌++◌, IsTrue, List, [], ◌∷◌, length, Option, Some, None, IfSome}
use Rattle.std.specs.Io.KnownBytes.{Appends}
use Rattle.share_server.specs.CdBase.shape.Shape.{Shape}
use Rattle.share_server.specs.CdEdges.Causes.{Rose}
use Rattle.share_server.specs.CdEdges.Disk.{Cloud}
use Rattle.share_server.specs.CloudAreas.Peers.{ImagesSince}
use Rattle.two_worlds.specs.UploadJob.Lanes.{LaneView}
use Rattle.script_lines.specs.LocalLink.fate.Fate.TheVariants.{Deliver}
use Rattle.script_lines.specs.LocalLink.link.LocalLink.{LocalLink}
use Rattle.script_lines.specs.LocalLink.Tells.{rooms_at}
use Rattle.two_worlds.specs.Session.Lines.{ReaderState}
use Rattle.two_worlds.specs.Session.Spelling.{FitsEvent, IsTyped}
use Rattle.two_worlds.specs.Session.event.Event.{Event}
use Rattle.two_worlds.specs.Transcript.line.Line.TheVariants as lines
use Rattle.two_worlds.specs.Session.Scripts.{jobs_after, jobs_of, AreLines, ScriptPlace, Says, Reaches, IsEnd}
use Rattle.two_worlds.specs.Session.Texts.{text_of}
use Rattle.script_lines.specs.SessionModel.Vault.{Setting, Vault, opening}
use Rattle.script_lines.specs.SessionModel.Run.{Answered, Turns, script_of, moments_of, answers_of, IsListIn}
use Rattle.script_lines.specs.At.{header_in, IsAtVault}
use Rattle.replay_core.specs.declared.end.ReplayEnd.{ReplayEnd}
use Rattle.replay_core.specs.declared.end.ReplayEnd.TheVariants as ends
use Rattle.replay_core.specs.Opening.{AreEmptyBelow, IsHead, IsThere}
use Rattle.replay_core.specs.Replayed.{BeginsEmpty}

-- ---- where a replay begins, and how far it has come

-- what is known as a replay begins
pub record ReplayStart : Type 0 where
  pub script : Option (List ℕ)
  pub old : ℕ → Cloud
  pub source : ℕ
  pub sink : ℕ
  pub total : ℕ
  pub written : Option (List ℕ)

-- The first line is read, the clouds read as nothing, and none is opened yet.
pub record IsReplayReady {V : Type 0} (clouds : V → ℕ → Cloud) (start : ReplayStart) (s : Setting) (link : LocalLink V)
    (reader : ReaderState) (left : Option (List ℕ)) (source : ℕ) (written : Option (List ℕ)) (sink : ℕ) : Type 0 where
  pub told : (cloud : ℕ) → s.told cloud ≡ (start.old cloud).told
  pub shape : link.servers.shape ≡ s.shape
  pub rooms : (cloud : ℕ) → cloud < s.shape.n → rooms_at link.servers cloud ≡ s.rooms
  pub fate : link.fate ≡ Deliver
  pub same : (cloud : ℕ) → clouds link.shelf.now cloud ≡ start.old cloud
  pub empty : AreEmptyBelow start.old s.shape.n
  pub read : IsHead start.script s.shape s.rooms reader left
  pub source_is : source ≡ start.source
  pub sink_is : sink ≡ start.sink
  pub written_is : written ≡ start.written

-- The clouds are opened, and these lines are answered.
pub record HasCome {V : Type 0} (clouds : V → ℕ → Cloud) (start : ReplayStart) (s : Setting) (link : LocalLink V)
    (jobs : List (List LaneView)) (reader : ReaderState) (left : Option (List ℕ)) (source : ℕ)
    (written : Option (List ℕ)) (sink : ℕ) (events : ℕ) : Type 0 where
  pub history : List Answered
  pub at : Vault
  pub told : (cloud : ℕ) → s.told cloud ≡ (start.old cloud).told
  pub began : AreEmptyBelow start.old s.shape.n
  pub count : length history ≡ events
  pub is_at : IsAtVault clouds s link jobs at
  pub turns : Turns s (opening start.old) history at
  pub are_lines : AreLines s.shape 0 (script_of history)
  pub uploads : jobs_of 0 (script_of history) ≡ length jobs
  pub images : BeginsEmpty start.old → (cloud : ℕ) → cloud < s.shape.n → IsTrue (s.told cloud)
      → ImagesSince (start.old cloud) (clouds link.shelf.now cloud) (header_in s cloud)
      (IsListIn s cloud (moments_of history) at.peers)
  pub others : (cloud : ℕ) → s.shape.n ≤ cloud → clouds link.shelf.now cloud ≡ start.old cloud
  pub read : IfSome start.script (λ script. (place : ScriptPlace)
      × Reaches script s.shape s.rooms (script_of history) place × IsThere reader left (length jobs) place)
  pub printed : Appends start.written written (text_of (lines.Opened s.shape ∷ answers_of history))
  pub source_is : source ≡ start.source
  pub sink_is : sink ≡ start.sink

-- ---- reading a line

-- from each place of a script the next line says this, or the script ends there
abbrev pub SaysNext : Shape → ℕ → ReaderState → Option (List ℕ) → Option Event → ReaderState → Option (List ℕ) → Type 0
SaysNext shape jobs reader left (Some event) reader_now left_now =
    (place : ScriptPlace) → IsThere reader left jobs place
    → (next : ScriptPlace) × Says shape place event next × IsThere reader_now left_now (jobs_after jobs event) next
SaysNext shape jobs reader left None reader_now left_now =
    (place : ScriptPlace) → IsThere reader left jobs place → IsEnd place × (left_now ≡ Some [])

-- the event is in its ranges
pub record CanBe (shape : Shape) (jobs : ℕ) (event : Event) : Type 0 where
  pub fits : FitsEvent shape jobs event
  pub typed : IsTyped event

-- ---- writing

-- a front of these bytes was written
abbrev pub AppendsFront : List ℕ → Option (List ℕ) → Option (List ℕ) → Type 0
AppendsFront bytes before now = (front : List ℕ) × (more : List ℕ) × (front ++ more ≡ bytes) × Appends before now front

-- how a replay ends where the sink fails
abbrev pub EndsSink : List ℕ → Option (List ℕ) → Option (List ℕ) → ℕ → ℕ → ReplayEnd → Type 0
EndsSink bytes before now faults_before faults_now ends.SinkFault =
    AppendsFront bytes before now × Rose faults_before faults_now
EndsSink bytes before now faults_before faults_now end = ⊥
