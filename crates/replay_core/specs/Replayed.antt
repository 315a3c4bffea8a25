-- What a replay promises of its session, and the status of its end.
use Rattle.std.specs.Prelude.{◌≡◌, ℕ, ◌<◌, ◌≤◌, List, [], IsTrue}
use Rattle.std.specs.List.{Contains}
use Rattle.share_server.specs.CdEdges.area.Area.{Area}
use Rattle.share_server.specs.CdEdges.Disk.{Cloud, Image, IsImage, reads}
use Rattle.share_server.specs.UserDedup.command.Command.{Command}
use Rattle.share_server.specs.UserDedup.Exec.{MaySettleAs}
use Rattle.share_server.specs.CloudAreas.Standing.{StandsFor}
use Rattle.two_worlds.specs.Session.event.Event.TheVariants as events
use Rattle.replay_core.specs.declared.end.ReplayEnd.{ReplayEnd}
use Rattle.replay_core.specs.declared.end.ReplayEnd.TheVariants as ends
use Rattle.script_lines.specs.SessionModel.Headline.{Session, IsRun, script_in, GivesAcknowledged, GivesFromMore, DisksKeep, DisksStand, AnswersPrivately}
use Rattle.script_lines.specs.SessionModel.Faults.{FaultsRose}
use Rattle.script_lines.specs.SessionModel.Steps.{cloud_no}
use Rattle.script_lines.specs.At.{header_in}
use Rattle.two_worlds.specs.Worlds.{TwoWorlds}

-- No count of a cloud is above the shelf's, its armings are the shelf's, and with status 0 its faults too.
pub record HasCounts (status : ℕ) (new : ℕ → Cloud) (run : Session) (cloud : ℕ) : Type 0 where
  pub faults : (run.last cloud).faults ≤ (new cloud).faults
  pub armings : (run.last cloud).armings ≡ (new cloud).armings
  pub same : status ≡ 0 → (run.last cloud).faults ≡ (new cloud).faults

-- every image of every told cloud is empty
abbrev pub BeginsEmpty : (ℕ → Cloud) → Type 0
BeginsEmpty clouds =
    (cloud : ℕ) (image : Image) (area : Area) → IsTrue (clouds cloud).told → IsImage (clouds cloud).now image
    → image area ≡ []

-- a cloud that no line arms, one that was begun among them, was armed as often before as behind all
abbrev pub ArmsByLines : (ℕ → Cloud) → (ℕ → Cloud) → Session → Type 0
ArmsByLines old new run =
    (cloud : ℕ) → ((calls keep : ℕ) → ¬ Contains (script_in run) (events.Arm (cloud_no cloud) calls keep))
    → (new cloud).armings ≡ (old cloud).armings

-- The headline: between these two states of the clouds the session was carried out.
pub record Replayed (status : ℕ) (old new : ℕ → Cloud) (run : Session) : Type 0 where
  pub told_so : (cloud : ℕ) → run.setting.told cloud ≡ (old cloud).told
  pub carried : IsRun old run
  pub counts : (cloud : ℕ) → cloud < run.setting.shape.n → HasCounts status new run cloud
  -- only an arm line arms
  pub arms : ArmsByLines old new run
  -- the clouds that the store doesn't have are as they were
  pub others : (cloud : ℕ) → run.setting.shape.n ≤ cloud → new cloud ≡ old cloud
  -- a get gives each version that its clouds acknowledged, and so does a read of the disks after a crash
  pub given : GivesAcknowledged run
  -- and each that some of its clouds acknowledged, where the others have none of it
  pub more : GivesFromMore run
  pub kept : DisksKeep run new
  -- after each crash a cloud holds a prefix of its commands with every acknowledged one
  pub disks : BeginsEmpty old → DisksStand run old new
  -- what a told cloud reads in the end stands for its list
  pub reads_so : status ≡ 0 → (cloud : ℕ) → cloud < run.setting.shape.n → IsTrue (old cloud).told →
      (list : List Command) × MaySettleAs (run.last cloud) list
      × StandsFor (reads (new cloud).now) (header_in run.setting cloud) list
  -- each reply to an upload follows from that user's own commands
  pub private : AnswersPrivately run
  -- an answer says `fault` only of a cloud whose count rose, so where none rises no answer says it
  pub faults : FaultsRose old run
  -- over told clouds none of which failed, each user is answered as in a session of that user alone
  pub worlds : TwoWorlds old run

-- the status of an end
abbrev pub status_of : ReplayEnd → ℕ
status_of (ends.Done events) = 0
status_of (ends.Script line at found) = 2
status_of ends.SourceFault = 3
status_of ends.SinkFault = 4
status_of (ends.ShelfFault cloud) = 5
status_of ends.NoMemory = 6
status_of (ends.NotEmpty cloud area len) = 7
status_of (ends.Damaged cloud at byte) = 7
