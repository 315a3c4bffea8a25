-- Disks that a crash may leave of clouds of a session, and what they give.
use Rattle.std.specs.Prelude.{◌≡◌, ℕ, IsTrue, List, Ok}
use Rattle.std.specs.List.{Contains}
use Rattle.session_model.specs.CdEdges.Disk.{Cloud, IsImage, reads}
use Rattle.session_model.specs.ReedSolomon.Dispersal.{AreChoice}
use Rattle.lane_steps.specs.UserDedup.command.Command.{Command}
use Rattle.lane_steps.specs.UploadJob.Upload.{FileVersion}
use Rattle.read_command.specs.KeptFiles.Kept.{key_of}
use Rattle.session_model.specs.RestoreJob.Restored.{restored_file}
use Rattle.read_command.specs.Disks.{AreReadable}
use Rattle.session_model.specs.Headline.{Session, StillKept}

-- Each of these k clouds keeps the version behind the session's last line that was begun, and its disk is told, and reads as a crash may
-- now leave it.
pub record AreLeft (run : Session) (new disks : ℕ → Cloud) (named : List ℕ) (v : FileVersion) : Type 0 where
  pub choice : AreChoice run.setting.shape named
  pub kept : (cloud : ℕ) → Contains named cloud → StillKept run cloud v
  pub told : (cloud : ℕ) → Contains named cloud → IsTrue (disks cloud).told
  pub images : (cloud : ℕ) → Contains named cloud → IsImage (new cloud).now (reads (disks cloud).now)

-- Lists stand at these disks that a read opens, in the session's rooms, and they give the version's file.
pub record GiveFile (run : Session) (disks : ℕ → Cloud) (named : List ℕ) (v : FileVersion) : Type 0 where
  pub lists : ℕ → List Command
  pub readable : AreReadable run.setting.shape named disks (λ cloud. run.setting.rooms) lists
  pub file : restored_file run.setting.shape lists v.user (key_of run.setting.shape v.path v.number) named ≡ Ok v.file
