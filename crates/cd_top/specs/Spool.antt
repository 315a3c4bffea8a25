-- What the words `spool DIR USER PATH VERSION ADDR..` and `resume DIR ADDR..` promise.
use Rattle.std.specs.Prelude.{◌≡◌, ◌≤◌, ℕ, IsTrue, length}
use Rattle.delete_command.specs.CdEdges.Causes.{Rose}
use Rattle.delete_command.specs.CdEdges.Disk.{Cloud}
use Rattle.delete_command.specs.CdEdges.Shelf.{IsCall}
use Rattle.command_words.specs.Asked.{AskedFile, AskedSpool, AskedResume}
use Rattle.spool_command.specs.BackupCommand.Reading.{Input}
use Rattle.spool_command.specs.BackupCommand.Sends.{HasSentOwn}
use Rattle.spool_command.specs.BackupCommand.Writing.{Output, IsSilent}
use Rattle.delete_command.specs.PortsLink.Dialled.{OnlyDialled}
use Rattle.spool_command.specs.declared.spooling.SpooledFile.{SpooledFile}
use Rattle.spool_command.specs.Spooled.{IsSpooled, SpoolOutside, SparesFilled, call_of}
use Rattle.spool_command.specs.Resumed.{HasSentKept, IsResumed}
use Rattle.cd_top.specs.Clients.{PortsAround}

-- what is told before and after: the clouds of the shelf, how often it had failed and has failed, and the ports
pub record Beside : Type 0 where
  pub old : ℕ → Cloud
  pub new : ℕ → Cloud
  pub total_before : ℕ
  pub total_after : ℕ
  pub lines : PortsAround

abbrev pub beside : (ℕ → Cloud) → (ℕ → Cloud) → ℕ → ℕ → PortsAround → Beside
beside old new total total_after lines = record {
  old = old;
  new = new;
  total_before = total;
  total_after = total_after;
  lines = lines;
}

-- so many addresses over these ports, with the client's own folder, which is cloud 0 of the shelf
abbrev pub outside_of : ℕ → Beside → SpoolOutside
outside_of addresses c = record {
  addresses = addresses;
  before = c.lines.before;
  after = c.lines.after;
  faults_before = c.lines.faults_before;
  faults_after = c.lines.faults_after;
  folder = c.old 0;
  left = c.new 0;
}

-- DIR failed: nothing was written, no cloud changed, and no port was touched.
pub record IsUnplaced (status : ℕ) (c : Beside) (out : Output) : Type 0 where
  pub status_is : status ≡ 5
  pub cause : Rose c.total_before c.total_after
  pub silent : IsSilent out
  pub clouds : (cloud : ℕ) → c.new cloud ≡ c.old cloud
  pub tells : c.lines.after ≡ c.lines.before
  pub ports : c.lines.faults_after ≡ c.lines.faults_before

-- No cloud but the folder was touched, and ports that were open before are as they were.
pub record IsFolderAlone (c : Beside) : Type 0 where
  pub clouds : IsCall c.old c.new 0 c.total_before c.total_after
  pub others : IsTrue c.lines.before.told → OnlyDialled c.lines.before c.lines.after
  pub told : c.lines.after.told ≡ c.lines.before.told
  pub later : c.lines.faults_before ≤ c.lines.faults_after

-- this is the version of the user's file that is asked for
pub record IsAskedVersion (f : AskedFile) (file : SpooledFile) : Type 0 where
  pub user : file.user ≡ f.user
  pub path : file.path.now ≡ f.path
  pub version : file.version ≡ f.version

-- The whole promise of `spool`: DIR failed, and nothing was read of the source; or the file in the source was backed up, and
-- kept in the folder until each cloud has it: what was read, sent, received, kept and written, by the way it ended. A folder that
-- isn't empty stays as it is. Whatever the end is, nothing was sent but Hellos and the requests of the file's job.
pub data Spools (status : ℕ) (s : AskedSpool) (c : Beside) (unread : Type 0) (input : Input) (out : Output) : Type 0 where
  NoFolder : unread → IsUnplaced status c out → Spools status s c unread input out
  InFolder : (file : SpooledFile) → IsAskedVersion s.file file
      → IsSpooled status (outside_of (length s.file.addresses) c) file input out
      → SparesFilled (c.old 0) (c.new 0) → IsFolderAlone c
      → (IsTrue c.lines.before.told → HasSentOwn (call_of (outside_of (length s.file.addresses) c) file) input)
      → Spools status s c unread input out

-- That of `resume`: DIR failed; or the job that the folder keeps went on: what was sent, received, kept and written, by the
-- way it ended. Whatever the end is, nothing was sent but Hellos and the requests of that job.
pub data Resumes (status : ℕ) (r : AskedResume) (c : Beside) (out : Output) : Type 0 where
  NoKept : IsUnplaced status c out → Resumes status r c out
  Kept : IsResumed status (outside_of (length r.addresses) c) out → IsFolderAlone c
      → (IsTrue c.lines.before.told → HasSentKept (outside_of (length r.addresses) c))
      → Resumes status r c out
