-- What the words of a client promise: `backup`, `restore` and `delete`, each with USER PATH VERSION ADDR..
use Rattle.std.specs.Prelude.{◌≡◌, ℕ, IsTrue, Option, List, length}
use Rattle.delete_command.specs.CdEdges.Ports.{Telling}
use Rattle.command_words.specs.Asked.{AskedFile}
use Rattle.spool_command.specs.BackupCommand.BackedUp as backing
use Rattle.spool_command.specs.BackupCommand.BackedUp.{IsBackedUp}
use Rattle.spool_command.specs.BackupCommand.Reading.{Input}
use Rattle.spool_command.specs.BackupCommand.Sends.{HasSentOwn}
use Rattle.spool_command.specs.BackupCommand.Writing.{Output}
use Rattle.delete_command.specs.Deleted as deleting
use Rattle.delete_command.specs.Deleted.{IsDeleted}
use Rattle.delete_command.specs.Writing as deletions
use Rattle.delete_command.specs.PortsLink.Dialled.{OnlyDialled}
use Rattle.restore_command.specs.Calls as restoring
use Rattle.restore_command.specs.Ends.{IsFetched}

-- what the ports tell before and after, and how often they had failed and have failed
pub record PortsAround : Type 0 where
  pub before : Telling
  pub after : Telling
  pub faults_before : ℕ
  pub faults_after : ℕ

abbrev pub lines_of : Telling → Telling → ℕ → ℕ → PortsAround
lines_of before after faults now =
    record { before = before; after = after; faults_before = faults; faults_after = now }

-- what is asked to be backed up, over these ports
abbrev pub backup_of : AskedFile → PortsAround → backing.BackupCall
backup_of f l = record {
  user = f.user;
  path = f.path;
  version = f.version;
  addresses = length f.addresses;
  before = l.before;
  after = l.after;
  faults_before = l.faults_before;
  faults_after = l.faults_after;
}

-- The file in the source was backed up: what was read, sent, received and written, by the way it ended. Ports that were
-- open before are as they were, and whatever the end is, nothing was sent but Hellos and the requests of the file's job.
pub record BacksUp (status : ℕ) (f : AskedFile) (l : PortsAround) (input : Input) (out : Output) : Type 0 where
  pub backed_up : IsBackedUp status (backup_of f l) input out
  pub others : IsTrue l.before.told → backing.BackupDialsOnly l.before l.after
  pub sends : IsTrue l.before.told → HasSentOwn (backup_of f l) input
  pub told : l.after.told ≡ l.before.told

-- what is asked to be restored, over these ports
abbrev pub restore_of : AskedFile → PortsAround → restoring.RestoreCall
restore_of f l = record {
  user = f.user;
  path = f.path;
  version = f.version;
  addresses = length f.addresses;
  before = l.before;
  after = l.after;
  faults_before = l.faults_before;
  faults_after = l.faults_after;
}

-- A version was restored: what was sent, received and written, by the way it ended. Ports that were open before are as
-- they were, and whatever the end is, nothing was sent that adds to a list.
pub record HasRestoredOrCause (status : ℕ) (f : AskedFile) (l : PortsAround) (before after : Option (List ℕ))
    (faults now : ℕ)
    : Type 0 where
  pub fetched : IsFetched status (restore_of f l) before after faults now
  pub others : IsTrue l.before.told → restoring.RestoreDialsOnly l.before l.after
  pub sends : IsTrue l.before.told → restoring.OnlyReads l.before l.after
  pub told : l.after.told ≡ l.before.told

-- what is asked to be deleted, over these ports
abbrev pub delete_of : AskedFile → PortsAround → deleting.DeleteCall
delete_of f l = record {
  user = f.user;
  path = f.path;
  version = f.version;
  addresses = length f.addresses;
  before = l.before;
  after = l.after;
  faults_before = l.faults_before;
  faults_after = l.faults_after;
}

-- A version was deleted at each cloud: what was sent, received and written, by the way it ended. Ports that were open
-- before are as they were, and whatever the end is, nothing was sent but Hellos and Deletes of this version.
pub record HasDeletedOrCause (status : ℕ) (f : AskedFile) (l : PortsAround)
    (out : deletions.DeleteOutput) : Type 0 where
  pub deleted : IsDeleted status (delete_of f l) out
  pub others : IsTrue l.before.told → OnlyDialled l.before l.after
  pub sends : IsTrue l.before.told → deleting.OnlyDeletes f.user f.path f.version l.before l.after
  pub told : l.after.told ≡ l.before.told
