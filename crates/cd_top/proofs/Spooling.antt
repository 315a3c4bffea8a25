-- A job that is kept in a place, for clouds whose addresses are counted.
use Rattle.std.proofs.Common.{◌≡◌, ◌≤◌, ℕ, IsTrue, length, refl, subst, subst₂}
use Rattle.delete_command.specs.CdEdges.Causes.{Rose}
use Rattle.delete_command.specs.CdEdges.Disk.{Cloud}
use Rattle.delete_command.specs.CdEdges.Shelf.{IsCall}
use Rattle.command_words.specs.Asked.{AskedFile, AskedSpool, AskedResume}
use Rattle.spool_command.specs.BackupCommand.Reading.{Input}
use Rattle.spool_command.specs.BackupCommand.Sends.{HasSentOwn}
use Rattle.spool_command.specs.BackupCommand.Writing.{Output, IsSilent}
use Rattle.delete_command.specs.PortsLink.Dialled.{OnlyDialled}
use Rattle.spool_command.specs.declared.spooling.SpooledFile.{SpooledFile}
use Rattle.spool_command.specs.Spooled.{IsSpooled, SparesFilled, call_of}
use Rattle.spool_command.specs.Resumed.{HasSentKept, IsResumed}
use Rattle.cd_top.specs.Clients.{PortsAround}
use Rattle.cd_top.specs.Spool.{Beside, beside, outside_of, IsUnplaced, IsFolderAlone, IsAskedVersion, Spools, NoFolder, InFolder}
use Rattle.cd_top.specs.Spool.{Resumes, NoKept, Kept}

-- the place couldn't be made or found
pub unplaced_job : (c : Beside) (out : Output) → c.lines.after ≡ c.lines.before
    → c.lines.faults_after ≡ c.lines.faults_before → out.written_after ≡ out.written_before
    → out.faults_after ≡ out.faults_before → ((cloud : ℕ) → c.new cloud ≡ c.old cloud)
    → Rose c.total_before c.total_after → IsUnplaced 5 c out
unplaced_job c out tells ports written still same rose = record {
  status_is = refl;
  cause = rose;
  silent = record { written = written; sink = still };
  clouds = same;
  tells = tells;
  ports = ports;
}

-- what was done in the place touched nothing beside
pub alone_in : (c : Beside) → IsCall c.old c.new 0 c.total_before c.total_after
    → (IsTrue c.lines.before.told → OnlyDialled c.lines.before c.lines.after)
    → c.lines.after.told ≡ c.lines.before.told → c.lines.faults_before ≤ c.lines.faults_after → IsFolderAlone c
alone_in c call others told later = record { clouds = call; others = others; told = told; later = later }

-- the naming of the place changed no cloud and no count
pub spooled_in : (status : ℕ) (s : AskedSpool) (file : SpooledFile) (many : ℕ) (old middle new : ℕ → Cloud)
    (total count total_after : ℕ) (lines : PortsAround) (unread : Type 0) (input : Input) (out : Output)
    → many ≡ length s.file.addresses → ((cloud : ℕ) → middle cloud ≡ old cloud) → count ≡ total → IsAskedVersion s.file file
    → IsSpooled status (outside_of many (beside middle new count total_after lines)) file input out
    → SparesFilled (middle 0) (new 0) → IsFolderAlone (beside middle new count total_after lines)
    → (IsTrue lines.before.told → HasSentOwn (call_of (outside_of many (beside middle new count total_after lines)) file) input)
    → Spools status s (beside old new total total_after lines) unread input out
spooled_in status s file many old middle new total count total_after lines unread input out few same kept asked spooled
    spared alone sends =
    subst₂ (λ (o : ℕ → Cloud) (n : ℕ). Spools status s (beside o new n total_after lines) unread input out)
    (λ i cloud. same cloud i) kept (InFolder file asked (subst (λ (m : ℕ).
    IsSpooled status (outside_of m (beside middle new count total_after lines)) file input out) few spooled) spared alone
    (subst (λ (m : ℕ). IsTrue lines.before.told → HasSentOwn (call_of (outside_of m (beside middle new count total_after lines)) file) input)
    few sends))

pub resumed_in : (status : ℕ) (r : AskedResume) (many : ℕ) (old middle new : ℕ → Cloud) (total count total_after : ℕ)
    (lines : PortsAround) (out : Output) → many ≡ length r.addresses → ((cloud : ℕ) → middle cloud ≡ old cloud)
    → count ≡ total → IsResumed status (outside_of many (beside middle new count total_after lines)) out
    → IsFolderAlone (beside middle new count total_after lines)
    → (IsTrue lines.before.told → HasSentKept (outside_of many (beside middle new count total_after lines)))
    → Resumes status r (beside old new total total_after lines) out
resumed_in status r many old middle new total count total_after lines out few same kept resumed alone sends =
    subst₂ (λ (o : ℕ → Cloud) (n : ℕ). Resumes status r (beside o new n total_after lines) out)
    (λ i cloud. same cloud i) kept (Kept (subst (λ (m : ℕ).
    IsResumed status (outside_of m (beside middle new count total_after lines)) out) few resumed) alone
    (subst (λ (m : ℕ). IsTrue lines.before.told → HasSentKept (outside_of m (beside middle new count total_after lines))) few sends))
