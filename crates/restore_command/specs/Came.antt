-- What a restore over ports came to: a file, or a refusal.
use Rattle.std.specs.Prelude.{◌≡◌, ◌⊎◌, ℕ, false, true, List, Some, Err}
use Rattle.std.specs.List.{Contains}
use Rattle.ports_link.specs.CdEdges.Ports.{Telling}
use Rattle.subset_restore.specs.RestoreJob.Asking.{is_loss}
use Rattle.subset_restore.specs.RestoreJob.Refusals.{Names}
use Rattle.subset_restore.specs.RestoreJob.error.RestoreErr.{RestoreErr}
use Rattle.subset_restore.specs.Transcript.refusal.Refusal.{Refusal}
use Rattle.ports_link.specs.declared.greeting.Greeted.{Greeted}
use Rattle.ports_link.specs.declared.meeting.MeetErr.TheVariants as unmet
use Rattle.ports_link.specs.declared.judging.AskedClouds.TheVariants as asked
use Rattle.ports_link.specs.declared.refused.Refused.{Refused}
use Rattle.ports_link.specs.Hellos.{clouds_of}
use Rattle.ports_link.specs.Meeting.{MeetsAll}
use Rattle.ports_link.specs.Refusals.{refused_text}
use Rattle.subset_restore.specs.Refusals.{refusal_of, refusal_text}
use Rattle.restore_command.specs.Calls.{RestoreCall, HasMetClouds}
use Rattle.restore_command.specs.Tried.{FileFrom, NotFrom}

-- The clouds were met, and the bytes came from k of them.
pub record FileCame (call : RestoreCall) (bytes : List ℕ) : Type 0 where
  pub greeted : Greeted
  pub behind : Telling
  pub met : HasMetClouds call greeted behind
  pub came : FileFrom call greeted behind bytes

-- Addresses were dialled, in order, and each asked Hello before the next was dialled, up to the first whose reply isn't
-- as asked: it is this one, and no address behind it was dialled.
abbrev pub HelloRefused : RestoreCall → Refused → Type 0
HelloRefused call why = MeetsAll asked.Restore call.addresses call.before call.after (Err (unmet.Refused why))

-- The clouds were met, and the bytes came from no k of them. The error of the first k isn't a lost ask, and it names no
-- other clouds.
pub record FileRefused (call : RestoreCall) (e : RestoreErr) : Type 0 where
  pub greeted : Greeted
  pub behind : Telling
  pub met : HasMetClouds call greeted behind
  pub unlost : is_loss e ≡ false
  pub named : Names (Contains (clouds_of greeted.lines.items)) e
  pub none : NotFrom call greeted behind e

-- Addresses were dialled, in order, and each asked Hello before the next was dialled, up to one of which the Hello was
-- lost; no address behind it was dialled.
abbrev pub HelloLost : RestoreCall → Type 0
HelloLost call = MeetsAll asked.Restore call.addresses call.before call.after (Err unmet.Lost)

-- The same up to one that couldn't be dialled: nothing happened behind the Hello of the one before.
abbrev pub DialLost : RestoreCall → Type 0
DialLost call = MeetsAll asked.Restore call.addresses call.before call.after (Err unmet.Undialled)

-- The clouds were met, and the bytes came from no k of them: the error of the first k is a lost ask.
pub record FileLost (call : RestoreCall) : Type 0 where
  pub greeted : Greeted
  pub behind : Telling
  pub met : HasMetClouds call greeted behind
  pub e : RestoreErr
  pub lost : is_loss e ≡ true
  pub none : NotFrom call greeted behind e

-- The ports failed: in a dial or a Hello; or no k clouds gave the file, and an ask of the first k was lost.
abbrev pub IsLost : RestoreCall → Type 0
IsLost call = DialLost call ⊎ (HelloLost call ⊎ FileLost call)

-- the line of a reply to Hello that was refused, or of a refused restore
abbrev pub IsRefusalText : RestoreCall → List ℕ → Type 0
IsRefusalText call text =
    ((why : Refused) × HelloRefused call why × (text ≡ refused_text why))
    ⊎ ((e : RestoreErr) × (why : Refusal) × FileRefused call e × (refusal_of e ≡ Some why) × (text ≡ refusal_text why))
