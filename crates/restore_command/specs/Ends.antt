-- How a restore over ports ends: its status, and what is written.
use Rattle.std.specs.Prelude.{◌≡◌, ℕ, false, true, List, ◌++◌, Option, Some, Result, Ok, Err}
use Rattle.std.specs.Io.KnownBytes.{Appends}
use Rattle.ports_link.specs.CdEdges.Causes.{Rose}
use Rattle.subset_restore.specs.RestoreJob.Asking.{is_loss}
use Rattle.subset_restore.specs.RestoreJob.error.RestoreErr.{RestoreErr}
use Rattle.subset_restore.specs.Refusals.{refusal_of}
use Rattle.restore_command.specs.declared.fetching.FetchErr.{FetchErr}
use Rattle.restore_command.specs.declared.fetching.FetchErr.TheVariants as errors
use Rattle.restore_command.specs.Calls.{RestoreCall}
use Rattle.restore_command.specs.Came.{FileCame, FileRefused, HelloRefused, IsLost, IsRefusalText}

-- ---- writing

-- The bytes were written, and the status is this one; or the sink failed, and a front of them was written, with 4; or
-- memory ran out, and nothing was written, with 6.
pub data HasWrittenBytes (bytes : List ℕ) (due : ℕ) (before after : Option (List ℕ)) (faults now : ℕ)
    (status : ℕ) : Type 0
  where
    InFull : status ≡ due → Appends before after bytes → now ≡ faults
        → HasWrittenBytes bytes due before after faults now status
    InPart : (front rest : List ℕ) → status ≡ 4 → bytes ≡ front ++ rest → Appends before after front → Rose faults now
        → HasWrittenBytes bytes due before after faults now status
    NotAtAll : status ≡ 6 → after ≡ before → now ≡ faults → HasWrittenBytes bytes due before after faults now status

-- ---- the whole command

-- A restore over ports ended so, over what was written before and what is written now, and over how often the sink had
-- failed and has failed now. A file came, and is written with 0; or a reply to Hello was refused, or no k of the clouds
-- gave the file, and the line that says so is written with 8. Or the ports failed, and nothing is written, with 9; or
-- memory ran out, and nothing is, with 6.
pub data IsFetched (status : ℕ) (call : RestoreCall) (before after : Option (List ℕ)) (faults now : ℕ) : Type 0 where
  Gives : (file : List ℕ) → FileCame call file → HasWrittenBytes file 0 before after faults now status
      → IsFetched status call before after faults now
  Refuses : (line : List ℕ) → IsRefusalText call line → HasWrittenBytes line 8 before after faults now status
      → IsFetched status call before after faults now
  Fails : status ≡ 9 → IsLost call → Rose call.faults_before call.faults_after → after ≡ before → now ≡ faults
      → IsFetched status call before after faults now
  Lacks : status ≡ 6 → after ≡ before → now ≡ faults → IsFetched status call before after faults now

-- ---- in front of the writing

-- why nothing was fetched, by the error of the restore itself: a lost ask where this is the error of the first k clouds
abbrev pub IsErrOf : RestoreErr → FetchErr → Type 0
IsErrOf e (errors.Hello why) = ⊥
IsErrOf e (errors.Refused why) = (refusal_of e ≡ Some why) × (is_loss e ≡ false)
IsErrOf e errors.Lost = is_loss e ≡ true
IsErrOf e errors.NoMemory = Unit {0}

-- what a fetch came to
abbrev pub Fetches : RestoreCall → Result (Unit {0}) FetchErr → List ℕ → Type 0
Fetches call (Ok u) file = FileCame call file
Fetches call (Err (errors.Hello why)) file = HelloRefused call why
Fetches call (Err (errors.Refused why)) file = (e : RestoreErr) × FileRefused call e × (refusal_of e ≡ Some why)
Fetches call (Err errors.Lost) file = IsLost call × Rose call.faults_before call.faults_after
Fetches call (Err errors.NoMemory) file = Unit {0}
