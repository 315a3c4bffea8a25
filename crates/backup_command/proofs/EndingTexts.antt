-- How a backup ended, by what was read, carried and written.
use Rattle.std.proofs.Common.{◌≡◌, ℕ, Bool, List, Ok, Err, Some, subst}
use Rattle.std.specs.Prelude.{if◌then◌else◌}
use Rattle.lane_steps.specs.Recipe.Spelling.{file_limit}
use Rattle.transcript.specs.declared.ending.Ending.TheVariants as endings
use Rattle.transcript.specs.Endings.{ending_text}
use Rattle.ports_link.specs.declared.refused.Refused.{Refused}
use Rattle.ports_link.specs.Refusals.{refused_text}
use Rattle.backup_command.specs.declared.carrying.BackupErr.TheVariants as errors
use Rattle.backup_command.specs.BackedUp.{BackupCall, IsBackedUp, SourceTooLong, HelloRefused, WentThrough, LaneFailed}
use Rattle.backup_command.specs.Reading.{Input, IsFileRead, IsFileTooLong}
use Rattle.backup_command.specs.Steps.{Carries}
use Rattle.backup_command.specs.Writing.{Output, HasWrittenOrCause}

pub too_long : (status : ℕ) (call : BackupCall) (input : Input) (out : Output) (byte : ℕ) → IsFileTooLong input byte
    → HasWrittenOrCause (ending_text (endings.Script 1 file_limit (Some byte))) 2 out status → call.after ≡ call.before
    → call.faults_after ≡ call.faults_before → IsBackedUp status call input out
too_long status call input out byte long writes tells faults = SourceTooLong (record {
  byte = byte;
  too_long = long;
  writes = writes;
  untouched = record { tells = tells; faults = faults };
})

pub refused : (status : ℕ) (call : BackupCall) (input : Input) (out : Output) (file text : List ℕ) (why : Refused)
    → Carries call file (Err (errors.Refused why)) text → HasWrittenOrCause (refused_text why) 8 out status
    → IsBackedUp status call input out
refused status call input out file text why carries writes = HelloRefused (record {
  why = why;
  writes = writes;
  meets = carries;
})

pub through : (status : ℕ) (call : BackupCall) (input : Input) (out : Output) (file text now : List ℕ) (stored : Bool)
    (due : ℕ) → IsFileRead input file → Carries call file (Ok stored) text → now ≡ text
    → due ≡ (if stored then 0 else 8) → HasWrittenOrCause now due out status → IsBackedUp status call input out
through status call input out file text now stored due read carries same due_is writes =
    let came = carries.2 in
    WentThrough (record {
      steps = carries.0;
      after = carries.1;
      brought = record {
        file = file;
        read = read;
        dialled = came.dialled;
        shape = came.shape;
        behind = came.behind;
        met = came.met;
        lanes = came.lanes;
        others = came.others;
      };
      stored = stored;
      stored_is = carries.3;
      writes = subst (λ (l : List ℕ). HasWrittenOrCause l (if stored then 0 else 8) out status) carries.4
          (subst (λ (l : List ℕ). HasWrittenOrCause l (if stored then 0 else 8) out status) same
          (subst (λ (n : ℕ). HasWrittenOrCause now n out status) due_is writes));
    })

pub lost : (status : ℕ) (call : BackupCall) (input : Input) (out : Output) (file text now : List ℕ) → IsFileRead input file
    → Carries call file (Err errors.Lost) text → now ≡ text → HasWrittenOrCause now 9 out status → IsBackedUp status call input out
lost status call input out file text now read carries same writes =
    let short = carries.0 in
    LaneFailed (record {
      rose = carries.1;
      steps = short.steps;
      after = short.after;
      brought = record {
        file = file;
        read = read;
        dialled = short.came.dialled;
        shape = short.came.shape;
        behind = short.came.behind;
        met = short.came.met;
        lanes = short.came.lanes;
        others = short.came.others;
      };
      writes = subst (λ (l : List ℕ). HasWrittenOrCause l 9 out status) short.text_is
          (subst (λ (l : List ℕ). HasWrittenOrCause l 9 out status) same writes);
    })
