-- How a deletion ended, by what came of it and what was written.
use Rattle.std.proofs.Common.{◌≡◌, ℕ, Bool, List, [], ◌++◌, Ok, Err, ap, ◌∙◌, subst}
use Rattle.std.specs.Prelude.{Result, if◌then◌else◌}
use Rattle.ports_link.specs.CdEdges.Causes.{Rose}
use Rattle.ports_link.specs.CdEdges.Ports.{Telling}
use Rattle.ports_link.specs.declared.greeting.Greeted.{Greeted}
use Rattle.ports_link.specs.declared.judging.AskedClouds.TheVariants.{Backup}
use Rattle.ports_link.specs.Meeting.{MeetsAll}
use Rattle.ports_link.specs.declared.refused.Refused.{Refused}
use Rattle.ports_link.specs.Refusals.{refused_text}
use Rattle.delete_command.specs.declared.asking.AskHalt.{AskHalt}
use Rattle.delete_command.specs.declared.asking.AskHalt.TheVariants as halts
use Rattle.delete_command.specs.declared.carrying.DeleteErr.TheVariants as errors
use Rattle.delete_command.specs.Deleted.{DeleteCall, delete_bytes, IsDeleted, HelloRefused, WentThrough, AskFailed}
use Rattle.delete_command.specs.Steps.{CarriesDeletion, IfAskLost, Went, of_asked}
use Rattle.delete_command.specs.Lines.{text_of}
use Rattle.delete_command.specs.Writing.{DeleteOutput, HasWrittenReplies}

-- the clouds were met, and asked
pub carried : (call : DeleteCall) (greeted : Greeted) (behind : Telling) (result : Result Bool AskHalt) (before text : List ℕ)
    → MeetsAll Backup call.addresses call.before behind (Ok greeted) → behind.told ≡ call.before.told → before ≡ []
    → Went (delete_bytes call greeted.shape) behind greeted.lines.items result before text call.after
    → IfAskLost result (Rose call.faults_before call.faults_after) → CarriesDeletion call (of_asked result) text
carried call greeted behind (Ok gone) before text meets told empty went rose = (
  went.0,
  record { greeted = greeted; behind = behind; meets = meets; told = told; asks = went.1 },
  went.2,
  went.3 ∙ ap (λ (l : List ℕ). l ++ text_of went.0) empty,
)
carried call greeted behind (Err halts.Lost) before text meets told empty went rose = (
  went.0,
  record { greeted = greeted; behind = behind; meets = meets; told = told; asks = went.1 },
  went.2 ∙ ap (λ (l : List ℕ). l ++ text_of went.0) empty,
  rose,
)
carried call greeted behind (Err halts.NoMemory) before text meets told empty went rose = tt

pub refused : (status : ℕ) (call : DeleteCall) (out : DeleteOutput) (text : List ℕ) (why : Refused)
    → CarriesDeletion call (Err (errors.Refused why)) text → HasWrittenReplies (refused_text why) 8 out status → IsDeleted status call out
refused status call out text why carries writes = HelloRefused (record { why = why; writes = writes; meets = carries })

pub through : (status : ℕ) (call : DeleteCall) (out : DeleteOutput) (text now : List ℕ) (gone : Bool) (due : ℕ)
    → CarriesDeletion call (Ok gone) text → now ≡ text → due ≡ (if gone then 0 else 8) → HasWrittenReplies now due out status
    → IsDeleted status call out
through status call out text now gone due carries same due_is writes = WentThrough (record {
  answers = carries.0;
  asked = carries.1;
  gone = gone;
  gone_is = carries.2;
  writes = subst (λ (l : List ℕ). HasWrittenReplies l (if gone then 0 else 8) out status) carries.3
      (subst (λ (l : List ℕ). HasWrittenReplies l (if gone then 0 else 8) out status) same
      (subst (λ (n : ℕ). HasWrittenReplies now n out status) due_is writes));
})

pub lost : (status : ℕ) (call : DeleteCall) (out : DeleteOutput) (text now : List ℕ) → CarriesDeletion call (Err errors.Lost) text
    → now ≡ text → HasWrittenReplies now 9 out status → IsDeleted status call out
lost status call out text now carries same writes = AskFailed (record {
  rose = carries.3;
  answers = carries.0;
  asked = carries.1;
  writes = subst (λ (l : List ℕ). HasWrittenReplies l 9 out status) carries.2
      (subst (λ (l : List ℕ). HasWrittenReplies l 9 out status) same writes);
})
