-- What a fetch came to where the restore itself ended with an error.
use Rattle.std.proofs.Common.{◌≡◌, ◌≢◌, ℕ, true, false, List, Some, None, Result, Err, inr, refl, subst}
use Rattle.std.specs.List.{Contains}
use Rattle.ports_link.specs.CdEdges.Causes.{Rose}
use Rattle.ports_link.specs.CdEdges.Ports.{Telling}
use Rattle.ports_link.specs.Hellos.{clouds_of}
use Rattle.ports_link.specs.declared.greeting.Greeted.{Greeted}
use Rattle.subset_restore.specs.RestoreJob.Asking.{is_loss}
use Rattle.subset_restore.specs.RestoreJob.Refusals.{Names}
use Rattle.subset_restore.specs.RestoreJob.error.RestoreErr.{RestoreErr}
use Rattle.subset_restore.specs.RestoreJob.error.RestoreErr.TheVariants as refused
use Rattle.subset_restore.specs.Refusals.{refusal_of}
use Rattle.subset_restore.specs.Transcript.refusal.Refusal.{Refusal}
use Rattle.restore_command.specs.declared.fetching.FetchErr.{FetchErr}
use Rattle.restore_command.specs.declared.fetching.FetchErr.TheVariants as errors
use Rattle.restore_command.specs.Calls.{RestoreCall, HasMetClouds}
use Rattle.restore_command.specs.Tried.{CameBy, NotFrom}
use Rattle.restore_command.specs.Ends.{Fetches, IsErrOf}

-- unless memory ran out no choice gave the file
not_from : (call : RestoreCall) (greeted : Greeted) (behind : Telling) (file : List ℕ) (e : RestoreErr)
    → e ≢ refused.NoMemory
    → (let came : Result (Unit {0}) RestoreErr = Err e in CameBy call greeted behind came file)
    → NotFrom call greeted behind e
not_from call greeted behind file (refused.Missing c) plain came = came
not_from call greeted behind file (refused.Lost c) plain came = came
not_from call greeted behind file (refused.CloudFault c) plain came = came
not_from call greeted behind file (refused.CloudDamaged c at byte) plain came = came
not_from call greeted behind file (refused.CloudRotten c named other) plain came = came
not_from call greeted behind file (refused.CloudNoMemory c) plain came = came
not_from call greeted behind file (refused.Strange c kind) plain came = came
not_from call greeted behind file (refused.RecipesDiffer a b place) plain came = came
not_from call greeted behind file (refused.ShareLength c secret len wanted) plain came = came
not_from call greeted behind file (refused.BadShare c secret named other) plain came = came
not_from call greeted behind file (refused.BadSecret secret named other) plain came = came
not_from call greeted behind file (refused.BadPad secret at byte) plain came = came
not_from call greeted behind file refused.NoMemory plain came = absurd (plain refl)

-- an error that has a line isn't want of memory, nor is a lost ask
has_line : (e : RestoreErr) (why : Refusal) → refusal_of e ≡ Some why → e ≢ refused.NoMemory
has_line e why is same =
    let none : None ≡ Some why = subst (λ (x : RestoreErr). refusal_of x ≡ Some why) same is in cc

is_lost_ask : (e : RestoreErr) → is_loss e ≡ true → e ≢ refused.NoMemory
is_lost_ask e is same = let never : false ≡ true = subst (λ (x : RestoreErr). is_loss x ≡ true) same is in cc

pub not_fetched : (call : RestoreCall) (greeted : Greeted) (behind : Telling) (e : RestoreErr) (file : List ℕ) (f : FetchErr)
    → IsErrOf e f → HasMetClouds call greeted behind → Names (Contains (clouds_of greeted.lines.items)) e
    → (is_loss e ≡ true → Rose call.faults_before call.faults_after)
    → (let came : Result (Unit {0}) RestoreErr = Err e in CameBy call greeted behind came file)
    → Fetches call (Err f) file
not_fetched call greeted behind e file (errors.Hello why) is met named rose came = absurd is
not_fetched call greeted behind e file (errors.Refused why) is met named rose came = (
  e,
  record {
    greeted = greeted;
    behind = behind;
    met = met;
    unlost = is.1;
    named = named;
    none = not_from call greeted behind file e (has_line e why is.0) came;
  },
  is.0,
)
not_fetched call greeted behind e file errors.Lost is met named rose came = (
  inr (inr (record {
    greeted = greeted;
    behind = behind;
    met = met;
    e = e;
    lost = is;
    none = not_from call greeted behind file e (is_lost_ask e is) came;
  })),
  rose is,
)
not_fetched call greeted behind e file errors.NoMemory is met named rose came = tt
