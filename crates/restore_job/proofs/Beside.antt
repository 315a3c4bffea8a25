-- What was said with the other clouds where an ask was lost.
use Rattle.std.proofs.Common.{ℕ, List, [], ◌++◌, Result, Ok, Err, sym, subst}
use Rattle.user_dedup.specs.Link.{Talk, SaysNothingElse}
use Rattle.user_dedup.specs.CdBase.ids.CloudNo.{CloudNo}
use Rattle.restore_job.specs.declared.error.RestoreErr.{RestoreErr}
use Rattle.restore_job.specs.declared.error.RestoreErr.TheVariants as errors
use Rattle.restore_job.specs.Exchanges.{CloudExchange, behind_all, HasSpoken, LostSaid, SpeaksBeside}
use Rattle.restore_job.proofs.Speaking.{behind-append, replies-append, spoken_none}

module _ {L : Type 0} (talk : L → ℕ → Talk → Type 0) where
  -- one ask, whatever became of it
  pub beside_ask : (old new : L) (lost : ℕ) → SaysNothingElse talk lost old new → SpeaksBeside talk lost old new
  beside_ask old new lost else cloud apart before is = ([], else cloud before apart is, tt)

  -- exchanges in front
  pub beside_on : (old mid new : L) (log : List CloudExchange) (lost : ℕ) → HasSpoken talk old mid log
      → SpeaksBeside talk lost mid new → SpeaksBeside talk lost old new
  beside_on old mid new log lost spoken beside cloud apart before is =
      let x = spoken cloud before is in
      let y = beside cloud apart (behind_all cloud log before) x.0 in (
        log ++ y.0,
        subst (λ (t : Talk). talk new cloud t) (sym (behind-append cloud log y.0 before)) y.1,
        replies-append cloud log y.0 before x.1 y.2,
      )

  -- exchanges alone
  pub beside_all : (old new : L) (log : List CloudExchange) (lost : ℕ) → HasSpoken talk old new log
      → SpeaksBeside talk lost old new
  beside_all old new log lost spoken cloud apart before is =
      let x = spoken cloud before is in (log, x.0, x.1)

  -- what holds of each cloud holds of one that is lost
  lost_by : {A : Type 0} (old new : L) (result : Result A RestoreErr)
      → ((c : CloudNo) → SpeaksBeside talk c.0 old new) → LostSaid talk old new result
  lost_by old new (Ok x) f = tt
  lost_by old new (Err (errors.Missing c)) f = tt
  lost_by old new (Err (errors.Lost c)) f = f c
  lost_by old new (Err (errors.CloudFault c)) f = tt
  lost_by old new (Err (errors.CloudDamaged c at byte)) f = tt
  lost_by old new (Err (errors.CloudRotten c named found)) f = tt
  lost_by old new (Err (errors.CloudNoMemory c)) f = tt
  lost_by old new (Err (errors.Strange c kind)) f = tt
  lost_by old new (Err (errors.RecipesDiffer a b place)) f = tt
  lost_by old new (Err (errors.ShareLength c secret found wanted)) f = tt
  lost_by old new (Err (errors.BadShare c secret named found)) f = tt
  lost_by old new (Err (errors.BadSecret secret named found)) f = tt
  lost_by old new (Err (errors.BadPad secret at byte)) f = tt
  lost_by old new (Err errors.NoMemory) f = tt

  pub lost_spoken : {A : Type 0} (old new : L) (log : List CloudExchange) (result : Result A RestoreErr)
      → HasSpoken talk old new log → LostSaid talk old new result
  lost_spoken old new log result spoken = lost_by old new result (λ c. beside_all old new log c.0 spoken)

  -- a loss behind exchanges
  pub lost_on : (A B : Type 0) (old mid new : L) (log : List CloudExchange) (e : RestoreErr) → HasSpoken talk old mid log
      → LostSaid {A = A} talk mid new (Err e) → LostSaid {A = B} talk old new (Err e)
  lost_on A B old mid new log (errors.Missing c) spoken lost = tt
  lost_on A B old mid new log (errors.Lost c) spoken lost = beside_on old mid new log c.0 spoken lost
  lost_on A B old mid new log (errors.CloudFault c) spoken lost = tt
  lost_on A B old mid new log (errors.CloudDamaged c at byte) spoken lost = tt
  lost_on A B old mid new log (errors.CloudRotten c named found) spoken lost = tt
  lost_on A B old mid new log (errors.CloudNoMemory c) spoken lost = tt
  lost_on A B old mid new log (errors.Strange c kind) spoken lost = tt
  lost_on A B old mid new log (errors.RecipesDiffer a b place) spoken lost = tt
  lost_on A B old mid new log (errors.ShareLength c secret found wanted) spoken lost = tt
  lost_on A B old mid new log (errors.BadShare c secret named found) spoken lost = tt
  lost_on A B old mid new log (errors.BadSecret secret named found) spoken lost = tt
  lost_on A B old mid new log (errors.BadPad secret at byte) spoken lost = tt
  lost_on A B old mid new log errors.NoMemory spoken lost = tt

  -- the same of another result
  pub lost_as : (A B : Type 0) (old new : L) (e : RestoreErr) → LostSaid {A = A} talk old new (Err e)
      → LostSaid {A = B} talk old new (Err e)
  lost_as A B old new e lost = lost_on A B old old new [] e (spoken_none talk old) lost
