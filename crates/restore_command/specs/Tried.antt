-- Restores over ports from one choice of the clouds after another.
use Rattle.std.specs.Prelude.{◌≡◌, ◌≢◌, ◌≤◌, ◌⊎◌, ℕ, false, true, IsTrue, List, [], ◌∷◌, ◌++◌, length, Result, Ok, Err, All}
use Rattle.std.specs.List.{Contains}
use Rattle.ports_link.specs.CdBase.ids.CloudNo.{CloudNo}
use Rattle.ports_link.specs.CdBase.shape.Shape.{Shape}
use Rattle.ports_link.specs.CdEdges.Causes.{Rose}
use Rattle.ports_link.specs.CdEdges.Ports.{Telling}
use Rattle.ports_link.specs.Messages.Requests.{request_bytes}
use Rattle.ports_link.specs.Messages.request.Request.TheVariants as requests
use Rattle.subset_restore.specs.RestoreJob.Asking.{is_loss}
use Rattle.subset_restore.specs.RestoreJob.Brought.{Brought}
use Rattle.subset_restore.specs.RestoreJob.Exchanges.{Unlost}
use Rattle.subset_restore.specs.RestoreJob.Refusals.{Names}
use Rattle.subset_restore.specs.RestoreJob.error.RestoreErr.{RestoreErr}
use Rattle.subset_restore.specs.RestoreJob.error.RestoreErr.TheVariants as errors
use Rattle.subset_restore.specs.Subsets.{subsets}
use Rattle.subset_restore.specs.Tries.{Try, GoneThrough, HoldsRefuser, WasTried}
use Rattle.restore_command.specs.Fetched.{Fetched}
use Rattle.restore_command.specs.Stopped.{Stopped}
use Rattle.ports_link.specs.declared.greeting.Greeted.{Greeted}
use Rattle.ports_link.specs.Hellos.{clouds_of}
use Rattle.restore_command.specs.Calls.{RestoreCall, named_in, ports_of, tag_in}
use Rattle.restore_command.specs.Spoken.{HasSaid, HaveTalked, KeptReply, none_ended, none_kept}

-- ---- one restore

-- the request for the recipe of the version
abbrev pub recipe_request : RestoreCall → Shape → List ℕ
recipe_request call shape = request_bytes (requests.GetRecipe call.user (tag_in shape call.path) call.version)

-- What was said with these clouds is how a file is fetched, and these are its bytes. No recipe was asked for on a port that
-- is kept.
pub record IsFetch (call : RestoreCall) (shape : Shape) (lines : List (CloudNo × ℕ)) (kept : KeptReply)
    (before after : Telling) (bytes : List ℕ) : Type 0 where
  pub sent : ℕ → List (List ℕ)
  pub received : ℕ → List (List ℕ)
  pub kept_after : KeptReply
  pub talked : HaveTalked before after lines none_ended (recipe_request call shape) kept kept_after sent received
  pub fetched : Fetched shape call.user (tag_in shape call.path) call.version (named_in lines) sent received bytes

-- What was said with these clouds is how a file is fetched, up to one reply or comparison, which the error names. No recipe
-- was asked for on a port that is kept, and those that came are kept from now on.
pub record IsStop (call : RestoreCall) (shape : Shape) (lines : List (CloudNo × ℕ)) (kept : KeptReply)
    (before after : Telling) (kept_after : KeptReply) (e : RestoreErr) : Type 0 where
  pub sent : ℕ → List (List ℕ)
  pub received : ℕ → List (List ℕ)
  pub talked : HaveTalked before after lines none_ended (recipe_request call shape) kept kept_after sent received
  pub stopped : Stopped shape call.user (tag_in shape call.path) call.version (named_in lines) sent received e

-- unless an ask was lost
abbrev pub IfHeard : RestoreErr → Type 0 → Type 0
IfHeard e P = let came : Result (Unit {0}) RestoreErr = Err e in Unlost came P

-- where an ask was lost, of the cloud on which it was
abbrev pub IfLost : RestoreErr → (ℕ → Type 0) → Type 0
IfLost (errors.Lost c) P = P c.0
IfLost e P = Unit {0}

-- Each of these clouds but one was asked something and replied, on its port but for what is kept.
abbrev pub HaveSaidBeside : RestoreCall → Shape → List (CloudNo × ℕ) → KeptReply → Telling → Telling → KeptReply → ℕ
    → Type 0
HaveSaidBeside call shape lines kept before after kept_after lost = (line : CloudNo × ℕ) → Contains lines line
    → line.0.0 ≢ lost → (sent : List (List ℕ)) × (received : List (List ℕ))
    × HasSaid before after line.1 false (recipe_request call shape) (kept line.0.0) (kept_after line.0.0) sent received

-- A restore from a choice of the clouds was refused: by what was said with these, none of whose lines had ended before;
-- or since an ask was lost, and then each reply of the other ones came or is kept. Every port but theirs is as it was, and
-- of every cloud but them the same reply is kept.
pub record IsRestoreRefused (call : RestoreCall) (greeted : Greeted) (before : Telling) (kept : KeptReply) (x : Try)
    (after : Telling) (kept_after : KeptReply) : Type 0 where
  pub lines : List (CloudNo × ℕ)
  pub clouds : clouds_of lines ≡ x.subset
  pub among : All (Contains greeted.lines.items) lines
  pub stopped : IfHeard x.refusal (IsStop call greeted.shape lines kept before after kept_after x.refusal)
  pub beside : IfLost x.refusal (HaveSaidBeside call greeted.shape lines kept before after kept_after)
  pub others : (port : ℕ) → ¬ Contains (ports_of lines) port → after.port port ≡ before.port port
  pub rest : (cloud : ℕ) → ¬ Contains x.subset cloud → kept_after cloud ≡ kept cloud

-- one such restore after another
abbrev pub AreRefused : RestoreCall → Greeted → Telling → KeptReply → List Try → Telling → KeptReply → Type 0
AreRefused call greeted before kept [] after kept_after =
    (after ≡ before) × ((cloud : ℕ) → kept_after cloud ≡ kept cloud)
AreRefused call greeted before kept (x ∷ tries) after kept_after =
    (mid : Telling) × (kept_mid : KeptReply) × IsRestoreRefused call greeted before kept x mid kept_mid
    × AreRefused call greeted mid kept_mid tries after kept_after

-- ---- counts

-- How often the ports had failed, from before these tries to behind them, whatever they tell: the count fell in none, rose
-- in each that was lost, and stayed between them.
abbrev pub AreCounted : ℕ → List Try → ℕ → Type 0
AreCounted count [] after = after ≡ count
AreCounted count (x ∷ tries) after = (between : ℕ) × (count ≤ between) × (is_loss x.refusal ≡ true → Rose count between)
    × AreCounted between tries after

-- Each refusal names clouds of its own choice alone.
abbrev pub AreTriesNamed : List Try → Type 0
AreTriesNamed tries = All (λ (x : Try). Names (Contains x.subset) x.refusal) tries

-- ---- all of them

-- The file came from k of the clouds, these ones: the first choice in order from which it wasn't refused and of which
-- none had refused. The ports' count of faults rose in each try that was lost. Where the ports tell their bytes: what was
-- said in the restores before, and then from some time on with these clouds alone, which is how the file is fetched. With
-- no more than k clouds it is all that was said.
pub record FileFrom (call : RestoreCall) (greeted : Greeted) (behind : Telling) (bytes : List ℕ) : Type 0 where
  pub tries : List Try
  pub front : List (List ℕ)
  pub chosen : List (CloudNo × ℕ)
  pub rest : List (List ℕ)
  pub in_order : subsets greeted.shape.k (clouds_of greeted.lines.items) ≡ front ++ clouds_of chosen ∷ rest
  pub among : All (Contains greeted.lines.items) chosen
  pub gone : GoneThrough front tries
  pub free : HoldsRefuser tries (clouds_of chosen) → ⊥
  pub brought : Brought greeted.shape (clouds_of chosen) [] bytes
  pub from : Telling
  pub kept : KeptReply
  pub count : ℕ
  pub named : AreTriesNamed tries
  pub counted : AreCounted call.faults_before tries count
  pub later : count ≤ call.faults_after
  pub refused : IsTrue call.before.told → AreRefused call greeted behind none_kept tries from kept
  pub fetched : IsTrue call.before.told → IsFetch call greeted.shape chosen kept from call.after bytes
  pub exact : IsTrue call.before.told → length greeted.lines.items ≡ greeted.shape.k
      → IsFetch call greeted.shape greeted.lines.items none_kept behind call.after bytes

-- The file came from no k of the clouds: each choice was refused or holds a cloud that had refused, and the error is
-- that of the first one. The ports' count of faults rose in each that was lost. Where the ports tell their bytes: what was
-- said in each of these restores.
pub record NotFrom (call : RestoreCall) (greeted : Greeted) (behind : Telling) (e : RestoreErr) : Type 0 where
  pub tries : List Try
  pub first : List ℕ
  pub more : List Try
  pub rest : List (List ℕ)
  pub tries_are : tries ≡ record { subset = first; refusal = e } ∷ more
  pub first_is : subsets greeted.shape.k (clouds_of greeted.lines.items) ≡ first ∷ rest
  pub gone : GoneThrough (subsets greeted.shape.k (clouds_of greeted.lines.items)) tries
  pub each : All (λ subset. WasTried tries subset ⊎ HoldsRefuser tries subset)
      (subsets greeted.shape.k (clouds_of greeted.lines.items))
  pub named : AreTriesNamed tries
  pub counted : AreCounted call.faults_before tries call.faults_after
  pub kept : KeptReply
  pub refused : IsTrue call.before.told → AreRefused call greeted behind none_kept tries call.after kept
  pub exact : IsTrue call.before.told → length greeted.lines.items ≡ greeted.shape.k
      → IfHeard e (IsStop call greeted.shape greeted.lines.items none_kept behind call.after kept e)

-- What a restore from any k of the clouds came to. Nothing is said where memory ran out.
abbrev pub CameBy : RestoreCall → Greeted → Telling → Result (Unit {0}) RestoreErr → List ℕ → Type 0
CameBy call greeted behind (Ok u) file = FileFrom call greeted behind file
CameBy call greeted behind (Err errors.NoMemory) file = Unit {0}
CameBy call greeted behind (Err e) file = NotFrom call greeted behind e
