-- How a restore from any k of some clouds ends.
use Rattle.std.specs.Prelude.{◌≡◌, ℕ, ◌⊎◌, Bool, List, [], ◌∷◌, ◌++◌, length, Result, Ok, Err, All, IfErr}
use Rattle.std.specs.List.{Contains}
use Rattle.transcript.specs.CdBase.ids.Tag.{Tag}
use Rattle.transcript.specs.CdBase.ids.UserId.{UserId}
use Rattle.transcript.specs.CdBase.ids.Version.{Version}
use Rattle.transcript.specs.CdBase.shape.Shape.{Shape}
use Rattle.transcript.specs.CdEdges.Causes.{Rose}
use Rattle.restore_job.specs.UserDedup.Exec.{Peer}
use Rattle.restore_job.specs.UserDedup.Link.{LinkTelling, Talk}
use Rattle.restore_job.specs.Asking.{HasAskedClouds, Leads, LeadsAny, AreRead, Readable, TellsAll, among, is_lost}
use Rattle.restore_job.specs.Brought.{Brought}
use Rattle.restore_job.specs.Exchanges.{LostSaid, RestorePassed, RestoreSaid, Unlost}
use Rattle.restore_job.specs.Reading.{Ends, Restores}
use Rattle.restore_job.specs.Refusals.{Caused, Names, ShownAmong}
use Rattle.restore_job.specs.Restored.{Unrestored, restored_file}
use Rattle.restore_job.specs.declared.error.RestoreErr.{RestoreErr}
use Rattle.restore_job.specs.declared.error.RestoreErr.TheVariants as errors
use Rattle.subset_restore.specs.Subsets.{subsets}
use Rattle.subset_restore.specs.Tries.{Try, GoneThrough, HoldsRefuser, WasTried}
use Rattle.subset_restore.specs.Restored.{restored_any}

-- a version of a file of a user, and the clouds from which it is to come
pub record Sought : Type 0 where
  pub shape : Shape
  pub user : UserId
  pub tag : Tag
  pub version : Version
  pub clouds : List ℕ

-- ---- over the clouds' lists

-- what clouds with the lists of these peers give
abbrev pub outcome_of : Sought → (ℕ → Peer) → List ℕ → Result (List ℕ) Unrestored
outcome_of s peers clouds = restored_file s.shape (λ cloud. (peers cloud).list) s.user (s.tag, s.version) clouds

abbrev pub any_outcome : Sought → (ℕ → Peer) → Result (List ℕ) Unrestored
any_outcome s peers = restored_any s.shape (λ cloud. (peers cloud).list) s.user (s.tag, s.version) s.clouds

-- from just k clouds it's what a restore from these gives, and which of them that reads
abbrev pub JustRestores : Sought → Result (Unit {0}) RestoreErr → List ℕ → List ℕ → (ℕ → Peer) → (ℕ → Peer) → Type 0
JustRestores s result old new before after =
    length s.clouds ≡ s.shape.k → Restores s.shape s.user (s.tag, s.version) s.clouds result old new before after

-- the lists of these clouds give no bytes
abbrev pub GivesNone : Sought → (ℕ → Peer) → List ℕ → Type 0
GivesNone s peers clouds = (why : Unrestored) × (outcome_of s peers clouds ≡ Err why)

-- an ask of the cloud was lost
abbrev pub WasLost : List Try → ℕ → Type 0
WasLost tries cloud = (x : Try) × Contains tries x × (x.refusal ≡ errors.Lost (record { 0 = cloud }))

-- a device of one of these clouds failed, whose count rose, or an ask of it was lost
abbrev pub HoldsFailedOrLost : List Try → (ℕ → Peer) → (ℕ → Peer) → List ℕ → Type 0
HoldsFailedOrLost tries before after clouds = (cloud : ℕ) × Contains clouds cloud
    × (Rose (before cloud).faults (after cloud).faults ⊎ WasLost tries cloud)

-- the file doesn't come from this choice of clouds: their lists give none, or one of them failed
abbrev pub IsNone : Sought → List Try → (ℕ → Peer) → (ℕ → Peer) → List ℕ → Type 0
IsNone s tries before after subset = GivesNone s after subset ⊎ HoldsFailedOrLost tries before after subset

-- no count rose of these clouds, and no ask was lost
pub record NoneFailed (s : Sought) (losses losses_after : ℕ) (before after : ℕ → Peer) : Type 0 where
  pub counts : (cloud : ℕ) → Contains s.clouds cloud → Rose (before cloud).faults (after cloud).faults → ⊥
  pub unlost : Rose losses losses_after → ⊥

-- ---- what was said with the clouds

-- One restore from a choice of clouds: what was asked and passed on, and how its result follows from what came. Where an
-- ask was lost, what is to come of the other clouds is told. Each reply can be read but that which the result calls lost
-- or strange. A refusal names no clouds but these.
pub record OneRestore {L : Type 0} (t : LinkTelling L) (talk : L → ℕ → Talk → Type 0) (s : Sought)
    (subset old new : List ℕ) (before : L) (result : Result (Unit {0}) RestoreErr) (after : L) : Type 0 where
  pub asked : HasAskedClouds t subset before after (is_lost result)
  pub named : IfErr result (Names (Contains subset))
  pub said : Unlost result (RestoreSaid talk before after s.shape s.user s.tag s.version subset old new result)
  pub passed : Unlost result (RestorePassed t talk before after s.shape s.user s.tag s.version subset old new result)
  pub beside : LostSaid talk before after result
  pub readable : Readable t before after result

-- One such restore after another, each of which was refused.
abbrev pub AllRefused : {L : Type 0} → LinkTelling L → (L → ℕ → Talk → Type 0) → Sought → List ℕ → L → List Try → L
    → Type 0
AllRefused t talk s bytes before [] after = after ≡ before
AllRefused {L} t talk s bytes before (x ∷ tries) after =
    (mid : L) × OneRestore t talk s x.subset bytes bytes before (Err x.refusal) mid
    × AllRefused t talk s bytes mid tries after

-- ---- the end

-- what each refusal says of the cloud that it names, told or not
abbrev pub AllCaused : {L : Type 0} → LinkTelling L → L → Sought → List Try → (ℕ → Peer) → (ℕ → Peer) → Type 0
AllCaused t link s tries before after =
    All (λ x. Caused t link s.shape s.user (s.tag, s.version) x.refusal before after) tries

-- what each refusal says of the cloud that it names, where that is one of these
abbrev pub AllShown : {L : Type 0} → LinkTelling L → L → Sought → List Try → (ℕ → Bool) → (ℕ → Peer) → (ℕ → Peer)
    → Type 0
AllShown t link s tries these before after =
    All (λ x. ShownAmong t link s.shape s.user (s.tag, s.version) these x.refusal before after) tries

-- From no choice of these the file comes whose clouds are all told and among these, whatever the other clouds are.
abbrev pub NoneAlone : {L : Type 0} → LinkTelling L → L → Sought → List Try → List (List ℕ) → (ℕ → Bool) → (ℕ → Peer)
    → (ℕ → Peer) → Type 0
NoneAlone t link s tries choices these before after =
    All (λ chosen. TellsAll (among these t) link chosen → IsNone s tries before after chosen) choices

-- So the file came from one choice, if all its clouds are told and among these: it is what their lists give.
pub record OneCame (s : Sought) (subset old new : List ℕ) (before after : ℕ → Peer) : Type 0 where
  pub ends : Ends (outcome_of s after subset) subset (Ok tt) old new before after
  pub read : AreRead subset before after

-- The file came, where any of the clouds are told: what it says of these, whatever the others are.
pub record CameAlone {L : Type 0} (t : LinkTelling L) (link : L) (s : Sought) (tries : List Try)
    (front : List (List ℕ)) (subset old new : List ℕ) (these : ℕ → Bool) (before after : ℕ → Peer) : Type 0 where
  pub shown : AllShown t link s tries these before after
  pub came : TellsAll (among these t) link subset → OneCame s subset old new before after
  pub none : NoneAlone t link s tries front these before after

-- No file came, where any of the clouds are told: what it says of these, whatever the others are.
pub record NothingAlone {L : Type 0} (t : LinkTelling L) (link : L) (s : Sought) (tries : List Try) (first : List ℕ)
    (e : RestoreErr) (bytes : List ℕ) (these : ℕ → Bool) (before after : ℕ → Peer) : Type 0 where
  pub shown : AllShown t link s tries these before after
  pub ends : TellsAll (among these t) link first
      → Ends (outcome_of s after first) first (Err e) bytes bytes before after
  pub none : NoneAlone t link s tries (subsets s.shape.k s.clouds) these before after

-- The file came over told clouds: from these clouds, all of which were read, and from no choice in front of them. It is
-- that of any k of the clouds where none failed.
pub record CameTold (s : Sought) (tries : List Try) (front : List (List ℕ)) (subset : List ℕ)
    (losses losses_after : ℕ) (old new : List ℕ) (before after : ℕ → Peer) : Type 0 where
  pub ends : Ends (outcome_of s after subset) subset (Ok tt) old new before after
  pub read : AreRead subset before after
  pub front_none : All (IsNone s tries before after) front
  pub exact : NoneFailed s losses losses_after before after
      → Ends (any_outcome s after) s.clouds (Ok tt) old new before after
  pub just : JustRestores s (Ok tt) old new before after

-- The file came: from these clouds, the first choice in order from which it wasn't refused and of which none had refused.
pub record HasFileCome {L : Type 0} (t : LinkTelling L) (talk : L → ℕ → Talk → Type 0) (s : Sought) (start end : L)
    (old new : List ℕ) : Type 0 where
  pub tries : List Try
  pub front : List (List ℕ)
  pub subset : List ℕ
  pub rest : List (List ℕ)
  pub split : subsets s.shape.k s.clouds ≡ front ++ subset ∷ rest
  pub gone : GoneThrough front tries
  pub free : HoldsRefuser tries subset → ⊥
  pub brought : Brought s.shape subset old new
  pub mid : L
  pub refused : AllRefused t talk s old start tries mid
  pub restored : OneRestore t talk s subset old new mid (Ok tt) end
  pub leads : Leads t s.clouds start end (AllCaused t start s tries)
      (CameTold s tries front subset (t.losses start) (t.losses end) old new)
  pub alone : LeadsAny t s.clouds start end (CameAlone t start s tries front subset old new) (λ before after. Unit {0})

-- No file came over told clouds: from no choice, and the refusal is that of the first. It is that of any k of the clouds
-- where none failed.
pub record NoneTold (s : Sought) (tries : List Try) (first : List ℕ) (losses losses_after : ℕ) (e : RestoreErr)
    (bytes : List ℕ) (before after : ℕ → Peer) : Type 0 where
  pub ends : Ends (outcome_of s after first) first (Err e) bytes bytes before after
  pub none : All (IsNone s tries before after) (subsets s.shape.k s.clouds)
  pub exact : NoneFailed s losses losses_after before after
      → Ends (any_outcome s after) s.clouds (Err e) bytes bytes before after
  pub just : JustRestores s (Err e) bytes bytes before after

-- No file came: each choice was refused in this call or holds a cloud that refused in it, and the refusal is that of the
-- first.
pub record NoneCame {L : Type 0} (t : LinkTelling L) (talk : L → ℕ → Talk → Type 0) (s : Sought) (start end : L)
    (bytes : List ℕ) (e : RestoreErr) : Type 0 where
  pub tries : List Try
  pub first : List ℕ
  pub more : List Try
  pub tries_are : tries ≡ record { subset = first; refusal = e } ∷ more
  pub rest : List (List ℕ)
  pub first_is : subsets s.shape.k s.clouds ≡ first ∷ rest
  pub gone : GoneThrough (subsets s.shape.k s.clouds) tries
  pub each : All (λ subset. WasTried tries subset ⊎ HoldsRefuser tries subset) (subsets s.shape.k s.clouds)
  pub refused : AllRefused t talk s bytes start tries end
  pub leads : Leads t s.clouds start end (AllCaused t start s tries)
      (NoneTold s tries first (t.losses start) (t.losses end) e bytes)
  pub alone : LeadsAny t s.clouds start end (NothingAlone t start s tries first e bytes) (λ before after. Unit {0})

-- these were read at most
abbrev pub OnlyLeads : {L : Type 0} → LinkTelling L → List ℕ → L → L → Type 0
OnlyLeads t clouds start end = Leads t clouds start end (λ before after. Unit {0}) (λ before after. Unit {0})

-- where memory ran out the clouds were read at most
abbrev pub NoneBy : {L : Type 0} → LinkTelling L → (L → ℕ → Talk → Type 0) → Sought → L → L → List ℕ → RestoreErr
    → Type 0
NoneBy t talk s start end bytes errors.NoMemory = OnlyLeads t s.clouds start end
NoneBy t talk s start end bytes e = NoneCame t talk s start end bytes e

-- How it ends: the file came, or memory ran out, or no file came.
abbrev pub AnyEnds : {L : Type 0} → LinkTelling L → (L → ℕ → Talk → Type 0) → Sought → L → L → List ℕ → List ℕ
    → Result (Unit {0}) RestoreErr → Type 0
AnyEnds t talk s start end old new (Ok u) = HasFileCome t talk s start end old new
AnyEnds t talk s start end old new (Err e) = NoneBy t talk s start end old e
