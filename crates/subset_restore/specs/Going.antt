-- A call under way: which choices were gone through, and what is left.
use Rattle.std.specs.Prelude.{◌≡◌, ◌≢◌, ℕ, ◌⊎◌, Bool, List, [], ◌∷◌, ◌++◌, IsTrue, false, true, None, Err}
use Rattle.std.specs.List.{Contains}
use Rattle.transcript.specs.CdBase.ids.UserId.{UserId}
use Rattle.transcript.specs.CdBase.ids.Version.{Version}
use Rattle.transcript.specs.CdBase.shape.Shape.{Shape}
use Rattle.transcript.specs.CdEdges.Causes.{Rose}
use Rattle.restore_job.specs.CaontRs.Package.{tag as tag_at}
use Rattle.restore_job.specs.UserDedup.Exec.{Peer}
use Rattle.restore_job.specs.UserDedup.Link.{LinkTelling, Talk}
use Rattle.restore_job.specs.Asking.{HasAskedClouds, LeadsAny, TellsAll, among, is_loss}
use Rattle.restore_job.specs.Reading.{Ends, ReadsUpTo}
use Rattle.restore_job.specs.Refusals.{ShownAmong, Names}
use Rattle.restore_job.specs.declared.error.RestoreErr.{RestoreErr}
use Rattle.restore_job.specs.declared.error.RestoreErr.TheVariants as errors
use Rattle.subset_restore.specs.Subsets.{subsets}
use Rattle.subset_restore.specs.Tries.{Try, GoneThrough, HoldsRefuser, WasTried}
use Rattle.subset_restore.specs.Ends.{Sought, outcome_of, AllRefused, HasFileCome, OnlyLeads}
use Rattle.subset_restore.specs.Tracking.{Tracks}
use Rattle.subset_restore.specs.declared.refusals.Refusals.{Refusals}
use Rattle.subset_restore.specs.declared.trying.Went.{Went}
use Rattle.subset_restore.specs.declared.trying.Went.TheVariants as went

-- a version that is sought by its path
abbrev pub sought : Shape → UserId → List ℕ → Version → List ℕ → Sought
sought shape user path version clouds = record {
  shape = shape;
  user = user;
  tag = record { 0 = tag_at shape path };
  version = version;
  clouds = clouds;
}

-- ---- what stands of a refusal

abbrev pub AreSettled : List ℕ → (ℕ → Peer) → Type 0
AreSettled clouds peers = (cloud : ℕ) → Contains clouds cloud → (peers cloud).pending ≡ None

-- the clouds whose lists a refusal hangs on are settled
abbrev pub IsRested : List ℕ → RestoreErr → (ℕ → Peer) → Type 0
IsRested subset (errors.Missing c) after =
    (front : List ℕ) × (rest : List ℕ) × (subset ≡ front ++ c.0 ∷ rest) × AreSettled (front ++ c.0 ∷ []) after
IsRested subset (errors.Lost c) after = Unit {0}
IsRested subset (errors.CloudFault c) after = Unit {0}
IsRested subset (errors.CloudDamaged c at byte) after = Unit {0}
IsRested subset (errors.CloudRotten c named found) after = Unit {0}
IsRested subset (errors.CloudNoMemory c) after = Unit {0}
IsRested subset (errors.Strange c kind) after = Unit {0}
IsRested subset (errors.RecipesDiffer a b place) after = AreSettled subset after
IsRested subset (errors.ShareLength c secret found wanted) after = AreSettled subset after
IsRested subset (errors.BadShare c secret named found) after = Unit {0}
IsRested subset (errors.BadSecret secret named found) after = AreSettled subset after
IsRested subset (errors.BadPad secret at byte) after = AreSettled subset after
IsRested subset errors.NoMemory after = Unit {0}

-- a refusal over told clouds
pub record TryTold (s : Sought) (subset : List ℕ) (e : RestoreErr) (bytes : List ℕ) (before after : ℕ → Peer)
    : Type 0 where
  pub ends : Ends (outcome_of s after subset) subset (Err e) bytes bytes before after
  pub rested : IsRested subset e after

abbrev pub EachTold : Sought → List Try → List ℕ → (ℕ → Peer) → (ℕ → Peer) → Type 0
EachTold s tries bytes before after = (x : Try) → Contains tries x → TryTold s x.subset x.refusal bytes before after

-- So each stands; where none was asked all is as it was, and where there was one try it tells which clouds were read.
pub record AllStand (s : Sought) (tries : List Try) (bytes : List ℕ) (before after : ℕ → Peer) : Type 0 where
  pub each : EachTold s tries bytes before after
  pub none : tries ≡ [] → after ≡ before
  pub one : (x : Try) → tries ≡ x ∷ [] → ReadsUpTo x.subset (Err x.refusal) before after

abbrev pub EachShown : {L : Type 0} → LinkTelling L → L → Sought → List Try → (ℕ → Bool) → (ℕ → Peer) → (ℕ → Peer)
    → Type 0
EachShown t link s tries these before after =
    (x : Try) → Contains tries x → ShownAmong t link s.shape s.user (s.tag, s.version) these x.refusal before after

-- each stands whose clouds are all told and among these
abbrev pub EachAlone : {L : Type 0} → LinkTelling L → L → Sought → List Try → List ℕ → (ℕ → Bool) → (ℕ → Peer)
    → (ℕ → Peer) → Type 0
EachAlone t link s tries bytes these before after = (x : Try) → Contains tries x
    → TellsAll (among these t) link x.subset → TryTold s x.subset x.refusal bytes before after

-- what stands of the tries, where any of the clouds are told
pub record TriesStand {L : Type 0} (t : LinkTelling L) (link : L) (s : Sought) (tries : List Try) (bytes : List ℕ)
    (these : ℕ → Bool) (before after : ℕ → Peer) : Type 0 where
  pub shown : EachShown t link s tries these before after
  pub alone : EachAlone t link s tries bytes these before after

-- ---- so far

-- the first choice was tried first
abbrev pub HasTriedInOrder : List (List ℕ) → List Try → Type 0
HasTriedInOrder [] [] = Unit {0}
HasTriedInOrder [] (x ∷ tries) = ⊥
HasTriedInOrder (subset ∷ done) [] = ⊥
HasTriedInOrder (subset ∷ done) (x ∷ tries) = x.subset ≡ subset

-- These choices were gone through, with these refusals.
pub record SoFar {L : Type 0} (t : LinkTelling L) (talk : L → ℕ → Talk → Type 0) (s : Sought) (start now : L)
    (bytes : List ℕ) (done : List (List ℕ)) (tries : List Try) : Type 0 where
  pub gone : GoneThrough done tries
  pub begun : HasTriedInOrder done tries
  pub each : (subset : List ℕ) → Contains done subset → WasTried tries subset ⊎ HoldsRefuser tries subset
  pub plain : (x : Try) → Contains tries x → x.refusal ≢ errors.NoMemory
  pub named : (x : Try) → Contains tries x → Names (Contains s.clouds) x.refusal
  pub asked : HasAskedClouds t s.clouds start now false
  pub lost : (x : Try) → Contains tries x → is_loss x.refusal ≡ true → Rose (t.losses start) (t.losses now)
  pub lossless : IsTrue (t.lossless start) → (x : Try) → Contains tries x → is_loss x.refusal ≡ false
  pub refused : AllRefused t talk s bytes start tries now
  pub leads : LeadsAny t s.clouds start now (TriesStand t start s tries bytes)
      (AllStand s tries bytes)

-- ---- further

-- How it went on through some choices: the file came, or memory ran out, or each was passed over or refused.
abbrev pub GoesOn : {L : Type 0} → LinkTelling L → (L → ℕ → Talk → Type 0) → Sought → L → L → List ℕ → List ℕ
    → List (List ℕ) → List (List ℕ) → Refusals → Went → Type 0
GoesOn t talk s start now bytes new done todo refusals went.Restored =
    ((rest : List (List ℕ)) → subsets s.shape.k s.clouds ≡ (done ++ todo) ++ rest
    → HasFileCome t talk s start now bytes new)
    × HasAskedClouds t s.clouds start now false
GoesOn t talk s start now bytes new done todo refusals went.NoMemory =
    OnlyLeads t s.clouds start now × HasAskedClouds t s.clouds start now false
GoesOn t talk s start now bytes new done todo refusals went.Refused =
    (tries : List Try) × SoFar t talk s start now bytes (done ++ todo) tries × Tracks tries refusals × (new ≡ bytes)

-- From whatever was gone through, it went on so.
abbrev pub Seeks : {L : Type 0} → LinkTelling L → (L → ℕ → Talk → Type 0) → Shape → UserId → List ℕ → Version → L → L
    → List ℕ → List ℕ → List ℕ → List (List ℕ) → Refusals → Refusals → Went → Type 0
Seeks {L} t talk shape user path version old now bytes new among todo refusals refusals_now result =
    (clouds : List ℕ) (start : L) (done : List (List ℕ)) (tries : List Try)
    → ((cloud : ℕ) → Contains among cloud → Contains clouds cloud)
    → SoFar t talk (sought shape user path version clouds) start old bytes done tries → Tracks tries refusals
    → GoesOn t talk (sought shape user path version clouds) start now bytes new done todo refusals_now result

-- what a link tells beside its clouds stays
pub record KeepsToldBeside {L : Type 0} (t : LinkTelling L) (old new : L) : Type 0 where
  pub reaches : t.reaches new ≡ t.reaches old
  pub shape : t.shape new ≡ t.shape old
