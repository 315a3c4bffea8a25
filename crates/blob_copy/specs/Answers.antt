-- The answers of the calls, by cases.
use Rattle.std.specs.Prelude.{◌≡◌, ◌≢◌, ◌⊎◌, ◌<◌, ℕ, Bool, true, false, List, length, Result, Ok, Err}
use Rattle.std.specs.List.{Contains}
use Rattle.compact_lists.specs.CdBase.ids.Fp.{Fp}
use Rattle.compact_lists.specs.CdBase.place.Place.{Place}
use Rattle.fresh_checkpoints.specs.CdEdges.area.Area.TheVariants.{Shares, Recipes}
use Rattle.fresh_checkpoints.specs.CdEdges.Disk.{Image}
use Rattle.record_laws.specs.FileIndex.key.Entry.{Entry}
use Rattle.record_laws.specs.FileIndex.key.FileKey.{FileKey}
pub use Rattle.record_laws.specs.Leaving.{bytes_at}
use Rattle.cloud_store.specs.CommitJournal.journal.Stage.{Stage}
use Rattle.cloud_store.specs.CommitJournal.journal.Stage.TheVariants.{AtEnd, Shut}
use Rattle.compact_lists.specs.UserDedup.Strings.{fingerprint}
use Rattle.fresh_checkpoints.specs.CloudMemory.cloud.CloudMemory.{CloudMemory}
use Rattle.fresh_checkpoints.specs.CompactMemories.Kept.{live_places, live_entries}
use Rattle.blob_copy.specs.declared.copying.CopyErr.{CopyErr}
use Rattle.blob_copy.specs.declared.copying.CopyErr.TheVariants as why

-- facts for a step: that one more was copied, that none was left, that a blob is rotten, or too long; none where a device failed
abbrev pub MatchStep : Result Bool CopyErr → (more done rotten long : Type 0) → Type 0
MatchStep (Ok true) more done rotten long = more
MatchStep (Ok false) more done rotten long = done
MatchStep (Err why.Fault) more done rotten long = Unit {0}
MatchStep (Err (why.Rotten named found)) more done rotten long = rotten
MatchStep (Err why.Long) more done rotten long = long

abbrev pub IfCopyRotten : {T : Type 0} → Result T CopyErr → (Fp → Fp → Type 0) → Type 0
IfCopyRotten (Ok v) P = Unit {0}
IfCopyRotten (Err why.Fault) P = Unit {0}
IfCopyRotten (Err (why.Rotten named found)) P = P named found
IfCopyRotten (Err why.Long) P = Unit {0}

-- a device failed, and else another fact
abbrev pub MatchFault : {T : Type 0} → Result T CopyErr → (failed other : Type 0) → Type 0
MatchFault (Ok v) failed other = other
MatchFault (Err why.Fault) failed other = failed
MatchFault (Err (why.Rotten named found)) failed other = other
MatchFault (Err why.Long) failed other = other

-- no blob was too long, and the copies didn't pass their region's end
abbrev pub NeverLong : {T : Type 0} → Result T CopyErr → Type 0
NeverLong (Ok v) = Unit {0}
NeverLong (Err why.Fault) = Unit {0}
NeverLong (Err (why.Rotten named found)) = Unit {0}
NeverLong (Err why.Long) = ⊥

-- the answer isn't one that no store with a list gives
abbrev pub NeverWrong : {T : Type 0} → Result T CopyErr → Type 0
NeverWrong (Ok v) = Unit {0}
NeverWrong (Err why.Fault) = Unit {0}
NeverWrong (Err (why.Rotten named found)) = ⊥
NeverWrong (Err why.Long) = ⊥

-- facts for what is copied from some slot on: of the value, of a device that failed, and of what is rotten; nothing is too long
abbrev pub MatchCopy : {T : Type 0} → Result T CopyErr → (T → Type 0) → Type 0 → (Fp → Fp → Type 0) → Type 0
MatchCopy (Ok v) done failed rotten = done v
MatchCopy (Err why.Fault) done failed rotten = failed
MatchCopy (Err (why.Rotten named found)) done failed rotten = rotten named found
MatchCopy (Err why.Long) done failed rotten = ⊥

-- a fact where it is so, and one where it isn't
abbrev pub EitherWay : Bool → (so not_so : Type 0) → Type 0
EitherWay true so not_so = so
EitherWay false so not_so = not_so

-- a device that failed shuts the journal
abbrev pub stage_after : {T : Type 0} → Result T CopyErr → Stage
stage_after (Ok v) = AtEnd
stage_after (Err why.Fault) = Shut
stage_after (Err (why.Rotten named found)) = AtEnd
stage_after (Err why.Long) = AtEnd

-- The bytes are fewer than the length, or hash to another value than the name; `found` is their hash.
pub record IsRotten (bytes : List ℕ) (len : ℕ) (named found : Fp) : Type 0 where
  pub hashed : fingerprint bytes ≡ found
  pub wrong : (length bytes < len) ⊎ (found ≢ named)

-- A blob that is alive is rotten in these areas.
abbrev pub SomeRotten : CloudMemory → Image → Fp → Fp → Type 0
SomeRotten memory image named found =
    ((x : Fp × Place) × Contains (live_places memory) x × (x.0 ≡ named) × IsRotten (bytes_at (image Shares) x.1.at x.1.len) x.1.len named found)
    ⊎ ((x : FileKey × Entry) × Contains (live_entries memory) x × (x.1.fp ≡ named) × IsRotten (bytes_at (image Recipes) x.1.at x.1.len) x.1.len named found)
