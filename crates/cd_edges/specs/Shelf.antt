-- What the calls of a shelf do to a cloud.
use Rattle.std.specs.Prelude.{◌≤◌, ◌≡◌, ◌≢◌, ◌⊎◌, ℕ, ◌+◌, ◌-◌, ◌^◌, min, List, [], ◌∷◌, ◌++◌, length, take, drop, if◌then◌else◌, ◌==◌, IsTrue, IsErr, Result, Option, Some, None, OnOk, OnErr}
use Rattle.cd_edges.specs.declared.area.Area.{Area}
use Rattle.cd_edges.specs.Causes.{Rose}
use Rattle.cd_edges.specs.Disk.{Store, Image, MayLeave, IsImage, Cloud, Arming, overwritten}

-- A call on one cloud leaves all that is told of the others, and changes no arming. No count falls.
pub record IsCall (old new : ℕ → Cloud) (number : ℕ) (before now : ℕ) : Type 0 where
  pub others : (other : ℕ) → other ≢ number → new other ≡ old other
  pub told : (new number).told ≡ (old number).told
  pub armings : (new number).armings ≡ (old number).armings
  pub later : (old number).faults ≤ (new number).faults
  pub total_later : before ≤ now

-- The cloud's count of faults rose, and the one in all.
pub record HasFailed (old new : Cloud) (before now : ℕ) : Type 0 where
  pub cloud : Rose old.faults new.faults
  pub total : Rose before now

-- No call failed: the cloud's count of faults and the one in all are what they were.
pub record KeepsCounts (old new : Cloud) (before now : ℕ) : Type 0 where
  pub cloud : new.faults ≡ old.faults
  pub total : now ≡ before

-- A cloud's areas, its moments and what it is armed with stay.
pub record Stays (old new : Cloud) : Type 0 where
  pub armed : new.armed ≡ old.armed
  pub past : new.past ≡ old.past
  pub now : new.now ≡ old.now

-- the area with bytes written, which a crash may tear
abbrev pub wrote : Store → ℕ → List ℕ → Store
wrote store place bytes = record {
  read = overwritten store.read place bytes;
  synced = store.synced;
  written = (place, place + length bytes) ∷ store.written;
}

-- an area that a crash leaves as it is read
abbrev pub stable : List ℕ → Store
stable bytes = record { read = bytes; synced = bytes; written = [] }

-- One moment later one area has changed, and the others have not.
pub record Changes (old new : Cloud) (changed : Area) (store : Store) : Type 0 where
  pub past : new.past ≡ old.past ++ old.now ∷ []
  pub area : new.now changed ≡ store
  pub others : (other : Area) → other ≢ changed → new.now other ≡ old.now other

-- A write or sync has failed. All that counted as written still does, and no more does than in `torn`.
pub record IsCutShort (old new : Cloud) (changed : Area) (torn : Store) : Type 0 where
  pub past : (new.past ≡ old.past) ⊎ (new.past ≡ old.past ++ old.now ∷ [])
  pub still : (image : Image) → IsImage old.now image → IsImage new.now image
  pub area : (image : List ℕ) → MayLeave (new.now changed) image → MayLeave torn image
  pub others : (other : Area) → other ≢ changed → (image : List ℕ) → MayLeave (new.now other) image → MayLeave (old.now other) image

-- Each write and sync counts an arming down, and at 1 it is cut.
abbrev pub counted_down : Option Arming → Option Arming
counted_down None = None
counted_down (Some arming) = if arming.calls == 1 then None else Some (record arming { calls = arming.calls - 1 })

abbrev pub IsCallCut : Option Arming → Type 0
IsCallCut None = ⊥
IsCallCut (Some arming) = arming.calls ≡ 1

pub record Writes {T E : Type 0} (old new : Cloud) (changed : Area) (place : ℕ) (bytes : List ℕ) (result : Result T E) : Type 0 where
  pub ok : OnOk result (Changes old new changed (wrote (old.now changed) place bytes))
  pub err : OnErr result (IsCutShort old new changed (wrote (old.now changed) place bytes))
  pub armed : new.armed ≡ counted_down old.armed
  pub cut : IsCallCut old.armed → IsErr result

pub record Syncs {T E : Type 0} (old new : Cloud) (changed : Area) (result : Result T E) : Type 0 where
  pub ok : OnOk result (Changes old new changed (stable (old.now changed).read))
  pub err : OnErr result (IsCutShort old new changed (old.now changed))
  pub armed : new.armed ≡ counted_down old.armed
  pub cut : IsCallCut old.armed → IsErr result

-- All three areas are empty, and a crash leaves them so.
pub record IsFresh (old new : Cloud) : Type 0 where
  pub armed : new.armed ≡ None
  pub past : new.past ≡ old.past ++ old.now ∷ []
  pub now : (area : Area) → new.now area ≡ stable []

pub record Refreshes {T E : Type 0} (old new : Cloud) (result : Result T E) : Type 0 where
  pub ok : OnOk result (IsFresh old new)
  pub err : OnErr result (Stays old new)

-- no calls: disarmed
abbrev pub arming_of : ℕ → ℕ → Option Arming
arming_of calls keep = if calls == 0 then None else Some (record { calls = calls; keep = keep })

-- One arming more; where the count stands at its last value, nothing changes.
pub record Arms (old new : Cloud) (calls keep : ℕ) : Type 0 where
  pub armings : new.armings ≡ min (old.armings + 1) (2 ^ 64 - 1)
  pub armed : IsTrue old.told → new.armed ≡ (if old.armings == 2 ^ 64 - 1 then old.armed else arming_of calls keep)
  pub told : new.told ≡ old.told
  pub faults : new.faults ≡ old.faults
  pub past : new.past ≡ old.past
  pub now : new.now ≡ old.now

-- What the area has from the place, or as much as fits, is in front of a buffer.
pub record ReadsFrom (held : List ℕ) (place count : ℕ) (out : List ℕ) : Type 0 where
  pub lesser : count ≡ min (length out) (length held - place)
  pub bytes : take count out ≡ take count (drop place held)
