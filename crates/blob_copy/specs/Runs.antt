-- What a copy from one slot on makes of a log and its cloud. No public clause cites this module.
use Rattle.std.specs.Prelude.{◌≡◌, ◌≢◌, ℕ, ◌+◌, ◌≤◌, Bool, IsTrue, List, [], ◌∷◌, ◌++◌, length, map, take, drop, All, Option}
use Rattle.std.specs.List.{Contains}
use Rattle.compact_lists.specs.CdBase.ids.Fp.{Fp}
use Rattle.fresh_checkpoints.specs.CdEdges.area.Area.{Area}
use Rattle.fresh_checkpoints.specs.CdEdges.Disk.{Cloud, LeavesOnly}
use Rattle.fresh_checkpoints.specs.CdEdges.Shelf.{IsCall, Stays, stable}
use Rattle.fresh_checkpoints.specs.CloudDisk.Disk.{Disk}
use Rattle.record_laws.specs.ContainerLog.Laying.{Placed, IsAt, laid, placed}
use Rattle.record_laws.specs.ContainerLog.Places.{end_of_laid}
use Rattle.record_laws.specs.ContainerLog.States.{State, HasStaged, Agrees, IsTorn, staged_end, in_area}
use Rattle.cloud_store.specs.CommitJournal.journal.Stage.TheVariants.{Shut}
use Rattle.compact_lists.specs.UserDedup.Strings.{fingerprint}
use Rattle.fresh_checkpoints.specs.Checkpoints.Picking.{picked}
use Rattle.blob_copy.specs.Answers.{IsRotten}
use Rattle.blob_copy.specs.Apart.{IsApart}
use Rattle.blob_copy.specs.Copies.{Blob, found_in}
use Rattle.blob_copy.specs.declared.copying.CopyErr.{CopyErr}
use Rattle.blob_copy.specs.declared.copying.CopyErr.TheVariants as why

-- ---- what is read

-- The bytes are as many as the blob is long and hash to its name; over a told cloud they are what the area has there.
pub record IsReadAs (told : Bool) (area : List ℕ) (b : Blob) (bytes : List ℕ) : Type 0 where
  pub long : length bytes ≡ b.len
  pub hashed : fingerprint bytes ≡ b.named
  pub found : IsTrue told → bytes ≡ found_in area b

abbrev pub AreBlobsRead : Bool → List ℕ → List Blob → List (List ℕ) → Type 0
AreBlobsRead told area [] [] = Unit {0}
AreBlobsRead told area [] (s ∷ ss) = ⊥
AreBlobsRead told area (b ∷ bs) [] = ⊥
AreBlobsRead told area (b ∷ bs) (s ∷ ss) = IsReadAs told area b s × AreBlobsRead told area bs ss

abbrev pub blob_lens : List Blob → List ℕ
blob_lens bs = map (λ (b : Blob). b.len) bs

-- One of these is rotten.
abbrev pub HasRotten : {X : Type 0} → (X → Blob) → List X → List ℕ → Fp → Fp → Type 0
HasRotten {X = X} blob xs area named found =
    (x : X) × Contains xs x × ((blob x).named ≡ named) × IsRotten (found_in area (blob x)) (blob x).len named found

-- ---- what is staged

-- These blobs were read and staged behind what was.
pub record StagesMore (told : Bool) (area : List ℕ) (bs : List Blob) (before after : State) : Type 0 where
  pub strings : List (List ℕ)
  pub read : AreBlobsRead told area bs strings
  pub same : after ≡ record before { staged = after.staged }
  pub staged : (first : List (List ℕ)) → HasStaged before first → HasStaged after (first ++ strings)
  pub ends : staged_end after ≡ end_of_laid (staged_end before) (blob_lens bs)

-- What is alive in the slots from the one on was staged, up to the other.
pub record StagesTo {E X : Type 0} (f : Option E → Option X) (blob : X → Blob) (slots : List (Option E)) (from to : ℕ) (old : Cloud) (before after : State) : Type 0 where
  pub more : List X
  pub reaches : picked f (take to slots) ≡ picked f (take from slots) ++ more
  pub left : picked f (drop from slots) ≡ more ++ picked f (drop to slots)
  pub stages : StagesMore old.told (in_area before old) (map blob more) before after

-- Something was.
pub record StagesSome {E X : Type 0} (f : Option E → Option X) (blob : X → Blob) (slots : List (Option E)) (from to : ℕ) (old : Cloud) (before after : State) : Type 0 where
  pub goes : StagesTo f blob slots from to old before after
  pub further : from ≤ to
  pub some : 1 ≤ length goes.more

-- One cloud was read alone.
pub record IsReadAlone (old new : ℕ → Cloud) (number before now : ℕ) : Type 0 where
  pub stays : Stays (old number) (new number)
  pub call : IsCall old new number before now

-- where all that is alive from the slot on would end
abbrev pub all_end : {E X : Type 0} → (Option E → Option X) → (X → Blob) → List (Option E) → ℕ → ℕ → ℕ
all_end f blob slots from end = end_of_laid end (blob_lens (map blob (picked f (drop from slots))))

-- ---- what is copied

-- What is alive in the slots from the one on was copied behind the log's end, up to the other.
pub record CopiesTo {E X : Type 0} (f : Option E → Option X) (blob : X → Blob) (slots : List (Option E)) (from to : ℕ) (before after : State) (old new : Cloud) : Type 0 where
  pub more : List X
  pub reaches : picked f (take to slots) ≡ picked f (take from slots) ++ more
  pub left : picked f (drop from slots) ≡ more ++ picked f (drop to slots)
  pub further : from ≤ to
  pub some : 1 ≤ length more
  pub strings : List (List ℕ)
  pub read : AreBlobsRead old.told (in_area before old) (map blob more) strings
  pub same : after ≡ record before { end = after.end; kept = after.kept }
  pub end_is : after.end ≡ end_of_laid before.end (blob_lens (map blob more))
  pub none : HasStaged after []
  pub agrees : IsTrue old.told → Agrees before (in_area before old) → Agrees after (in_area after new)
  pub lie : IsTrue old.told → All (IsAt (in_area before new)) (placed before.end strings)
  pub apart : IsTrue old.told → (b : Placed) → IsApart before.end (laid before.end strings) b → IsAt (in_area before old) b → IsAt (in_area before new) b
  pub on_disk : IsTrue old.told → old.now before.area ≡ stable (in_area before old) → new.now before.area ≡ stable (in_area before new)
  pub others : IsTrue old.told → (other : Area) → other ≢ before.area → new.now other ≡ old.now other

-- Some bytes that end by the bound may be torn in the log's area, and nothing else has changed.
pub record MayTear (log : State) (bound : ℕ) (old new : Cloud) : Type 0 where
  pub bytes : List ℕ
  pub within : log.end + length bytes ≤ bound
  pub torn : LeavesOnly old new (IsTorn (record log { staged = bytes }) old)

-- the disk behind an error
abbrev pub behind_error : CopyErr → Disk → Disk
behind_error why.Fault disk = record disk { journal = record disk.journal { stage = Shut } }
behind_error (why.Rotten named found) disk = disk
behind_error why.Long disk = disk
