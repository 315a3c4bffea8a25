-- A store behind a switch, or one whose journal was shut by it.
use Rattle.std.proofs.Common.{◌≡◌, ℕ, ◌≤◌, Result, Ok, Err, refl, sym, ap, ◌∙◌, subst}
use Rattle.std.specs.Prelude.{OnOk}
use Rattle.cloud_store.specs.CommitJournal.journal.Stage.{Stage}
use Rattle.cloud_store.specs.CommitJournal.journal.Stage.TheVariants.{AtEnd, Shut}
use Rattle.compact_lists.specs.JournalStart.Ranges.{IsHeader}
use Rattle.compact_lists.specs.JournalStart.start.Header.{Header}
use Rattle.fresh_checkpoints.specs.CloudDisk.Disk.{Disk}
use Rattle.fresh_checkpoints.specs.CloudMemory.cloud.CloudMemory.{CloudMemory}
use Rattle.fresh_checkpoints.specs.CloudMemory.Fitting.{FitsRecords}
use Rattle.fresh_checkpoints.specs.CloudMemory.Rooms.{memory_of, HasRooms}
use Rattle.fresh_checkpoints.specs.Checkpoints.Known.{IfLong, IfFailed, stage_behind}
use Rattle.fresh_checkpoints.specs.Checkpoints.whole.Unsettled.{Unsettled}
use Rattle.fresh_checkpoints.specs.Checkpoints.whole.Unsettled.TheVariants.{Long, Failed}
use Rattle.record_laws.specs.ContainerLog.States as logs
use Rattle.cloud_store.specs.CloudOpening.Roomy.{IsRoomy}
use Rattle.cloud_store.specs.CloudOpening.Spared.{IsFor}
use Rattle.cloud_store.specs.declared.store.CloudStore.{CloudStore}
use Rattle.cloud_store.specs.Store.{IsSettled}
use Rattle.blob_copy.specs.declared.copying.CopyErr.{CopyErr}
use Rattle.blob_copy.specs.declared.copying.CopyErr.TheVariants as why
use Rattle.blob_copy.specs.Answers.{IfCopyRotten, NeverWrong}
use Rattle.blob_copy.specs.Switched.{OnLong, IsMovedTo}

-- ---- answers

pub ok_any : {T E : Type 0} (r : Result T E) (P : Type 0) → P → OnOk r P
ok_any (Ok v) P p = p
ok_any (Err e) P p = tt

pub ok_map : {T E : Type 0} (r : Result T E) (P Q : Type 0) → (P → Q) → OnOk r P → OnOk r Q
ok_map (Ok v) P Q f p = f p
ok_map (Err e) P Q f p = tt

pub long_map : {T : Type 0} (r : Result T CopyErr) (P Q : Type 0) → (P → Q) → OnLong r P → OnLong r Q
long_map (Ok v) P Q f p = tt
long_map (Err why.Fault) P Q f p = tt
long_map (Err (why.Rotten named found)) P Q f p = tt
long_map (Err why.Long) P Q f p = f p

pub never : {T : Type 0} (r : Result T CopyErr) → OnLong r ⊥ → IfCopyRotten r (λ named found. ⊥) → NeverWrong r
never (Ok v) long rotten = tt
never (Err why.Fault) long rotten = tt
never (Err (why.Rotten named found)) long rotten = rotten
never (Err why.Long) long rotten = long

-- an error that isn't of length is a device's
failed_of : (A : Type 0) (e : Unsettled) (P : Type 0) → IfLong {A = A} (Err e) ⊥ → IfFailed {A = A} (Err e) P → P
failed_of A Long P short failed = absurd short
failed_of A Failed P short failed = failed

pub failed_only : {A : Type 0} (r : Result A Unsettled) (e : Unsettled) (P : Type 0) → r ≡ Err e → IfLong r ⊥ → IfFailed r P → P
failed_only {A} r e P is short failed = failed_of A e P (subst (λ (x : Result A Unsettled). IfLong x ⊥) is short) (subst (λ (x : Result A Unsettled). IfFailed x P) is failed)

shut_of : (A : Type 0) (e : Unsettled) (s : Stage) → IfLong {A = A} (Err e) ⊥ → s ≡ stage_behind {A = A} (Err e) → s ≡ Shut
shut_of A Long s short stage = absurd short
shut_of A Failed s short stage = stage

pub shut_only : {A : Type 0} (r : Result A Unsettled) (e : Unsettled) (s : Stage) → r ≡ Err e → IfLong r ⊥ → s ≡ stage_behind r → s ≡ Shut
shut_only {A} r e s is short stage = shut_of A e s (subst (λ (x : Result A Unsettled). IfLong x ⊥) is short) (subst (λ (x : Result A Unsettled). s ≡ stage_behind x) is stage)

-- ---- a store that was left with its journal shut, and one that was switched

module _ (region : ℕ) (s new : CloudStore) (m : IsMovedTo region s) (header : new.header ≡ s.header) (memory : new.memory ≡ s.memory)
    (limit : new.disk.journal.limit ≡ s.disk.journal.limit) (shares : new.disk.shares ≡ s.disk.shares) (recipes : new.disk.recipes ≡ s.disk.recipes) where
  rooms_are : HasRooms new.header.rooms new.memory
  rooms_are = subst (λ (h : Header). HasRooms h.rooms new.memory) (sym header) (subst (HasRooms s.header.rooms) (sym memory) m.rooms)

  is_for : IsFor new.header new.disk
  is_for = subst (λ (h : Header). IsFor h new.disk) (sym header) (record {
    limit = limit ∙ m.disk.limit;
    shares = ap (λ (l : logs.State). l.area) shares ∙ m.disk.shares;
    recipes = ap (λ (l : logs.State). l.area) recipes ∙ m.disk.recipes;
  })

  pub left_shut : new.region ≡ s.region → new.disk.journal.stage ≡ Shut → IsSettled new
  left_shut same shut = record {
    header = subst IsHeader (sym header) m.header;
    format = ap (λ (h : Header). h.format) header ∙ m.format;
    rooms = rooms_are;
    fit = λ at_end. absurd (let no : Shut ≡ AtEnd = sym shut ∙ at_end in cc);
    roomy = λ at_end. absurd (let no : Shut ≡ AtEnd = sym shut ∙ at_end in cc);
    disk = is_for;
    shares_limit = ap (λ (l : logs.State). l.limit) shares ∙ m.shares_limit;
    recipes_limit = ap (λ (l : logs.State). l.limit) recipes ∙ m.recipes_limit;
    region = subst (λ (n : ℕ). n ≤ 1) (sym same) m.region;
  }

  pub left_open : new.region ≡ region → region ≤ 1 → IsRoomy s.header.rooms region (memory_of s.memory) → IsSettled new
  left_open same small roomy = record {
    header = subst IsHeader (sym header) m.header;
    format = ap (λ (h : Header). h.format) header ∙ m.format;
    rooms = rooms_are;
    fit = λ at_end. subst (λ (x : CloudMemory). FitsRecords (memory_of x)) (sym memory) m.fit;
    roomy = λ at_end.
        subst (λ (h : Header). IsRoomy h.rooms new.region (memory_of new.memory)) (sym header)
        (subst (λ (n : ℕ). IsRoomy s.header.rooms n (memory_of new.memory)) (sym same)
        (subst (λ (x : CloudMemory). IsRoomy s.header.rooms region (memory_of x)) (sym memory) roomy));
    disk = is_for;
    shares_limit = ap (λ (l : logs.State). l.limit) shares ∙ m.shares_limit;
    recipes_limit = ap (λ (l : logs.State). l.limit) recipes ∙ m.recipes_limit;
    region = subst (λ (n : ℕ). n ≤ 1) (sym same) small;
  }

-- a store whose journal was shut at once
pub shut_at_once : (other : ℕ) (s : CloudStore) (disk : Disk) → IsMovedTo other s → disk ≡ record s.disk { journal = record s.disk.journal { stage = Shut } } → IsSettled (record s { disk = disk })
shut_at_once other s disk m is =
    left_shut other s (record s { disk = disk }) m refl refl (ap (λ (d : Disk). d.journal.limit) is) (ap (λ (d : Disk). d.shares) is) (ap (λ (d : Disk). d.recipes) is) refl (ap (λ (d : Disk). d.journal.stage) is)
