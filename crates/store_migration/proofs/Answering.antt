-- Answers of a migration's parts, one behind another, by cases.
use Rattle.std.proofs.Common.{◌≡◌, ◌⊎◌, inl, inr, ℕ, ◌+◌, ◌≤◌, ◌<◌, Bool, true, false, List, [], ◌∷◌, ◌++◌, Result, Ok, Err, OnOk, IsTrue, refl, sym, ap, ◌∙◌, subst, arith, length}
use Rattle.std.specs.Prelude.{IsOk}
use Rattle.std.proofs.lemmas.List.{append-nil}
use Rattle.fresh_checkpoints.specs.CdBase.ids.CloudNo.{CloudNo}
use Rattle.fresh_checkpoints.specs.CdBase.shape.Shape.{Shape}
use Rattle.fresh_checkpoints.specs.CdEdges.Disk.{Areas, Image, Cloud, IsImage, reads}
use Rattle.fresh_checkpoints.specs.CdEdges.Shelf.{IsCall, HasFailed, KeepsCounts}
use Rattle.fresh_checkpoints.proofs.CdEdges.Calls.{failed_after}
use Rattle.cloud_opening.specs.CommitJournal.States as journals
use Rattle.cloud_opening.specs.JournalStart.rooms.UserRooms.{UserRooms}
use Rattle.cloud_opening.specs.JournalStart.start.Header.{Header}
use Rattle.cloud_opening.specs.UserDedup.command.Command.{Command}
use Rattle.cloud_opening.specs.UserDedup.Cloud.{counted}
use Rattle.cloud_opening.specs.UserDedup.Compact.{compact}
use Rattle.fresh_checkpoints.specs.CloudAreas.Standing.{Chain, StandsFor}
use Rattle.fresh_checkpoints.specs.CloudDisk.Disk.{IsRead}
use Rattle.fresh_checkpoints.proofs.CloudDiskLaws.Standing.{one_image, stands_read}
use Rattle.fresh_checkpoints.specs.CloudMemory.Greatest.{HasGreatest, KeepsGreatest}
use Rattle.fresh_checkpoints.specs.CloudMemory.Memory.{Memory}
use Rattle.fresh_checkpoints.specs.CloudMemory.Rooms.{memory_of}
use Rattle.fresh_checkpoints.specs.CloudMemory.cloud.CloudMemory.{CloudMemory}
use Rattle.fresh_checkpoints.specs.CdBase.rooms.Room.TheVariants.{Fps, Owners, Files}
use Rattle.fresh_checkpoints.specs.Checkpoints.whole.Unsettled.{Unsettled}
use Rattle.fresh_checkpoints.specs.Checkpoints.whole.Unsettled.TheVariants.{Long, Failed}
use Rattle.fresh_checkpoints.specs.Checkpoints.Known.{IfFailed, IfLong}
use Rattle.fresh_checkpoints.specs.CompactMemories.Kept.{IsCompacted, commands_in}
use Rattle.first_laws.specs.FirstRecords.Limits.{limit_of}
use Rattle.large_users.specs.Large.{IsNonePassed, IsCountedBy}
use Rattle.large_users.specs.MigrationModel.Migrating.{AreSmallEnough, header_two}
use Rattle.cloud_opening.specs.Synced.{AreSynced, BeginsSynced}
use Rattle.cloud_opening.proofs.Synced.{counts_still}
use Rattle.store_migration.specs.declared.errors.MigrateErr.{MigrateErr}
use Rattle.store_migration.specs.declared.errors.MigrateErr.TheVariants as why
use Rattle.store_migration.specs.Answers.{MigratedAs, OnMigrateFault, IfAnswered, IfRefused, IfNoMemory}
use Rattle.store_migration.specs.Exact.{ReadsOld, Migrates}
use Rattle.store_migration.specs.Exact as exact
use Rattle.store_migration.specs.Judging.{MemoryJudgedAs, JudgedBy, SettledAs, TakenOverAs, MomentsGoOn}
use Rattle.store_migration.specs.Kit.{HasFirst}

-- ---- the memory without what no user owns

pub is_counted : (old new : CloudMemory) → IsCompacted old (memory_of new) → length old.spent ≡ 256 → IsCountedBy 256 (memory_of old) (memory_of new)
is_counted old new c rows = record { owners = c.owners; files = c.files; rows = c.users ∙ rows; spent = λ user less. c.spent user (omega (arith, less, rows)) }

pub first_still : (old new : CloudMemory) → HasFirst old → KeepsGreatest old new → HasFirst new
first_still old new first keeps =
    let has = keeps (limit_of Fps) (limit_of Owners) (limit_of Files) (length old.spent) first.rooms in
    record {
      rooms = subst (λ (n : ℕ). HasGreatest (limit_of Fps) (limit_of Owners) (limit_of Files) n new) (sym has.users) has;
      users = has.users ∙ first.users;
    }

-- ---- a checkpoint

long_never : {A : Type 0} (r : Result A Unsettled) (limit len : ℕ) → len ≤ limit → IfLong r (limit < len) → IfLong r ⊥
long_never (Ok v) limit len fits is = tt
long_never (Err Long) limit len fits is = absurd (omega (arith, fits, is))
long_never (Err Failed) limit len fits is = tt

failed_of : (A : Type 0) (e : Unsettled) (P : Type 0) → IfLong {A = A} (Err e) ⊥ → IfFailed {A = A} (Err e) P → P
failed_of A Long P short failed = absurd short
failed_of A Failed P short failed = failed

-- what fits isn't too long: a device failed
pub failed_only : {A : Type 0} (r : Result A Unsettled) (e : Unsettled) (limit len : ℕ) (P : Type 0) → r ≡ Err e → len ≤ limit → IfLong r (limit < len) → IfFailed r P → P
failed_only {A} r e limit len P is fits long failed =
    failed_of A e P (subst (λ (x : Result A Unsettled). IfLong x ⊥) is (long_never r limit len fits long)) (subst (λ (x : Result A Unsettled). IfFailed x P) is failed)

-- each image of a cloud that was read for a list stands for it
pub images_stand : (header : Header) (list : List Command) (c : Chain) (j : journals.JournalState) (cloud : Cloud) → IsRead header list c j cloud
    → (image : Image) → IsImage cloud.now image → StandsFor image header list
images_stand header list c j cloud is image left = subst (λ (im : Image). StandsFor im header list) (sym (one_image cloud.now image is.on_disk left)) (stands_read header list c j cloud is)

-- ---- judged, then settled

pub taken_over : (rooms : UserRooms) (m : Memory) (commands : ℕ) (result : Result ℕ MigrateErr) → MemoryJudgedAs rooms m (Ok commands) → SettledAs commands result → TakenOverAs rooms m result
taken_over rooms m commands (Ok number) judged settled = (judged.0, settled ∙ judged.1)
taken_over rooms m commands (Err (why.Open error)) judged settled = absurd settled
taken_over rooms m commands (Err why.Already) judged settled = absurd settled
taken_over rooms m commands (Err (why.TooLarge user room used limit)) judged settled = absurd settled
taken_over rooms m commands (Err why.Fault) judged settled = tt
taken_over rooms m commands (Err why.NoMemory) judged settled = absurd settled

pub judged_over : (rooms : UserRooms) (m : Memory) (error : MigrateErr) → MemoryJudgedAs rooms m (Err error) → TakenOverAs rooms m (Err error)
judged_over rooms m (why.Open error) judged = absurd judged
judged_over rooms m why.Already judged = absurd judged
judged_over rooms m (why.TooLarge user room used limit) judged = judged
judged_over rooms m why.Fault judged = absurd judged
judged_over rooms m why.NoMemory judged = absurd judged

module _ (shape : Shape) (cloud_no : CloudNo) (rooms : UserRooms) (list : List Command) (cloud : Cloud) where
  pub settled_as : (commands : ℕ) (result : Result ℕ MigrateErr) → SettledAs commands result → counted (compact shape list) ≡ commands → AreSmallEnough shape rooms list
      → OnOk result ((image : Image) → IsImage cloud.now image → StandsFor image (header_two shape cloud_no rooms) (compact shape list))
      → MigratedAs shape cloud_no rooms list cloud result
  settled_as commands (Ok number) settled many small each = (record { number = settled ∙ sym many; each = each }, small)
  settled_as commands (Err (why.Open error)) settled many small each = absurd settled
  settled_as commands (Err why.Already) settled many small each = absurd settled
  settled_as commands (Err (why.TooLarge user room used limit)) settled many small each = absurd settled
  settled_as commands (Err why.Fault) settled many small each = tt
  settled_as commands (Err why.NoMemory) settled many small each = tt

  pub judged_as : (error : MigrateErr) → JudgedBy shape rooms list (Err error) → MigratedAs shape cloud_no rooms list cloud (Err error)
  judged_as (why.Open error) judged = absurd judged
  judged_as why.Already judged = absurd judged
  judged_as (why.TooLarge user room used limit) judged = judged
  judged_as why.Fault judged = absurd judged
  judged_as why.NoMemory judged = absurd judged

  -- a cloud that may be migrated is read, or a device failed
  pub read_as : (error : MigrateErr) → OnMigrateFault {T = Unit {0}} (Err error) (Unit {0}) (IsOk {T = Unit {0}} {E = MigrateErr} (Err error)) → MigratedAs shape cloud_no rooms list cloud (Err error)
  read_as (why.Open error) whole = absurd (let no : false ≡ true = whole in cc)
  read_as why.Already whole = absurd (let no : false ≡ true = whole in cc)
  read_as (why.TooLarge user room used limit) whole = absurd (let no : false ≡ true = whole in cc)
  read_as why.Fault whole = tt
  read_as why.NoMemory whole = tt

-- ---- exact answers

module _ (shape : Shape) (cloud_no : CloudNo) (rooms : UserRooms) (image : Image) (m : Memory) where
  pub moves_as : (result : Result ℕ MigrateErr) → ReadsOld shape cloud_no image m (Ok tt) → TakenOverAs rooms m result → IfAnswered result (Migrates shape cloud_no rooms image result)
  moves_as (Ok number) read over = subst (λ (n : ℕ). Migrates shape cloud_no rooms image (Ok n)) (sym over.1) (exact.Moves m read over.0)
  moves_as (Err (why.Open error)) read over = absurd over
  moves_as (Err why.Already) read over = absurd over
  moves_as (Err (why.TooLarge user room used limit)) read over = exact.Large m user _ read over
  moves_as (Err why.Fault) read over = tt
  moves_as (Err why.NoMemory) read over = tt

  pub unread_as : (error : MigrateErr) → OnMigrateFault {T = Unit {0}} (Err error) (Unit {0}) (ReadsOld shape cloud_no image m (Err error))
      → IfAnswered {T = ℕ} (Err error) (Migrates shape cloud_no rooms image (Err error))
  unread_as (why.Open error) read = exact.Unread m (why.Open error) read
  unread_as why.Already read = exact.Unread m why.Already read
  unread_as (why.TooLarge user room used limit) read = exact.Unread m (why.TooLarge user room used limit) read
  unread_as why.Fault read = tt
  unread_as why.NoMemory read = tt

-- ---- facts by the answer

pub refused_of : {T : Type 0} (result : Result T MigrateErr) (P : Type 0) → P → IfRefused result P
refused_of (Ok value) P holds = tt
refused_of (Err (why.Open error)) P holds = holds
refused_of (Err why.Already) P holds = holds
refused_of (Err (why.TooLarge user room used limit)) P holds = holds
refused_of (Err why.Fault) P holds = tt
refused_of (Err why.NoMemory) P holds = tt

pub refused_of_err : (error : MigrateErr) (P : Type 0) → P → IfRefused {T = ℕ} (Err error) P
refused_of_err error P holds = refused_of {T = ℕ} (Err error) P holds

pub refused_map : (result : Result ℕ MigrateErr) (P Q : Type 0) → (P → Q) → IfRefused result P → IfRefused result Q
refused_map (Ok value) P Q f is = tt
refused_map (Err (why.Open error)) P Q f is = f is
refused_map (Err why.Already) P Q f is = f is
refused_map (Err (why.TooLarge user room used limit)) P Q f is = f is
refused_map (Err why.Fault) P Q f is = tt
refused_map (Err why.NoMemory) P Q f is = tt

-- what is settled isn't refused
pub settled_not_refused : (commands : ℕ) (result : Result ℕ MigrateErr) (P : Type 0) → SettledAs commands result → IfRefused result P
settled_not_refused commands (Ok value) P settled = tt
settled_not_refused commands (Err (why.Open error)) P settled = absurd settled
settled_not_refused commands (Err why.Already) P settled = absurd settled
settled_not_refused commands (Err (why.TooLarge user room used limit)) P settled = absurd settled
settled_not_refused commands (Err why.Fault) P settled = tt
settled_not_refused commands (Err why.NoMemory) P settled = absurd settled

pub unread_refused : (error : MigrateErr) (P : Type 0) → OnMigrateFault {T = Unit {0}} (Err error) (Unit {0}) P → IfRefused {T = ℕ} (Err error) P
unread_refused (why.Open error) P is = is
unread_refused why.Already P is = is
unread_refused (why.TooLarge user room used limit) P is = is
unread_refused why.Fault P is = tt
unread_refused why.NoMemory P is = tt

pub answered_of : (result : Result ℕ MigrateErr) (P : Type 0) → P → IfAnswered result P
answered_of (Ok value) P holds = holds
answered_of (Err (why.Open error)) P holds = holds
answered_of (Err why.Already) P holds = holds
answered_of (Err (why.TooLarge user room used limit)) P holds = holds
answered_of (Err why.Fault) P holds = tt
answered_of (Err why.NoMemory) P holds = tt

pub unread_answered : (error : MigrateErr) (P Q : Type 0) → (P → Q) → OnMigrateFault {T = Unit {0}} (Err error) (Unit {0}) P → IfAnswered {T = ℕ} (Err error) Q
unread_answered (why.Open error) P Q f is = f is
unread_answered why.Already P Q f is = f is
unread_answered (why.TooLarge user room used limit) P Q f is = f is
unread_answered why.Fault P Q f is = tt
unread_answered why.NoMemory P Q f is = tt

pub over_no_memory : (rooms : UserRooms) (m : Memory) (result : Result ℕ MigrateErr) → TakenOverAs rooms m result → IfNoMemory result ⊥
over_no_memory rooms m (Ok value) over = tt
over_no_memory rooms m (Err (why.Open error)) over = tt
over_no_memory rooms m (Err why.Already) over = tt
over_no_memory rooms m (Err (why.TooLarge user room used limit)) over = tt
over_no_memory rooms m (Err why.Fault) over = tt
over_no_memory rooms m (Err why.NoMemory) over = over

pub unread_no_memory : (error : MigrateErr) → IfNoMemory {T = Unit {0}} (Err error) ⊥ → IfNoMemory {T = ℕ} (Err error) ⊥
unread_no_memory (why.Open error) is = tt
unread_no_memory why.Already is = tt
unread_no_memory (why.TooLarge user room used limit) is = tt
unread_no_memory why.Fault is = tt
unread_no_memory why.NoMemory is = is

pub never_no_memory : (result : Result ℕ MigrateErr) (P : Type 0) → IfNoMemory result ⊥ → IfNoMemory result P
never_no_memory (Ok value) P is = tt
never_no_memory (Err (why.Open error)) P is = tt
never_no_memory (Err why.Already) P is = tt
never_no_memory (Err (why.TooLarge user room used limit)) P is = tt
never_no_memory (Err why.Fault) P is = tt
never_no_memory (Err why.NoMemory) P is = absurd is

-- ---- moments

pub still_goes_on : (cloud : Cloud) → MomentsGoOn cloud cloud
still_goes_on cloud = ([], sym (append-nil cloud.past))

-- the three syncs, and what came behind them
pub begins : (c0 c1 c2 : Cloud) → AreSynced c0 c1 → MomentsGoOn c1 c2 → BeginsSynced c0 c2
begins c0 c1 c2 first on = record { synced = c1; first = first; since = on.0; past = on.1 }

-- ---- counts

pub kept_counts : (cloud : Cloud) (now : ℕ) → KeepsCounts cloud cloud now now
kept_counts cloud now = record { cloud = refl; total = refl }

pub no_call : (clouds : ℕ → Cloud) (number now : ℕ) → IsCall clouds clouds number now now
no_call clouds number now = record { others = λ other ne. refl; told = refl; armings = refl; later = omega arith; total_later = omega arith }

-- the counts of calls behind some that were Ok
pub counted_behind : (result : Result ℕ MigrateErr) (a b c : ℕ → Cloud) (number before mid now : ℕ) → IsCall a b number before mid → KeepsCounts (a number) (b number) before mid
    → OnMigrateFault result (HasFailed (b number) (c number) mid now) (KeepsCounts (b number) (c number) mid now)
    → OnMigrateFault result (HasFailed (a number) (c number) before now) (KeepsCounts (a number) (c number) before now)
counted_behind (Ok value) a b c number before mid now call first second = counts_still (a number) (b number) (c number) before mid now first second
counted_behind (Err (why.Open error)) a b c number before mid now call first second = counts_still (a number) (b number) (c number) before mid now first second
counted_behind (Err why.Already) a b c number before mid now call first second = counts_still (a number) (b number) (c number) before mid now first second
counted_behind (Err (why.TooLarge user room used limit)) a b c number before mid now call first second = counts_still (a number) (b number) (c number) before mid now first second
counted_behind (Err why.Fault) a b c number before mid now call first second = failed_after a b c number before mid now call second
counted_behind (Err why.NoMemory) a b c number before mid now call first second = counts_still (a number) (b number) (c number) before mid now first second

-- the same of an error, whatever an Ok would give
pub unread_counts : (error : MigrateErr) (failed other : Type 0) → OnMigrateFault {T = Unit {0}} (Err error) failed other → OnMigrateFault {T = ℕ} (Err error) failed other
unread_counts (why.Open error) failed other is = is
unread_counts why.Already failed other is = is
unread_counts (why.TooLarge user room used limit) failed other is = is
unread_counts why.Fault failed other is = is
unread_counts why.NoMemory failed other is = is

-- who judges calls no device
pub judged_counts : (rooms : UserRooms) (m : Memory) (error : MigrateErr) (failed other : Type 0) → MemoryJudgedAs rooms m (Err error) → other → OnMigrateFault {T = ℕ} (Err error) failed other
judged_counts rooms m (why.Open error) failed other judged holds = holds
judged_counts rooms m why.Already failed other judged holds = holds
judged_counts rooms m (why.TooLarge user room used limit) failed other judged holds = holds
judged_counts rooms m why.Fault failed other judged holds = absurd judged
judged_counts rooms m why.NoMemory failed other judged holds = holds
