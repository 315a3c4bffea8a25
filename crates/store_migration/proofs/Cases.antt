-- Facts of an answer, by its cases.
use Rattle.std.proofs.Common.{ℕ, Result, Ok, Err}
use Rattle.fresh_checkpoints.specs.CdEdges.Disk.{Cloud}
use Rattle.fresh_checkpoints.specs.CdEdges.Shelf.{HasFailed, KeepsCounts, IsCall}
use Rattle.fresh_checkpoints.proofs.CdEdges.Calls.{failed_after}
use Rattle.cloud_opening.proofs.Synced.{counts_still}
use Rattle.store_migration.specs.declared.errors.MigrateErr.{MigrateErr}
use Rattle.store_migration.specs.declared.errors.MigrateErr.TheVariants as why
use Rattle.store_migration.specs.Answers.{OnMigrateFault, IfNoMemory}
use Rattle.store_migration.specs.Steps.{IsOfFirstRecords}

-- of every answer
pub of_all : {T : Type 0} (result : Result T MigrateErr) (P : Type 0) → P → OnMigrateFault result (Unit {0}) P
of_all (Ok value) P holds = holds
of_all (Err (why.Open error)) P holds = holds
of_all (Err why.Already) P holds = holds
of_all (Err (why.TooLarge user room used limit)) P holds = holds
of_all (Err why.Fault) P holds = tt
of_all (Err why.NoMemory) P holds = holds

-- of every answer but that a device call failed
pub on_answer : {T : Type 0} (result : Result T MigrateErr) (P Q : Type 0) → (P → Q) → OnMigrateFault result (Unit {0}) P → OnMigrateFault result (Unit {0}) Q
on_answer (Ok value) P Q f is = f is
on_answer (Err (why.Open error)) P Q f is = f is
on_answer (Err why.Already) P Q f is = f is
on_answer (Err (why.TooLarge user room used limit)) P Q f is = f is
on_answer (Err why.Fault) P Q f is = tt
on_answer (Err why.NoMemory) P Q f is = f is

-- the same of an Err, whatever an Ok would give
pub same_err : (T U : Type 0) (error : MigrateErr) (failed other : Type 0) → OnMigrateFault {T = T} (Err error) failed other → OnMigrateFault {T = U} (Err error) failed other
same_err T U (why.Open error) failed other is = is
same_err T U why.Already failed other is = is
same_err T U (why.TooLarge user room used limit) failed other is = is
same_err T U why.Fault failed other is = is
same_err T U why.NoMemory failed other is = is

-- the counts of a call behind one that was Ok
pub counted_behind : {T : Type 0} (result : Result T MigrateErr) (a b c : ℕ → Cloud) (number before mid now : ℕ) → IsCall a b number before mid → KeepsCounts (a number) (b number) before mid
    → OnMigrateFault result (HasFailed (b number) (c number) mid now) (KeepsCounts (b number) (c number) mid now) → OnMigrateFault result (HasFailed (a number) (c number) before now) (KeepsCounts (a number) (c number) before now)
counted_behind (Ok value) a b c number before mid now call first second = counts_still (a number) (b number) (c number) before mid now first second
counted_behind (Err (why.Open error)) a b c number before mid now call first second = counts_still (a number) (b number) (c number) before mid now first second
counted_behind (Err why.Already) a b c number before mid now call first second = counts_still (a number) (b number) (c number) before mid now first second
counted_behind (Err (why.TooLarge user room used limit)) a b c number before mid now call first second = counts_still (a number) (b number) (c number) before mid now first second
counted_behind (Err why.Fault) a b c number before mid now call first second = failed_after a b c number before mid now call second
counted_behind (Err why.NoMemory) a b c number before mid now call first second = counts_still (a number) (b number) (c number) before mid now first second

-- an answer of records isn't want of memory
pub not_memory : {T : Type 0} (result : Result T MigrateErr) → IsOfFirstRecords result → IfNoMemory result ⊥
not_memory (Ok value) kind = tt
not_memory (Err (why.Open error)) kind = tt
not_memory (Err why.Already) kind = absurd kind
not_memory (Err (why.TooLarge user room used limit)) kind = absurd kind
not_memory (Err why.Fault) kind = tt
not_memory (Err why.NoMemory) kind = kind

pub same_memory : (T U : Type 0) (error : MigrateErr) → IfNoMemory {T = T} (Err error) ⊥ → IfNoMemory {T = U} (Err error) ⊥
same_memory T U (why.Open error) is = tt
same_memory T U why.Already is = tt
same_memory T U (why.TooLarge user room used limit) is = tt
same_memory T U why.Fault is = tt
same_memory T U why.NoMemory is = is
