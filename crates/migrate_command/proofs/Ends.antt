-- What a migration says of a shelf, by the cloud alone.
use Rattle.std.proofs.Common.{◌≡◌, ℕ, Result, Ok, Err}
use Rattle.store_migration.specs.Answers.{IfNoMemory}
use Rattle.store_migration.specs.declared.errors.MigrateErr.{MigrateErr}
use Rattle.store_migration.specs.declared.errors.MigrateErr.TheVariants as why

-- by cases of the answer
pub if_no_memory : (result : Result ℕ MigrateErr) (P Q : Type 0) → (P → Q) → IfNoMemory result P → IfNoMemory result Q
if_no_memory (Ok value) P Q more p = p
if_no_memory (Err (why.Open error)) P Q more p = p
if_no_memory (Err why.Already) P Q more p = p
if_no_memory (Err (why.TooLarge user room used limit)) P Q more p = p
if_no_memory (Err why.Fault) P Q more p = p
if_no_memory (Err why.NoMemory) P Q more p = more p
