-- Where nothing fails and no user keeps too much, a migration answers 0 or runs out of memory: each other status has a cause that isn't there.
use Rattle.std.proofs.Common.{◌≡◌, ◌⊎◌, inl, inr, ℕ, List, None, Some, Result, Ok, Err, sym, ◌∙◌}
use Rattle.command_cloud.specs.BackupCommand.Writing.{Output, HasWrittenOrCause, InFull, InPart, NotAtAll}
use Rattle.command_cloud.specs.Opened.{CloudCall}
use Rattle.command_cloud.proofs.ServeCommand.Completing.{not_risen}
use Rattle.store_migration.specs.JournalStart.rooms.UserRooms.{UserRooms}
use Rattle.store_migration.specs.MigrationModel.Migrating.{AreSmallEnough}
use Rattle.store_migration.specs.Answers.{MigratedAs, OnMigrateFault}
use Rattle.store_migration.specs.declared.errors.MigrateErr.{MigrateErr}
use Rattle.store_migration.specs.declared.errors.MigrateErr.TheVariants as why
use Rattle.store_migration.specs.UserDedup.command.Command.{Command}
use Rattle.migrate_command.specs.Said.{migrate_status, migrate_text}
use Rattle.migrate_command.specs.TakenOver.{IsMigrationOf, IsTakenOver, IsMigrationUnhindered}

module _ (rooms : UserRooms) (list : List Command) (call : CloudCall) (out : Output) (well : IsMigrationUnhindered list call out)
    (small : AreSmallEnough call.shape rooms list) where
  due_of : (result : Result ℕ MigrateErr) → IsMigrationOf rooms call result → (migrate_status result ≡ 0) ⊎ (migrate_status result ≡ 6)
  due_of (Ok commands) of = inl (λ i. 0)
  due_of (Err (why.Open error)) of = absurd (of.migrated list well.stands)
  due_of (Err why.Already) of = absurd (of.migrated list well.stands)
  due_of (Err (why.TooLarge user room used limit)) of =
      absurd (let none = small user in let some = (of.migrated list well.stands).here in let never = sym none ∙ some in cc)
  due_of (Err why.Fault) of = absurd (not_risen call.old.faults call.new.faults well.cloud of.counts.cloud)
  due_of (Err why.NoMemory) of = inr (λ i. 6)

  -- a text that is due with 0 or 6
  status_of : (text : List ℕ) (due status : ℕ) → (due ≡ 0) ⊎ (due ≡ 6) → HasWrittenOrCause text due out status → (status ≡ 0) ⊎ (status ≡ 6)
  status_of text due status (inl is) (InFull same appends still) = inl (same ∙ is)
  status_of text due status (inr is) (InFull same appends still) = inr (same ∙ is)
  status_of text due status is (InPart front rest same parts appends rose) =
      absurd (not_risen out.faults_before out.faults_after well.sink rose)
  status_of text due status is (NotAtAll same silent) = inr same

  pub completes : (status : ℕ) → IsTakenOver rooms status call out → (status ≡ 0) ⊎ (status ≡ 6)
  completes status over =
      status_of (migrate_text call.cloud over.result) (migrate_status over.result) status (due_of over.result over.of) over.writes
