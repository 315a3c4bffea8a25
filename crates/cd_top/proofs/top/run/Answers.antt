use Rattle.command_words.specs.Asked.{ForReplay, ForRead, ForServe, ForBackup, ForRestore, ForDelete, ForSpool, ForResume}
use Rattle.command_words.specs.Asked.{ForAudit, ForCheck, ForReclaim, ForMigrate, ForGenerate}
use Rattle.cd_top.proofs.Completing.{completes}
use Rattle.cd_top.proofs.Dispatching.{is_replayed, is_read, is_served, is_backed_up, is_restored, is_deleted, is_spooled}
use Rattle.cd_top.proofs.Dispatching.{is_resumed, is_audited, is_checked, is_reclaimed, is_migrated, is_generated}
use Rattle.cd_top.proofs.top.run.Goals as goal

pub returns-in-Ok-None-clause-headline : goal.returns-in-Ok-None-clause-headline
returns-in-Ok-None-clause-headline g c = λ replay.
    absurd ((rw c.in-Ok-None.field-0-is at c.in-Ok-None.ensures.none) (ForReplay replay.0) replay.1)

pub returns-in-Ok-None-clause-complete : goal.returns-in-Ok-None-clause-complete
returns-in-Ok-None-clause-complete g c = λ replay well.
    absurd ((rw c.in-Ok-None.field-0-is at c.in-Ok-None.ensures.none) (ForReplay replay.0) replay.1)

pub returns-in-Ok-None-clause-read : goal.returns-in-Ok-None-clause-read
returns-in-Ok-None-clause-read g c = λ asked is.
    absurd ((rw c.in-Ok-None.field-0-is at c.in-Ok-None.ensures.none) (ForRead asked) is)

pub returns-in-Ok-None-clause-serve : goal.returns-in-Ok-None-clause-serve
returns-in-Ok-None-clause-serve g c = λ asked is.
    absurd ((rw c.in-Ok-None.field-0-is at c.in-Ok-None.ensures.none) (ForServe asked) is)

pub returns-in-Ok-None-clause-backup : goal.returns-in-Ok-None-clause-backup
returns-in-Ok-None-clause-backup g c = λ asked is.
    absurd ((rw c.in-Ok-None.field-0-is at c.in-Ok-None.ensures.none) (ForBackup asked) is)

pub returns-in-Ok-None-clause-restore : goal.returns-in-Ok-None-clause-restore
returns-in-Ok-None-clause-restore g c = λ asked is.
    absurd ((rw c.in-Ok-None.field-0-is at c.in-Ok-None.ensures.none) (ForRestore asked) is)

pub returns-in-Ok-None-clause-delete : goal.returns-in-Ok-None-clause-delete
returns-in-Ok-None-clause-delete g c = λ asked is.
    absurd ((rw c.in-Ok-None.field-0-is at c.in-Ok-None.ensures.none) (ForDelete asked) is)

pub returns-in-Ok-None-clause-spool : goal.returns-in-Ok-None-clause-spool
returns-in-Ok-None-clause-spool g c = λ asked is.
    absurd ((rw c.in-Ok-None.field-0-is at c.in-Ok-None.ensures.none) (ForSpool asked) is)

pub returns-in-Ok-None-clause-resume : goal.returns-in-Ok-None-clause-resume
returns-in-Ok-None-clause-resume g c = λ asked is.
    absurd ((rw c.in-Ok-None.field-0-is at c.in-Ok-None.ensures.none) (ForResume asked) is)

pub returns-in-Ok-None-clause-audit : goal.returns-in-Ok-None-clause-audit
returns-in-Ok-None-clause-audit g c = λ asked is.
    absurd ((rw c.in-Ok-None.field-0-is at c.in-Ok-None.ensures.none) (ForAudit asked) is)

pub returns-in-Ok-None-clause-check : goal.returns-in-Ok-None-clause-check
returns-in-Ok-None-clause-check g c = λ asked is.
    absurd ((rw c.in-Ok-None.field-0-is at c.in-Ok-None.ensures.none) (ForCheck asked) is)

pub returns-in-Ok-None-clause-reclaim : goal.returns-in-Ok-None-clause-reclaim
returns-in-Ok-None-clause-reclaim g c = λ asked is.
    absurd ((rw c.in-Ok-None.field-0-is at c.in-Ok-None.ensures.none) (ForReclaim asked) is)

pub returns-in-Ok-None-clause-migrate : goal.returns-in-Ok-None-clause-migrate
returns-in-Ok-None-clause-migrate g c = λ asked is.
    absurd ((rw c.in-Ok-None.field-0-is at c.in-Ok-None.ensures.none) (ForMigrate asked) is)

pub returns-in-Ok-None-clause-generate : goal.returns-in-Ok-None-clause-generate
returns-in-Ok-None-clause-generate g c = λ asked is.
    absurd ((rw c.in-Ok-None.field-0-is at c.in-Ok-None.ensures.none) (ForGenerate asked) is)

pub returns-in-Err-clause-unused : goal.returns-in-Err-clause-unused
returns-in-Err-clause-unused g c = λ other.
    absurd (other (ForRead c.in-Err.ensures.memory.0, c.in-Err.ensures.memory.1))

pub returns-clause-complete : goal.returns-clause-complete
returns-clause-complete g c = λ replay well.
    completes _ _ _ _ (is_replayed c.law_of_words.ensures.one _ _
    (rw c.in-Ok-Some.field-0-is at c.in-Ok-Some.ensures.some) _ c.carry_out.ensures replay).1 well

pub returns-clause-headline : goal.returns-clause-headline
returns-clause-headline g c = λ replay.
    (is_replayed c.law_of_words.ensures.one _ _
    (rw c.in-Ok-Some.field-0-is at c.in-Ok-Some.ensures.some) _ c.carry_out.ensures replay).1

pub returns-clause-unconnected : goal.returns-clause-unconnected
returns-clause-unconnected g c = λ replay.
    (is_replayed c.law_of_words.ensures.one _ _
    (rw c.in-Ok-Some.field-0-is at c.in-Ok-Some.ensures.some) _ c.carry_out.ensures replay).0

pub returns-clause-read : goal.returns-clause-read
returns-clause-read g c = λ asked other.
    is_read c.law_of_words.ensures.one _ _
    (rw c.in-Ok-Some.field-0-is at c.in-Ok-Some.ensures.some) _ c.carry_out.ensures asked other

pub returns-clause-serve : goal.returns-clause-serve
returns-clause-serve g c = λ asked other.
    is_served c.law_of_words.ensures.one _ _
    (rw c.in-Ok-Some.field-0-is at c.in-Ok-Some.ensures.some) _ c.carry_out.ensures asked other

pub returns-clause-backup : goal.returns-clause-backup
returns-clause-backup g c = λ asked other.
    is_backed_up c.law_of_words.ensures.one _ _
    (rw c.in-Ok-Some.field-0-is at c.in-Ok-Some.ensures.some) _ c.carry_out.ensures asked other

pub returns-clause-restore : goal.returns-clause-restore
returns-clause-restore g c = λ asked other.
    is_restored c.law_of_words.ensures.one _ _
    (rw c.in-Ok-Some.field-0-is at c.in-Ok-Some.ensures.some) _ c.carry_out.ensures asked other

pub returns-clause-delete : goal.returns-clause-delete
returns-clause-delete g c = λ asked other.
    is_deleted c.law_of_words.ensures.one _ _
    (rw c.in-Ok-Some.field-0-is at c.in-Ok-Some.ensures.some) _ c.carry_out.ensures asked other

pub returns-clause-spool : goal.returns-clause-spool
returns-clause-spool g c = λ asked other.
    is_spooled c.law_of_words.ensures.one _ _
    (rw c.in-Ok-Some.field-0-is at c.in-Ok-Some.ensures.some) _ c.carry_out.ensures asked other

pub returns-clause-resume : goal.returns-clause-resume
returns-clause-resume g c = λ asked other.
    is_resumed c.law_of_words.ensures.one _ _
    (rw c.in-Ok-Some.field-0-is at c.in-Ok-Some.ensures.some) _ c.carry_out.ensures asked other

pub returns-clause-audit : goal.returns-clause-audit
returns-clause-audit g c = λ asked other.
    is_audited c.law_of_words.ensures.one _ _
    (rw c.in-Ok-Some.field-0-is at c.in-Ok-Some.ensures.some) _ c.carry_out.ensures asked other

pub returns-clause-check : goal.returns-clause-check
returns-clause-check g c = λ asked other.
    is_checked c.law_of_words.ensures.one _ _
    (rw c.in-Ok-Some.field-0-is at c.in-Ok-Some.ensures.some) _ c.carry_out.ensures asked other

pub returns-clause-reclaim : goal.returns-clause-reclaim
returns-clause-reclaim g c = λ asked other.
    is_reclaimed c.law_of_words.ensures.one _ _
    (rw c.in-Ok-Some.field-0-is at c.in-Ok-Some.ensures.some) _ c.carry_out.ensures asked other

pub returns-clause-migrate : goal.returns-clause-migrate
returns-clause-migrate g c = λ asked other.
    is_migrated c.law_of_words.ensures.one _ _
    (rw c.in-Ok-Some.field-0-is at c.in-Ok-Some.ensures.some) _ c.carry_out.ensures asked other

pub returns-clause-generate : goal.returns-clause-generate
returns-clause-generate g c = λ asked other.
    is_generated c.law_of_words.ensures.one _ _
    (rw c.in-Ok-Some.field-0-is at c.in-Ok-Some.ensures.some) _ c.carry_out.ensures asked other
