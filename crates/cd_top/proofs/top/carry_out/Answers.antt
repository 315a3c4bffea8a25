use Rattle.std.proofs.Common.{refl, ap}
use Rattle.command_words.specs.Views.{asked_of}
use Rattle.cd_top.proofs.Dispatching.{promised_as}
use Rattle.cd_top.proofs.top.carry_out.Goals as goal

pub returns-in-Read : goal.returns-in-Read
returns-in-Read g c = promised_as _ _ (ap asked_of c.in-Read.is) _ (refl, refl, c.read_in.ensures)

pub returns-in-Serve : goal.returns-in-Serve
returns-in-Serve g c = promised_as _ _ (ap asked_of c.in-Serve.is) _ (refl, c.serve_in.ensures)

pub returns-in-Backup : goal.returns-in-Backup
returns-in-Backup g c = promised_as _ _ (ap asked_of c.in-Backup.is) _ (refl, c.backup_to.ensures)

pub returns-in-Restore : goal.returns-in-Restore
returns-in-Restore g c = promised_as _ _ (ap asked_of c.in-Restore.is) _ (refl, refl, c.restore_from.ensures)

pub returns-in-Delete : goal.returns-in-Delete
returns-in-Delete g c = promised_as _ _ (ap asked_of c.in-Delete.is) _ (refl, refl, c.delete_at.ensures)

pub returns-in-Spool : goal.returns-in-Spool
returns-in-Spool g c = promised_as _ _ (ap asked_of c.in-Spool.is) _ c.spool_in.ensures

pub returns-in-Resume : goal.returns-in-Resume
returns-in-Resume g c = promised_as _ _ (ap asked_of c.in-Resume.is) _ (refl, c.resume_in.ensures)

pub returns-in-Audit : goal.returns-in-Audit
returns-in-Audit g c = promised_as _ _ (ap asked_of c.in-Audit.is) _ (refl, refl, c.audit_in.ensures)

pub returns-in-Check : goal.returns-in-Check
returns-in-Check g c = promised_as _ _ (ap asked_of c.in-Check.is) _ (refl, c.check_in.ensures)

pub returns-in-Reclaim : goal.returns-in-Reclaim
returns-in-Reclaim g c = promised_as _ _ (ap asked_of c.in-Reclaim.is) _ (refl, refl, c.reclaim_in.ensures)

pub returns-in-Migrate : goal.returns-in-Migrate
returns-in-Migrate g c = promised_as _ _ (ap asked_of c.in-Migrate.is) _ (refl, refl, c.migrate_in.ensures)

pub returns-in-Generate : goal.returns-in-Generate
returns-in-Generate g c = promised_as _ _ (ap asked_of c.in-Generate.is) _ (refl, refl, c.generate_in.ensures)
