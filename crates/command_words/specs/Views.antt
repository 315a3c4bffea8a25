-- What the words that were read ask for.
use Rattle.std.specs.Prelude.{map, string_bytes}
use Rattle.command_words.specs.declared.command.AskedCommand.{AskedCommand}
use Rattle.command_words.specs.declared.command.AskedCommand.TheVariants as commands
use Rattle.command_words.specs.declared.command.ReadWords.{ReadWords}
use Rattle.command_words.specs.declared.command.ServeWords.{ServeWords}
use Rattle.command_words.specs.declared.command.BackupWords.{BackupWords}
use Rattle.command_words.specs.declared.command.RestoreWords.{RestoreWords}
use Rattle.command_words.specs.declared.command.DeleteWords.{DeleteWords}
use Rattle.command_words.specs.declared.command.SpoolWords.{SpoolWords}
use Rattle.command_words.specs.declared.command.ResumeWords.{ResumeWords}
use Rattle.command_words.specs.declared.command.CloudWords.{CloudWords}
use Rattle.command_words.specs.declared.command.MigrateWords.{MigrateWords}
use Rattle.command_words.specs.declared.command.GenerateWords.{GenerateWords}
use Rattle.command_words.specs.Asked.{AskedRead, AskedServe, AskedFile, AskedSpool, AskedResume, AskedCloud, AskedMigrate, AskedSession, Asked}
use Rattle.command_words.specs.Asked.{ForReplay, ForRead, ForServe, ForBackup, ForRestore, ForDelete, ForSpool, ForResume}
use Rattle.command_words.specs.Asked.{ForAudit, ForCheck, ForReclaim, ForMigrate, ForGenerate}

abbrev pub asked_read : ReadWords → AskedRead
asked_read r = record {
  directory = r.directory.now;
  shape = r.shape;
  user = r.user;
  path = r.path.now;
  version = r.version;
  clouds = r.clouds;
}

abbrev pub asked_serve : ServeWords → AskedServe
asked_serve s = record {
  directory = s.directory.now;
  cloud = s.cloud;
  shape = s.shape;
  address = s.address.now;
  count = s.count;
}

abbrev pub asked_backup : BackupWords → AskedFile
asked_backup f = record {
  user = f.user;
  path = f.path.now;
  version = f.version;
  addresses = map string_bytes f.addresses.now;
}

abbrev pub asked_restore : RestoreWords → AskedFile
asked_restore f = record {
  user = f.user;
  path = f.path.now;
  version = f.version;
  addresses = map string_bytes f.addresses.now;
}

abbrev pub asked_delete : DeleteWords → AskedFile
asked_delete f = record {
  user = f.user;
  path = f.path.now;
  version = f.version;
  addresses = map string_bytes f.addresses.now;
}

abbrev pub asked_spool : SpoolWords → AskedSpool
asked_spool s = record { directory = s.directory.now; file = asked_backup s.file }

abbrev pub asked_resume : ResumeWords → AskedResume
asked_resume r = record { directory = r.directory.now; addresses = map string_bytes r.addresses.now }

abbrev pub asked_cloud : CloudWords → AskedCloud
asked_cloud c = record { directory = c.directory.now; cloud = c.cloud; shape = c.shape }

abbrev pub asked_migrate : MigrateWords → AskedMigrate
asked_migrate m = record { place = asked_cloud m.place; rooms = m.rooms }

abbrev pub asked_session : GenerateWords → AskedSession
asked_session g = record { seed = g.seed; files = g.files; pieces = g.pieces; directory = g.directory.now }

abbrev pub asked_of : AskedCommand → Asked
asked_of (commands.Replay directory) = ForReplay directory.now
asked_of (commands.Read words) = ForRead (asked_read words)
asked_of (commands.Serve words) = ForServe (asked_serve words)
asked_of (commands.Backup words) = ForBackup (asked_backup words)
asked_of (commands.Restore words) = ForRestore (asked_restore words)
asked_of (commands.Delete words) = ForDelete (asked_delete words)
asked_of (commands.Spool words) = ForSpool (asked_spool words)
asked_of (commands.Resume words) = ForResume (asked_resume words)
asked_of (commands.Audit words) = ForAudit (asked_cloud words)
asked_of (commands.Check words) = ForCheck (asked_cloud words)
asked_of (commands.Reclaim words) = ForReclaim (asked_cloud words)
asked_of (commands.Migrate words) = ForMigrate (asked_migrate words)
asked_of (commands.Generate words) = ForGenerate (asked_session words)
