-- What is promised of the words that are carried out.
use Rattle.command_words.specs.Asked.{AskedRead, AskedServe, AskedFile, AskedSpool, AskedResume, AskedCloud, AskedMigrate, AskedSession, Asked}
use Rattle.command_words.specs.Asked.{ForReplay, ForRead, ForServe, ForBackup, ForRestore, ForDelete, ForSpool, ForResume}
use Rattle.command_words.specs.Asked.{ForAudit, ForCheck, ForReclaim, ForMigrate, ForGenerate}
use Rattle.command_words.specs.Commands.{FitsRead, FitsServe, FitsFile, FitsResume, FitsCloud, FitsMigrate, FitsSession}

-- what is asked for is within its ranges
abbrev pub IsFit : Asked → Type 0
IsFit (ForReplay directory) = Unit {0}
IsFit (ForRead r) = FitsRead r
IsFit (ForServe s) = FitsServe s
IsFit (ForBackup f) = FitsFile 3 f
IsFit (ForRestore f) = FitsFile 2 f
IsFit (ForDelete f) = FitsFile 3 f
IsFit (ForSpool s) = FitsFile 3 s.file
IsFit (ForResume r) = FitsResume r
IsFit (ForAudit c) = FitsCloud c
IsFit (ForCheck c) = FitsCloud c
IsFit (ForReclaim c) = FitsCloud c
IsFit (ForMigrate m) = FitsMigrate m
IsFit (ForGenerate g) = FitsSession g

-- what each command promises
pub record EachCommand : Type 1 where
  pub replayed : Type 0
  pub read : AskedRead → Type 0
  pub served : AskedServe → Type 0
  pub backed_up : AskedFile → Type 0
  pub restored : AskedFile → Type 0
  pub deleted : AskedFile → Type 0
  pub spooled : AskedSpool → Type 0
  pub resumed : AskedResume → Type 0
  pub audited : AskedCloud → Type 0
  pub checked : AskedCloud → Type 0
  pub reclaimed : AskedCloud → Type 0
  pub migrated : AskedMigrate → Type 0
  pub generated : AskedSession → Type 0

-- what a call promises of what is asked for
abbrev pub Promises : Asked → EachCommand → Type 0
Promises (ForReplay directory) each = each.replayed
Promises (ForRead r) each = each.read r
Promises (ForServe s) each = each.served s
Promises (ForBackup f) each = each.backed_up f
Promises (ForRestore f) each = each.restored f
Promises (ForDelete f) each = each.deleted f
Promises (ForSpool s) each = each.spooled s
Promises (ForResume r) each = each.resumed r
Promises (ForAudit c) each = each.audited c
Promises (ForCheck c) each = each.checked c
Promises (ForReclaim c) each = each.reclaimed c
Promises (ForMigrate m) each = each.migrated m
Promises (ForGenerate g) each = each.generated g
