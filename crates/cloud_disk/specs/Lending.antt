-- What a disk becomes whose journal or one of whose logs is lent for writing.
use Rattle.std.specs.Borrow.{Lends, MutBor, Fml}
use Rattle.cloud_disk.specs.contracts.disk.CloudDisk.{the_row}
use Rattle.cloud_disk.specs.Disk.{Disk}
use Rattle.commit_journal.specs.declared.journal.Journal.{Journal}
use Rattle.commit_journal.specs.contracts.journal.Journal as journal
use Rattle.commit_journal.specs.States as journals
use Rattle.cloud_areas.specs.ContainerLog.log.Log as log
use Rattle.cloud_areas.specs.ContainerLog.States as logs

abbrev pub LendsJournal : MutBor Disk → MutBor Journal → Fml
LendsJournal l r = Lends the_row journal.the_row l r (λ w. record l.now { journal = journals.state_of w })

abbrev pub LendsShares : MutBor Disk → MutBor logs.State → Fml
LendsShares l r = Lends the_row log.the_row l r (λ w. record l.now { shares = w })

abbrev pub LendsRecipes : MutBor Disk → MutBor logs.State → Fml
LendsRecipes l r = Lends the_row log.the_row l r (λ w. record l.now { recipes = w })
