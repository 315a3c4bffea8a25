use Rattle.std.proofs.Common.{refl, sym, ap, subst}
use Rattle.cloud_areas.specs.ContainerLog.States as logs
use Rattle.commit_journal.specs.States as journals
use Rattle.cloud_disk.specs.Disk.{Disk, IsOn}
use Rattle.cloud_disk.proofs.Standing.{on_alike}
use Rattle.cloud_disk.proofs.disk.CloudDisk.unstage.Goals as goal

pub returns-clause-on : goal.returns-clause-on
returns-clause-on c header list chain cloud stood =
    let inside = c.self.inside in let area = λ (s : logs.State). s.area in let end = λ (s : logs.State). s.end in let kept = λ (s : logs.State). s.kept in
    let disk : Disk = record { journal = journals.state_of inside.journal; shares = inside.shares; recipes = inside.recipes } in
    let on = subst (λ (d : Disk). IsOn header list chain d cloud) (sym c.self.view_is) stood in
    on_alike header list chain disk (record disk { shares = c.unstage.new.self; recipes = c.unstage-2.new.self }) cloud refl
    (ap area c.unstage.ensures.forgets) (ap end c.unstage.ensures.forgets) (ap area c.unstage-2.ensures.forgets) (ap end c.unstage-2.ensures.forgets) (ap kept c.unstage.ensures.forgets) (ap kept c.unstage-2.ensures.forgets) on
