use Rattle.std.proofs.Common.{refl, sym, subst}
use Rattle.commit_journal.specs.States as journals
use Rattle.cloud_disk.specs.Disk.{Disk, AreEnds}
use Rattle.cloud_disk.proofs.Standing.{on_ended}
use Rattle.cloud_disk.proofs.disk.CloudDisk.reset.Goals as goal

pub returns-clause-on : goal.returns-clause-on
returns-clause-on c header list chain cloud ends =
    let inside = c.self.inside in
    let disk : Disk = record { journal = journals.state_of inside.journal; shares = inside.shares; recipes = inside.recipes } in
    let is = subst (λ (d : Disk). AreEnds header list chain d c.args.shares_end c.args.recipes_end cloud) (sym c.self.view_is) ends in
    on_ended header list chain disk (record disk { shares = c.reset.new.self; recipes = c.reset-2.new.self }) c.args.shares_end c.args.recipes_end cloud refl
    c.reset.ensures.reset c.reset-2.ensures.reset c.reset.ensures.agrees c.reset-2.ensures.agrees is
