use Rattle.std.proofs.Common.{sym, subst}
use Rattle.std.proofs.lemmas.List.Elements.{All-contains}
use Rattle.commit_journal.specs.CdEdges.area.Area.{Area}
use Rattle.commit_journal.specs.CdEdges.area.Area.TheVariants.{Recipes}
use Rattle.cloud_areas.specs.ContainerLog.Laying.{IsAt}
use Rattle.cloud_areas.specs.ContainerLog.States as logs
use Rattle.commit_journal.specs.States as journals
use Rattle.cloud_disk.specs.Disk.{Disk, IsOn}
use Rattle.cloud_disk.proofs.Standing.{on_still, read_whole}
use Rattle.cloud_disk.proofs.disk.CloudDisk.read_recipe.Goals as goal

pub returns-clause-recipe : goal.returns-clause-recipe
returns-clause-recipe g c header list chain b stood has at long =
    let number = c.args.cloud.0 in let c0 = g.V.Shelf.cloud_at c.args.shelf.now number in let inside = c.self.inside in
    let on = subst (λ (d : Disk). IsOn header list chain d c0) (sym c.self.view_is) stood in
    let lies = subst (λ (a : Area). IsAt (c0.now a).read b) (sym on.recipes.area_is) (All-contains (IsAt (c0.now Recipes).read) chain.recipes b on.read.holds.recipes has) in
    read_whole c.read_alone.result (c0.now inside.recipes.area).read b c.args.place c.read_alone.new.out lies at (c.read_alone.ensures.bytes on.read.told) (c.read_alone.ensures.blob on.read.told b at long lies)

pub returns-clause-on : goal.returns-clause-on
returns-clause-on g c header list chain stood =
    let number = c.args.cloud.0 in let c0 = g.V.Shelf.cloud_at c.args.shelf.now number in let c1 = g.V.Shelf.cloud_at c.read_alone.new.shelf number in let inside = c.self.inside in
    let disk : Disk = record { journal = journals.state_of inside.journal; shares = inside.shares; recipes = inside.recipes } in
    let on = subst (λ (d : Disk). IsOn header list chain d c0) (sym c.self.view_is) stood in
    subst (λ (s : logs.State). IsOn header list chain (record disk { recipes = s }) c1) (sym c.read_alone.ensures.log) (on_still header list chain disk c0 c1 c.read_alone.ensures.stays c.read_alone.ensures.call.told on)
