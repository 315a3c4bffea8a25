use Rattle.std.proofs.Common.{refl, ap, sym, ◌∙◌, subst}
use Rattle.checkpoints.specs.CloudDisk.Disk.{Disk}
use Rattle.cloud_store.specs.declared.store.CloudStore.{CloudStore}
use Rattle.cloud_store.specs.Store.{IsSettled, Serves, EndsMeet}
use Rattle.cloud_store.proofs.Keeping.{serves_on, settled_on}
use Rattle.cloud_store.proofs.store.CloudStore.unstage.Goals as goal

pub returns-clause-same : goal.returns-clause-same
returns-clause-same c = ap (λ (d : Disk). record c.args.self.now { disk = d }) c.unstage.ensures.forgets

pub returns-clause-serves : goal.returns-clause-serves
returns-clause-serves c list chain cloud serves =
    let store = c.args.self.now in let same = c.unstage.ensures.forgets in
    serves_on list chain store c.unstage.new.self cloud cloud serves (c.unstage.ensures.on store.header list chain cloud serves.known.on) refl (ap (λ (d : Disk). d.shares.end) same) (ap (λ (d : Disk). d.recipes.end) same)

pub returns-clause-meet : goal.returns-clause-meet
returns-clause-meet c meet =
    let same = c.unstage.ensures.forgets in
    record { shares = ap (λ (d : Disk). d.shares.end) same ∙ meet.shares; recipes = ap (λ (d : Disk). d.recipes.end) same ∙ meet.recipes }

pub returns-clause-settled : goal.returns-clause-settled
returns-clause-settled c =
    let same = c.unstage.ensures.forgets in
    settled_on c.args.self.now c.unstage.new.self c.requires.settled (ap (λ (d : Disk). d.journal) same) (ap (λ (d : Disk). d.shares.area) same) (ap (λ (d : Disk). d.shares.limit) same)
    (ap (λ (d : Disk). d.recipes.area) same) (ap (λ (d : Disk). d.recipes.limit) same)
