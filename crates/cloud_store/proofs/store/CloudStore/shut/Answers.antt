use Rattle.std.proofs.Common.{◌≡◌, sym, ap, ◌∙◌, subst}
use Rattle.checkpoints.specs.CommitJournal.journal.Stage.{Stage}
use Rattle.checkpoints.specs.CommitJournal.journal.Stage.TheVariants.{AtEnd, Shut}
use Rattle.checkpoints.specs.CloudDisk.Disk.{Disk}
use Rattle.cloud_store.proofs.store.CloudStore.shut.Goals as goal

pub returns-clause-same : goal.returns-clause-same
returns-clause-same c = ap (λ (d : Disk). record c.args.self.now { disk = d }) c.shut.ensures

pub returns-clause-shut : goal.returns-clause-shut
returns-clause-shut c at_end = absurd (let no : ◌≡◌ {A = Stage} Shut AtEnd = sym (ap (λ (d : Disk). d.journal.stage) c.shut.ensures) ∙ at_end in cc)

pub returns-clause-settled : goal.returns-clause-settled
returns-clause-settled c =
    let settled = c.requires.settled in let same = c.shut.ensures in record {
      header = settled.header;
      format = settled.format;
      rooms = settled.rooms;
      fit = λ at_end. absurd (let no : ◌≡◌ {A = Stage} Shut AtEnd = sym (ap (λ (d : Disk). d.journal.stage) same) ∙ at_end in cc);
      roomy = λ at_end. absurd (let no : ◌≡◌ {A = Stage} Shut AtEnd = sym (ap (λ (d : Disk). d.journal.stage) same) ∙ at_end in cc);
      disk = record {
        limit = ap (λ (d : Disk). d.journal.limit) same ∙ settled.disk.limit;
        shares = ap (λ (d : Disk). d.shares.area) same ∙ settled.disk.shares;
        recipes = ap (λ (d : Disk). d.recipes.area) same ∙ settled.disk.recipes;
      };
      shares_limit = ap (λ (d : Disk). d.shares.limit) same ∙ settled.shares_limit;
      recipes_limit = ap (λ (d : Disk). d.recipes.limit) same ∙ settled.recipes_limit;
      region = settled.region;
    }
