use Rattle.std.proofs.Common.{◌≡◌, sym, ◌∙◌, ap, subst, arith}
use Rattle.checkpoints.specs.CommitJournal.journal.Stage.{Stage}
use Rattle.checkpoints.specs.CommitJournal.journal.Stage.TheVariants.{AtEnd, Shut}
use Rattle.checkpoints.specs.CloudMemory.Fitting.{FitsRecords}
use Rattle.checkpoints.proofs.MemoryProofs.Fitting.{begun_fits}
use Rattle.cloud_store.proofs.store.CloudStore.make.Goals as goal

pub returns-clause-settled : goal.returns-clause-settled
returns-clause-settled c = record {
  header = c.requires.header;
  format = c.requires.format;
  rooms = c.in_ok-memory.ensures.rooms;
  fit = λ at_end. subst FitsRecords (sym c.in_ok-memory.ensures.value) (begun_fits c.args.header.rooms.users 0);
  disk = record {
    limit = c.in_ok-disk.ensures.journal.0;
    shares = ap (λ s. s.area) c.in_ok-disk.ensures.logs.0;
    recipes = ap (λ s. s.area) c.in_ok-disk.ensures.logs.1;
  };
  roomy = λ at_end. absurd (let no : ◌≡◌ {A = Stage} Shut AtEnd = sym c.in_ok-disk.ensures.journal.1 ∙ at_end in cc);
  shares_limit = ap (λ s. s.limit) c.in_ok-disk.ensures.logs.0;
  recipes_limit = ap (λ s. s.limit) c.in_ok-disk.ensures.logs.1;
  region = omega arith;
}
