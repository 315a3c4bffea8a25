use Rattle.std.proofs.Common.{◌≡◌, ℕ, sym, ap, ◌∙◌, subst, arith}
use Rattle.checkpoints.specs.ContainerLog.States as logs
use Rattle.checkpoints.specs.CommitJournal.journal.Stage.{Stage}
use Rattle.checkpoints.specs.CommitJournal.journal.Stage.TheVariants.{AtEnd, Shut}
use Rattle.checkpoints.specs.CommitJournal.States as journals
use Rattle.checkpoints.specs.JournalStart.start.Start.{Start}
use Rattle.checkpoints.specs.JournalStart.Spelling.{region_of}
use Rattle.checkpoints.specs.CloudAreas.Standing.{region_in}
use Rattle.checkpoints.proofs.DiskProofs.Standing.{start_on}
use Rattle.checkpoints.specs.CloudMemory.Memory.{HasEnds}
use Rattle.checkpoints.specs.CloudMemory.Rooms.{memory_of}
use Rattle.cloud_opening.specs.Roomy.{IsRoomy}
use Rattle.cloud_store.proofs.store.CloudStore.open.Goals as goal

pub returns-in-Ok-clause-serves : goal.returns-in-Ok-clause-serves
returns-in-Ok-clause-serves g c told list stands may =
    let store = c.args.self.now in let header = store.header in let number = header.cloud.0 in
    let c1 = g.V.Shelf.cloud_at c.reopen.new.shelf number in let disk = c.reopen.new.disk in
    let l = c.in-Ok.ensures.loaded told c.requires.settled.disk list stands may in
    let loaded = l.1 in let chain = loaded.c in
    let region : c.region-self.result ≡ region_in chain =
    c.region-self.ensures ∙ ap (λ (j : journals.JournalState). region_of j.start.checkpoint) c.journal.ensures ∙ ap (λ (s : Start). region_of s.checkpoint) (start_on header list chain disk c1 loaded.on) in
    record {
      c = chain;
      serves = record {
        known = record {
          on = loaded.on;
          remembers = loaded.remembers;
          placed = loaded.placed;
          stand = loaded.stand;
          within = may.within;
          number = sym l.0;
          region_is = sym region;
        };
        ends = subst (λ (r : ℕ). HasEnds r list chain.records (memory_of c.reopen.new.memory)) (sym region) loaded.ends;
        shares_end = ap (λ (s : logs.State). s.end) c.in-Ok.ensures.shares;
        recipes_end = ap (λ (s : logs.State). s.end) c.in-Ok.ensures.recipes;
      };
    }

pub returns-in-Ok-clause-settled : goal.returns-in-Ok-clause-settled
returns-in-Ok-clause-settled g c =
    let settled = c.requires.settled in
    let region : c.region-self.result ≡ region_of c.reopen.new.disk.journal.start.checkpoint = c.region-self.ensures ∙ ap (λ (j : journals.JournalState). region_of j.start.checkpoint) c.journal.ensures in
    record {
      header = settled.header;
      format = settled.format;
      rooms = c.reopen.ensures.rooms;
      fit = λ at_end. c.in-Ok.ensures.fit;
      roomy = λ at_end. subst (λ (n : ℕ). IsRoomy c.args.self.now.header.rooms n (memory_of c.reopen.new.memory)) (sym region) c.in-Ok.ensures.roomy;
      disk = record {
        limit = c.reopen.ensures.limit ∙ settled.disk.limit;
        shares = ap (λ (s : logs.State). s.area) c.in-Ok.ensures.shares ∙ settled.disk.shares;
        recipes = ap (λ (s : logs.State). s.area) c.in-Ok.ensures.recipes ∙ settled.disk.recipes;
      };
      shares_limit = ap (λ (s : logs.State). s.limit) c.in-Ok.ensures.shares ∙ settled.shares_limit;
      recipes_limit = ap (λ (s : logs.State). s.limit) c.in-Ok.ensures.recipes ∙ settled.recipes_limit;
      region = (let small = c.in-Ok.ensures.small in omega (arith, small, region));
    }

pub returns-in-Err-clause-settled : goal.returns-in-Err-clause-settled
returns-in-Err-clause-settled g c =
    let settled = c.requires.settled in record {
      header = settled.header;
      format = settled.format;
      rooms = c.reopen.ensures.rooms;
      fit = λ at_end. absurd (let no : ◌≡◌ {A = Stage} Shut AtEnd = sym c.in-Err.ensures.stage ∙ at_end in cc);
      disk = record {
        limit = c.reopen.ensures.limit ∙ settled.disk.limit;
        shares = ap (λ (s : logs.State). s.area) c.in-Err.ensures.logs.0 ∙ settled.disk.shares;
        recipes = ap (λ (s : logs.State). s.area) c.in-Err.ensures.logs.1 ∙ settled.disk.recipes;
      };
      roomy = λ at_end. absurd (let no : ◌≡◌ {A = Stage} Shut AtEnd = sym c.in-Err.ensures.stage ∙ at_end in cc);
      shares_limit = ap (λ (s : logs.State). s.limit) c.in-Err.ensures.logs.0 ∙ settled.shares_limit;
      recipes_limit = ap (λ (s : logs.State). s.limit) c.in-Err.ensures.logs.1 ∙ settled.recipes_limit;
      region = settled.region;
    }

pub returns-in-Ok-clause-meet : goal.returns-in-Ok-clause-meet
returns-in-Ok-clause-meet g c = record { shares = ap (λ (s : logs.State). s.end) c.in-Ok.ensures.shares; recipes = ap (λ (s : logs.State). s.end) c.in-Ok.ensures.recipes }
