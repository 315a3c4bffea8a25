use Rattle.std.proofs.Common.{ℕ, ◌≤◌, sym, ◌∙◌, ap, subst}
use Rattle.cloud_disk.specs.JournalStart.Spelling.{region_of}
use Rattle.cloud_disk.specs.CommitJournal.States.{JournalState, state_of}
use Rattle.cloud_disk.specs.Disk.{Disk, AreEnds}
use Rattle.record_laws.specs.RecordChecks.CloudMemory.Rooms.{memory_of}
use Rattle.cloud_opening.specs.Roomy.{IsRoomy}
use Rattle.cloud_opening.specs.Spared.{IsReadWhole}
use Rattle.cloud_opening.proofs.Found.{ends_of, loaded_by}
use Rattle.cloud_opening.proofs.opening.reopen.Goals as goal

pub returns-in-Ok-clause-read : goal.returns-in-Ok-clause-read
returns-in-Ok-clause-read g c told =
    subst (λ (s : JournalState). IsReadWhole c.args.header.now s (memory_of c.open_all.new.memory) c.in-Ok.commands (g.V.Shelf.cloud_at c.open_all.new.shelf c.args.cloud.0)) (sym c.reset.ensures.journal) (c.in-Ok.ensures.read told)

pub returns-in-Ok-clause-loaded : goal.returns-in-Ok-clause-loaded
returns-in-Ok-clause-loaded g c told is list stands may =
    let header = c.args.header.now in let number = c.args.cloud.0 in let c0 = g.V.Shelf.cloud_at c.args.shelf.now number in let c1 = g.V.Shelf.cloud_at c.open_all.new.shelf number in
    let journal = state_of c.open_all.new.journal in let old = c.args.disk.now in let m = memory_of c.open_all.new.memory in
    let disk : Disk = record { journal = journal; shares = old.shares; recipes = old.recipes } in
    let f = c.in-Ok.ensures.found told list stands may (ap (λ (s : JournalState). s.limit) c.journal_mut-journal.ensures.value ∙ is.limit) in
    let ends = ends_of header list disk m c.in-Ok.commands c1 f is.shares is.recipes in
    let on = c.reset.ensures.on header list f.c c1 (subst (λ (n : ℕ). AreEnds header list f.c disk c.shares_end.result n c1) (sym c.recipes_end.ensures)
    (subst (λ (n : ℕ). AreEnds header list f.c disk n m.recipes_end c1) (sym c.shares_end.ensures) ends)) in
    loaded_by header list journal c.reset.new.self m c.in-Ok.commands c1 f on

pub returns-in-Ok-clause-roomy : goal.returns-in-Ok-clause-roomy
returns-in-Ok-clause-roomy g c =
    subst (λ (s : JournalState). IsRoomy c.args.header.now.rooms (region_of s.start.checkpoint) (memory_of c.open_all.new.memory)) (sym c.reset.ensures.journal) c.in-Ok.ensures.roomy

pub returns-in-Ok-clause-small : goal.returns-in-Ok-clause-small
returns-in-Ok-clause-small g c = subst (λ (s : JournalState). region_of s.start.checkpoint ≤ 1) (sym c.reset.ensures.journal) c.in-Ok.ensures.small
