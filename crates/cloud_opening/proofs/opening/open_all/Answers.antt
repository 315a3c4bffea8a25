use Rattle.std.proofs.Common.{ℕ, ◌≤◌, Err, sym, ◌∙◌, subst}
use Rattle.cloud_disk.specs.CdEdges.Disk.{reads}
use Rattle.cloud_disk.proofs.CdEdges.Calls.{called_twice}
use Rattle.cloud_disk.proofs.CdEdges.Moments.{told_on}
use Rattle.cloud_disk.specs.JournalStart.start.Start.{Start}
use Rattle.cloud_disk.specs.JournalStart.Spelling.{region_of}
use Rattle.cloud_disk.specs.CommitJournal.Openings.{MayBeBegun}
use Rattle.cloud_disk.specs.CommitJournal.States.{state_of}
use Rattle.record_laws.specs.RecordChecks.CloudMemory.Rooms.{memory_of}
use Rattle.cloud_opening.proofs.Opened.{opens_err, opens_ok, then_stays, spares_err, spares_ok, keeps, read_whole, stands_after}
use Rattle.cloud_opening.proofs.Found.{whole, found_after}
use Rattle.cloud_opening.proofs.Stated.{Laws}
use Rattle.cloud_opening.specs.Roomy.{IsRoomy}
use Rattle.cloud_opening.proofs.Synced.{counted_behind, same_err, always, on_ok, begins_ok, begins_err}
use Rattle.cloud_opening.proofs.opening.open_all.Goals as goal

pub returns-in-Err-clause-kept : goal.returns-in-Err-clause-kept
returns-in-Err-clause-kept g c told =
    let header = c.args.header.now in let number = c.args.cloud.0 in let c0 = g.V.Shelf.cloud_at c.args.shelf.now number in let c1 = g.V.Shelf.cloud_at c.open_journal.new.shelf number in
    let s = c.in-Err.ensures.started told in let law = c.law_of_standing.ensures in
    keeps header c.args.begin c0 c1 (g.met.V.Shelf.reads_image c.args.shelf.now number told) law.unbegun law.started law.only s.any_moment

pub returns-in-Err-clause-spares : goal.returns-in-Err-clause-spares
returns-in-Err-clause-spares g c told =
    let header = c.args.header.now in let number = c.args.cloud.0 in let c0 = g.V.Shelf.cloud_at c.args.shelf.now number in let c1 = g.V.Shelf.cloud_at c.open_journal.new.shelf number in
    let s = c.in-Err.ensures.started told in let told1 = told_on c0 c1 c.open_journal.ensures.call.told told in
    spares_err header c.args.begin c0 c1 (state_of c.open_journal.new.journal) c.in-Err.error s (g.met.V.Shelf.reads_image c.open_journal.new.shelf number told1)

pub returns-in-Err-clause-exact : goal.returns-in-Err-clause-exact
returns-in-Err-clause-exact g c told =
    let header = c.args.header.now in let number = c.args.cloud.0 in let c0 = g.V.Shelf.cloud_at c.args.shelf.now number in
    let s = c.in-Err.ensures.started told in
    opens_err header c.args.begin (reads c0.now) (memory_of c.args.memory.now) c.in-Err.error s.answer

pub returns-in-Err-clause-read : goal.returns-in-Err-clause-read
returns-in-Err-clause-read g c told = tt

pub returns-in-Err-clause-counts : goal.returns-in-Err-clause-counts
returns-in-Err-clause-counts g c = same_err (Unit {0}) ℕ c.in-Err.error _ _ c.in-Err.ensures.counts

pub returns-in-Ok-clause-kept : goal.returns-in-Ok-clause-kept
returns-in-Ok-clause-kept g c told =
    let header = c.args.header.now in let number = c.args.cloud.0 in let c0 = g.V.Shelf.cloud_at c.args.shelf.now number in let c1 = g.V.Shelf.cloud_at c.open_journal.new.shelf number in
    let c2 = g.V.Shelf.cloud_at c.load.new.shelf number in
    let s = c.in-Ok.ensures.started told in let law = c.law_of_standing.ensures in
    keeps header c.args.begin c0 c2 (g.met.V.Shelf.reads_image c.args.shelf.now number told) law.unbegun law.started law.only
    (then_stays c0 c1 c2 (MayBeBegun c0.now header c.args.begin) s.any_moment c.load.ensures.stays)

pub returns-in-Ok-clause-spares : goal.returns-in-Ok-clause-spares
returns-in-Ok-clause-spares g c told =
    let header = c.args.header.now in let number = c.args.cloud.0 in let c0 = g.V.Shelf.cloud_at c.args.shelf.now number in let c1 = g.V.Shelf.cloud_at c.open_journal.new.shelf number in
    let c2 = g.V.Shelf.cloud_at c.load.new.shelf number in
    let s = c.in-Ok.ensures.started told in let told1 = told_on c0 c1 c.open_journal.ensures.call.told told in let told2 = told_on c1 c2 c.load.ensures.call.told told1 in
    spares_ok header c.args.begin c0 c1 c2 (state_of c.open_journal.new.journal) c.load.result s c.load.ensures.stays (g.met.V.Shelf.reads_image c.load.new.shelf number told2)

pub returns-in-Ok-clause-exact : goal.returns-in-Ok-clause-exact
returns-in-Ok-clause-exact g c told =
    let header = c.args.header.now in let number = c.args.cloud.0 in let c0 = g.V.Shelf.cloud_at c.args.shelf.now number in let c1 = g.V.Shelf.cloud_at c.open_journal.new.shelf number in
    let s = c.in-Ok.ensures.started told in let told1 = told_on c0 c1 c.open_journal.ensures.call.told told in let o = s.opened in
    opens_ok header c.args.begin c0 c1 (state_of c.open_journal.new.journal) s (memory_of c.load.new.memory) c.load.result (c.load.ensures.exact told1 o.w o.reading o.none)

pub returns-in-Ok-clause-read : goal.returns-in-Ok-clause-read
returns-in-Ok-clause-read g c told =
    let header = c.args.header.now in let number = c.args.cloud.0 in let c0 = g.V.Shelf.cloud_at c.args.shelf.now number in let c1 = g.V.Shelf.cloud_at c.open_journal.new.shelf number in
    let c2 = g.V.Shelf.cloud_at c.load.new.shelf number in
    let s = c.in-Ok.ensures.started told in let told1 = told_on c0 c1 c.open_journal.ensures.call.told told in let o = s.opened in
    let law = c.law_of_standing.ensures in
    read_whole header c.args.begin c0 c1 c2 (state_of c.open_journal.new.journal) s c.load.ensures.stays law.started law.only (state_of c.load.new.journal) (memory_of c.load.new.memory) c.load.result
    (c.load.ensures.ended told1 o.w o.reading o.none) (c.load.ensures.exact told1 o.w o.reading o.none)

pub returns-in-Ok-clause-stands : goal.returns-in-Ok-clause-stands
returns-in-Ok-clause-stands g c told list stands =
    let header = c.args.header.now in let number = c.args.cloud.0 in let c0 = g.V.Shelf.cloud_at c.args.shelf.now number in let c1 = g.V.Shelf.cloud_at c.open_journal.new.shelf number in
    let c2 = g.V.Shelf.cloud_at c.load.new.shelf number in
    let law = c.law_of_standing.ensures in
    stands_after header c.args.begin c0 c1 c2 (state_of c.open_journal.new.journal) (c.in-Ok.ensures.started told) c.load.ensures.stays law.started law.only list c.load.result stands

pub returns-in-Err-clause-stands : goal.returns-in-Err-clause-stands
returns-in-Err-clause-stands g c told list stands = tt

pub returns-in-Ok-clause-whole : goal.returns-in-Ok-clause-whole
returns-in-Ok-clause-whole g c told list stands may begins =
    let header = c.args.header.now in let number = c.args.cloud.0 in let c0 = g.V.Shelf.cloud_at c.args.shelf.now number in let c1 = g.V.Shelf.cloud_at c.open_journal.new.shelf number in
    let s = c.in-Ok.ensures.started told in let told1 = told_on c0 c1 c.open_journal.ensures.call.told told in let o = s.opened in
    let laws : Laws = record {
      there = c.law_of_lawful_records.ensures.there;
      nowhere = c.law_of_lawful_records.ensures.nowhere;
      begun_is = c.law_of_fronts.ensures.begun;
      whole = c.law_of_fronts.ensures.whole;
      marked = c.law_of_fronts.ensures.marked;
      number = c.law_of_numbers.ensures.number;
      chain_of = c.law_of_standing.ensures.chain;
    } in
    whole laws header c.args.begin (reads c0.now) (memory_of c.load.new.memory) list may begins stands c.load.result
    (opens_ok header c.args.begin c0 c1 (state_of c.open_journal.new.journal) s (memory_of c.load.new.memory) c.load.result (c.load.ensures.exact told1 o.w o.reading o.none))

pub returns-in-Ok-clause-found : goal.returns-in-Ok-clause-found
returns-in-Ok-clause-found g c told list stands may limit =
    let header = c.args.header.now in let number = c.args.cloud.0 in let c0 = g.V.Shelf.cloud_at c.args.shelf.now number in let c1 = g.V.Shelf.cloud_at c.open_journal.new.shelf number in
    let c2 = g.V.Shelf.cloud_at c.load.new.shelf number in let last = state_of c.load.new.journal in let m = memory_of c.load.new.memory in
    let s = c.in-Ok.ensures.started told in let told1 = told_on c0 c1 c.open_journal.ensures.call.told told in let told2 = told_on c1 c2 c.load.ensures.call.told told1 in let o = s.opened in
    let law = c.law_of_standing.ensures in
    let laws : Laws = record {
      there = c.law_of_lawful_records.ensures.there;
      nowhere = c.law_of_lawful_records.ensures.nowhere;
      begun_is = c.law_of_fronts.ensures.begun;
      whole = c.law_of_fronts.ensures.whole;
      marked = c.law_of_fronts.ensures.marked;
      number = c.law_of_numbers.ensures.number;
      chain_of = c.law_of_standing.ensures.chain;
    } in
    let read = read_whole header c.args.begin c0 c1 c2 (state_of c.open_journal.new.journal) s c.load.ensures.stays law.started law.only last m c.load.result
    (c.load.ensures.ended told1 o.w o.reading o.none) (c.load.ensures.exact told1 o.w o.reading o.none) in
    let after = stands_after header c.args.begin c0 c1 c2 (state_of c.open_journal.new.journal) s c.load.ensures.stays law.started law.only list c.load.result stands in
    found_after laws header list last m c.load.result c2 told2 read after may (c.load.ensures.limit ∙ c.open_journal.ensures.limit ∙ limit)

pub returns-in-Err-clause-found : goal.returns-in-Err-clause-found
returns-in-Err-clause-found g c told list stands may limit = tt

pub returns-in-Err-clause-whole : goal.returns-in-Err-clause-whole
returns-in-Err-clause-whole g c told list stands may begins =
    let header = c.args.header.now in let number = c.args.cloud.0 in let c0 = g.V.Shelf.cloud_at c.args.shelf.now number in
    let laws : Laws = record {
      there = c.law_of_lawful_records.ensures.there;
      nowhere = c.law_of_lawful_records.ensures.nowhere;
      begun_is = c.law_of_fronts.ensures.begun;
      whole = c.law_of_fronts.ensures.whole;
      marked = c.law_of_fronts.ensures.marked;
      number = c.law_of_numbers.ensures.number;
      chain_of = c.law_of_standing.ensures.chain;
    } in
    whole laws header c.args.begin (reads c0.now) (memory_of c.args.memory.now) list may begins stands (Err c.in-Err.error)
    (opens_err header c.args.begin (reads c0.now) (memory_of c.args.memory.now) c.in-Err.error (c.in-Err.ensures.started told).answer)

pub returns-in-Ok-clause-call : goal.returns-in-Ok-clause-call
returns-in-Ok-clause-call g c = called_twice _ _ _ _ _ _ _ c.open_journal.ensures.call c.load.ensures.call

pub returns-in-Ok-clause-counts : goal.returns-in-Ok-clause-counts
returns-in-Ok-clause-counts g c =
    counted_behind c.load.result (g.V.Shelf.cloud_at c.args.shelf.now) (g.V.Shelf.cloud_at c.open_journal.new.shelf) (g.V.Shelf.cloud_at c.load.new.shelf) c.args.cloud.0 (g.V.Shelf.faults c.args.shelf.now) (g.V.Shelf.faults c.open_journal.new.shelf) (g.V.Shelf.faults c.load.new.shelf)
    c.open_journal.ensures.call c.in-Ok.ensures.counts c.load.ensures.counts

pub returns-in-Ok-clause-roomy : goal.returns-in-Ok-clause-roomy
returns-in-Ok-clause-roomy g c =
    let m = memory_of c.load.new.memory in
    on_ok c.load.result _ _ (subst (λ (s : Start). IsRoomy c.args.header.now.rooms (region_of s.checkpoint) m) (sym c.load.ensures.start)) c.load.ensures.roomy

pub returns-in-Ok-clause-small : goal.returns-in-Ok-clause-small
returns-in-Ok-clause-small g c =
    always c.load.result _ (subst (λ (s : Start). region_of s.checkpoint ≤ 1) (sym c.load.ensures.start) c.in-Ok.ensures.small)

pub returns-in-Ok-clause-begins : goal.returns-in-Ok-clause-begins
returns-in-Ok-clause-begins g c begin = begins_ok c.load.result c.load.ensures.kind

pub returns-in-Err-clause-begins : goal.returns-in-Err-clause-begins
returns-in-Err-clause-begins g c begin = begins_err c.in-Err.error (c.in-Err.ensures.begins begin)
