use Rattle.std.proofs.Common.{◌≡◌, ◌+◌, ◌-◌, ℕ, List, [], ◌∷◌, length, refl, sym, ◌∙◌, ap, subst}
use Rattle.journal_halves.specs.CdEdges.area.Area.TheVariants.{Journal}
use Rattle.journal_halves.specs.CdEdges.Disk.{LeavesOnly, IsAtArea}
use Rattle.journal_halves.proofs.CdEdges.Moments.{told_on}
use Rattle.journal_halves.specs.JournalStart.Ranges.{IsStart}
use Rattle.journal_halves.specs.JournalStart.Spelling.{start_bytes}
use Rattle.journal_halves.specs.Journals.{all_bodies}
use Rattle.journal_halves.specs.Findings.{part_of}
use Rattle.commit_journal.specs.declared.journal.Stage.TheVariants.{Reading}
use Rattle.journal_halves.specs.States.{IsAdded, begun_at}
use Rattle.journal_halves.specs.States as records
use Rattle.commit_journal.specs.States.{JournalState, state_of}
use Rattle.journal_halves.specs.Beginnings.{new_of}
use Rattle.commit_journal.proofs.Kept.{unbegun_stays}
use Rattle.commit_journal.proofs.Opening.{closed_first, beginning, ready_ended, begun_new, reading_at, plain_start}
use Rattle.commit_journal.proofs.journal.Journal.begin.Goals as goal

pub returns-in_err-close-clause-any_moment : goal.returns-in_err-close-clause-any_moment
returns-in_err-close-clause-any_moment g c told is =
    closed_first (g.V.Shelf.cloud_at c.args.shelf.now c.args.cloud.0) (g.V.Shelf.cloud_at c.close.new.shelf c.args.cloud.0) c.args.asked.now (c.close.ensures.any_moment told is)

pub returns-in_err-append-clause-any_moment : goal.returns-in_err-append-clause-any_moment
returns-in_err-append-clause-any_moment g c told is =
    let number = c.args.cloud.0 in let header = c.args.asked.now in
    let c0 = g.V.Shelf.cloud_at c.args.shelf.now number in let c1 = g.V.Shelf.cloud_at c.close.new.shelf number in let c2 = g.V.Shelf.cloud_at c.append.new.shelf number in
    let told1 = told_on c0 c1 c.close.ensures.call.told told in
    let ready = c.in_ok-close.ensures.ready told is in
    let none = subst (λ (s : records.HalfState). records.IsEnded s (c1.now Journal) []) (sym c.begin.ensures) (ready_ended (c1.now Journal) ready) in
    let body : c.as_slice.result.now ≡ start_bytes (new_of header).start = c.as_slice.ensures.value ∙ c.bytes-bytes.ensures in
    let run = subst (λ (l : List ℕ). LeavesOnly c1 c2 (IsAtArea c1.now Journal (IsAdded 0 (c1.now Journal).read [] l))) body
    (subst (λ (s : records.HalfState). LeavesOnly c1 c2 (IsAtArea c1.now Journal (IsAdded s.half (c1.now Journal).read [] c.as_slice.result.now))) c.begin.ensures (c.append.ensures.any_moment told1 [] none)) in
    beginning c0 c1 c2 header (c.close.ensures.any_moment told is) (c.in_ok-close.ensures.others told) ready c.requires.header run

pub returns-clause-any_moment : goal.returns-clause-any_moment
returns-clause-any_moment g c told is =
    let number = c.args.cloud.0 in let header = c.args.asked.now in
    let c0 = g.V.Shelf.cloud_at c.args.shelf.now number in let c1 = g.V.Shelf.cloud_at c.close.new.shelf number in let c2 = g.V.Shelf.cloud_at c.append.new.shelf number in
    let told1 = told_on c0 c1 c.close.ensures.call.told told in
    let ready = c.in_ok-close.ensures.ready told is in
    let none = subst (λ (s : records.HalfState). records.IsEnded s (c1.now Journal) []) (sym c.begin.ensures) (ready_ended (c1.now Journal) ready) in
    let body : c.as_slice.result.now ≡ start_bytes (new_of header).start = c.as_slice.ensures.value ∙ c.bytes-bytes.ensures in
    let run = subst (λ (l : List ℕ). LeavesOnly c1 c2 (IsAtArea c1.now Journal (IsAdded 0 (c1.now Journal).read [] l))) body
    (subst (λ (s : records.HalfState). LeavesOnly c1 c2 (IsAtArea c1.now Journal (IsAdded s.half (c1.now Journal).read [] c.as_slice.result.now))) c.begin.ensures (c.append.ensures.any_moment told1 [] none)) in
    beginning c0 c1 c2 header (c.close.ensures.any_moment told is) (c.in_ok-close.ensures.others told) ready c.requires.header run

pub returns-clause-begun : goal.returns-clause-begun
returns-clause-begun g c told is =
    let number = c.args.cloud.0 in let header = c.args.asked.now in
    let c0 = g.V.Shelf.cloud_at c.args.shelf.now number in let c1 = g.V.Shelf.cloud_at c.close.new.shelf number in let c2 = g.V.Shelf.cloud_at c.append.new.shelf number in
    let told1 = told_on c0 c1 c.close.ensures.call.told told in
    let ready = c.in_ok-close.ensures.ready told is in
    let none = subst (λ (s : records.HalfState). records.IsEnded s (c1.now Journal) []) (sym c.begin.ensures) (ready_ended (c1.now Journal) ready) in
    let body : c.as_slice.result.now ≡ start_bytes (new_of header).start = c.as_slice.ensures.value ∙ c.bytes-bytes.ensures in
    let more = c.in_ok-append.ensures.added told1 [] none in
    let last = c2.now Journal in
    let half = c.append.ensures.half ∙ ap (λ (s : records.HalfState). s.half) c.begin.ensures in
    let ended = subst (λ (l : List ℕ). records.IsEnded (records.state_of c.append.new.self) last (l ∷ [])) body more.0 in
    let same = subst (λ (s : records.HalfState). part_of (1 - s.half) last.read ≡ part_of (1 - s.half) (c1.now Journal).read) c.begin.ensures more.1 in
    let has = begun_new (c1.now Journal) last header (records.state_of c.append.new.self) ready c.requires.header half ended same in
    let alone = unbegun_stays (c1.now Journal).read last.read 1 same ready.unbegun.second in
    let after : JournalState = record (state_of c.args.self.now) { stage = Reading; start = (new_of header).start; left = 0; current = records.state_of c.begin-2.new.self } in
    let current : after.current ≡ begun_at 0 (length (start_bytes (new_of header).start) + 5) = c.begin-2.ensures ∙ ap (λ (n : ℕ). begun_at 0 (n + 5)) (c.len.ensures.value ∙ ap length c.bytes-bytes.ensures) in
    (reading_at after last 0 (new_of header).start ended.synced has.current current refl refl, has, alone)

pub returns-clause-start : goal.returns-clause-start
returns-clause-start g c =
    subst (λ (s : records.HalfState). IsStart s.half (new_of c.args.asked.now).start) (sym c.begin-2.ensures) (plain_start c.args.asked.now c.requires.header)
