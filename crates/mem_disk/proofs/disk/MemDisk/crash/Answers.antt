use Rattle.std.proofs.Common.{◌∙◌, [], refl, sym, ap, subst, IsTrue, List, ℕ}
use Rattle.mem_disk.specs.Areas.{area_of, held_of, log_of}
use Rattle.mem_disk.specs.Crashed.{is_in, crashed, ranges_in}
use Rattle.mem_disk.specs.declared.note.Note.{Note}
use Rattle.mem_disk.specs.declared.note.Note.TheVariants.{Crashed}
use Rattle.mem_disk.specs.History.{Crash, history, now_of, nothing}
use Rattle.mem_disk.specs.Numbers.{number_of}
use Rattle.mem_disk.proofs.Noted.{same_logs}
use Rattle.mem_disk.proofs.DiskSteps.{noted_lie, noted_history, stable_tracks, written_is, crash_is, of_end, of_apart}
use Rattle.mem_disk.proofs.disk.MemDisk.crash.Goals as goal

pub crash-requires-clause-cut : goal.crash-requires-clause-cut
crash-requires-clause-cut c area = of_end (area_of c.args.self.now.areas area) (number_of c.args.self.now.synced area) (c.args.self.now.tracks c.requires.told area).ends

pub crash-requires-clause-covered : goal.crash-requires-clause-covered
crash-requires-clause-covered c area k inside =
    let d = c.args.self.now in
    of_apart (area_of d.areas area) k ((d.tracks c.requires.told area).covered k (subst (λ (l : List (ℕ × ℕ)). IsTrue (is_in l k)) (ap (λ (n : List Note). ranges_in area [] n) c.deref.ensures.value ∙ sym (written_is (log_of d.areas) nothing d.notes.items area d.lie)) inside))

pub invariant_of-self : goal.invariant_of-self
invariant_of-self c =
    let d = c.args.self.now in let old = d.areas in let new = c.crash.new.self in let notes = d.notes.items in let more = c.add_note.new.notes.items in
    let grows = same_logs (log_of old) (log_of new) c.crash.ensures.log in let note = Crashed c.args.fill c.args.whole in
    let is = noted_history (log_of old) (log_of new) notes more note d.lie grows refl c.add_note.ensures.items in
    record {
      lie = noted_lie (log_of old) (log_of new) notes more note d.lie grows refl c.add_note.ensures.items;
      tracks = λ told. stable_tracks new c.lens-self.result (history (log_of old) notes) (history (log_of new) more) (Crash c.args.fill c.args.whole) (λ area. crashed c.args.fill c.args.whole (now_of nothing (history (log_of old) notes) area)) is (λ area. refl)
          (λ area. c.crash.ensures.held area ∙ crash_is c.args.fill c.args.whole _ (held_of old area) (number_of d.synced area) (now_of nothing (history (log_of old) notes) area) (written_is (log_of old) nothing notes area d.lie ∙ sym (ap (λ (n : List Note). ranges_in area [] n) c.deref.ensures.value)) (d.tracks c.requires.told area).read (d.tracks c.requires.told area).synced)
          c.lens-self.ensures;
    }

pub returns-clause-history : goal.returns-clause-history
returns-clause-history c =
    let d = c.args.self.now in let old = d.areas in let new = c.crash.new.self in
    noted_history (log_of old) (log_of new) d.notes.items c.add_note.new.notes.items (Crashed c.args.fill c.args.whole) d.lie (same_logs (log_of old) (log_of new) c.crash.ensures.log) refl c.add_note.ensures.items
