use Rattle.std.proofs.Common.{◌∙◌, [], length, refl, sym, ap}
use Rattle.mem_disk.specs.Areas.{log_of}
use Rattle.mem_disk.specs.declared.note.Note.TheVariants.{Emptied}
use Rattle.mem_disk.specs.History.{Empty, history}
use Rattle.mem_disk.proofs.Noted.{same_logs}
use Rattle.mem_disk.proofs.DiskSteps.{noted_lie, noted_history, no_lengths, stable_tracks}
use Rattle.mem_disk.proofs.disk.MemDisk.empty.Goals as goal

pub invariant_of-self : goal.invariant_of-self
invariant_of-self c =
    let old = c.args.self.now.areas in let new = c.empty.new.self in let notes = c.args.self.now.notes.items in let more = c.add_note.new.notes.items in
    let grows = same_logs (log_of old) (log_of new) c.empty.ensures.log in
    let is = noted_history (log_of old) (log_of new) notes more Emptied c.args.self.now.lie grows refl c.add_note.ensures.items in
    record {
      lie = noted_lie (log_of old) (log_of new) notes more Emptied c.args.self.now.lie grows refl c.add_note.ensures.items;
      tracks = λ told. stable_tracks new _ (history (log_of old) notes) (history (log_of new) more) Empty (λ area. []) is (λ area. refl) c.empty.ensures.held (λ area. no_lengths area ∙ sym (ap length (c.empty.ensures.held area)));
    }

pub returns-clause-history : goal.returns-clause-history
returns-clause-history c =
    let old = c.args.self.now.areas in let new = c.empty.new.self in let notes = c.args.self.now.notes.items in let more = c.add_note.new.notes.items in
    noted_history (log_of old) (log_of new) notes more Emptied c.args.self.now.lie (same_logs (log_of old) (log_of new) c.empty.ensures.log) refl c.add_note.ensures.items
