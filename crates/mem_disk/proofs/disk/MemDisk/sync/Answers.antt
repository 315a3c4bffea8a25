use Rattle.std.proofs.Common.{◌∙◌, refl, ap, length}
use Rattle.mem_disk.specs.declared.area.MemArea.{MemArea}
use Rattle.mem_disk.specs.Areas.{held, log_of}
use Rattle.mem_disk.specs.declared.note.Note.TheVariants.{Synced}
use Rattle.mem_disk.specs.History.{history}
use Rattle.mem_disk.proofs.Noted.{same_logs}
use Rattle.mem_disk.proofs.DiskSteps.{noted_lie, noted_history, synced_tracks}
use Rattle.mem_disk.proofs.disk.MemDisk.sync.Goals as goal

pub invariant_of-self : goal.invariant_of-self
invariant_of-self c =
    let areas = c.args.self.now.areas in let notes = c.args.self.now.notes.items in let more = c.add_note.new.notes.items in
    let grows = same_logs (log_of areas) (log_of areas) (λ area. refl) in
    let is = noted_history (log_of areas) (log_of areas) notes more (Synced c.args.area) c.args.self.now.lie grows refl c.add_note.ensures.items in
    record {
      lie = noted_lie (log_of areas) (log_of areas) notes more (Synced c.args.area) c.args.self.now.lie grows refl c.add_note.ensures.items;
      tracks = λ told. synced_tracks areas c.args.self.now.synced c.set.new.self (history (log_of areas) notes) (history (log_of areas) more) c.args.area is (c.set.ensures.here ∙ c.len.ensures ∙ ap (λ (a : MemArea). length (held a)) c.get.ensures) c.set.ensures.others (c.args.self.now.tracks told);
    }

pub returns-clause-history : goal.returns-clause-history
returns-clause-history c =
    let areas = c.args.self.now.areas in let notes = c.args.self.now.notes.items in let more = c.add_note.new.notes.items in
    noted_history (log_of areas) (log_of areas) notes more (Synced c.args.area) c.args.self.now.lie (same_logs (log_of areas) (log_of areas) (λ area. refl)) refl c.add_note.ensures.items
