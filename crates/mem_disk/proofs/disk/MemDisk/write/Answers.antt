use Rattle.std.proofs.Common.{◌≡◌, length, refl, ◌∙◌, ap}
use Rattle.mem_disk.specs.declared.area.MemArea.{MemArea}
use Rattle.mem_disk.specs.Areas.{log_of}
use Rattle.mem_disk.proofs.DiskSteps.{wrote_lie, wrote_history, wrote_tracks}
use Rattle.mem_disk.proofs.disk.MemDisk.write.Goals as goal

pub invariant_of-self : goal.invariant_of-self
invariant_of-self c =
    let old = c.args.self.now.areas in let new = c.put.new.self in let notes = c.args.self.now.notes.items in let more = c.add_note.new.notes.items in
    let area = c.args.area in let place = c.args.at in let start = c.len-start.result in let bytes = c.args.bytes.now in
    let starts : start ≡ length (log_of old area) = c.len-start.ensures ∙ c.get.result.now.log.ok.0 ∙ ap (λ (a : MemArea). length a.log.items) c.get.ensures in
    record {
      lie = wrote_lie old new notes more c.args.self.now.lie area place start (length bytes) bytes starts refl c.put.ensures.log c.put.ensures.others c.add_note.ensures.items;
      tracks = λ told. wrote_tracks old new notes more c.args.self.now.lie area place start (length bytes) bytes starts refl c.put.ensures.log c.put.ensures.others c.add_note.ensures.items c.args.self.now.synced c.put.ensures.held c.put.ensures.second c.put.ensures.grows c.put.ensures.covers (c.args.self.now.tracks told);
    }

pub returns-clause-history : goal.returns-clause-history
returns-clause-history c =
    let old = c.args.self.now.areas in let new = c.put.new.self in let notes = c.args.self.now.notes.items in let more = c.add_note.new.notes.items in
    let area = c.args.area in let place = c.args.at in let start = c.len-start.result in let bytes = c.args.bytes.now in
    let starts : start ≡ length (log_of old area) = c.len-start.ensures ∙ c.get.result.now.log.ok.0 ∙ ap (λ (a : MemArea). length a.log.items) c.get.ensures in
    wrote_history old new notes more c.args.self.now.lie area place start (length bytes) bytes starts refl c.put.ensures.log c.put.ensures.others c.add_note.ensures.items
