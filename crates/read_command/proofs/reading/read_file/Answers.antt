use Rattle.std.proofs.Common.{rules, ◌≡◌, ℕ, List, [], refl, subst}
use Rattle.cloud_areas.specs.UserDedup.command.Command.{Command}
use Rattle.commit_journal.specs.JournalStart.rooms.UserRooms.{UserRooms}
use Rattle.read_command.specs.Disks.{AreReadable}
use Rattle.read_command.specs.Opening.{EndsOpening, IsFailedOrNoMemory}
use Rattle.read_command.specs.Ends.{Outside, IsReadWritten, Restored}
use Rattle.read_command.specs.declared.end.ReadEnd.{ReadEnd}
use Rattle.read_command.specs.declared.end.ReadEnd.TheVariants as ends
use Rattle.read_command.proofs.Disks.{spared_still}
use Rattle.read_command.proofs.Whole.{nothing_more, reads_whole, reads_stopped, whole_anyway}
use Rattle.read_command.proofs.reading.read_file.Goals as goal

pub returns-in_default-clause-reads : goal.returns-in_default-clause-reads
returns-in_default-clause-reads g c = ([], nothing_more (g.K.Sink.written c.args.sink.now), (refl, tt), λ rooms lists are. tt)

pub returns-in_default-make-clause-reads : goal.returns-in_default-make-clause-reads
returns-in_default-make-clause-reads g c = ([], nothing_more (g.K.Sink.written c.args.sink.now), (refl, tt), λ rooms lists are. tt)

pub returns-in-Ok-came-clause-reads : goal.returns-in-Ok-came-clause-reads
returns-in-Ok-came-clause-reads g c =
    let around : g.row.V.Denot → g.row.V.Denot → Outside = λ a b. record {
      total_before = g.V.Shelf.faults a;
      total_after = g.V.Shelf.faults b;
      old = g.V.Shelf.cloud_at a;
      new = g.V.Shelf.cloud_at b;
    } in
    let r = c.args.wanted.now in
    let came = c.in-Ok-came.came in
    let file = c.restore_opened-came.new.file in
    let first = c.of-link.result.shelf.now in
    let last = c.restore_opened-came.new.link.shelf.now in
    let back : last ≡ c.shelf-1.given.0 = search rules in
    let old = g.K.Sink.written c.args.sink.now in
    let new = g.K.Sink.written c.write_came.new.sink in
    reads_whole (around c.args.shelf.now c.shelf-1.given.0) r came file old new c.write_came.result
    (subst (λ (a : g.row.V.Denot). Restored (around a c.shelf-1.given.0) r came file) c.of-link.ensures.shelf
    (subst (λ (b : g.row.V.Denot). Restored (around first b) r came file) back c.in-Ok-came.ensures.came))
    (subst (λ (bytes : List ℕ). IsReadWritten came bytes old new c.write_came.result) c.as_slice.ensures c.write_came.ensures.written)

pub returns-clause-reads : goal.returns-clause-reads
returns-clause-reads g c =
    let around : g.row.V.Denot → g.row.V.Denot → Outside = λ a b. record {
      total_before = g.V.Shelf.faults a;
      total_after = g.V.Shelf.faults b;
      old = g.V.Shelf.cloud_at a;
      new = g.V.Shelf.cloud_at b;
    } in
    let r = c.args.wanted.now in
    let end = c.in-Err.end in
    let first = c.of-link.result.shelf.now in
    let last = c.restore_opened-came.new.link.shelf.now in
    let back : last ≡ c.shelf-1.given.0 = search rules in
    let ended = λ (a b : g.row.V.Denot). EndsOpening r.shape r.clouds.now (g.V.Shelf.cloud_at a) (g.V.Shelf.cloud_at b) (g.V.Shelf.faults a) (g.V.Shelf.faults b) end in
    reads_stopped (around c.args.shelf.now c.shelf-1.given.0) r (g.K.Sink.written c.args.sink.now) end
    (subst (λ (a : g.row.V.Denot). ended a c.shelf-1.given.0) c.of-link.ensures.shelf (subst (λ (b : g.row.V.Denot). ended first b) back c.in-Err.ensures.end))
    (subst (λ (a : g.row.V.Denot). (rooms : ℕ → UserRooms) (lists : ℕ → List Command) → AreReadable r.shape r.clouds.now (g.V.Shelf.cloud_at a) rooms lists → IsFailedOrNoMemory end) c.of-link.ensures.shelf c.in-Err.ensures.free)

pub returns-in_default-clause-areas : goal.returns-in_default-clause-areas
returns-in_default-clause-areas g c = λ cloud told.
    let here = g.V.Shelf.cloud_at c.args.shelf.now cloud in
    spared_still here here (record { armed = refl; past = refl; now = refl }) (g.met.V.Shelf.reads_image c.args.shelf.now cloud told)

pub returns-in_default-make-clause-areas : goal.returns-in_default-make-clause-areas
returns-in_default-make-clause-areas g c = λ cloud told.
    let here = g.V.Shelf.cloud_at c.args.shelf.now cloud in
    spared_still here here (record { armed = refl; past = refl; now = refl }) (g.met.V.Shelf.reads_image c.args.shelf.now cloud told)

pub returns-in_default-clause-anyway : goal.returns-in_default-clause-anyway
returns-in_default-clause-anyway g c rooms lists chosen file has are given free is = (let never : ends.NoMemory ≡ ends.Refused = is in cc)

pub returns-in_default-make-clause-anyway : goal.returns-in_default-make-clause-anyway
returns-in_default-make-clause-anyway g c rooms lists chosen file has are given free is = (let never : ends.NoMemory ≡ ends.Refused = is in cc)

pub returns-in-Ok-came-clause-anyway : goal.returns-in-Ok-came-clause-anyway
returns-in-Ok-came-clause-anyway g c =
    let around : g.row.V.Denot → g.row.V.Denot → Outside = λ a b. record {
      total_before = g.V.Shelf.faults a;
      total_after = g.V.Shelf.faults b;
      old = g.V.Shelf.cloud_at a;
      new = g.V.Shelf.cloud_at b;
    } in
    let r = c.args.wanted.now in
    let came = c.in-Ok-came.came in
    let file = c.restore_opened-came.new.file in
    let first = c.of-link.result.shelf.now in
    let last = c.restore_opened-came.new.link.shelf.now in
    let back : last ≡ c.shelf-1.given.0 = search rules in
    let old = g.K.Sink.written c.args.sink.now in
    let new = g.K.Sink.written c.write_came.new.sink in
    whole_anyway (around c.args.shelf.now c.shelf-1.given.0) r came file old new c.write_came.result
    (subst (λ (a : g.row.V.Denot). Restored (around a c.shelf-1.given.0) r came file) c.of-link.ensures.shelf
    (subst (λ (b : g.row.V.Denot). Restored (around first b) r came file) back c.in-Ok-came.ensures.came))
    (subst (λ (bytes : List ℕ). IsReadWritten came bytes old new c.write_came.result) c.as_slice.ensures c.write_came.ensures.written)

pub returns-clause-anyway : goal.returns-clause-anyway
returns-clause-anyway g c rooms lists chosen file has are given free is =
    let r = c.args.wanted.now in
    subst (λ (end : ReadEnd). EndsOpening r.shape r.clouds.now (g.V.Shelf.cloud_at c.of-link.result.shelf.now) (g.V.Shelf.cloud_at c.restore_opened-came.new.link.shelf.now)
    (g.V.Shelf.faults c.of-link.result.shelf.now) (g.V.Shelf.faults c.restore_opened-came.new.link.shelf.now) end) is c.in-Err.ensures.end
