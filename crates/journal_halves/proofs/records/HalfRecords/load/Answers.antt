use Rattle.std.proofs.Common.{rules}
use Rattle.cd_edges.specs.declared.area.Area.TheVariants.{Journal}
use Rattle.journal_halves.proofs.Reading.{loaded}
use Rattle.journal_halves.proofs.records.HalfRecords.load.Goals as goal

pub returns-clause-ahead : goal.returns-clause-ahead
returns-clause-ahead g c told =
    let self = c.args.self.now in
    let read = c.in_ok-count.ensures.bytes told in
    loaded self.buffer.items ((g.V.Shelf.cloud_at c.args.shelf.now c.args.cloud.0).now Journal).read c.read.new.out self.buffer.len self.half self.gate c.gate_at-place.result c.in_ok-count.count c.min-self.result
    (search rules) self.window self.gate_in c.gate_at-place.ensures.value (search rules) read
