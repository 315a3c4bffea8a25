use Rattle.std.proofs.Common.{arith}
use Rattle.mem_disk.specs.Areas.{held}
use Rattle.mem_disk.proofs.Reading.{reads_each}
use Rattle.mem_disk.proofs.area.MemArea.read_across.Goals as goal

pub returns-clause-bytes : goal.returns-clause-bytes
returns-clause-bytes c = reads_each (held c.args.self.now) c.args.at c.min-count.result c.loop-place.out
    (omega (arith, c.min-count.ensures, c.saturating_sub.ensures, c.len.ensures, c.loop-place.invariant.len))
    (λ k below. c.loop-place.invariant.each k (omega (arith, below, c.loop-place-test.false)))
