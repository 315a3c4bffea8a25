use Rattle.std.proofs.Common.{◌≡◌, ◌-◌, [], length, take}
use Rattle.mem_disk.specs.Crashed.{filled_from, ranges_in}
use Rattle.mem_disk.proofs.area.MemArea.fill_since.Given as goal

-- what the notes are left to fill is all that they have to fill
abbrev pub invariant-loop-gone : goal.invariant-loop-gone
invariant-loop-gone l = record {
  first : filled_from 0 l.fill (ranges_in l.area [] (take (length l.notes - l.gone) l.notes)) l.self.bytes.items ≡ filled_from 0 l.fill (ranges_in l.area [] l.notes) l.fn.self.bytes.items;
  high : filled_from l.fn.self.second l.fill (ranges_in l.area [] (take (length l.notes - l.gone) l.notes)) l.self.high.items ≡ filled_from l.fn.self.second l.fill (ranges_in l.area [] l.notes) l.fn.self.high.items;
  room : l.self.room ≡ l.fn.self.room;
  second : l.self.second ≡ l.fn.self.second;
  log : l.self.log.items ≡ l.fn.self.log.items;
}
