use Rattle.std.proofs.Common.{◌≡◌, true, not, ap, rules}
use Rattle.mem_disk.specs.Crashed.{same_area}
use Rattle.mem_disk.proofs.Back.{wrote_here, was_synced, was_emptied, was_crashed}
use Rattle.mem_disk.proofs.area.MemArea.go_back.Goals as goal

pub returns-then-is_same-clause-first : goal.returns-then-is_same-clause-first
returns-then-is_same-clause-first c =
    let w = c.in-Wrote in let same : same_area w.other c.args.area ≡ true = search rules in
    wrote_here 0 c.args.fill c.args.area c.args.note c.args.self.now.bytes.items w.other w.at w.start w.len c.fill.new.self.bytes.items w.is same c.fill.ensures.first

pub returns-in-Synced-clause-first : goal.returns-in-Synced-clause-first
returns-in-Synced-clause-first c = was_synced 0 c.args.fill c.args.area c.args.note c.args.self.now.bytes.items c.in-Synced.other (not c.is_same-in-Synced.result) c.in-Synced.is (ap not c.is_same-in-Synced.ensures)

pub returns-in-Emptied-clause-first : goal.returns-in-Emptied-clause-first
returns-in-Emptied-clause-first c = was_emptied 0 c.args.fill c.args.area c.args.note c.args.self.now.bytes.items c.in-Emptied.is

pub returns-in-Crashed-clause-first : goal.returns-in-Crashed-clause-first
returns-in-Crashed-clause-first c = was_crashed 0 c.args.fill c.args.area c.args.note c.args.self.now.bytes.items c.in-Crashed.fill c.in-Crashed.whole c.in-Crashed.is

pub returns-then-is_same-clause-high : goal.returns-then-is_same-clause-high
returns-then-is_same-clause-high c =
    let w = c.in-Wrote in let same : same_area w.other c.args.area ≡ true = search rules in
    wrote_here c.args.self.now.second c.args.fill c.args.area c.args.note c.args.self.now.high.items w.other w.at w.start w.len c.fill.new.self.high.items w.is same c.fill.ensures.high

pub returns-in-Synced-clause-high : goal.returns-in-Synced-clause-high
returns-in-Synced-clause-high c = was_synced c.args.self.now.second c.args.fill c.args.area c.args.note c.args.self.now.high.items c.in-Synced.other (not c.is_same-in-Synced.result) c.in-Synced.is (ap not c.is_same-in-Synced.ensures)

pub returns-in-Emptied-clause-high : goal.returns-in-Emptied-clause-high
returns-in-Emptied-clause-high c = was_emptied c.args.self.now.second c.args.fill c.args.area c.args.note c.args.self.now.high.items c.in-Emptied.is

pub returns-in-Crashed-clause-high : goal.returns-in-Crashed-clause-high
returns-in-Crashed-clause-high c = was_crashed c.args.self.now.second c.args.fill c.args.area c.args.note c.args.self.now.high.items c.in-Crashed.fill c.in-Crashed.whole c.in-Crashed.is
