use Rattle.std.proofs.Common.{◌∙◌, ◌-◌, ℕ, length, get_or, subst, arith}
use Rattle.cd_edges.specs.declared.area.Area.TheVariants.{Journal}
use Rattle.mem_disk.specs.declared.note.Note.{Note}
use Rattle.mem_disk.specs.declared.note.Note.TheVariants.{Wrote}
use Rattle.mem_disk.proofs.Back.{Fills, goes_back, ends_here, none_left}
use Rattle.mem_disk.proofs.area.MemArea.fill_since.Goals as goal

abbrev none : Note
none = Wrote Journal 0 0 0

pub loop-gone-preserved : goal.loop-gone-preserved
loop-gone-preserved c =
    let l = c.loop-gone in let n = c.args.notes.now in let new = c.go_back.new.self in let on = c.go_back.result in
    let here : Fills c.args.self.now.second c.args.fill c.args.area (get_or n (length n - 1 - l.gone) none) l.self.high.items new.high.items on =
    subst (λ (from : ℕ). Fills from c.args.fill c.args.area (get_or n (length n - 1 - l.gone) none) l.self.high.items new.high.items on) l.invariant.second c.go_back.ensures.high in
    record {
      first = goes_back 0 c.args.fill c.args.area n l.gone none l.self.bytes.items new.bytes.items _ on c.loop-gone-test.true c.go_back.ensures.first l.invariant.first c.if-not-go_back.false;
      high = goes_back c.args.self.now.second c.args.fill c.args.area n l.gone none l.self.high.items new.high.items _ on c.loop-gone-test.true here l.invariant.high c.if-not-go_back.false;
      room = c.go_back.ensures.room ∙ l.invariant.room;
      second = c.go_back.ensures.second ∙ l.invariant.second;
      log = c.go_back.ensures.log ∙ l.invariant.log;
    }

pub returns-clause-first : goal.returns-clause-first
returns-clause-first c = none_left 0 c.args.fill c.args.area c.args.notes.now _ _ _ (omega (arith, c.loop-gone-test.false)) c.loop-gone.invariant.first

pub returns-clause-high : goal.returns-clause-high
returns-clause-high c = none_left c.args.self.now.second c.args.fill c.args.area c.args.notes.now _ _ _ (omega (arith, c.loop-gone-test.false)) c.loop-gone.invariant.high

pub returns-then-not-go_back-clause-first : goal.returns-then-not-go_back-clause-first
returns-then-not-go_back-clause-first c =
    let l = c.loop-gone in
    ends_here 0 c.args.fill c.args.area c.args.notes.now l.gone none l.self.bytes.items c.go_back.new.self.bytes.items _ c.go_back.result c.loop-gone-test.true c.go_back.ensures.first l.invariant.first c.if-not-go_back.true

pub returns-then-not-go_back-clause-high : goal.returns-then-not-go_back-clause-high
returns-then-not-go_back-clause-high c =
    let l = c.loop-gone in let n = c.args.notes.now in let new = c.go_back.new.self in let on = c.go_back.result in
    let here : Fills c.args.self.now.second c.args.fill c.args.area (get_or n (length n - 1 - l.gone) none) l.self.high.items new.high.items on =
    subst (λ (from : ℕ). Fills from c.args.fill c.args.area (get_or n (length n - 1 - l.gone) none) l.self.high.items new.high.items on) l.invariant.second c.go_back.ensures.high in
    ends_here c.args.self.now.second c.args.fill c.args.area n l.gone none l.self.high.items new.high.items _ on c.loop-gone-test.true here l.invariant.high c.if-not-go_back.true
