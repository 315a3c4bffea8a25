use Rattle.std.proofs.Common.{ℕ, subst}
use Rattle.std.specs.Prelude.{MatchResult}
use Rattle.cloud_memory.specs.Rooms.{memory_of}
use Rattle.record_checks.specs.Checks.{AreRightKepts, KeptsFault}
use Rattle.record_checks.specs.Judging.{KeptDamaged}
use Rattle.record_checks.proofs.Faults.{not_so}
use Rattle.record_checks.proofs.Judged.{kept_refused, kept_ends, ok_or_none}
use Rattle.record_checks.proofs.kepts.take_kept.Goals as goal

pub returns-then-has_room-clause-judged : goal.returns-then-has_room-clause-judged
returns-then-has_room-clause-judged c = λ read marks.
    let g = c.args.ground.now in
    let items = c.args.items.items in
    kept_ends g c.args.inside read marks c.args.memory.now (memory_of c.take_items.new.memory) items c.take_items.result (c.has_room.ensures.0 c.if-has_room.true)
    (subst (λ (n : ℕ). MatchResult c.take_items.result (λ u. AreRightKepts g c.args.inside (memory_of c.args.memory.now) items) (λ place. KeptsFault g c.args.inside (memory_of c.args.memory.now) n items place))
    c.requires.from c.take_items.ensures.right)
    (ok_or_none _ c.take_items.result c.take_items.ensures.taken)

pub returns-in-Ok-clause-judged : goal.returns-in-Ok-clause-judged
returns-in-Ok-clause-judged c = λ read marks.
    kept_refused c.args.ground.now c.args.inside read marks c.args.memory.now c.args.items.items c.requires.rooms (not_so c.has_room.result c.has_room.ensures c.if-has_room.false) c.in-Ok.ensures.right

pub returns-in-Err-clause-judged : goal.returns-in-Err-clause-judged
returns-in-Err-clause-judged c = λ read marks.
    KeptDamaged c.args.items.items c.in-Err.place
    (subst (λ (n : ℕ). KeptsFault c.args.ground.now c.args.inside (memory_of c.args.memory.now) n c.args.items.items c.in-Err.place) c.requires.from c.in-Err.ensures.right)
