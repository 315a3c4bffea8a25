use Rattle.std.proofs.Common.{ℕ, subst, ap, ◌∙◌}
use Rattle.cloud_memory.specs.Rooms.{memory_of}
use Rattle.cloud_memory.specs.RecordBody.FirstInPlace.{FirstWalk}
use Rattle.cloud_memory.specs.Steps.{with_items}
use Rattle.record_checks.specs.Checks.{AreRight, ItemsFault}
use Rattle.record_checks.specs.Judging.{PutFault}
use Rattle.record_checks.proofs.Faults.{not_so}
use Rattle.record_checks.proofs.Judged.{put_refused, put_inside, put_behind}
use Rattle.record_checks.proofs.puts.take_put.Goals as goal

pub returns-in-Ok-clause-judged : goal.returns-in-Ok-clause-judged
returns-in-Ok-clause-judged c = λ read marks.
    put_refused c.args.ground.now c.args.inside read marks c.args.memory.now c.args.user c.args.items.items c.requires.rooms (not_so c.has_room.result c.has_room.ensures c.if-not-has_room.true) c.in-Ok.ensures.right

pub returns-in-Err-clause-judged : goal.returns-in-Err-clause-judged
returns-in-Err-clause-judged c = λ read marks.
    PutFault c.args.user c.args.items.items c.in-Err.place
    (subst (λ (n : ℕ). ItemsFault c.args.ground.now c.args.inside c.args.user (memory_of c.args.memory.now) n c.args.items.items c.in-Err.place) c.requires.from c.in-Err.ensures.right)

pub returns-in-Err-take_items-clause-judged : goal.returns-in-Err-take_items-clause-judged
returns-in-Err-take_items-clause-judged c = λ read marks.
    let old = memory_of c.args.memory.now in
    let place = c.in-Err-take_items.place in
    PutFault c.args.user c.args.items.items place
    (subst (λ (n : ℕ). ItemsFault c.args.ground.now c.args.inside c.args.user old n c.args.items.items place) c.requires.from
    (subst (λ (w : FirstWalk). ItemsFault c.args.ground.now c.args.inside c.args.user old w.at w.items place) c.copied-walk.ensures c.in-Err-take_items.ensures.right))

pub returns-then-inside-clause-judged : goal.returns-then-inside-clause-judged
returns-then-inside-clause-judged c = λ read marks.
    let old = memory_of c.args.memory.now in
    let taken = c.in-Ok-take_items.ensures.taken ∙ ap (λ (w : FirstWalk). with_items c.args.user old w.items) c.copied-walk.ensures in
    put_inside c.args.ground.now c.args.inside read marks c.args.memory.now (memory_of c.take_items.new.memory) c.args.user c.args.items.items c.if-inside.true
    (c.has_room.ensures.0 c.if-not-has_room.false)
    (subst (λ (w : FirstWalk). AreRight c.args.ground.now c.args.inside c.args.user old w.items) c.copied-walk.ensures c.in-Ok-take_items.ensures.right) taken

pub returns-else-inside-clause-judged : goal.returns-else-inside-clause-judged
returns-else-inside-clause-judged c = λ read marks.
    let old = memory_of c.args.memory.now in
    let taken = c.in-Ok-take_items.ensures.taken ∙ ap (λ (w : FirstWalk). with_items c.args.user old w.items) c.copied-walk.ensures in
    put_behind c.args.ground.now c.args.inside read marks c.args.memory.now (memory_of c.take_items.new.memory) (memory_of c.spend_shares.new.memory) c.args.user c.args.items.items
    c.count_of-count.result c.held_in-held.result c.spend_shares.result c.if-inside.false
    (c.has_room.ensures.0 c.if-not-has_room.false)
    (subst (λ (w : FirstWalk). AreRight c.args.ground.now c.args.inside c.args.user old w.items) c.copied-walk.ensures c.in-Ok-take_items.ensures.right) taken
    c.count_of-count.ensures c.held_in-held.ensures.value c.spend_shares.ensures.spent
