use Rattle.std.proofs.Common.{rules, ◌≡◌, ◌≤◌, ◌+◌, true, false, drop, length, sym, ap, ◌∙◌, arith}
use Rattle.cloud_memory.specs.Rooms.{memory_of}
use Rattle.cloud_memory.proofs.Lists.{front_gone}
use Rattle.server_reads.specs.Owned.{is_owned, unowned_from}
use Rattle.server_reads.proofs.Marks.{none_behind}
use Rattle.server_reads.proofs.Unowned.{same_test, unowned_here, unowned_later, unowned_is}
use Rattle.server_reads.proofs.owning.first_foreign.Goals as goal

pub returns-then-not-owns-clause-kept : goal.returns-then-not-owns-clause-kept
returns-then-not-owns-clause-kept c =
    let m = (memory_of c.args.memory.now) in
    let user = c.args.user in
    let fps = c.args.fps.now in
    let place = c.loop-place.place in
    let lacks : c.owns.result ≡ false = search rules in
    sym (c.loop-place.invariant ∙ ap (unowned_from m user place) (front_gone fps place c.fp_at.result c.fp_at.ensures)
    ∙ unowned_here m user place c.fp_at.result (drop (place + 1) fps) (sym (same_test c.owns.result (is_owned m user c.fp_at.result) c.owns.ensures.kept) ∙ lacks))

pub returns-then-not-owns-clause-value : goal.returns-then-not-owns-clause-value
returns-then-not-owns-clause-value c = λ shape list is. returns-then-not-owns-clause-kept c ∙ unowned_is shape list (memory_of c.args.memory.now) c.args.user c.args.fps.now is

pub loop-place-preserved : goal.loop-place-preserved
loop-place-preserved c =
    let m = (memory_of c.args.memory.now) in
    let user = c.args.user in
    let fps = c.args.fps.now in
    let place = c.loop-place.place in
    let has : c.owns.result ≡ true = search rules in
    c.loop-place.invariant ∙ ap (unowned_from m user place) (front_gone fps place c.fp_at.result c.fp_at.ensures)
    ∙ unowned_later m user place c.fp_at.result (drop (place + 1) fps) (sym (same_test c.owns.result (is_owned m user c.fp_at.result) c.owns.ensures.kept) ∙ has)

pub returns-clause-kept : goal.returns-clause-kept
returns-clause-kept c =
    let past : length c.args.fps.now ≤ c.loop-place.place = omega arith in
    sym (c.loop-place.invariant ∙ ap (unowned_from (memory_of c.args.memory.now) c.args.user c.loop-place.place) (none_behind c.args.fps.now c.loop-place.place past))

pub returns-clause-value : goal.returns-clause-value
returns-clause-value c = λ shape list is. returns-clause-kept c ∙ unowned_is shape list (memory_of c.args.memory.now) c.args.user c.args.fps.now is
