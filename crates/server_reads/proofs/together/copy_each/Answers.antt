use Rattle.std.proofs.Common.{◌≤◌, length, arith}
use Rattle.cloud_memory.specs.Rooms.{memory_of}
use Rattle.server_reads.proofs.Along.{among_at, held_whole}
use Rattle.server_reads.proofs.Copied.{one_copied}
use Rattle.server_reads.proofs.Trying.{tried_only}
use Rattle.server_reads.proofs.together.copy_each.Goals as goal

pub loop-place-preserved : goal.loop-place-preserved
loop-place-preserved g c =
    let at = g.V.Shelf.cloud_at in
    let faults = g.V.Shelf.faults in
    let one = c.in-Ok-true.ensures in
    let whole = c.in-Ok-true.field-0-test in
    one_copied (at c.args.shelf.now) (at c.loop-place.shelf) (at c.copy_share.new.shelf) c.args.cloud.0 (faults c.args.shelf.now) (faults c.loop-place.shelf) (faults c.copy_share.new.shelf)
    c.args.log.now c.loop-place.log c.copy_share.new.log (memory_of c.args.memory.now) c.args.fps.now c.loop-place.place c.args.reply.now c.loop-place.reply c.copy_share.new.reply
    c.fp_at-fp.result c.place_of-at.result c.requires.area c.fp_at-fp.ensures (among_at c.args.fps.now c.loop-place.place c.fp_at-fp.result c.fp_at-fp.ensures) c.place_of-at.ensures.kept
    c.loop-place.invariant (tried_only (at c.loop-place.shelf) (at c.copy_share.new.shelf) c.args.cloud.0 (faults c.loop-place.shelf) (faults c.copy_share.new.shelf) c.in-Ok-true.field-0 one.tried)
    one.log (one.ok whole) (λ told agreed p is b place_is long share named lies. one.blob told agreed p is b place_is long lies whole)

pub returns-clause-held : goal.returns-clause-held
returns-clause-held g c = λ told agreed shape cloud list user k own yes.
    let past : length c.args.fps.now ≤ c.loop-place.place = omega arith in
    held_whole list c.args.fps.now c.loop-place.place c.args.reply.now c.loop-place.reply past (c.loop-place.invariant.held told agreed told shape cloud list user k own)
