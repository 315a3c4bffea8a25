use Rattle.std.proofs.Common.{◌≤◌, Err, length, arith}
use Rattle.cloud_memory.specs.Rooms.{memory_of}
use Rattle.server_reads.proofs.Along.{among_at, held_whole, more, rotten_exit, whole_exit}
use Rattle.server_reads.proofs.sending.put_each.Goals as goal

pub returns-in-Err-clause-rotten : goal.returns-in-Err-clause-rotten
returns-in-Err-clause-rotten g c =
    rotten_exit (g.V.Shelf.cloud_at c.args.shelf.now) (g.V.Shelf.cloud_at c.loop-place.shelf) c.args.cloud.0 (g.V.Shelf.faults c.args.shelf.now) (g.V.Shelf.faults c.loop-place.shelf)
    c.args.log.now c.loop-place.log (memory_of c.args.memory.now) c.args.fps.now c.fp_at-fp.result c.place_of-at.result (Err c.in-Err.stop) c.requires.area c.loop-place.invariant.only c.loop-place.invariant.log_is
    (among_at c.args.fps.now c.loop-place.place c.fp_at-fp.result c.fp_at-fp.ensures) c.place_of-at.ensures.kept c.in-Err.ensures.named c.in-Err.ensures.found
    c.in-Err.ensures.none c.in-Err.ensures.unfit

pub returns-in-Err-clause-whole : goal.returns-in-Err-clause-whole
returns-in-Err-clause-whole g c =
    whole_exit (g.V.Shelf.cloud_at c.args.shelf.now) (g.V.Shelf.cloud_at c.loop-place.shelf) c.args.cloud.0 (g.V.Shelf.faults c.args.shelf.now) (g.V.Shelf.faults c.loop-place.shelf)
    c.args.log.now c.loop-place.log (memory_of c.args.memory.now) c.args.fps.now c.loop-place.place c.fp_at-fp.result c.place_of-at.result (Err c.in-Err.stop) c.requires.area c.loop-place.invariant.only c.loop-place.invariant.log_is
    (among_at c.args.fps.now c.loop-place.place c.fp_at-fp.result c.fp_at-fp.ensures) c.place_of-at.ensures.kept c.in-Err.ensures.whole

pub loop-place-preserved : goal.loop-place-preserved
loop-place-preserved g c =
    more (g.V.Shelf.cloud_at c.args.shelf.now) (g.V.Shelf.cloud_at c.loop-place.shelf) (g.V.Shelf.cloud_at c.put_share.new.shelf) c.args.cloud.0 (g.V.Shelf.faults c.args.shelf.now)
    (g.V.Shelf.faults c.loop-place.shelf) (g.V.Shelf.faults c.put_share.new.shelf) c.args.log.now c.loop-place.log c.put_share.new.log (memory_of c.args.memory.now) c.args.fps.now c.loop-place.place
    c.args.reply.now c.loop-place.reply c.put_share.new.reply c.fp_at-fp.result c.place_of-at.result c.requires.area c.fp_at-fp.ensures
    (among_at c.args.fps.now c.loop-place.place c.fp_at-fp.result c.fp_at-fp.ensures) c.place_of-at.ensures.kept c.loop-place.invariant c.in-Ok.ensures.reads c.in-Ok.ensures.log c.in-Ok.ensures.ok c.in-Ok.ensures.blob

pub returns-clause-held : goal.returns-clause-held
returns-clause-held g c = λ told agreed shape cloud list user k own.
    let past : length c.args.fps.now ≤ c.loop-place.place = omega arith in
    held_whole list c.args.fps.now c.loop-place.place c.args.reply.now c.loop-place.reply past (c.loop-place.invariant.held told agreed told shape cloud list user k own)
