use Rattle.std.proofs.Common.{◌+◌, ◌≤◌, refl, sym, ◌∙◌, subst, arith}
use Rattle.cloud_disk.proofs.CdEdges.Calls.{called_twice}
use Rattle.cloud_disk.proofs.CdEdges.Moments.{told_on}
use Rattle.cloud_disk.proofs.Both.{failed_later, counts_kept}
use Rattle.cloud_disk.specs.CommitJournal.Turning.{used_of}
use Rattle.cloud_disk.specs.CommitJournal.States.{state_of, next_of}
use Rattle.checkpoints.specs.Laying.{IsNextInBuffer, records_len, checkpoint_behind}
use Rattle.checkpoints.proofs.Along.{still_either, next_some, next_len, laid_images, further, all_laid, all_used, settled_images, settled_on, others_on, gate_on, failed_as}
use Rattle.checkpoints.proofs.laying.lay_checkpoint.Goals as goal

-- ---- the loop

pub loop-i-init : goal.loop-i-init
loop-i-init g c = (
  c.requires.ready,
  record {
    call = c.turn.ensures.call;
    counts = c.in_ok-turn.ensures.uncounted;
    stage = c.in_ok-turn.ensures.stage;
    limit = c.turn.ensures.limit;
    left = c.in_ok-turn.ensures.state.0 ∙ sym c.requires.count;
    to_come = omega (arith, c.requires.count);
    room = omega (arith, c.in_ok-turn.ensures.state.1);
    others = c.in_ok-turn.ensures.others;
    images = c.turn.ensures.any_moment;
    laid = λ told w is. record { so_far = next_of w c.args.header.now c.args.head.commands c.args.head.count c.args.head.region; laying = c.in_ok-turn.ensures.turned told w is; whole_is = refl };
  },
)

pub write_next-requires : goal.write_next-requires
write_next-requires g c = record { ready = c.loop-i.invariant.0; some = let more = c.loop-i-test.true in let left = c.loop-i.invariant.1.to_come in omega (arith, more, left) }

pub lay-requires-clause-laying : goal.lay-requires-clause-laying
lay-requires-clause-laying g c = c.loop-i.invariant.1.stage

pub lay-requires-clause-to_come : goal.lay-requires-clause-to_come
lay-requires-clause-to_come g c = let more = c.loop-i-test.true in let along = c.loop-i.invariant.1 in omega (arith, more, along.to_come, along.left)

pub lay-requires-clause-some : goal.lay-requires-clause-some
lay-requires-clause-some g c =
    let to_come = g.R.CheckpointRecords.to_come in let rest = to_come c.loop-i.records in let left = to_come c.write_next.new.self in
    next_some rest left c.as_slice.result.now (subst (IsNextInBuffer rest left) (sym c.as_slice.ensures.value) c.write_next.ensures.next)

pub lay-requires-clause-fits : goal.lay-requires-clause-fits
lay-requires-clause-fits g c =
    let to_come = g.R.CheckpointRecords.to_come in let rest = to_come c.loop-i.records in let left = to_come c.write_next.new.self in
    let n = subst (IsNextInBuffer rest left) (sym c.as_slice.ensures.value) c.write_next.ensures.next in
    let along = c.loop-i.invariant.1 in
    omega (arith, along.room, along.limit, next_len rest left c.as_slice.result.now n, c.requires.room)

pub loop-i-preserved : goal.loop-i-preserved
loop-i-preserved g c =
    let at = g.V.Shelf.cloud_at in let faults = g.V.Shelf.faults in let to_come = g.R.CheckpointRecords.to_come in
    let rest = to_come c.loop-i.records in let left = to_come c.write_next.new.self in
    let n = subst (IsNextInBuffer rest left) (sym c.as_slice.ensures.value) c.write_next.ensures.next in (
      c.write_next.ensures.ready,
      further (at c.args.shelf.now) (at c.loop-i.shelf) (at c.lay.new.shelf) c.args.cloud.0 (faults c.args.shelf.now) (faults c.loop-i.shelf) (faults c.lay.new.shelf)
          (state_of c.args.journal.now) (state_of c.loop-i.journal) (state_of c.lay.new.self) c.args.header.now c.args.head.commands c.args.head.count c.args.head.region (to_come c.args.records.now) rest left c.as_slice.result.now c.loop-i._i
          c.loop-i.invariant.1 n c.lay.ensures.call c.in_ok-lay.ensures.uncounted c.in_ok-lay.ensures.stage c.lay.ensures.limit c.in_ok-lay.ensures.state.0 c.in_ok-lay.ensures.state.1
          c.in_ok-lay.ensures.others c.lay.ensures.any_moment c.in_ok-lay.ensures.laid,
    )

-- ---- a call failed

pub returns-in_err-turn-clause-any_moment : goal.returns-in_err-turn-clause-any_moment
returns-in_err-turn-clause-any_moment g c told w is =
    let number = c.args.cloud.0 in
    still_either (g.V.Shelf.cloud_at c.args.shelf.now number) (g.V.Shelf.cloud_at c.turn.new.shelf number) w
    (checkpoint_behind w c.args.header.now c.args.head.commands c.args.head.count c.args.head.region (g.R.CheckpointRecords.to_come c.args.records.now)) (c.turn.ensures.any_moment told w is)

pub returns-in_err-lay-clause-any_moment : goal.returns-in_err-lay-clause-any_moment
returns-in_err-lay-clause-any_moment g c told w is =
    let at = g.V.Shelf.cloud_at in let faults = g.V.Shelf.faults in let to_come = g.R.CheckpointRecords.to_come in let number = c.args.cloud.0 in
    let rest = to_come c.loop-i.records in let left = to_come c.write_next.new.self in
    let n = subst (IsNextInBuffer rest left) (sym c.as_slice.ensures.value) c.write_next.ensures.next in
    still_either (at c.args.shelf.now number) (at c.lay.new.shelf number) w
    (checkpoint_behind w c.args.header.now c.args.head.commands c.args.head.count c.args.head.region (to_come c.args.records.now))
    (laid_images (at c.args.shelf.now) (at c.loop-i.shelf) (at c.lay.new.shelf) number (faults c.args.shelf.now) (faults c.loop-i.shelf) (faults c.lay.new.shelf)
    (state_of c.args.journal.now) (state_of c.loop-i.journal) (state_of c.lay.new.self) c.args.header.now c.args.head.commands c.args.head.count c.args.head.region (to_come c.args.records.now) rest left c.as_slice.result.now c.loop-i._i
    c.loop-i.invariant.1 n c.lay.ensures.any_moment told w is)

pub returns-in_err-lay-clause-limit : goal.returns-in_err-lay-clause-limit
returns-in_err-lay-clause-limit g c = c.lay.ensures.limit ∙ c.loop-i.invariant.1.limit

pub returns-in_err-lay-clause-call : goal.returns-in_err-lay-clause-call
returns-in_err-lay-clause-call g c = called_twice _ _ _ _ _ _ _ c.loop-i.invariant.1.call c.lay.ensures.call

pub returns-in_err-lay-clause-failed : goal.returns-in_err-lay-clause-failed
returns-in_err-lay-clause-failed g c =
    let at = g.V.Shelf.cloud_at in let faults = g.V.Shelf.faults in
    failed_as c.from_residual-in_err-lay.result (at c.args.shelf.now) (at c.loop-i.shelf) (at c.lay.new.shelf) c.args.cloud.0
    (faults c.args.shelf.now) (faults c.loop-i.shelf) (faults c.lay.new.shelf) c.loop-i.invariant.1.call c.in_err-lay.ensures.failed

-- ---- all records were laid

pub settle-requires-clause-laying : goal.settle-requires-clause-laying
settle-requires-clause-laying g c = c.loop-i.invariant.1.stage

pub settle-requires-clause-full : goal.settle-requires-clause-full
settle-requires-clause-full g c =
    let at = g.V.Shelf.cloud_at in let faults = g.V.Shelf.faults in let to_come = g.R.CheckpointRecords.to_come in
    let ends : c.args.head.count ≤ c.loop-i._i = let no = c.loop-i-test.false in omega (arith, no) in
    all_laid (at c.args.shelf.now) (at c.loop-i.shelf) (at c.loop-i.shelf) c.args.cloud.0 (faults c.args.shelf.now) (faults c.loop-i.shelf) (faults c.loop-i.shelf)
    (state_of c.args.journal.now) (state_of c.loop-i.journal) (state_of c.loop-i.journal) c.args.header.now c.args.head.commands c.args.head.count c.args.head.region (to_come c.args.records.now) (to_come c.loop-i.records) c.loop-i._i c.loop-i.invariant.1 ends

pub returns-clause-any_moment : goal.returns-clause-any_moment
returns-clause-any_moment g c =
    let at = g.V.Shelf.cloud_at in let faults = g.V.Shelf.faults in let to_come = g.R.CheckpointRecords.to_come in
    let ends : c.args.head.count ≤ c.loop-i._i = let no = c.loop-i-test.false in omega (arith, no) in
    settled_images (at c.args.shelf.now) (at c.loop-i.shelf) (at c.settle.new.shelf) c.args.cloud.0 (faults c.args.shelf.now) (faults c.loop-i.shelf) (faults c.settle.new.shelf)
    (state_of c.args.journal.now) (state_of c.loop-i.journal) (state_of c.settle.new.self) c.args.header.now c.args.head.commands c.args.head.count c.args.head.region (to_come c.args.records.now) (to_come c.loop-i.records) c.loop-i._i c.loop-i.invariant.1 ends
    c.settle.ensures.any_moment

pub returns-clause-settled : goal.returns-clause-settled
returns-clause-settled g c =
    let at = g.V.Shelf.cloud_at in let faults = g.V.Shelf.faults in let to_come = g.R.CheckpointRecords.to_come in
    let ends : c.args.head.count ≤ c.loop-i._i = let no = c.loop-i-test.false in omega (arith, no) in
    settled_on (at c.args.shelf.now) (at c.loop-i.shelf) (at c.settle.new.shelf) c.args.cloud.0 (faults c.args.shelf.now) (faults c.loop-i.shelf) (faults c.settle.new.shelf)
    (state_of c.args.journal.now) (state_of c.loop-i.journal) (state_of c.settle.new.self) c.args.header.now c.args.head.commands c.args.head.count c.args.head.region (to_come c.args.records.now) (to_come c.loop-i.records) c.loop-i._i c.loop-i.invariant.1 ends
    c.settle.result c.settle.ensures.settled

pub returns-clause-others : goal.returns-clause-others
returns-clause-others g c told =
    let at = g.V.Shelf.cloud_at in let number = c.args.cloud.0 in let along = c.loop-i.invariant.1 in
    others_on c.settle.result (at c.args.shelf.now number) (at c.loop-i.shelf number) (at c.settle.new.shelf number) (along.others told)
    (c.settle.ensures.others (told_on (at c.args.shelf.now number) (at c.loop-i.shelf number) along.call.told told))

pub returns-clause-gate : goal.returns-clause-gate
returns-clause-gate g c =
    let at = g.V.Shelf.cloud_at in let faults = g.V.Shelf.faults in let to_come = g.R.CheckpointRecords.to_come in
    let ends : c.args.head.count ≤ c.loop-i._i = let no = c.loop-i-test.false in omega (arith, no) in
    gate_on c.settle.result ((state_of c.settle.new.self).current.gate + 1) (used_of (state_of c.loop-i.journal).laid) (63 + records_len (to_come c.args.records.now))
    (all_used (at c.args.shelf.now) (at c.loop-i.shelf) (at c.loop-i.shelf) c.args.cloud.0 (faults c.args.shelf.now) (faults c.loop-i.shelf) (faults c.loop-i.shelf)
    (state_of c.args.journal.now) (state_of c.loop-i.journal) (state_of c.loop-i.journal) c.args.header.now c.args.head.commands c.args.head.count c.args.head.region (to_come c.args.records.now) (to_come c.loop-i.records) c.loop-i._i c.loop-i.invariant.1 ends)
    c.settle.ensures.gate

pub returns-clause-limit : goal.returns-clause-limit
returns-clause-limit g c = c.settle.ensures.limit ∙ c.loop-i.invariant.1.limit

pub returns-clause-call : goal.returns-clause-call
returns-clause-call g c = called_twice _ _ _ _ _ _ _ c.loop-i.invariant.1.call c.settle.ensures.call

pub returns-clause-failed : goal.returns-clause-failed
returns-clause-failed g c =
    let at = g.V.Shelf.cloud_at in let faults = g.V.Shelf.faults in
    failed_later c.settle.result (at c.args.shelf.now) (at c.loop-i.shelf) (at c.settle.new.shelf) c.args.cloud.0
    (faults c.args.shelf.now) (faults c.loop-i.shelf) (faults c.settle.new.shelf) c.loop-i.invariant.1.call c.settle.ensures.failed

pub returns-clause-uncounted : goal.returns-clause-uncounted
returns-clause-uncounted g c =
    let at = g.V.Shelf.cloud_at in let faults = g.V.Shelf.faults in let number = c.args.cloud.0 in
    counts_kept c.settle.result (at c.args.shelf.now number) (at c.loop-i.shelf number) (at c.settle.new.shelf number)
    (faults c.args.shelf.now) (faults c.loop-i.shelf) (faults c.settle.new.shelf) c.loop-i.invariant.1.counts c.settle.ensures.uncounted
