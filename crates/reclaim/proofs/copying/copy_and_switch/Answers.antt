use Rattle.std.proofs.Common.{rules, Err, refl}
use Rattle.share_server.specs.Copies.{no_copies}
use Rattle.reclaim.proofs.Ending.{gave_up, dropped, switched_over, not_switched}
use Rattle.reclaim.proofs.copying.copy_and_switch.Goals as goal

pub returns-in-Err : goal.returns-in-Err
returns-in-Err g c =
    let old = c.args.server.now in let one = c.copy_start.new.self in let two = c.copy_all.new.server in
    let at = g.V.Shelf.cloud_at in let faults = g.V.Shelf.faults in let s0 = c.args.shelf.now in let s1 = c.copy_all.new.shelf in
    dropped old.store two.store (at s0) (at s1) (faults s0) (faults s1) (Err c.in-Err.error) _ _ (search rules) (search rules)
    (gave_up old.store one.store two.store one.copies two.copies (at s0) (at s1) (faults s0) (faults s1) c.copy_start.ensures.same c.copy_start.ensures.copied
    c.in-Err.error no_copies refl c.slots_list.ensures c.in-Err.ensures)

pub returns-in-Ok-copy_switch : goal.returns-in-Ok-copy_switch
returns-in-Ok-copy_switch g c =
    let old = c.args.server.now in let one = c.copy_start.new.self in let two = c.copy_all.new.server in let new = c.copy_switch.new.self in
    let at = g.V.Shelf.cloud_at in let faults = g.V.Shelf.faults in let s0 = c.args.shelf.now in let s1 = c.copy_all.new.shelf in let s2 = c.copy_switch.new.shelf in
    let s = c.copy_switch.ensures in
    let e = c.in-Ok-copy_switch.ensures in
    switched_over old.store one.store two.store one.copies two.copies (at s0) (at s1) (faults s0) (faults s1) c.copy_start.ensures.same c.copy_start.ensures.copied
    new.store (at s2) (faults s2) c.in-Ok.ensures c.copy_sum-sum.result new.copies c.copy_sum-sum.ensures s.none c.slots_list.ensures c.copy_start.ensures.none
    (record {
      any_moment = s.any_moment;
      switched = e.switched;
      peer = e.peer;
      answers = e.answers;
      moved = e.moved;
      number = e.number;
      region = e.region;
      never_rotten = e.never_rotten;
      others = e.others;
      header = s.header;
      opened = e.«open»;
      shut = e.shut;
      call = s.call;
      counts = e.counts;
    })

pub returns-in-Err-copy_switch : goal.returns-in-Err-copy_switch
returns-in-Err-copy_switch g c =
    let old = c.args.server.now in let one = c.copy_start.new.self in let two = c.copy_all.new.server in let new = c.copy_switch.new.self in
    let at = g.V.Shelf.cloud_at in let faults = g.V.Shelf.faults in let s0 = c.args.shelf.now in let s1 = c.copy_all.new.shelf in let s2 = c.copy_switch.new.shelf in
    let s = c.copy_switch.ensures in
    let e = c.in-Err-copy_switch.ensures in
    not_switched old.store one.store two.store one.copies two.copies (at s0) (at s1) (faults s0) (faults s1) c.copy_start.ensures.same c.copy_start.ensures.copied
    new.store (at s2) (faults s2) c.in-Ok.ensures c.in-Err-copy_switch.error new.copies s.none
    (record {
      any_moment = s.any_moment;
      switched = e.switched;
      peer = e.peer;
      answers = e.answers;
      moved = e.moved;
      number = e.number;
      region = e.region;
      never_rotten = e.never_rotten;
      others = e.others;
      header = s.header;
      opened = e.«open»;
      shut = e.shut;
      call = s.call;
      counts = e.counts;
    })
