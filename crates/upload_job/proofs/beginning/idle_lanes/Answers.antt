use Rattle.std.proofs.Common.{◌∷◌, [], length, ap, sym, ◌∙◌, subst, arith}
use Rattle.std.specs.Prelude.{All}
use Rattle.std.proofs.lemmas.List.{length-append}
use Rattle.std.proofs.lemmas.List.Elements.{All-nil, All-cons, All-append}
use Rattle.upload_job.specs.Index.{IsIdle}
use Rattle.upload_job.proofs.beginning.idle_lanes.Goals as goal

pub loop-init : goal.loop-init
loop-init c = record { len = ap length c.new-lanes.ensures.items; each = subst (All IsIdle) (sym c.new-lanes.ensures.items) (All-nil IsIdle) }

pub loop-preserved : goal.loop-preserved
loop-preserved c =
    let one = c.idle_lane.result in
    let longer = ap length c.in_ok-push.ensures.items ∙ length-append c.loop.lanes.items (one ∷ []) in
    record {
      len = omega (arith, c.loop.invariant.len);
      each = subst (All IsIdle) (sym c.in_ok-push.ensures.items)
          (All-append IsIdle c.loop.lanes.items (one ∷ []) c.loop.invariant.each (All-cons IsIdle one [] c.idle_lane.ensures (All-nil IsIdle)));
    }
