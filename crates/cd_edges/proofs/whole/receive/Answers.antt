use Rattle.std.proofs.Common.{rules, ◌∙◌}
use Rattle.cd_edges.proofs.Passing.{received_more}
use Rattle.cd_edges.proofs.whole.receive.Goals as goal

pub loop-filled-preserved : goal.loop-filled-preserved
loop-filled-preserved g c = record {
  within = search rules;
  long = search rules;
  came = λ told. received_more (g.P.Ports.tells c.args.ports.now) (g.P.Ports.tells c.loop-filled.ports) (g.P.Ports.tells c.recv.new.self) c.args.port c.loop-filled.filled c.in-Ok.count c.loop-filled.out c.recv.new.out _
      c.loop-filled.invariant.within c.in-Ok.ensures.bound.0 (c.loop-filled.invariant.came told) (c.in-Ok.ensures.receives (rw c.loop-filled.invariant.told told));
  told = c.in-Ok.ensures.told ∙ c.loop-filled.invariant.told;
  still = search rules;
}
