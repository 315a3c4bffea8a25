use Rattle.std.proofs.Common.{rules, sym, subst, ◌∙◌}
use Rattle.cd_edges.specs.Ports.{SentPart}
use Rattle.cd_edges.proofs.Passing.{sent_more, sent_part}
use Rattle.cd_edges.proofs.whole.send_all.Goals as goal

pub loop-sent-preserved : goal.loop-sent-preserved
loop-sent-preserved g c = record {
  within = search rules;
  sent = λ told. sent_more (g.P.Ports.tells c.args.ports.now) (g.P.Ports.tells c.loop-sent.ports) (g.P.Ports.tells c.send.new.self) c.args.port c.args.bytes.now c.loop-sent.sent c.in-Ok.count
      (c.loop-sent.invariant.sent told) (c.in-Ok.ensures.sends (rw c.loop-sent.invariant.told told));
  told = c.in-Ok.ensures.told ∙ c.loop-sent.invariant.told;
  still = search rules;
}

pub returns-in-Err-clause-part : goal.returns-in-Err-clause-part
returns-in-Err-clause-part g c = λ told.
    subst (λ t. SentPart (g.P.Ports.tells c.args.ports.now) t c.args.port c.args.bytes.now) (sym c.in-Err.ensures.failed)
    (sent_part (g.P.Ports.tells c.args.ports.now) (g.P.Ports.tells c.loop-sent.ports) c.args.port c.args.bytes.now c.loop-sent.sent (c.loop-sent.invariant.sent told))
