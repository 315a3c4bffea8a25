use Rattle.std.proofs.Common.{rules}
use Rattle.cd_edges.proofs.Known.{appends_piece}
use Rattle.cd_edges.proofs.stream.write_all.Goals as goal

pub loop-sent-preserved : goal.loop-sent-preserved
loop-sent-preserved g c = record {
  within = search rules;
  sent = appends_piece (g.K.Sink.written c.args.sink.now) (g.K.Sink.written c.loop-sent.sink) (g.K.Sink.written c.write.new.self) c.args.bytes.now c.loop-sent.sent c.in-Ok.count c.loop-sent.invariant.sent c.in-Ok.ensures.bytes;
  still = search rules;
}
