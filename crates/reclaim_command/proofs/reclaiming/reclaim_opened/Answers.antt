use Rattle.std.proofs.Common.{subst}
use Rattle.command_cloud.specs.BackupCommand.Writing.{HasWrittenOrCause, output_of}
use Rattle.reclaim.specs.JournalStart.start.Header.{Header}
use Rattle.reclaim_command.specs.Said.{reclaim_status, reclaim_text}
use Rattle.reclaim_command.proofs.reclaiming.reclaim_opened.Goals as goal

pub returns-clause-reclaimed : goal.returns-clause-reclaimed
returns-clause-reclaimed g c =
    let a = c.reclaim-came.ensures in
    let came = c.reclaim-came.result in
    let out = (output_of (g.K.Sink.written c.args.sink.now) (g.K.Sink.written c.write_reclaimed.new.sink)
    (g.K.Sink.faults c.args.sink.now) (g.K.Sink.faults c.write_reclaimed.new.sink)) in
    record {
      result = came;
      after = c.reclaim-came.new.server;
      any_moment = a.any_moment;
      serving = a.reclaimed;
      kept = a.kept;
      answers = a.answers;
      sums = a.sums;
      sum = a.sum;
      moved = a.moved;
      whole = a.whole;
      rotten = a.rotten;
      spared = a.spared;
      same = a.same;
      counts = a.counts;
      written = subst (λ (h : Header). HasWrittenOrCause (reclaim_text h.cloud came) (reclaim_status came) out c.write_reclaimed.result)
          c.header.ensures c.write_reclaimed.ensures;
    }
