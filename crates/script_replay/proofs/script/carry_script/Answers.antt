use Rattle.replay_core.proofs.Clouds.{empty_stands}
use Rattle.script_replay.proofs.Unopened.{ends_ready, ends_unready, come_open, ends_open}
use Rattle.script_replay.proofs.script.carry_script.Goals as goal

pub returns-in_default-clause-replays : goal.returns-in_default-clause-replays
returns-in_default-clause-replays g c = λ start s ready.
    ends_unready g.V.Shelf.cloud_at (record { given = c.law_of_acknowledged.ensures.given; more = c.law_of_acknowledged.ensures.more; kept = c.law_of_acknowledged.ensures.kept; private = c.law_of_own_replies.ensures })
    start s c.args.link.now c.args.reader.now (g.S.Source.left c.args.source.now) (g.S.Source.faults c.args.source.now) (g.K.Sink.written c.args.sink.now) (g.K.Sink.faults c.args.sink.now) ready
    (empty_stands c.law_of_no_commands.ensures.unbegun c.law_of_no_commands.ensures.stands) (g.V.Shelf.faults c.args.link.now.shelf.now)

pub returns-in-Err-clause-replays : goal.returns-in-Err-clause-replays
returns-in-Err-clause-replays g c = λ start s ready.
    ends_ready g.V.Shelf.cloud_at (record { given = c.law_of_acknowledged.ensures.given; more = c.law_of_acknowledged.ensures.more; kept = c.law_of_acknowledged.ensures.kept; private = c.law_of_own_replies.ensures })
    start s c.args.link.now c.args.reader.now (g.S.Source.left c.args.source.now) (g.S.Source.faults c.args.source.now) (g.K.Sink.written c.args.sink.now) (g.K.Sink.faults c.args.sink.now) ready
    c.in-Err.end c.open_clouds.new.link (g.V.Shelf.faults c.open_clouds.new.link.shelf.now) c.in-Err.ensures.prepares c.in-Err.ensures.end

pub returns-in-Ok-write_one-clause-replays : goal.returns-in-Ok-write_one-clause-replays
returns-in-Ok-write_one-clause-replays g c = λ start s ready.
    c.carry_lines.ensures.replays start s
    (come_open g.V.Shelf.cloud_at (record { given = c.law_of_acknowledged.ensures.given; more = c.law_of_acknowledged.ensures.more; kept = c.law_of_acknowledged.ensures.kept; private = c.law_of_own_replies.ensures })
    start s c.args.link.now c.args.reader.now (g.S.Source.left c.args.source.now) (g.S.Source.faults c.args.source.now) (g.K.Sink.written c.args.sink.now) (g.K.Sink.faults c.args.sink.now) ready
    c.open_clouds.new.link c.in-Ok-open_clouds.ensures.opens c.shape-shape.result (g.K.Sink.written c.write_one.new.sink) (g.K.Sink.faults c.write_one.new.sink)
    c.shape-shape.ensures c.in-Ok-write_one.ensures.still c.in-Ok-write_one.ensures.ok)

pub returns-clause-replays : goal.returns-clause-replays
returns-clause-replays g c = λ start s ready.
    ends_open g.V.Shelf.cloud_at (record { given = c.law_of_acknowledged.ensures.given; more = c.law_of_acknowledged.ensures.more; kept = c.law_of_acknowledged.ensures.kept; private = c.law_of_own_replies.ensures })
    start s c.args.link.now c.args.reader.now (g.S.Source.left c.args.source.now) (g.S.Source.faults c.args.source.now) (g.K.Sink.written c.args.sink.now) (g.K.Sink.faults c.args.sink.now) ready
    c.open_clouds.new.link c.in-Ok-open_clouds.ensures.opens c.shape-shape.result (g.V.Shelf.faults c.open_clouds.new.link.shelf.now) (λ cloud told. g.met.V.Shelf.reads_image c.open_clouds.new.link.shelf.now cloud told)
    c.in-Err-write_one.end (g.K.Sink.written c.write_one.new.sink) (g.K.Sink.faults c.write_one.new.sink) c.shape-shape.ensures c.in-Err-write_one.ensures.end
