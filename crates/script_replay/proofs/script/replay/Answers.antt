use Rattle.std.proofs.Common.{rules, ◌≡◌, refl, subst}
use Rattle.replay_core.specs.declared.end.ReplayEnd.TheVariants as ends
use Rattle.script_lines.specs.SessionModel.Vault.{Setting}
use Rattle.script_lines.specs.At.{header_in}
use Rattle.replay_core.specs.Going.{ReplayStart}
use Rattle.script_replay.specs.Endings.{call_of}
use Rattle.script_replay.specs.Written.{HasReplayed}
use Rattle.replay_core.proofs.Clouds.{empty_stands, all_same}
use Rattle.replay_core.proofs.Begins.{ready_by}
use Rattle.script_replay.proofs.Unopened.{ends_first, ends_unmade, ends_closed}
use Rattle.script_replay.proofs.script.replay.Goals as goal

pub returns-in_default : goal.returns-in_default
returns-in_default g c =
    let start : ReplayStart = record {
      script = g.S.Source.left c.args.source.now;
      old = g.V.Shelf.cloud_at c.args.shelf.now;
      source = g.S.Source.faults c.args.source.now;
      sink = g.K.Sink.faults c.args.sink.now;
      total = g.V.Shelf.faults c.args.shelf.now;
      written = g.K.Sink.written c.args.sink.now;
    } in
    ends_first (empty_stands c.law_of_no_commands.ensures.unbegun c.law_of_no_commands.ensures.stands) ends.NoMemory (record { given = c.law_of_acknowledged.ensures.given; more = c.law_of_acknowledged.ensures.more; kept = c.law_of_acknowledged.ensures.kept; private = c.law_of_own_replies.ensures })
    start (g.S.Source.left c.args.source.now) (g.S.Source.faults c.args.source.now) (g.K.Sink.faults c.args.sink.now) (g.V.Shelf.faults c.args.shelf.now)
    (g.V.Shelf.cloud_at c.args.shelf.now) (g.K.Sink.written c.args.sink.now) (λ cloud. refl) refl refl tt

pub returns-in-Err : goal.returns-in-Err
returns-in-Err g c =
    let start : ReplayStart = record {
      script = g.S.Source.left c.args.source.now;
      old = g.V.Shelf.cloud_at c.args.shelf.now;
      source = g.S.Source.faults c.args.source.now;
      sink = g.K.Sink.faults c.args.sink.now;
      total = g.V.Shelf.faults c.args.shelf.now;
      written = g.K.Sink.written c.args.sink.now;
    } in
    ends_first (empty_stands c.law_of_no_commands.ensures.unbegun c.law_of_no_commands.ensures.stands) c.in-Err.end (record { given = c.law_of_acknowledged.ensures.given; more = c.law_of_acknowledged.ensures.more; kept = c.law_of_acknowledged.ensures.kept; private = c.law_of_own_replies.ensures })
    start (g.S.Source.left c.first_line.new.source) (g.S.Source.faults c.first_line.new.source) (g.K.Sink.faults c.args.sink.now) (g.V.Shelf.faults c.args.shelf.now)
    (g.V.Shelf.cloud_at c.args.shelf.now) (g.K.Sink.written c.args.sink.now) (λ cloud. refl) refl refl c.in-Err.ensures.end

pub returns-in-Err-empty_clouds : goal.returns-in-Err-empty_clouds
returns-in-Err-empty_clouds g c =
    let start : ReplayStart = record {
      script = g.S.Source.left c.args.source.now;
      old = g.V.Shelf.cloud_at c.args.shelf.now;
      source = g.S.Source.faults c.args.source.now;
      sink = g.K.Sink.faults c.args.sink.now;
      total = g.V.Shelf.faults c.args.shelf.now;
      written = g.K.Sink.written c.args.sink.now;
    } in
    let s : Setting = record {
      shape = c.in-Ok-first_line.header.0;
      rooms = c.in-Ok-first_line.header.1;
      told = λ cloud. (g.V.Shelf.cloud_at c.args.shelf.now cloud).told;
    } in
    ends_closed (record { given = c.law_of_acknowledged.ensures.given; more = c.law_of_acknowledged.ensures.more; kept = c.law_of_acknowledged.ensures.kept; private = c.law_of_own_replies.ensures })
    start s c.first_line.new.reader (g.S.Source.left c.first_line.new.source) (g.S.Source.faults c.first_line.new.source) (g.K.Sink.faults c.args.sink.now) (g.V.Shelf.faults c.empty_clouds.new.shelf)
    (g.V.Shelf.cloud_at c.empty_clouds.new.shelf) (g.K.Sink.written c.args.sink.now) (λ cloud. refl) c.in-Ok-first_line.ensures.header (c.in-Err-empty_clouds.ensures.prepares (header_in s)) refl refl
    c.in-Err-empty_clouds.end c.in-Err-empty_clouds.ensures.end

pub returns-in_default-make : goal.returns-in_default-make
returns-in_default-make g c =
    let start : ReplayStart = record {
      script = g.S.Source.left c.args.source.now;
      old = g.V.Shelf.cloud_at c.args.shelf.now;
      source = g.S.Source.faults c.args.source.now;
      sink = g.K.Sink.faults c.args.sink.now;
      total = g.V.Shelf.faults c.args.shelf.now;
      written = g.K.Sink.written c.args.sink.now;
    } in
    let s : Setting = record {
      shape = c.in-Ok-first_line.header.0;
      rooms = c.in-Ok-first_line.header.1;
      told = λ cloud. (g.V.Shelf.cloud_at c.args.shelf.now cloud).told;
    } in
    ends_unmade (record { given = c.law_of_acknowledged.ensures.given; more = c.law_of_acknowledged.ensures.more; kept = c.law_of_acknowledged.ensures.kept; private = c.law_of_own_replies.ensures })
    start s c.first_line.new.reader (g.S.Source.left c.first_line.new.source) (g.S.Source.faults c.first_line.new.source) (g.K.Sink.faults c.args.sink.now) (g.V.Shelf.faults c.empty_clouds.new.shelf)
    (g.V.Shelf.cloud_at c.empty_clouds.new.shelf) (g.K.Sink.written c.args.sink.now) (λ cloud. refl) c.in-Ok-first_line.ensures.header
    (all_same (empty_stands c.law_of_no_commands.ensures.unbegun c.law_of_no_commands.ensures.stands) (header_in s) s.shape start.old (g.V.Shelf.cloud_at c.empty_clouds.new.shelf) c.in-Ok-empty_clouds.ensures.same) refl refl
    c.in-Ok-empty_clouds.ensures.same

pub returns : goal.returns
returns g c =
    let start : ReplayStart = record {
      script = g.S.Source.left c.args.source.now;
      old = g.V.Shelf.cloud_at c.args.shelf.now;
      source = g.S.Source.faults c.args.source.now;
      sink = g.K.Sink.faults c.args.sink.now;
      total = g.V.Shelf.faults c.args.shelf.now;
      written = g.K.Sink.written c.args.sink.now;
    } in
    let s : Setting = record {
      shape = c.in-Ok-first_line.header.0;
      rooms = c.in-Ok-first_line.header.1;
      told = λ cloud. (g.V.Shelf.cloud_at c.args.shelf.now cloud).told;
    } in
    let promise = c.carry_script-end.ensures.replays start s
    (ready_by g.V.Shelf.cloud_at start s c.of-link.result c.in-Ok-make.servers c.empty_clouds.new.shelf c.first_line.new.reader (g.S.Source.left c.first_line.new.source)
    (g.S.Source.faults c.first_line.new.source) (g.K.Sink.written c.args.sink.now) (g.K.Sink.faults c.args.sink.now) (λ cloud. refl) c.of-link.ensures.servers c.in-Ok-make.ensures.shape
    c.in-Ok-make.ensures.closed c.of-link.ensures.delivers.0 c.of-link.ensures.shelf c.in-Ok-empty_clouds.ensures.same c.in-Ok-empty_clouds.ensures.empty c.in-Ok-first_line.ensures.header
    c.in-Ok-first_line.ensures.still refl refl) in
    let back : c.carry_script-end.new.link.shelf.now ≡ c.shelf-1.given.0 = search rules in
    subst (λ (shelf : g.row.V.Denot). HasReplayed c.carry_script-end.result (call_of start (g.S.Source.left c.carry_script-end.new.source) (g.S.Source.faults c.carry_script-end.new.source)
    (g.K.Sink.faults c.carry_script-end.new.sink) (g.V.Shelf.faults shelf) (g.V.Shelf.cloud_at shelf)) (g.K.Sink.written c.args.sink.now) (g.K.Sink.written c.carry_script-end.new.sink))
    back promise
