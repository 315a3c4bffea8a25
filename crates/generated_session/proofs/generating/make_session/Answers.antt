use Rattle.std.proofs.Common.{rules, ◌≡◌, ℕ, [], Some, None, refl, subst}
use Rattle.replay_core.specs.JournalStart.Ranges.{usual_rooms}
use Rattle.replay_core.specs.JournalStart.rooms.UserRooms.{UserRooms}
use Rattle.replay_core.specs.ShareServer.server.Server.{Server}
use Rattle.replay_core.specs.LocalLink.Steps.{IsClosedIn}
use Rattle.replay_core.specs.LocalLink.Tells.{server_at}
use Rattle.replay_core.specs.SessionModel.Vault.{Setting}
use Rattle.replay_core.specs.Opening.{before_first}
use Rattle.replay_core.specs.ScriptLines.At.{header_in}
use Rattle.replay_core.proofs.Clouds.{empty_stands, all_same}
use Rattle.replay_core.proofs.Begins.{ready_by}
use Rattle.generated_session.specs.Generates.{Order, Passing, Generates}
use Rattle.generated_session.specs.Progress.{start_of}
use Rattle.generated_session.proofs.Ends.{ends_unmade, ends_unopened}
use Rattle.generated_session.proofs.generating.make_session.Goals as goal

pub returns-in-Err : goal.returns-in-Err
returns-in-Err g c =
    let clouds = g.V.Shelf.cloud_at in
    let s : Setting = record { shape = c.four_clouds-shape.result; rooms = usual_rooms; told = λ cloud. (clouds c.args.shelf.now cloud).told } in
    let order : Order = record { seed = c.args.seed; files = c.args.files; pieces = c.args.pieces } in
    let call : Passing = record {
      sink_before = g.K.Sink.faults c.args.sink.now;
      sink_after = g.K.Sink.faults c.args.sink.now;
      before = g.K.Sink.written c.args.sink.now;
      after = g.K.Sink.written c.args.sink.now;
      old = clouds c.args.shelf.now;
      new = clouds c.empty_clouds.new.shelf;
    } in
    ends_unopened (record { given = c.law_of_acknowledged.ensures.given; more = c.law_of_acknowledged.ensures.more; kept = c.law_of_acknowledged.ensures.kept; private = c.law_of_own_replies.ensures }) order call s
    (c.four_clouds-shape.ensures.0, c.four_clouds-shape.ensures.1, refl) (λ cloud. refl) (c.in-Err.ensures.prepares (header_in s)) refl refl c.in-Err.end c.in-Err.ensures.end

pub returns-in_default : goal.returns-in_default
returns-in_default g c =
    let clouds = g.V.Shelf.cloud_at in
    let s : Setting = record { shape = c.four_clouds-shape.result; rooms = usual_rooms; told = λ cloud. (clouds c.args.shelf.now cloud).told } in
    let order : Order = record { seed = c.args.seed; files = c.args.files; pieces = c.args.pieces } in
    let call : Passing = record {
      sink_before = g.K.Sink.faults c.args.sink.now;
      sink_after = g.K.Sink.faults c.args.sink.now;
      before = g.K.Sink.written c.args.sink.now;
      after = g.K.Sink.written c.args.sink.now;
      old = clouds c.args.shelf.now;
      new = clouds c.empty_clouds.new.shelf;
    } in
    ends_unmade (record { given = c.law_of_acknowledged.ensures.given; more = c.law_of_acknowledged.ensures.more; kept = c.law_of_acknowledged.ensures.kept; private = c.law_of_own_replies.ensures }) order call s
    (c.four_clouds-shape.ensures.0, c.four_clouds-shape.ensures.1, refl) (λ cloud. refl)
    (all_same (empty_stands c.law_of_no_commands.ensures.unbegun c.law_of_no_commands.ensures.stands) (header_in s) s.shape (clouds c.args.shelf.now) (clouds c.empty_clouds.new.shelf) c.in-Ok.ensures.same) refl refl c.in-Ok.ensures.same

pub returns : goal.returns
returns g c =
    let clouds = g.V.Shelf.cloud_at in
    let s : Setting = record { shape = c.four_clouds-shape.result; rooms = usual_rooms; told = λ cloud. (clouds c.args.shelf.now cloud).told } in
    let promise = c.carry_session-end.ensures.generates (clouds c.args.shelf.now) s
    (ready_by clouds (start_of (clouds c.args.shelf.now)) s c.of-link.result c.in-Ok-make.servers c.empty_clouds.new.shelf before_first None 0 None 0 (λ cloud. refl) c.of-link.ensures.servers c.in-Ok-make.ensures.shape
    (subst (λ (r : UserRooms). (cloud : ℕ) (server : Server) → server_at c.in-Ok-make.servers cloud ≡ Some server → IsClosedIn r server) c.usual.ensures.rooms c.in-Ok-make.ensures.closed) c.of-link.ensures.delivers.0 c.of-link.ensures.shelf c.in-Ok.ensures.same c.in-Ok.ensures.empty tt refl refl refl) refl in
    let back : c.carry_session-end.new.link.shelf.now ≡ c.shelf-1.given.0 = search rules in
    subst (λ (shelf : g.row.V.Denot). Generates c.carry_session-end.result (record { seed = c.args.seed; files = c.args.files; pieces = c.args.pieces }) (record {
      sink_before = g.K.Sink.faults c.args.sink.now;
      sink_after = g.K.Sink.faults c.carry_session-end.new.sink;
      before = g.K.Sink.written c.args.sink.now;
      after = g.K.Sink.written c.carry_session-end.new.sink;
      old = clouds c.args.shelf.now;
      new = clouds shelf;
    })) back promise
