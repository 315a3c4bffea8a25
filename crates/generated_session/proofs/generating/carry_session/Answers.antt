use Rattle.std.proofs.Common.{◌≡◌, ◌*◌, ◌≤◌, ◌∙◌, ℕ, List, [], ◌∷◌, ◌++◌, Some, None, refl, sym, ap, subst, append-nil}
use Rattle.lane_steps.specs.CdBase.shape.Shape.{Shape}
use Rattle.lane_steps.specs.CdEdges.Disk.{Cloud}
use Rattle.replay_core.specs.SessionModel.Kept.{uploads}
use Rattle.replay_core.specs.ScriptLines.At.{header_in}
use Rattle.replay_core.specs.Opening.{EndsUnopened, before_first}
use Rattle.replay_core.proofs.Clouds.{empty_stands, all_same}
use Rattle.replay_core.proofs.Begins.{same_all, all_ready}
use Rattle.generated_session.specs.Lines.{generated_lines}
use Rattle.generated_session.specs.Numbers.{summary_text}
use Rattle.generated_session.specs.Generates.{Order, Passing}
use Rattle.generated_session.specs.Progress.{start_of, IsStopped}
use Rattle.generated_session.proofs.Along.{paused}
use Rattle.generated_session.proofs.Ends.{ends_unmade, ends_unopened, made_first, ends_stopped, ends_done, ends_sink}
use Rattle.generated_session.proofs.generating.carry_session.Goals as goal

pub returns-in_default-clause-generates : goal.returns-in_default-clause-generates
returns-in_default-clause-generates g c = λ begun s ready rooms.
    let clouds = g.V.Shelf.cloud_at in
    let order : Order = record { seed = c.args.seed; files = c.args.files; pieces = c.args.pieces } in
    let call : Passing = record {
      sink_before = g.K.Sink.faults c.args.sink.now;
      sink_after = g.K.Sink.faults c.args.sink.now;
      before = g.K.Sink.written c.args.sink.now;
      after = g.K.Sink.written c.args.sink.now;
      old = begun;
      new = clouds c.args.link.now.shelf.now;
    } in
    ends_unmade (record { given = c.law_of_acknowledged.ensures.given; more = c.law_of_acknowledged.ensures.more; kept = c.law_of_acknowledged.ensures.kept; private = c.law_of_own_replies.ensures }) order call s
    (ap (λ (sh : Shape). sh.n) (sym ready.shape) ∙ c.requires.shape.0, ap (λ (sh : Shape). sh.k) (sym ready.shape) ∙ c.requires.shape.1, rooms) ready.told
    (all_same (empty_stands c.law_of_no_commands.ensures.unbegun c.law_of_no_commands.ensures.stands) (header_in s) s.shape begun
    (clouds c.args.link.now.shelf.now) ready.same) refl refl ready.same

pub returns-in-Err-clause-generates : goal.returns-in-Err-clause-generates
returns-in-Err-clause-generates g c = λ begun s ready rooms.
    let clouds = g.V.Shelf.cloud_at in
    let order : Order = record { seed = c.args.seed; files = c.args.files; pieces = c.args.pieces } in
    let new = c.open_clouds.new.link in
    let call : Passing = record {
      sink_before = g.K.Sink.faults c.args.sink.now;
      sink_after = g.K.Sink.faults c.args.sink.now;
      before = g.K.Sink.written c.args.sink.now;
      after = g.K.Sink.written c.args.sink.now;
      old = begun;
      new = clouds new.shelf.now;
    } in
    let same = same_all clouds (record { given = c.law_of_acknowledged.ensures.given; more = c.law_of_acknowledged.ensures.more; kept = c.law_of_acknowledged.ensures.kept; private = c.law_of_own_replies.ensures }) (start_of begun) s c.args.link.now before_first None 0 None 0 ready in
    ends_unopened (record { given = c.law_of_acknowledged.ensures.given; more = c.law_of_acknowledged.ensures.more; kept = c.law_of_acknowledged.ensures.kept; private = c.law_of_own_replies.ensures }) order call s
    (ap (λ (sh : Shape). sh.n) (sym ready.shape) ∙ c.requires.shape.0, ap (λ (sh : Shape). sh.k) (sym ready.shape) ∙ c.requires.shape.1, rooms) ready.told
    (all_ready clouds (record { given = c.law_of_acknowledged.ensures.given; more = c.law_of_acknowledged.ensures.more; kept = c.law_of_acknowledged.ensures.kept; private = c.law_of_own_replies.ensures }) (start_of begun) s c.args.link.now before_first None 0 None 0 ready (clouds new.shelf.now) c.in-Err.ensures.prepares) refl refl
    c.in-Err.end
    (subst (λ (sh : Shape). EndsUnopened sh begun (clouds new.shelf.now) c.in-Err.end) ready.shape (subst (λ (f : ℕ → Cloud). EndsUnopened c.args.link.now.servers.shape f (clouds new.shelf.now) c.in-Err.end) same c.in-Err.ensures.end))

pub returns-in_default-carry_all-clause-generates : goal.returns-in_default-carry_all-clause-generates
returns-in_default-carry_all-clause-generates g c = λ begun s ready rooms.
    let clouds = g.V.Shelf.cloud_at in
    let order : Order = record { seed = c.args.seed; files = c.args.files; pieces = c.args.pieces } in
    let link = c.carry_all.new.link in
    let call : Passing = record {
      sink_before = g.K.Sink.faults c.args.sink.now;
      sink_after = g.K.Sink.faults c.args.sink.now;
      before = g.K.Sink.written c.args.sink.now;
      after = g.K.Sink.written c.args.sink.now;
      old = begun;
      new = clouds link.shelf.now;
    } in
    ends_stopped clouds (record { given = c.law_of_acknowledged.ensures.given; more = c.law_of_acknowledged.ensures.more; kept = c.law_of_acknowledged.ensures.kept; private = c.law_of_own_replies.ensures }) order call s
    (ap (λ (sh : Shape). sh.n) (sym ready.shape) ∙ c.requires.shape.0, ap (λ (sh : Shape). sh.k) (sym ready.shape) ∙ c.requires.shape.1, rooms) link refl
    (λ cloud told. g.met.V.Shelf.reads_image link.shelf.now cloud told) c.law_of_moments.ensures.part c.law_of_moments.ensures.here
    (c.in_default-carry_all.ensures.stops begun s [] (made_first clouds (record { given = c.law_of_acknowledged.ensures.given; more = c.law_of_acknowledged.ensures.more; kept = c.law_of_acknowledged.ensures.kept; private = c.law_of_own_replies.ensures }) begun s c.args.link.now c.open_clouds.new.link ready c.in-Ok-open_clouds.ensures.opens order)) refl refl

pub returns-in_default-put_summary-clause-generates : goal.returns-in_default-put_summary-clause-generates
returns-in_default-put_summary-clause-generates g c = λ begun s ready rooms.
    let clouds = g.V.Shelf.cloud_at in
    let order : Order = record { seed = c.args.seed; files = c.args.files; pieces = c.args.pieces } in
    let link = c.carry_all.new.link in
    let call : Passing = record {
      sink_before = g.K.Sink.faults c.args.sink.now;
      sink_after = g.K.Sink.faults c.args.sink.now;
      before = g.K.Sink.written c.args.sink.now;
      after = g.K.Sink.written c.args.sink.now;
      old = begun;
      new = clouds link.shelf.now;
    } in
    let made = c.in-Ok-carry_all.ensures.makes begun s [] (made_first clouds (record { given = c.law_of_acknowledged.ensures.given; more = c.law_of_acknowledged.ensures.more; kept = c.law_of_acknowledged.ensures.kept; private = c.law_of_own_replies.ensures }) begun s c.args.link.now c.open_clouds.new.link ready c.in-Ok-open_clouds.ensures.opens order) in
    ends_stopped clouds (record { given = c.law_of_acknowledged.ensures.given; more = c.law_of_acknowledged.ensures.more; kept = c.law_of_acknowledged.ensures.kept; private = c.law_of_own_replies.ensures }) order call s
    (ap (λ (sh : Shape). sh.n) (sym ready.shape) ∙ c.requires.shape.0, ap (λ (sh : Shape). sh.k) (sym ready.shape) ∙ c.requires.shape.1, rooms) link refl
    (λ cloud told. g.met.V.Shelf.reads_image link.shelf.now cloud told) c.law_of_moments.ensures.part c.law_of_moments.ensures.here
    (subst (IsStopped clouds begun s link) (append-nil (generated_lines c.args.seed c.args.files c.args.pieces))
    (paused clouds begun s (uploads (generated_lines c.args.seed c.args.files c.args.pieces)) (generated_lines c.args.seed c.args.files c.args.pieces) c.args.files c.in-Ok-carry_all.numbers link made [])) refl refl

pub returns-in-Ok-write_summary-clause-generates : goal.returns-in-Ok-write_summary-clause-generates
returns-in-Ok-write_summary-clause-generates g c = λ begun s ready rooms.
    let clouds = g.V.Shelf.cloud_at in
    let order : Order = record { seed = c.args.seed; files = c.args.files; pieces = c.args.pieces } in
    let link = c.carry_all.new.link in
    let call : Passing = record {
      sink_before = g.K.Sink.faults c.args.sink.now;
      sink_after = g.K.Sink.faults c.write_summary.new.sink;
      before = g.K.Sink.written c.args.sink.now;
      after = g.K.Sink.written c.write_summary.new.sink;
      old = begun;
      new = clouds link.shelf.now;
    } in
    let made = c.in-Ok-carry_all.ensures.makes begun s [] (made_first clouds (record { given = c.law_of_acknowledged.ensures.given; more = c.law_of_acknowledged.ensures.more; kept = c.law_of_acknowledged.ensures.kept; private = c.law_of_own_replies.ensures }) begun s c.args.link.now c.open_clouds.new.link ready c.in-Ok-open_clouds.ensures.opens order) in
    ends_done clouds (record { given = c.law_of_acknowledged.ensures.given; more = c.law_of_acknowledged.ensures.more; kept = c.law_of_acknowledged.ensures.kept; private = c.law_of_own_replies.ensures }) order call s
    (ap (λ (sh : Shape). sh.n) (sym ready.shape) ∙ c.requires.shape.0, ap (λ (sh : Shape). sh.k) (sym ready.shape) ∙ c.requires.shape.1, rooms) link refl
    (λ cloud told. g.met.V.Shelf.reads_image link.shelf.now cloud told) c.in-Ok-carry_all.numbers made (3 * c.args.files) c.as_slice.result.now refl
    (c.as_slice.ensures ∙ c.in-Ok-put_summary.ensures ∙ ap (λ (l : List ℕ). l ++ summary_text c.args.files c.in-Ok-carry_all.numbers) c.new-text.ensures) c.in-Ok-write_summary.ensures.ok c.in-Ok-write_summary.ensures.still

pub returns-clause-generates : goal.returns-clause-generates
returns-clause-generates g c = λ begun s ready rooms.
    let clouds = g.V.Shelf.cloud_at in
    let order : Order = record { seed = c.args.seed; files = c.args.files; pieces = c.args.pieces } in
    let link = c.carry_all.new.link in
    let call : Passing = record {
      sink_before = g.K.Sink.faults c.args.sink.now;
      sink_after = g.K.Sink.faults c.write_summary.new.sink;
      before = g.K.Sink.written c.args.sink.now;
      after = g.K.Sink.written c.write_summary.new.sink;
      old = begun;
      new = clouds link.shelf.now;
    } in
    let made = c.in-Ok-carry_all.ensures.makes begun s [] (made_first clouds (record { given = c.law_of_acknowledged.ensures.given; more = c.law_of_acknowledged.ensures.more; kept = c.law_of_acknowledged.ensures.kept; private = c.law_of_own_replies.ensures }) begun s c.args.link.now c.open_clouds.new.link ready c.in-Ok-open_clouds.ensures.opens order) in
    ends_sink clouds (record { given = c.law_of_acknowledged.ensures.given; more = c.law_of_acknowledged.ensures.more; kept = c.law_of_acknowledged.ensures.kept; private = c.law_of_own_replies.ensures }) order call s
    (ap (λ (sh : Shape). sh.n) (sym ready.shape) ∙ c.requires.shape.0, ap (λ (sh : Shape). sh.k) (sym ready.shape) ∙ c.requires.shape.1, rooms) link refl
    (λ cloud told. g.met.V.Shelf.reads_image link.shelf.now cloud told) c.in-Ok-carry_all.numbers made c.as_slice.result.now c.in-Err-write_summary.end
    (c.as_slice.ensures ∙ c.in-Ok-put_summary.ensures ∙ ap (λ (l : List ℕ). l ++ summary_text c.args.files c.in-Ok-carry_all.numbers) c.new-text.ensures) c.in-Err-write_summary.ensures.end
