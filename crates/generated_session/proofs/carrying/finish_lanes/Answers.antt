use Rattle.std.proofs.Common.{◌≡◌, ◌+◌, ◌<◌, ◌∙◌, ℕ, List, [], ◌∷◌, refl, sym, ap, subst, arith}
use Rattle.std.specs.List.{range_with_len}
use Rattle.lane_steps.specs.CdBase.shape.Shape.{Shape}
use Rattle.lane_steps.specs.Reached.{IsReached}
use Rattle.replay_core.specs.Session.Spelling.{IsJob}
use Rattle.replay_core.specs.ScriptLines.Finishing.{FinishedPart}
use Rattle.replay_core.proofs.ScriptLines.Going.{leaves_all, leaves_join}
use Rattle.replay_core.proofs.ScriptLines.Lines.{on_err}
use Rattle.replay_core.proofs.ScriptLines.Bringing.{part_longer, range_more, range_at}
use Rattle.generated_session.specs.Progress.{Brings, GrowsByLanes}
use Rattle.generated_session.proofs.Lanes.{brings_none, brings_join, brings_cut}
use Rattle.generated_session.proofs.Growing.{grows_none, grows_more, grows_within, room_for}
use Rattle.generated_session.proofs.carrying.finish_lanes.Goals as goal

pub loop-lane-init : goal.loop-lane-init
loop-lane-init g c = record {
  does = λ s v jobs job is number same. (jobs, refl, same, brings_none g.V.Shelf.cloud_at s job c.args.link.now jobs v c.args.numbers.now is);
  grows = grows_none c.args.numbers.now;
  leaves = leaves_all g.V.Shelf.cloud_at c.args.link.now c.args.link.now refl;
  reached = c.requires.reached;
  same_reference = refl;
}

pub finish_one-requires-clause-below : goal.finish_one-requires-clause-below
finish_one-requires-clause-below g c =
    subst (λ (n : ℕ). c.loop-lane.lane < n) (c.n-lanes.ensures ∙ ap (λ (sh : Shape). sh.n) (c.shape.ensures ∙ sym c.loop-lane.invariant.leaves.shape)) c.loop-lane-test.true

pub finish_one-requires-clause-reached : goal.finish_one-requires-clause-reached
finish_one-requires-clause-reached g c = subst (λ (sh : Shape). IsReached sh c.loop-lane.job) (sym c.loop-lane.invariant.leaves.shape) c.loop-lane.invariant.reached

pub finish_one-requires-clause-room : goal.finish_one-requires-clause-room
finish_one-requires-clause-room g c = room_for c.loop-lane.lane c.args.numbers.now c.loop-lane.numbers (omega (arith, c.loop-lane-test.true)) c.requires.room c.loop-lane.invariant.grows

pub returns-in_err-finish_one-clause-cut : goal.returns-in_err-finish_one-clause-cut
returns-in_err-finish_one-clause-cut g c =
    let clouds = g.V.Shelf.cloud_at in
    let old = c.args.link.now in
    let mid = c.loop-lane.link in
    let new = c.finish_one.new.link in
    let lane = c.loop-lane.lane in
    on_err c.from_residual.result _ (λ s v jobs job is number same.
    let f = c.loop-lane.invariant.does s v jobs job is number same in
    let lt = subst (λ (n : ℕ). lane < n) (c.n-lanes.ensures ∙ ap (λ (sh : Shape). sh.n) (c.shape.ensures ∙ is.link_at.shape)) c.loop-lane-test.true in
    let r = range_at lane s.shape.n lt in
    subst (λ (l : List ℕ). FinishedPart clouds s job l old new v) r.1
    (brings_cut clouds s job (range_with_len 0 lane) (lane ∷ r.0) old mid new f.0 v c.args.numbers.now c.loop-lane.numbers f.3
    (part_longer clouds s job lane r.0 mid new f.3.after
    (c.in_err-finish_one.ensures.cut s f.3.after f.0 job f.3.is_at (subst (λ (n : ℕ). IsJob n job) (sym f.1) number) f.2))))

pub returns-in_err-finish_one-clause-grows : goal.returns-in_err-finish_one-clause-grows
returns-in_err-finish_one-clause-grows g c = grows_more c.loop-lane.lane 256 c.args.numbers.now c.loop-lane.numbers c.finish_one.new.numbers (omega (arith, c.loop-lane-test.true)) c.loop-lane.invariant.grows c.finish_one.ensures.grows

pub returns-in_err-finish_one-clause-leaves : goal.returns-in_err-finish_one-clause-leaves
returns-in_err-finish_one-clause-leaves g c = leaves_join g.V.Shelf.cloud_at c.args.link.now c.loop-lane.link c.finish_one.new.link c.loop-lane.invariant.leaves c.finish_one.ensures.leaves

pub returns-in_err-finish_one-clause-same_reference : goal.returns-in_err-finish_one-clause-same_reference
returns-in_err-finish_one-clause-same_reference g c = c.finish_one.ensures.same_reference ∙ c.loop-lane.invariant.same_reference

pub loop-lane-preserved : goal.loop-lane-preserved
loop-lane-preserved g c =
    let clouds = g.V.Shelf.cloud_at in
    let old = c.args.link.now in
    let mid = c.loop-lane.link in
    let new = c.finish_one.new.link in
    let lane = c.loop-lane.lane in
    record {
      does = λ s v jobs job is number same.
          let f = c.loop-lane.invariant.does s v jobs job is number same in
          let h = c.in_ok-finish_one.ensures.does s f.3.after f.0 job f.3.is_at (subst (λ (n : ℕ). IsJob n job) (sym f.1) number) f.2 in (
            h.0,
            h.1 ∙ f.1,
            h.2,
            subst (λ (l : List ℕ). Brings clouds s job l old new h.0 v c.args.numbers.now c.finish_one.new.numbers) (range_more lane)
                (brings_join clouds s job (range_with_len 0 lane) (lane ∷ []) old mid new f.0 h.0 v c.args.numbers.now c.loop-lane.numbers c.finish_one.new.numbers f.3 h.3),
          );
      grows = grows_more lane (lane + 1) c.args.numbers.now c.loop-lane.numbers c.finish_one.new.numbers (omega arith) c.loop-lane.invariant.grows c.finish_one.ensures.grows;
      leaves = leaves_join clouds old mid new c.loop-lane.invariant.leaves c.finish_one.ensures.leaves;
      reached = subst (λ (sh : Shape). IsReached sh c.finish_one.new.job) c.loop-lane.invariant.leaves.shape c.finish_one.ensures.reached;
      same_reference = c.finish_one.ensures.same_reference ∙ c.loop-lane.invariant.same_reference;
    }

pub returns-clause-does : goal.returns-clause-does
returns-clause-does g c = λ s v jobs job is number same.
    let e : c.loop-lane.lane ≡ c.n-lanes.result = omega (arith, c.loop-lane-test.false, c.loop-lane.auto.lane-end) in
    let f = c.loop-lane.invariant.does s v jobs job is number same in (
      f.0,
      f.1,
      f.2,
      subst (λ (n : ℕ). Brings g.V.Shelf.cloud_at s job (range_with_len 0 n) c.args.link.now c.loop-lane.link f.0 v c.args.numbers.now c.loop-lane.numbers)
          (e ∙ c.n-lanes.ensures ∙ ap (λ (sh : Shape). sh.n) (c.shape.ensures ∙ is.link_at.shape)) f.3,
    )

pub returns-clause-grows : goal.returns-clause-grows
returns-clause-grows g c = grows_within c.loop-lane.lane 256 c.args.numbers.now c.loop-lane.numbers (omega (arith, c.loop-lane.auto.lane-end)) c.loop-lane.invariant.grows

pub returns-clause-leaves : goal.returns-clause-leaves
returns-clause-leaves g c = c.loop-lane.invariant.leaves

pub returns-clause-same_reference : goal.returns-clause-same_reference
returns-clause-same_reference g c = c.loop-lane.invariant.same_reference
