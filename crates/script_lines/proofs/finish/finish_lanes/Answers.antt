use Rattle.std.proofs.Common.{◌≡◌, ◌<◌, ℕ, List, [], ◌∷◌, refl, sym, ap, ◌∙◌, subst, arith}
use Rattle.std.specs.List.{range_with_len}
use Rattle.recipe.specs.CdBase.shape.Shape.{Shape}
use Rattle.script_lines.specs.Jobs.{AreReached}
use Rattle.script_lines.specs.Finishing.{Finished, FinishedPart}
use Rattle.script_lines.proofs.Going.{leaves_all, leaves_join}
use Rattle.script_lines.proofs.Lines.{on_err}
use Rattle.script_lines.proofs.Bringing.{finished_none, finished_join, part_join, part_longer, range_more, range_at}
use Rattle.script_lines.proofs.finish.finish_lanes.Goals as goal

pub loop-lane-init : goal.loop-lane-init
loop-lane-init g c = record {
  does = λ s v is. finished_none g.V.Shelf.cloud_at s c.args.job c.args.link.now c.args.jobs.now v c.args.text.now is;
  leaves = leaves_all g.V.Shelf.cloud_at c.args.link.now c.args.link.now refl;
  reached = c.requires.reached;
  count = refl;
  same_reference = refl;
}

pub finish_one-requires-clause-below : goal.finish_one-requires-clause-below
finish_one-requires-clause-below g c =
    subst (λ (n : ℕ). c.loop-lane.lane < n) (c.n-lanes.ensures ∙ ap (λ (sh : Shape). sh.n) (c.shape.ensures ∙ sym c.loop-lane.invariant.leaves.shape)) c.loop-lane-test.true

pub loop-lane-preserved : goal.loop-lane-preserved
loop-lane-preserved g c =
    let clouds = g.V.Shelf.cloud_at in
    let old = c.args.link.now in
    let mid = c.loop-lane.link in
    let new = c.finish_one.new.link in
    let lane = c.loop-lane.lane in
    let before = c.loop-lane.invariant in
    record {
      does = λ s v is.
          let f = before.does s v is in
          subst (λ (l : List ℕ). Finished clouds s c.args.job l old new c.finish_one.new.jobs v c.args.text.now c.finish_one.new.text) (range_more lane)
          (finished_join clouds s c.args.job (range_with_len 0 lane) (lane ∷ []) old mid new c.loop-lane.jobs c.finish_one.new.jobs v c.args.text.now c.loop-lane.text c.finish_one.new.text f (c.in_ok-finish_one.ensures.does s f.after f.is_at));
      leaves = leaves_join clouds old mid new before.leaves c.finish_one.ensures.leaves;
      reached = subst (λ (sh : Shape). AreReached sh c.finish_one.new.jobs) before.leaves.shape c.finish_one.ensures.reached;
      count = c.finish_one.ensures.count ∙ before.count;
      same_reference = c.finish_one.ensures.same_reference ∙ before.same_reference;
    }

pub returns-in_err-finish_one-clause-cut : goal.returns-in_err-finish_one-clause-cut
returns-in_err-finish_one-clause-cut g c =
    let clouds = g.V.Shelf.cloud_at in
    let old = c.args.link.now in
    let mid = c.loop-lane.link in
    let new = c.finish_one.new.link in
    let lane = c.loop-lane.lane in
    on_err c.from_residual.result _ (λ s v is.
    let f = c.loop-lane.invariant.does s v is in
    let lt = subst (λ (n : ℕ). lane < n) (c.n-lanes.ensures ∙ ap (λ (sh : Shape). sh.n) (c.shape.ensures ∙ is.link_at.shape)) c.loop-lane-test.true in
    let r = range_at lane s.shape.n lt in
    subst (λ (l : List ℕ). FinishedPart clouds s c.args.job l old new v) r.1
    (part_join clouds s c.args.job (range_with_len 0 lane) (lane ∷ r.0) old mid new c.loop-lane.jobs v c.args.text.now c.loop-lane.text f
    (part_longer clouds s c.args.job lane r.0 mid new f.after (c.in_err-finish_one.ensures.cut s f.after f.is_at))))

pub returns-clause-does : goal.returns-clause-does
returns-clause-does g c s v is =
    let e : c.loop-lane.lane ≡ c.n-lanes.result = omega (arith, c.loop-lane-test.false, c.loop-lane.auto.lane-end) in
    subst (λ (n : ℕ). Finished g.V.Shelf.cloud_at s c.args.job (range_with_len 0 n) c.args.link.now c.loop-lane.link c.loop-lane.jobs v c.args.text.now c.loop-lane.text)
    (e ∙ c.n-lanes.ensures ∙ ap (λ (sh : Shape). sh.n) (c.shape.ensures ∙ is.link_at.shape)) (c.loop-lane.invariant.does s v is)
