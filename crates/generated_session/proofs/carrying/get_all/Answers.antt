use Rattle.std.proofs.Common.{◌≡◌, ◌+◌, ◌<◌, ◌≤◌, ◌∙◌, ℕ, List, [], ◌∷◌, ◌++◌, map, refl, sym, ap, subst, arith, append-nil, append_assoc}
use Rattle.std.specs.List.{range_with_len}
use Rattle.lane_steps.specs.CdBase.shape.Shape.{Shape}
use Rattle.replay_core.specs.Session.event.Event.{Event}
use Rattle.replay_core.specs.SessionModel.Kept.{uploads}
use Rattle.replay_core.proofs.ScriptLines.Lines.{on_err}
use Rattle.generated_session.specs.Lines.{get_line, generated_lines}
use Rattle.generated_session.specs.Progress.{HasMade}
use Rattle.generated_session.proofs.Script.{gets_so_far, gets_front, file_known}
use Rattle.generated_session.proofs.Stops.{stopped_more, front_on}
use Rattle.generated_session.proofs.carrying.get_all.Goals as goal

pub loop-place-init : goal.loop-place-init
loop-place-init g c = record {
  makes = λ begun s script made. subst (λ (l : List Event). HasMade g.V.Shelf.cloud_at begun s c.args.link.now (uploads (generated_lines c.args.seed c.args.files c.args.pieces)) l c.args.files c.args.numbers.now) (sym (append-nil script)) made;
  few = omega (arith, c.requires.equal);
  shape = refl;
  same_reference = refl;
}

pub get_file-requires-clause-shape : goal.get_file-requires-clause-shape
get_file-requires-clause-shape g c =
    (ap (λ (sh : Shape). sh.n) c.loop-place.invariant.shape ∙ c.requires.shape.0, ap (λ (sh : Shape). sh.k) c.loop-place.invariant.shape ∙ c.requires.shape.1)

pub loop-place-preserved : goal.loop-place-preserved
loop-place-preserved g c = record {
  makes = λ begun s script made.
      let place = c.loop-place.place in
      let files = uploads (generated_lines c.args.seed c.args.files c.args.pieces) in
      let gets = map get_line (range_with_len 1 place) in
      subst (λ (l : List Event). HasMade g.V.Shelf.cloud_at begun s c.get_file.new.link files l c.args.files c.get_file.new.numbers)
      (append_assoc script gets (get_line (place + 1) ∷ []) ∙ ap (λ (l : List Event). script ++ l) (sym (gets_so_far place)))
      (c.in_ok-get_file.ensures.makes files c.args.files (file_known c.args.seed c.args.files c.args.pieces place c.loop-place-test.true) begun s (script ++ gets) (c.loop-place.invariant.makes begun s script made));
  few = c.in_ok-get_file.ensures.few;
  shape = c.get_file.ensures.shape ∙ c.loop-place.invariant.shape;
  same_reference = c.get_file.ensures.same_reference ∙ c.loop-place.invariant.same_reference;
}

pub returns-in_err-get_file-clause-stops : goal.returns-in_err-get_file-clause-stops
returns-in_err-get_file-clause-stops g c =
    on_err c.from_residual.result _ (λ begun s script made.
    let place = c.loop-place.place in
    let files = uploads (generated_lines c.args.seed c.args.files c.args.pieces) in
    let gets = map get_line (range_with_len 1 place) in
    let front = gets_front place c.args.files c.loop-place-test.true in
    stopped_more g.V.Shelf.cloud_at begun s c.get_file.new.link (script ++ gets ++ get_line (place + 1) ∷ []) front.0
    (script ++ map get_line (range_with_len 1 c.args.files))
    (c.in_err-get_file.ensures.stops files c.args.files begun s (script ++ gets) (c.loop-place.invariant.makes begun s script made))
    (front_on script gets (get_line (place + 1) ∷ []) front.0 (map get_line (range_with_len 1 c.args.files)) front.1))

pub returns-in_err-get_file-clause-same_reference : goal.returns-in_err-get_file-clause-same_reference
returns-in_err-get_file-clause-same_reference g c = c.get_file.ensures.same_reference ∙ c.loop-place.invariant.same_reference

pub returns-clause-makes : goal.returns-clause-makes
returns-clause-makes g c = λ begun s script made.
    let e : c.loop-place.place ≡ c.args.files = omega (arith, c.loop-place-test.false, c.loop-place.auto.place-end) in
    subst (λ (n : ℕ). HasMade g.V.Shelf.cloud_at begun s c.loop-place.link (uploads (generated_lines c.args.seed c.args.files c.args.pieces)) (script ++ map get_line (range_with_len 1 n)) c.args.files c.loop-place.numbers) e
    (c.loop-place.invariant.makes begun s script made)
