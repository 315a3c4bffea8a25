use Rattle.std.proofs.Common.{◌≡◌, ◌+◌, ◌-◌, ◌<◌, ◌∙◌, ℕ, List, [], ◌∷◌, ◌++◌, refl, sym, ap, subst, arith, append-nil, append_assoc}
use Rattle.std.specs.List.{flat_map, range_with_len}
use Rattle.replay_core.specs.Session.event.Event.{Event}
use Rattle.replay_core.proofs.ScriptLines.Lines.{on_err}
use Rattle.generated_session.specs.declared.numbers.Numbers.{Numbers}
use Rattle.generated_session.specs.Lines.{upload_lines}
use Rattle.generated_session.specs.Progress.{AreWithin, HasMade}
use Rattle.generated_session.proofs.Growing.{within_none}
use Rattle.generated_session.proofs.Script.{uploads_so_far, uploads_front}
use Rattle.generated_session.proofs.Stops.{stopped_more, front_on}
use Rattle.generated_session.proofs.carrying.upload_all.Goals as goal

pub loop-place-init : goal.loop-place-init
loop-place-init g c = record {
  makes = λ all begun s script made. subst (λ (l : List Event). HasMade g.V.Shelf.cloud_at begun s c.args.link.now all l 0 c.args.numbers.now) (sym (append-nil script)) made;
  within = subst (AreWithin 0) (sym c.requires.none) within_none;
  equal = ap (λ (n : Numbers). n.equal) c.requires.none;
  shape = refl;
  same_reference = refl;
}

pub upload_file-requires-clause-room : goal.upload_file-requires-clause-room
upload_file-requires-clause-room g c =
    let e : c.loop-place.place ≡ c.loop-place.place + 1 - 1 = omega arith in
    subst (λ (n : ℕ). AreWithin n c.loop-place.numbers) e c.loop-place.invariant.within

pub loop-place-preserved : goal.loop-place-preserved
loop-place-preserved g c = record {
  makes = λ all begun s script made.
      let place = c.loop-place.place in
      let ups = flat_map (upload_lines c.args.seed c.args.pieces) (range_with_len 1 place) in
      let e : place ≡ place + 1 - 1 = omega arith in
      let so = subst (λ (n : ℕ). HasMade g.V.Shelf.cloud_at begun s c.loop-place.link all (script ++ ups) n c.loop-place.numbers) e (c.loop-place.invariant.makes all begun s script made) in
      subst (λ (l : List Event). HasMade g.V.Shelf.cloud_at begun s c.upload_file.new.link all l (place + 1) c.upload_file.new.numbers)
      (append_assoc script ups (upload_lines c.args.seed c.args.pieces (place + 1)) ∙ ap (λ (l : List Event). script ++ l) (sym (uploads_so_far c.args.seed c.args.pieces place)))
      (c.in_ok-upload_file.ensures.makes all begun s (script ++ ups) so);
  within = c.in_ok-upload_file.ensures.within;
  equal = c.upload_file.ensures.equal ∙ c.loop-place.invariant.equal;
  shape = c.upload_file.ensures.shape ∙ c.loop-place.invariant.shape;
  same_reference = c.upload_file.ensures.same_reference ∙ c.loop-place.invariant.same_reference;
}

pub returns-in_err-upload_file-clause-stops : goal.returns-in_err-upload_file-clause-stops
returns-in_err-upload_file-clause-stops g c =
    on_err c.from_residual.result _ (λ all begun s script made.
    let place = c.loop-place.place in
    let ups = flat_map (upload_lines c.args.seed c.args.pieces) (range_with_len 1 place) in
    let e : place ≡ place + 1 - 1 = omega arith in
    let so = subst (λ (n : ℕ). HasMade g.V.Shelf.cloud_at begun s c.loop-place.link all (script ++ ups) n c.loop-place.numbers) e (c.loop-place.invariant.makes all begun s script made) in
    let front = uploads_front c.args.seed c.args.pieces place c.args.files c.loop-place-test.true in
    stopped_more g.V.Shelf.cloud_at begun s c.upload_file.new.link (script ++ ups ++ upload_lines c.args.seed c.args.pieces (place + 1)) front.0
    (script ++ flat_map (upload_lines c.args.seed c.args.pieces) (range_with_len 1 c.args.files))
    (c.in_err-upload_file.ensures.stops all begun s (script ++ ups) so)
    (front_on script ups (upload_lines c.args.seed c.args.pieces (place + 1)) front.0 (flat_map (upload_lines c.args.seed c.args.pieces) (range_with_len 1 c.args.files)) front.1))

pub returns-in_err-upload_file-clause-equal : goal.returns-in_err-upload_file-clause-equal
returns-in_err-upload_file-clause-equal g c = c.upload_file.ensures.equal ∙ c.loop-place.invariant.equal

pub returns-in_err-upload_file-clause-shape : goal.returns-in_err-upload_file-clause-shape
returns-in_err-upload_file-clause-shape g c = c.upload_file.ensures.shape ∙ c.loop-place.invariant.shape

pub returns-in_err-upload_file-clause-same_reference : goal.returns-in_err-upload_file-clause-same_reference
returns-in_err-upload_file-clause-same_reference g c = c.upload_file.ensures.same_reference ∙ c.loop-place.invariant.same_reference

pub returns-clause-makes : goal.returns-clause-makes
returns-clause-makes g c = λ all begun s script made.
    let e : c.loop-place.place ≡ c.args.files = omega (arith, c.loop-place-test.false, c.loop-place.auto.place-end) in
    subst (λ (n : ℕ). HasMade g.V.Shelf.cloud_at begun s c.loop-place.link all (script ++ flat_map (upload_lines c.args.seed c.args.pieces) (range_with_len 1 n)) n c.loop-place.numbers) e
    (c.loop-place.invariant.makes all begun s script made)
