use Rattle.std.proofs.Common.{◌≡◌, ◌∙◌, List, [], ◌∷◌, ◌++◌, map, refl, sym, ap, subst, append_assoc}
use Rattle.std.specs.List.{flat_map, range_with_len}
use Rattle.lane_steps.specs.CdBase.shape.Shape.{Shape}
use Rattle.replay_core.specs.Session.event.Event.{Event}
use Rattle.replay_core.specs.SessionModel.Kept.{uploads}
use Rattle.generated_session.specs.Lines.{upload_lines, get_line, generated_lines}
use Rattle.generated_session.specs.Progress.{HasMade, IsStopped}
use Rattle.generated_session.proofs.Stops.{stopped_more}
use Rattle.generated_session.proofs.carrying.carry_all.Goals as goal

pub returns-in-Err-clause-stops : goal.returns-in-Err-clause-stops
returns-in-Err-clause-stops g c = λ begun s script made.
    let ups = flat_map (upload_lines c.args.seed c.args.pieces) (range_with_len 1 c.args.files) in
    let gets = map get_line (range_with_len 1 c.args.files) in
    let files = uploads (generated_lines c.args.seed c.args.files c.args.pieces) in
    stopped_more g.V.Shelf.cloud_at begun s c.upload_all.new.link (script ++ ups) gets (script ++ generated_lines c.args.seed c.args.files c.args.pieces)
    (c.in-Err.ensures.stops files begun s script made) (append_assoc script ups gets)

pub get_all-requires-clause-shape : goal.get_all-requires-clause-shape
get_all-requires-clause-shape g c =
    (ap (λ (sh : Shape). sh.n) c.upload_all.ensures.shape ∙ c.requires.shape.0, ap (λ (sh : Shape). sh.k) c.upload_all.ensures.shape ∙ c.requires.shape.1)

pub returns-in-Ok-get_all-clause-makes : goal.returns-in-Ok-get_all-clause-makes
returns-in-Ok-get_all-clause-makes g c = λ begun s script made.
    let ups = flat_map (upload_lines c.args.seed c.args.pieces) (range_with_len 1 c.args.files) in
    let gets = map get_line (range_with_len 1 c.args.files) in
    let files = uploads (generated_lines c.args.seed c.args.files c.args.pieces) in
    subst (λ (l : List Event). HasMade g.V.Shelf.cloud_at begun s c.get_all.new.link files l c.args.files c.get_all.new.numbers) (append_assoc script ups gets)
    (c.in-Ok-get_all.ensures.makes begun s (script ++ ups) (c.in-Ok.ensures.makes files begun s script made))

pub returns-in-Err-get_all-clause-stops : goal.returns-in-Err-get_all-clause-stops
returns-in-Err-get_all-clause-stops g c = λ begun s script made.
    let ups = flat_map (upload_lines c.args.seed c.args.pieces) (range_with_len 1 c.args.files) in
    let gets = map get_line (range_with_len 1 c.args.files) in
    let files = uploads (generated_lines c.args.seed c.args.files c.args.pieces) in
    subst (IsStopped g.V.Shelf.cloud_at begun s c.get_all.new.link) (append_assoc script ups gets)
    (c.in-Err-get_all.ensures.stops begun s (script ++ ups) (c.in-Ok.ensures.makes files begun s script made))
