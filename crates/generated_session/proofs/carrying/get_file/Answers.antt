use Rattle.std.proofs.Common.{◌≡◌, ◌+◌, ◌≤◌, ◌∙◌, ℕ, List, [], ◌∷◌, ◌++◌, length, refl, sym, ap, subst, arith}
use Rattle.lane_steps.specs.CdBase.shape.Shape.{Shape}
use Rattle.lane_steps.specs.CdBase.ids.Version.{Version}
use Rattle.replay_core.specs.Session.Spelling.{AreSources}
use Rattle.replay_core.specs.Session.event.Event.{Event}
use Rattle.replay_core.specs.Session.event.Event.TheVariants as events
use Rattle.replay_core.proofs.ScriptLines.Lines.{on_ok, on_err}
use Rattle.replay_core.proofs.ScriptLines.Others.{read_by, get_leaves, get_same}
use Rattle.generated_session.specs.Drawn.{file_of}
use Rattle.generated_session.specs.Lines.{user_at, version_at, file_path, clouds_at, get_line}
use Rattle.generated_session.specs.Progress.{HasMade, IsFileOf, IsStopped}
use Rattle.generated_session.proofs.Along.{paused, path_named, path_bytes, same_file, get_same as same_get, user_within, version_within}
use Rattle.generated_session.proofs.Clouds.{are_three}
use Rattle.generated_session.proofs.Gets.{got_line, got_made, got_cut, counted_few}
use Rattle.generated_session.proofs.carrying.get_file.Goals as goal

pub returns-in-Err-clause-stops : goal.returns-in-Err-clause-stops
returns-in-Err-clause-stops g c = λ files count begun s script made.
    paused g.V.Shelf.cloud_at begun s files script count c.args.numbers.now c.args.link.now made (get_line c.args.number ∷ [])

pub returns-in-Err-clouds_of-clause-stops : goal.returns-in-Err-clouds_of-clause-stops
returns-in-Err-clouds_of-clause-stops g c = λ files count begun s script made.
    paused g.V.Shelf.cloud_at begun s files script count c.args.numbers.now c.args.link.now made (get_line c.args.number ∷ [])

pub returns-clause-makes : goal.returns-clause-makes
returns-clause-makes g c =
    let clouds = g.V.Shelf.cloud_at in
    let number = c.args.number in
    let old = c.args.link.now in
    let new = c.restore_any-came.new.link in
    let n = c.args.numbers.now in
    let m = c.count_got.new.numbers in
    let named = c.in-Ok-clouds_of.clouds in
    let user = c.user_of-user.result in
    let number_is = c.version_of-version.result in
    let version : Version = record { 0 = number_is } in
    let file = c.restore_any-came.new.out in
    let made_file = file_of c.args.seed c.args.pieces number_is in
    let e = c.restore_any-came.ensures in
    let are = are_three old.servers.shape named number c.requires.shape.0 c.requires.shape.1 c.in-Ok-clouds_of.ensures c.rises.ensures in
    let same_version : version ≡ version_at number = ap (λ (k : ℕ). let x : Version = record { 0 = k } in x) c.version_of-version.ensures in
    on_ok c.count_got.result _ _ (λ counted files count known begun s script made.
    subst (λ (event : Event). HasMade clouds begun s new files (script ++ event ∷ []) count m)
    (same_get user (user_at number) file_path version (version_at number) named (clouds_at number) c.user_of-user.ensures same_version c.in-Ok-clouds_of.ensures)
    (got_made clouds begun s files script count n old made new user file_path version named path_named (user_within user number c.user_of-user.ensures) path_bytes
    (version_within number_is number c.requires.number.1 c.version_of-version.ensures) are c.restore_any-came.result file
    (record {
      restored = read_by clouds old new named _ c.shape-shape.result user file_path version c.restore_any-came.result c.new-file.result file c.shape-shape.ensures c.new-file.ensures made.come.is_at.link_at.fate e.restored e.kept;
      asked = e.asked;
      named_so = e.named;
    }) (get_leaves clouds old new named _ e.asked are) c.law_of_moments.ensures.later c.law_of_moments.ensures.here m
    (got_line files user file_path version named file made_file
    (subst (IsFileOf files) (sym (same_file clouds c.args.seed c.args.pieces number user number_is made_file c.user_of-user.ensures c.version_of-version.ensures refl)) known)
    c.restore_any-came.result c.is_same-same.result n m (
      (λ t. sym c.as_slice.ensures ∙ c.is_same-same.ensures.0 t ∙ c.as_slice-2.ensures ∙ c.in-Ok.ensures),
      (λ same. c.is_same-same.ensures.1 (c.as_slice.ensures ∙ same ∙ sym (c.as_slice-2.ensures ∙ c.in-Ok.ensures))),
    ) counted))) c.count_got.ensures.ok

pub returns-clause-stops : goal.returns-clause-stops
returns-clause-stops g c =
    let clouds = g.V.Shelf.cloud_at in
    let number = c.args.number in
    let old = c.args.link.now in
    let new = c.restore_any-came.new.link in
    let n = c.args.numbers.now in
    let named = c.in-Ok-clouds_of.clouds in
    let user = c.user_of-user.result in
    let number_is = c.version_of-version.result in
    let version : Version = record { 0 = number_is } in
    let file = c.restore_any-came.new.out in
    let e = c.restore_any-came.ensures in
    let are = are_three old.servers.shape named number c.requires.shape.0 c.requires.shape.1 c.in-Ok-clouds_of.ensures c.rises.ensures in
    let same_version : version ≡ version_at number = ap (λ (k : ℕ). let x : Version = record { 0 = k } in x) c.version_of-version.ensures in
    on_err c.count_got.result _ (λ files count begun s script made.
    subst (λ (event : Event). IsStopped clouds begun s new (script ++ event ∷ []))
    (same_get user (user_at number) file_path version (version_at number) named (clouds_at number) c.user_of-user.ensures same_version c.in-Ok-clouds_of.ensures)
    (got_cut clouds begun s files script count n old made new user file_path version named path_named (user_within user number c.user_of-user.ensures) path_bytes
    (version_within number_is number c.requires.number.1 c.version_of-version.ensures) are c.restore_any-came.result file
    (record {
      restored = read_by clouds old new named _ c.shape-shape.result user file_path version c.restore_any-came.result c.new-file.result file c.shape-shape.ensures c.new-file.ensures made.come.is_at.link_at.fate e.restored e.kept;
      asked = e.asked;
      named_so = e.named;
    }) (get_leaves clouds old new named _ e.asked are)
    (c.law_of_parts.ensures.unmoved s made.come.at (length made.jobs) (events.Get user file_path version named)
    (path_named, subst (λ (sh : Shape). AreSources sh named) made.come.is_at.link_at.shape are))))

pub returns-clause-few : goal.returns-clause-few
returns-clause-few g c =
    on_ok c.count_got.result _ _ (λ counted. omega (arith, counted_few c.restore_any-came.result c.is_same-same.result c.args.numbers.now c.count_got.new.numbers counted, c.requires.few)) c.count_got.ensures.ok

pub returns-clause-shape : goal.returns-clause-shape
returns-clause-shape g c = c.restore_any-came.ensures.asked.shape

pub returns-clause-same_reference : goal.returns-clause-same_reference
returns-clause-same_reference g c = get_same g.V.Shelf.cloud_at c.args.link.now c.restore_any-came.new.link c.in-Ok-clouds_of.clouds _ c.restore_any-came.ensures.asked
