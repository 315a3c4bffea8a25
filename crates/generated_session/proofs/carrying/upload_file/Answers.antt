use Rattle.std.proofs.Common.{◌≡◌, ◌-◌, ◌≤◌, ◌∙◌, ℕ, List, [], ◌∷◌, ◌++◌, length, sym, ap, subst, arith}
use Rattle.replay_core.specs.Session.event.Event.{Event}
use Rattle.generated_session.specs.Lines.{upload_lines}
use Rattle.generated_session.specs.Progress.{HasMade, IsStopped}
use Rattle.generated_session.proofs.Pieces.{file_len}
use Rattle.generated_session.proofs.Along.{paused, job_reached, upload_here, job_of_file, upload_whole}
use Rattle.generated_session.proofs.Growing.{within_more}
use Rattle.generated_session.proofs.carrying.upload_file.Goals as goal

pub returns-in-Err-clause-stops : goal.returns-in-Err-clause-stops
returns-in-Err-clause-stops g c = λ files begun s script made.
    paused g.V.Shelf.cloud_at begun s files script (c.args.number - 1) c.args.numbers.now c.args.link.now made (upload_lines c.args.seed c.args.pieces c.args.number)

pub new-requires-clause-few : goal.new-requires-clause-few
new-requires-clause-few g c =
    omega (arith, ap length (c.as_slice.ensures ∙ c.in-Ok.ensures), file_len c.args.seed c.args.pieces c.version_of-version.result, c.requires.pieces)

pub returns-in-Err-new-clause-stops : goal.returns-in-Err-new-clause-stops
returns-in-Err-new-clause-stops g c = λ files begun s script made.
    paused g.V.Shelf.cloud_at begun s files script (c.args.number - 1) c.args.numbers.now c.args.link.now made (upload_lines c.args.seed c.args.pieces c.args.number)

pub finish_job-requires-clause-reached : goal.finish_job-requires-clause-reached
finish_job-requires-clause-reached g c =
    job_reached g.V.Shelf.cloud_at c.args.seed c.args.pieces c.args.number c.args.link.now.servers.shape c.user_of-user.result c.version_of-version.result c.as_slice.result.now c.shape-shape.result c.in-Ok-new.job
    c.requires.number.1 c.requires.pieces c.user_of-user.ensures c.version_of-version.ensures (c.as_slice.ensures ∙ c.in-Ok.ensures) c.shape-shape.ensures c.in-Ok-new.ensures

pub returns-in-Ok-finish_job-clause-makes : goal.returns-in-Ok-finish_job-clause-makes
returns-in-Ok-finish_job-clause-makes g c = λ files begun s script made.
    let clouds = g.V.Shelf.cloud_at in
    let number = c.args.number in
    let job = job_of_file clouds c.args.seed c.args.pieces number begun s files script c.args.numbers.now c.args.link.now made c.law_of_moments.ensures.later c.law_of_moments.ensures.here
    c.user_of-user.result c.version_of-version.result c.as_slice.result.now c.shape-shape.result c.in-Ok-new.job c.len.result c.requires.number.0 c.requires.number.1 c.requires.pieces
    c.user_of-user.ensures c.version_of-version.ensures (c.as_slice.ensures ∙ c.in-Ok.ensures) c.shape-shape.ensures c.in-Ok-new.ensures (c.len.ensures ∙ sym (ap length c.as_slice.ensures)) in
    subst (λ (l : List Event). HasMade clouds begun s c.finish_job.new.link files l number c.finish_job.new.numbers) (upload_whole clouds c.args.seed c.args.pieces number script)
    (c.in-Ok-finish_job.ensures.makes begun s files (script ++ upload_here clouds c.args.seed c.args.pieces number ∷ []) number job)

pub returns-in-Ok-finish_job-clause-within : goal.returns-in-Ok-finish_job-clause-within
returns-in-Ok-finish_job-clause-within g c =
    let long : c.len.result ≤ 67108864 = omega (arith, c.len.ensures ∙ ap length c.in-Ok.ensures, file_len c.args.seed c.args.pieces c.version_of-version.result, c.requires.pieces) in
    within_more c.args.number c.len.result c.args.numbers.now c.finish_job.new.numbers c.requires.number.0 long c.requires.room c.finish_job.ensures.grows

pub returns-clause-stops : goal.returns-clause-stops
returns-clause-stops g c = λ files begun s script made.
    let clouds = g.V.Shelf.cloud_at in
    let number = c.args.number in
    let job = job_of_file clouds c.args.seed c.args.pieces number begun s files script c.args.numbers.now c.args.link.now made c.law_of_moments.ensures.later c.law_of_moments.ensures.here
    c.user_of-user.result c.version_of-version.result c.as_slice.result.now c.shape-shape.result c.in-Ok-new.job c.len.result c.requires.number.0 c.requires.number.1 c.requires.pieces
    c.user_of-user.ensures c.version_of-version.ensures (c.as_slice.ensures ∙ c.in-Ok.ensures) c.shape-shape.ensures c.in-Ok-new.ensures (c.len.ensures ∙ sym (ap length c.as_slice.ensures)) in
    subst (λ (l : List Event). IsStopped clouds begun s c.finish_job.new.link l) (upload_whole clouds c.args.seed c.args.pieces number script)
    (c.in-Err-finish_job.ensures.stops begun s files (script ++ upload_here clouds c.args.seed c.args.pieces number ∷ []) number job)
