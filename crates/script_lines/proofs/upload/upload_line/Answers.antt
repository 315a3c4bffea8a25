use Rattle.std.proofs.Common.{◌<◌, ◌^◌, [], ◌∷◌, length, refl, ap, ◌∙◌, rules}
use Rattle.recipe.specs.CdBase.shape.Shape.{Shape}
use Rattle.session_model.specs.Session.event.Event.TheVariants as events
use Rattle.session_model.specs.Transcript.line.Line.TheVariants as lines
use Rattle.session_model.specs.UploadJob.Lanes.{lanes_begun}
use Rattle.session_model.specs.Steps.{version_of}
use Rattle.script_lines.proofs.Going.{cut_before}
use Rattle.script_lines.proofs.Lines.{on_ok, on_err}
use Rattle.script_lines.proofs.Others.{upload_came}
use Rattle.script_lines.proofs.Uploading.{job_begun}
use Rattle.script_lines.proofs.upload.upload_line.Goals as goal

pub returns-in-Err-clause-cut : goal.returns-in-Err-clause-cut
returns-in-Err-clause-cut g c s v is =
    cut_before g.V.Shelf.cloud_at s (events.Upload c.args.user c.args.path.now c.args.version c.args.bytes.now) c.args.link.now c.args.link.now c.args.jobs.now v is refl
    (c.law_of_parts.ensures.unmoved s v (length c.args.jobs.now) (events.Upload c.args.user c.args.path.now c.args.version c.args.bytes.now) c.requires.fits)

pub returns-in-Err-push-clause-cut : goal.returns-in-Err-push-clause-cut
returns-in-Err-push-clause-cut g c s v is =
    cut_before g.V.Shelf.cloud_at s (events.Upload c.args.user c.args.path.now c.args.version c.args.bytes.now) c.args.link.now c.args.link.now c.args.jobs.now v is refl
    (c.law_of_parts.ensures.unmoved s v (length c.args.jobs.now) (events.Upload c.args.user c.args.path.now c.args.version c.args.bytes.now) c.requires.fits)

pub returns-clause-does : goal.returns-clause-does
returns-clause-does g c = on_ok c.put_line.result _ _ (λ said s v is. (
  lines.Job c.len-number.result ∷ [],
  upload_came g.V.Shelf.cloud_at s c.args.link.now c.args.jobs.now c.push.new.self v c.args.user c.args.path.now c.args.version c.args.bytes.now c.in-Ok.job c.len-number.result c.shape.result is c.shape.ensures c.in-Ok.ensures c.in-Ok-push.ensures.ok c.len-number.ensures,
  said,
)) c.put_line.ensures.ok

pub returns-clause-cut : goal.returns-clause-cut
returns-clause-cut g c = on_err c.put_line.result _ (λ s v is.
    cut_before g.V.Shelf.cloud_at s (events.Upload c.args.user c.args.path.now c.args.version c.args.bytes.now) c.args.link.now c.args.link.now c.args.jobs.now v is refl
    (c.law_of_parts.ensures.unmoved s v (length c.args.jobs.now) (events.Upload c.args.user c.args.path.now c.args.version c.args.bytes.now) c.requires.fits))

pub returns-clause-reached : goal.returns-clause-reached
returns-clause-reached g c =
    let user : c.args.user.0 < 2 ^ 32 = search rules in
    let version : c.args.version.0 < 2 ^ 64 = search rules in
    job_begun c.args.link.now.servers.shape (version_of c.args.user c.args.path.now c.args.version c.args.bytes.now) c.args.jobs.now c.push.new.self c.in-Ok.job c.requires.reached c.requires.fits.named c.requires.fits.few user version
    (c.in-Ok.ensures ∙ ap (λ (sh : Shape). lanes_begun sh (version_of c.args.user c.args.path.now c.args.version c.args.bytes.now)) c.shape.ensures) c.in-Ok-push.ensures.ok
