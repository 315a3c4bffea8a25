use Rattle.std.proofs.Common.{ℕ, List, Ok, subst}
use Rattle.lane_steps.specs.CdBase.Numbers.{numbers_of}
use Rattle.kept_files.specs.RestoreJob.Brought.{AppendsSecrets}
use Rattle.kept_files.specs.RestoreJob.Reading.{Ends}
use Rattle.kept_files.specs.RestoreJob.Restored.{agreed}
use Rattle.kept_files.specs.RestoreJob.Steps.{givens}
use Rattle.kept_files.proofs.RestoreJob.Leading.{leads_to}
use Rattle.rebuild.proofs.Opens.{ends_found, refused_caused, file_fits, file_is}
use Rattle.rebuild.proofs.versions.read_file.Goals as goal

pub returns-in-Ok-clause-told : goal.returns-in-Ok-clause-told
returns-in-Ok-clause-told g c tag version =
    let t = g.L.Link.tells in
    let clouds = numbers_of c.args.clouds.now in
    leads_to t clouds clouds c.args.link.now c.restore_agreed-came.new.link _ _ _ _ (c.in-Ok.ensures.told tag version) (λ x has. has)
    (λ a b one r known ready. tt)
    (λ a b one r ready. file_is c.args.user (tag, version) clouds c.args.path (agreed c.args.shape (givens a clouds c.args.recipes.now)) c.restore_agreed-came.new.out a b
    (subst (λ (l : List ℕ). Ends (agreed c.args.shape (givens a clouds c.args.recipes.now)) clouds (Ok tt) l c.restore_agreed-came.new.out a b) c.new-file.ensures (r ready)))

pub returns-in-Ok-clause-fit : goal.returns-in-Ok-clause-fit
returns-in-Ok-clause-fit g c = (
  c.requires.path,
  file_fits c.args.shape (numbers_of c.args.clouds.now) c.args.recipes.now c.restore_agreed-came.new.out c.requires.fits
      (subst (λ (l : List ℕ). AppendsSecrets c.args.shape (numbers_of c.args.clouds.now) c.args.recipes.now l c.restore_agreed-came.new.out) c.new-file.ensures c.in-Ok.ensures.brought.1),
)

pub returns-in-Err-clause-told : goal.returns-in-Err-clause-told
returns-in-Err-clause-told g c tag version =
    let t = g.L.Link.tells in
    let clouds = numbers_of c.args.clouds.now in
    leads_to t clouds clouds c.args.link.now c.restore_agreed-came.new.link _ _ _ _ (c.in-Err.ensures.told tag version) (λ x has. has)
    (λ a b one r known ready. refused_caused t c.args.link.now c.args.shape c.args.user (tag, version) c.in-Err.e c.refused.result a b c.refused.ensures (r ready))
    (λ a b one r ready. ends_found c.args.user (tag, version) clouds c.args.path (agreed c.args.shape (givens a clouds c.args.recipes.now)) c.in-Err.e c.refused.result _ _ a b c.refused.ensures (r ready))
