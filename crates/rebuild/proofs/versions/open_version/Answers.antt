use Rattle.std.proofs.Common.{ℕ, List, Result, sym, subst}
use Rattle.lane_steps.specs.CdBase.Numbers.{numbers_of}
use Rattle.kept_files.proofs.RestoreJob.Leading.{leads_none, leads_to}
use Rattle.rebuild.specs.declared.error.SkipWhy.{SkipWhy}
use Rattle.rebuild.specs.Steps.{OpensTold, judged_by}
use Rattle.kept_files.proofs.RestoreJob.Leading.{asked_as, asked_none}
use Rattle.std.proofs.Common.{false}
use Rattle.rebuild.proofs.Opens.{unnamed_told, unnamed_caused, names_none}
use Rattle.rebuild.proofs.versions.open_version.Goals as goal

pub returns-in-Ok-clause-told : goal.returns-in-Ok-clause-told
returns-in-Ok-clause-told g c version =
    let t = g.L.Link.tells in
    let clouds = numbers_of c.args.clouds.now in
    leads_to t clouds clouds c.args.link.now c.read_file.new.link _ _ _ _ (c.read_file.ensures.told c.args.tag version) (λ x has. has)
    (λ a b one known read ready. known ready)
    (λ a b one r. subst (λ (j : Result (List ℕ) SkipWhy). OpensTold c.args.shape c.args.user (c.args.tag, version) clouds c.args.recipes.now j c.read_file.result a b) (sym (c.in-Ok.ensures.judges version)) r)

pub returns-in-Err-clause-told : goal.returns-in-Err-clause-told
returns-in-Err-clause-told g c version =
    let t = g.L.Link.tells in
    let clouds = numbers_of c.args.clouds.now in
    leads_none t clouds c.args.link.now _ _ (λ a ready. unnamed_caused t c.args.link.now c.in-Err.e c.unnamed.result a a c.unnamed.ensures.named)
    (λ a. unnamed_told c.args.shape c.args.user (c.args.tag, version) clouds c.args.recipes.now (judged_by c.args.shape (c.args.tag, version) clouds c.args.recipes.now) c.in-Err.e c.unnamed.result a a (c.in-Err.ensures.judges version) c.unnamed.ensures.named)

pub returns-in-Err-clause-asked : goal.returns-in-Err-clause-asked
returns-in-Err-clause-asked g c = asked_as g.L.Link.tells (numbers_of c.args.clouds.now) c.args.link.now c.args.link.now false _ (sym c.unnamed.ensures.found) (asked_none g.L.Link.tells (numbers_of c.args.clouds.now) c.args.link.now)

pub returns-in-Err-clause-named : goal.returns-in-Err-clause-named
returns-in-Err-clause-named g c = names_none c.unnamed.result _ c.unnamed.ensures.alone
