use Rattle.std.proofs.Common.{◌≡◌, ◌≤◌, List, length, sym, ◌∙◌, subst, arith}
use Rattle.std.proofs.lemmas.List.{length-map}
use Rattle.lane_steps.specs.CdBase.Numbers.{numbers_of}
use Rattle.lane_steps.specs.CdBase.ids.CloudNo.{CloudNo}
use Rattle.lane_steps.specs.CdBase.ids.Tag.{Tag}
use Rattle.lane_steps.specs.CdBase.ids.Version.{Version}
use Rattle.lane_steps.specs.Recipe.recipe.Recipe.{Recipe}
use Rattle.kept_files.specs.RestoreJob.Asking.{Leads}
use Rattle.kept_files.proofs.RestoreJob.Causing.{ready_on}
use Rattle.kept_files.proofs.RestoreJob.Leading.{leads_on, leads_to, asked_on, may_stay}
use Rattle.rebuild.specs.Steps.{OpensCaused, OpensTold, judged_by}
use Rattle.rebuild.proofs.Opens.{found_then, found_refused, refused_caused, causes_from}
use Rattle.rebuild.proofs.versions.find_version.Goals as goal

pub returns-in-Ok-clause-asked : goal.returns-in-Ok-clause-asked
returns-in-Ok-clause-asked g c =
    asked_on g.L.Link.tells (numbers_of c.args.clouds.now) c.args.link.now c.fetch_version.new.link c.open_version.new.link _ c.in-Ok.ensures.asked c.open_version.ensures.asked

pub returns-in-Ok-clause-told : goal.returns-in-Ok-clause-told
returns-in-Ok-clause-told g c =
    let t = g.L.Link.tells in
    let clouds = numbers_of c.args.clouds.now in
    let key : Tag × Version = (c.args.tag, c.args.version) in
    let recipes : List Recipe = c.in-Ok.recipes in
    let same = c.in-Ok.ensures.asked.told in
    let pairs : length clouds ≡ length recipes = length-map c.args.clouds.now (λ (cloud : CloudNo). cloud.0) ∙ sym c.in-Ok.ensures.pairs in
    let some : 1 ≤ length clouds = omega (arith, c.requires.choice.count, c.args.shape.several) in
    let second = subst (λ (l : List Recipe). Leads t clouds c.fetch_version.new.link c.open_version.new.link
    (OpensCaused t c.fetch_version.new.link c.args.shape c.args.user key clouds l c.open_version.result) (OpensTold c.args.shape c.args.user key clouds l (judged_by c.args.shape key clouds l) c.open_version.result))
    c.as_slice.ensures (c.open_version.ensures.told c.args.version) in
    leads_on t clouds clouds clouds c.args.link.now c.fetch_version.new.link c.open_version.new.link _ _ _ _ _ _ c.in-Ok.ensures.told same second (λ x has. has) (λ x has. has)
    (λ a b d one two r s. causes_from t c.args.link.now c.fetch_version.new.link c.open_version.result a b d same one.read
    (s (ready_on t c.args.link.now c.fetch_version.new.link c.args.shape c.args.user key clouds recipes b b same (λ x. may_stay (b x)) r)))
    (λ a b d one two r s. found_then c.args.shape c.args.user key clouds recipes c.open_version.result a b d pairs some r.0 r.1 one.read two.read s)

pub returns-in-Err-clause-told : goal.returns-in-Err-clause-told
returns-in-Err-clause-told g c =
    let t = g.L.Link.tells in
    let clouds = numbers_of c.args.clouds.now in
    let key : Tag × Version = (c.args.tag, c.args.version) in
    leads_to t clouds clouds c.args.link.now c.fetch_version.new.link _ _ _ _ c.in-Err.ensures.told (λ x has. has)
    (λ a b one r known. refused_caused t c.args.link.now c.args.shape c.args.user key c.in-Err.e c.refused.result a b c.refused.ensures r)
    (λ a b one r. found_refused c.args.shape c.args.user key clouds c.in-Err.e c.refused.result a b c.refused.ensures r)
