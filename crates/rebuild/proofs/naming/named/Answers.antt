use Rattle.std.proofs.Common.{◌≡◌, ℕ, List, length, Result, sym, ap, ◌∙◌, subst, arith}
use Rattle.std.proofs.lemmas.List.{length-map}
use Rattle.std.specs.Prelude.{All}
use Rattle.std.specs.List.{flat_map}
use Rattle.lane_steps.specs.CdBase.ids.CloudNo.{CloudNo}
use Rattle.lane_steps.specs.CdBase.Numbers.{numbers_of}
use Rattle.lane_steps.specs.Recipe.Spelling.{Fits}
use Rattle.lane_steps.specs.Recipe.recipe.Recipe.{Recipe}
use Rattle.lane_steps.specs.CaontRs.Opening.{opened}
use Rattle.lane_steps.specs.CdBase.ids.Tag.{Tag}
use Rattle.lane_steps.specs.CdBase.ids.Version.{Version}
use Rattle.rebuild.specs.declared.error.SkipWhy.{SkipWhy}
use Rattle.rebuild.specs.Found.{name_judged}
use Rattle.rebuild.specs.Steps.{NameIs}
use Rattle.rebuild.proofs.Names.{names_whole, judged_is}
use Rattle.rebuild.proofs.naming.named.Goals as goal

pub path_of-requires-clause-whole : goal.path_of-requires-clause-whole
path_of-requires-clause-whole c =
    let r : Recipe = c.in-Some.recipe.now in
    let rest : List Recipe = c.in-Some.rest.now in
    let are = c.in-Some.ensures.recipes in
    let clouds = c.in-Some.ensures.clouds in
    let numbers = length-map c.in-Some.others.now (λ (cloud : CloudNo). cloud.0) in
    let all = length-map c.args.clouds.now (λ (cloud : CloudNo). cloud.0) in
    ap (λ (l : List Recipe). length (flat_map (λ (x : Recipe). x.name_share) l)) are
    ∙ names_whole c.args.shape c.in-Some.cloud.0 r (numbers_of c.in-Some.others.now) rest (subst (All (Fits c.args.shape)) are c.requires.fits)
    (omega (arith, ap length are, ap length clouds, c.requires.pairs)) (omega (arith, ap length are, c.requires.pairs, c.requires.choice.count)) c.in-Ok.ensures

pub returns-clause-judges : goal.returns-clause-judges
returns-clause-judges c version =
    let key : Tag × Version = (c.args.tag, version) in
    let points : c.deref.result.now ≡ numbers_of c.args.clouds.now = c.deref.ensures.value ∙ c.in-Ok-points_of.ensures in
    let due = judged_is c.args.shape key (numbers_of c.args.clouds.now) (numbers_of c.in-Some.others.now) c.in-Some.cloud.0 c.args.recipes.now c.in-Some.rest.now c.in-Some.recipe.now (ap numbers_of c.in-Some.ensures.clouds) c.in-Some.ensures.recipes c.in-Ok.ensures in
    subst (λ (r : Result (List ℕ) SkipWhy). NameIs r c.path_of.result) (sym due)
    (subst (λ (l : List ℕ). NameIs (name_judged c.args.shape key (opened c.args.shape c.in-Some.recipe.now.name_len l (flat_map (λ (x : Recipe). x.name_share) c.args.recipes.now))) c.path_of.result) points (c.path_of.ensures.judges version))
