use Rattle.std.proofs.Common.{List, ℕ, Ok, Err, sym, subst}
use Rattle.user_dedup.specs.Messages.request.Request.TheVariants as requests
use Rattle.user_dedup.specs.Messages.Requests.{IsRequest}
use Rattle.user_dedup.specs.CdBase.Numbers.{numbers_of}
use Rattle.restore_job.proofs.Leading.{leads_none}
use Rattle.restore_job.proofs.Ending.{recipes_told}
use Rattle.restore_job.proofs.versions.fetch_version.Goals as goal

pub returns-in-Err-clause-told : goal.returns-in-Err-clause-told
returns-in-Err-clause-told g c = leads_none g.L.Link.tells (numbers_of c.args.clouds.now) c.args.link.now _ _ (λ a. tt) (λ a. tt)

pub returns-in-Ok-fetch_recipes-clause-told : goal.returns-in-Ok-fetch_recipes-clause-told
returns-in-Ok-fetch_recipes-clause-told g c =
    let asks = subst (λ (l : List ℕ). IsRequest l (requests.GetRecipe c.args.user c.args.tag c.args.version)) (sym c.as_slice.ensures) c.in-Ok.ensures.asks in
    recipes_told g.L.Link.tells c.args.shape c.args.user (c.args.tag, c.args.version) (numbers_of c.args.clouds.now) c.args.link.now c.fetch_recipes.new.link (Ok c.in-Ok-fetch_recipes.recipes)
    (c.in-Ok-fetch_recipes.ensures.told c.args.user c.args.tag c.args.version asks)

pub returns-clause-told : goal.returns-clause-told
returns-clause-told g c =
    let asks = subst (λ (l : List ℕ). IsRequest l (requests.GetRecipe c.args.user c.args.tag c.args.version)) (sym c.as_slice.ensures) c.in-Ok.ensures.asks in
    recipes_told g.L.Link.tells c.args.shape c.args.user (c.args.tag, c.args.version) (numbers_of c.args.clouds.now) c.args.link.now c.fetch_recipes.new.link (Err c.in-Err-fetch_recipes.e)
    (c.in-Err-fetch_recipes.ensures.told c.args.user c.args.tag c.args.version asks)
