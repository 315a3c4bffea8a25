use Rattle.std.proofs.Common.{List, ℕ, Ok, Err, sym, subst, ◌∙◌}
use Rattle.std.proofs.lemmas.List.{length-map}
use Rattle.user_dedup.specs.CdBase.ids.CloudNo.{CloudNo}
use Rattle.restore_job.specs.Brought.{Agree, AppendsSecrets}
use Rattle.user_dedup.specs.CdBase.Numbers.{numbers_of}
use Rattle.caont_rs.specs.Package.{tag as tag_at}
use Rattle.user_dedup.specs.Messages.request.Request.TheVariants as requests
use Rattle.user_dedup.specs.Messages.Requests.{IsRequest}
use Rattle.user_dedup.specs.Recipe.recipe.Recipe.{Recipe}
use Rattle.restore_job.proofs.Ending.{AgreedLeads, all_restored, first_refused, not_begun}
use Rattle.restore_job.proofs.Leading.{asked_on}
use Rattle.std.proofs.Common.{◌++◌}
use Rattle.restore_job.specs.Exchanges.{AgreedRun, HasRecipes, NoRecipes}
use Rattle.restore_job.proofs.Speaking.{unlost_as, exchanged_twice}
use Rattle.restore_job.proofs.Beside.{lost_as, lost_on}
use Rattle.restore_job.proofs.Readable.{none_asked_to, readable_on, readable_stop}
use Rattle.restore_job.specs.declared.error.RestoreErr.TheVariants as errors
use Rattle.restore_job.proofs.restoring.restore_into.Goals as goal

pub returns-in-Err-clause-restored : goal.returns-in-Err-clause-restored
returns-in-Err-clause-restored g c = not_begun g.L.Link.tells c.args.shape c.args.user (record { 0 = tag_at c.args.shape c.args.path.now }, c.args.version) (numbers_of c.args.clouds.now) c.args.link.now c.args.out.now

pub returns-in-Err-make-clause-restored : goal.returns-in-Err-make-clause-restored
returns-in-Err-make-clause-restored g c = not_begun g.L.Link.tells c.args.shape c.args.user (record { 0 = tag_at c.args.shape c.args.path.now }, c.args.version) (numbers_of c.args.clouds.now) c.args.link.now c.args.out.now

pub returns-in-Ok-restore_agreed-clause-restored : goal.returns-in-Ok-restore_agreed-clause-restored
returns-in-Ok-restore_agreed-clause-restored g c =
    let t = g.L.Link.tells in
    let asks = subst (λ (l : List ℕ). IsRequest l (requests.GetRecipe c.args.user (record { 0 = tag_at c.args.shape c.args.path.now }) c.args.version)) (sym c.as_slice.ensures) c.in-Ok.ensures.asks in
    all_restored t c.args.shape c.args.user (record { 0 = tag_at c.args.shape c.args.path.now }) c.args.version (numbers_of c.args.clouds.now) c.in-Ok-fetch_recipes.recipes c.args.link.now c.fetch_recipes.new.link c.restore_agreed.new.link (Ok tt) c.args.out.now c.restore_agreed.new.out
    (c.in-Ok-fetch_recipes.ensures.told c.args.user (record { 0 = tag_at c.args.shape c.args.path.now }) c.args.version asks) c.in-Ok-fetch_recipes.ensures.asked.told
    (subst (λ (r : List Recipe). AgreedLeads t c.args.shape c.args.user c.fetch_recipes.new.link c.restore_agreed.new.link c.args.out.now c.restore_agreed.new.out (Ok tt) (numbers_of c.args.clouds.now) r) c.as_slice-in-Ok-fetch_recipes.ensures c.in-Ok-restore_agreed.ensures.any)

pub returns-in-Ok-fetch_recipes-clause-restored : goal.returns-in-Ok-fetch_recipes-clause-restored
returns-in-Ok-fetch_recipes-clause-restored g c =
    let t = g.L.Link.tells in
    let asks = subst (λ (l : List ℕ). IsRequest l (requests.GetRecipe c.args.user (record { 0 = tag_at c.args.shape c.args.path.now }) c.args.version)) (sym c.as_slice.ensures) c.in-Ok.ensures.asks in
    all_restored t c.args.shape c.args.user (record { 0 = tag_at c.args.shape c.args.path.now }) c.args.version (numbers_of c.args.clouds.now) c.in-Ok-fetch_recipes.recipes c.args.link.now c.fetch_recipes.new.link c.restore_agreed.new.link (Err c.in-Err-restore_agreed.e) c.args.out.now c.restore_agreed.new.out
    (c.in-Ok-fetch_recipes.ensures.told c.args.user (record { 0 = tag_at c.args.shape c.args.path.now }) c.args.version asks) c.in-Ok-fetch_recipes.ensures.asked.told
    (subst (λ (r : List Recipe). AgreedLeads t c.args.shape c.args.user c.fetch_recipes.new.link c.restore_agreed.new.link c.args.out.now c.restore_agreed.new.out (Err c.in-Err-restore_agreed.e) (numbers_of c.args.clouds.now) r) c.as_slice-in-Ok-fetch_recipes.ensures c.in-Err-restore_agreed.ensures.any)

pub returns-clause-restored : goal.returns-clause-restored
returns-clause-restored g c =
    let t = g.L.Link.tells in
    let asks = subst (λ (l : List ℕ). IsRequest l (requests.GetRecipe c.args.user (record { 0 = tag_at c.args.shape c.args.path.now }) c.args.version)) (sym c.as_slice.ensures) c.in-Ok.ensures.asks in
    first_refused t c.args.shape c.args.user (record { 0 = tag_at c.args.shape c.args.path.now }, c.args.version) (numbers_of c.args.clouds.now) c.args.link.now c.fetch_recipes.new.link c.in-Err-fetch_recipes.e c.args.out.now
    (c.in-Err-fetch_recipes.ensures.told c.args.user (record { 0 = tag_at c.args.shape c.args.path.now }) c.args.version asks)

pub returns-in-Ok-restore_agreed-clause-brought : goal.returns-in-Ok-restore_agreed-clause-brought
returns-in-Ok-restore_agreed-clause-brought g c =
    let recipes = c.in-Ok-fetch_recipes.recipes in
    let same = c.as_slice-in-Ok-fetch_recipes.ensures in
    let agreed = subst (λ (l : List Recipe). Agree l × AppendsSecrets c.args.shape (numbers_of c.args.clouds.now) l c.args.out.now c.restore_agreed.new.out) same c.in-Ok-restore_agreed.ensures.brought in
    record {
      recipes = recipes;
      count = c.in-Ok-fetch_recipes.ensures.pairs ∙ sym (length-map c.args.clouds.now (λ (cloud : CloudNo). cloud.0));
      fits = c.in-Ok-fetch_recipes.ensures.fits;
      agree = agreed.0;
      appends = agreed.1;
    }

pub returns-in-Ok-restore_agreed-clause-asked : goal.returns-in-Ok-restore_agreed-clause-asked
returns-in-Ok-restore_agreed-clause-asked g c = asked_on g.L.Link.tells (numbers_of c.args.clouds.now) c.args.link.now c.fetch_recipes.new.link c.restore_agreed.new.link _ c.in-Ok-fetch_recipes.ensures.asked c.in-Ok-restore_agreed.ensures.asked

pub returns-in-Ok-fetch_recipes-clause-asked : goal.returns-in-Ok-fetch_recipes-clause-asked
returns-in-Ok-fetch_recipes-clause-asked g c = asked_on g.L.Link.tells (numbers_of c.args.clouds.now) c.args.link.now c.fetch_recipes.new.link c.restore_agreed.new.link _ c.in-Ok-fetch_recipes.ensures.asked c.in-Err-restore_agreed.ensures.asked

pub returns-in-Ok-restore_agreed-clause-said : goal.returns-in-Ok-restore_agreed-clause-said
returns-in-Ok-restore_agreed-clause-said g c =
    let asks = subst (λ (l : List ℕ). IsRequest l (requests.GetRecipe c.args.user (record { 0 = tag_at c.args.shape c.args.path.now }) c.args.version)) (sym c.as_slice.ensures) c.in-Ok.ensures.asks in
    let one = c.in-Ok-fetch_recipes.ensures.said in
    let two = c.in-Ok-restore_agreed.ensures.said in (
      one.0 ++ two.0,
      exchanged_twice g.L.Link.tells g.L.Link.talk c.args.link.now c.fetch_recipes.new.link c.restore_agreed.new.link one.0 two.0 one.1 two.1,
      HasRecipes c.as_slice.result.now c.in-Ok-fetch_recipes.recipes one.0 two.0 c.args.out.now c.restore_agreed.new.out (Ok tt) asks one.2
          (subst (λ (r : List Recipe). AgreedRun c.args.shape c.args.user c.args.clouds.now r two.0 c.args.out.now c.restore_agreed.new.out (Ok tt)) c.as_slice-in-Ok-fetch_recipes.ensures two.2),
    )

pub returns-in-Ok-fetch_recipes-clause-said : goal.returns-in-Ok-fetch_recipes-clause-said
returns-in-Ok-fetch_recipes-clause-said g c =
    let asks = subst (λ (l : List ℕ). IsRequest l (requests.GetRecipe c.args.user (record { 0 = tag_at c.args.shape c.args.path.now }) c.args.version)) (sym c.as_slice.ensures) c.in-Ok.ensures.asks in
    let one = c.in-Ok-fetch_recipes.ensures.said in
    unlost_as Unit Unit c.in-Err-restore_agreed.e _ _
    (λ two. (
      one.0 ++ two.0,
      exchanged_twice g.L.Link.tells g.L.Link.talk c.args.link.now c.fetch_recipes.new.link c.restore_agreed.new.link one.0 two.0 one.1 two.1,
      HasRecipes c.as_slice.result.now c.in-Ok-fetch_recipes.recipes one.0 two.0 c.args.out.now c.restore_agreed.new.out (Err c.in-Err-restore_agreed.e) asks one.2
          (subst (λ (r : List Recipe). AgreedRun c.args.shape c.args.user c.args.clouds.now r two.0 c.args.out.now c.restore_agreed.new.out (Err c.in-Err-restore_agreed.e)) c.as_slice-in-Ok-fetch_recipes.ensures two.2),
    )) c.in-Err-restore_agreed.ensures.said

pub returns-clause-said : goal.returns-clause-said
returns-clause-said g c =
    let asks = subst (λ (l : List ℕ). IsRequest l (requests.GetRecipe c.args.user (record { 0 = tag_at c.args.shape c.args.path.now }) c.args.version)) (sym c.as_slice.ensures) c.in-Ok.ensures.asks in
    unlost_as (List Recipe) Unit c.in-Err-fetch_recipes.e _ _
    (λ one. (one.0, one.1, NoRecipes c.as_slice.result.now one.0 c.args.out.now c.in-Err-fetch_recipes.e asks one.2)) c.in-Err-fetch_recipes.ensures.said

pub returns-in-Ok-fetch_recipes-clause-beside : goal.returns-in-Ok-fetch_recipes-clause-beside
returns-in-Ok-fetch_recipes-clause-beside g c =
    let one = c.in-Ok-fetch_recipes.ensures.said in
    lost_on g.L.Link.talk (Unit {0}) (Unit {0}) c.args.link.now c.fetch_recipes.new.link c.restore_agreed.new.link one.0
    c.in-Err-restore_agreed.e one.1.0 c.in-Err-restore_agreed.ensures.beside

pub returns-clause-beside : goal.returns-clause-beside
returns-clause-beside g c =
    lost_as g.L.Link.talk (List Recipe) (Unit {0}) c.args.link.now c.fetch_recipes.new.link c.in-Err-fetch_recipes.e
    c.in-Err-fetch_recipes.ensures.beside

pub returns-in-Err-clause-readable : goal.returns-in-Err-clause-readable
returns-in-Err-clause-readable g c = none_asked_to g.L.Link.tells c.args.link.now errors.NoMemory

pub returns-in-Err-make-clause-readable : goal.returns-in-Err-make-clause-readable
returns-in-Err-make-clause-readable g c = none_asked_to g.L.Link.tells c.args.link.now errors.NoMemory

pub returns-in-Ok-restore_agreed-clause-readable : goal.returns-in-Ok-restore_agreed-clause-readable
returns-in-Ok-restore_agreed-clause-readable g c =
    readable_on g.L.Link.tells c.args.link.now c.fetch_recipes.new.link c.restore_agreed.new.link
    c.in-Ok-fetch_recipes.ensures.readable c.in-Ok-restore_agreed.ensures.readable

pub returns-in-Ok-fetch_recipes-clause-readable : goal.returns-in-Ok-fetch_recipes-clause-readable
returns-in-Ok-fetch_recipes-clause-readable g c =
    readable_stop g.L.Link.tells c.args.link.now c.fetch_recipes.new.link c.restore_agreed.new.link
    c.in-Err-restore_agreed.e c.in-Ok-fetch_recipes.ensures.readable c.in-Err-restore_agreed.ensures.readable
