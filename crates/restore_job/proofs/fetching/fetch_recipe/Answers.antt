use Rattle.std.proofs.Common.{◌≡◌, List, [], ◌∷◌, ℕ, Result, Ok, Err, refl, sym, subst}
use Rattle.std.specs.Prelude.{IfErr}
use Rattle.user_dedup.specs.CdBase.Reading.{AreBytes}
use Rattle.user_dedup.specs.CdBase.ids.CloudNo.{CloudNo}
use Rattle.user_dedup.specs.CdBase.shape.Shape.{Shape}
use Rattle.user_dedup.specs.Messages.ReplyReading.{reply_at}
use Rattle.user_dedup.specs.Recipe.recipe.Recipe.{Recipe}
use Rattle.user_dedup.specs.Messages.request.Request.TheVariants as requests
use Rattle.user_dedup.specs.Exec.{Peer}
use Rattle.user_dedup.specs.Link.{Asks}
use Rattle.restore_job.specs.Refusals.{Names}
use Rattle.restore_job.specs.Steps.{RecipeFrom, RecipeTold, NamesKind}
use Rattle.restore_job.proofs.Speaking.{unlost}
use Rattle.restore_job.specs.declared.error.RestoreErr.{RestoreErr}
use Rattle.restore_job.specs.declared.error.RestoreErr.TheVariants as errors
use Rattle.restore_job.specs.Asking.{among}
use Rattle.restore_job.proofs.Causing.{FaultRose, fault_any, recipe_names, recipe_caused}
use Rattle.restore_job.proofs.Leading.{step_among}
use Rattle.restore_job.proofs.Held.{recipe_moves, lost_moves, lost_recipe, error_is}
use Rattle.restore_job.specs.Exchanges.{CloudExchange}
use Rattle.restore_job.proofs.Beside.{lost_as, lost_spoken}
use Rattle.restore_job.proofs.Readable.{readable_lost, readable_recipe}
use Rattle.restore_job.proofs.fetching.fetch_recipe.Goals as goal

names : (shape : Shape) (cloud : CloudNo) (content : List ℕ) (res : Result Recipe RestoreErr) → RecipeFrom shape cloud (reply_at content) res → IfErr res (Names (λ x. x ≡ cloud.0))
names shape cloud content (Ok recipe) from = tt
names shape cloud content (Err e) from = recipe_names shape cloud (reply_at content) e from

pub returns-in-Ok-clause-told : goal.returns-in-Ok-clause-told
returns-in-Ok-clause-told g c user tag version is these =
    let t = g.L.Link.tells in
    recipe_caused (among these t) c.args.shape user (tag, version) c.args.cloud c.args.link.now c.ask.new.link c.recipe_from.result (names c.args.shape c.args.cloud c.content.result.now c.recipe_from.result c.recipe_from.ensures.from)
    (step_among t these c.args.cloud.0 c.args.link.now c.ask.new.link (FaultRose c.recipe_from.result) (RecipeTold c.args.shape user (tag, version) c.args.cloud c.recipe_from.result) c.requires.reached c.in-Ok.ensures.others
    (recipe_moves t c.args.shape user tag version c.args.cloud c.args.link.now c.ask.new.link c.content.result.now c.recipe_from.result c.requires.shape (g.met.L.Link.sound c.args.link.now) c.recipe_from.ensures.bytes
    (subst (λ (l : List ℕ). Asks {E = RestoreErr} t c.args.cloud.0 c.args.link.now (requests.GetRecipe user tag version) l (Ok tt) c.ask.new.link) (sym c.content.ensures.value)
    (c.in-Ok.ensures.exec (requests.GetRecipe user tag version) (record { asked = is; recipe = tt })))
    c.recipe_from.ensures.from) (fault_any c.recipe_from.result))

pub returns-in-Err-clause-told : goal.returns-in-Err-clause-told
returns-in-Err-clause-told g c user tag version is these =
    let t = g.L.Link.tells in
    let P : Peer → Peer → Type 0 = RecipeTold c.args.shape user (tag, version) c.args.cloud (Err c.in-Err.e) in
    let lost : c.in-Err.e ≡ errors.Lost c.args.cloud = error_is c.in-Err.e (errors.Lost c.args.cloud) c.in-Err.ensures.lost in
    recipe_caused (among these t) c.args.shape user (tag, version) c.args.cloud c.args.link.now c.ask.new.link (Err c.in-Err.e) (subst (Names (λ x. x ≡ c.args.cloud.0)) (sym lost) refl)
    (step_among t these c.args.cloud.0 c.args.link.now c.ask.new.link (FaultRose {A = Recipe} (Err c.in-Err.e)) P c.requires.reached c.in-Err.ensures.others
    (lost_moves t c.args.cloud.0 c.args.link.now c.ask.new.link (requests.GetRecipe user tag version) c.ask.new.reply c.in-Err.e (FaultRose {A = Recipe} (Err c.in-Err.e)) P (λ list. refl)
    (c.in-Err.ensures.exec (requests.GetRecipe user tag version) (record { asked = is; recipe = tt })) (λ p q. subst (λ (x : RestoreErr). FaultRose {A = Recipe} (Err x) p q) (sym lost) tt)
    (λ p q. lost_recipe c.args.shape user (tag, version) c.args.cloud c.in-Err.e p q c.in-Err.ensures.lost)) (fault_any {A = Recipe} (Err c.in-Err.e)))

pub returns-in-Ok-clause-named : goal.returns-in-Ok-clause-named
returns-in-Ok-clause-named g c = names c.args.shape c.args.cloud c.content.result.now c.recipe_from.result c.recipe_from.ensures.from

pub returns-in-Err-clause-named : goal.returns-in-Err-clause-named
returns-in-Err-clause-named g c = subst (Names (λ x. x ≡ c.args.cloud.0)) (sym (error_is c.in-Err.e (errors.Lost c.args.cloud) c.in-Err.ensures.lost)) refl

pub returns-in-Ok-clause-said : goal.returns-in-Ok-clause-said
returns-in-Ok-clause-said g c = unlost c.recipe_from.result _ (
  record { cloud = c.args.cloud.0; request = c.args.request.now; reply = c.ask.new.reply },
  c.in-Ok.ensures.spoken,
  record {
    cloud_is = refl;
    request_is = refl;
    came = subst (λ (l : List ℕ). RecipeFrom c.args.shape c.args.cloud (reply_at l) c.recipe_from.result) c.content.ensures.value c.recipe_from.ensures.from;
    kind = subst (λ (l : List ℕ). NamesKind l c.recipe_from.result) c.content.ensures.value c.recipe_from.ensures.kind;
    bytes = subst AreBytes c.content.ensures.value c.recipe_from.ensures.bytes;
  },
)

pub returns-in-Ok-clause-beside : goal.returns-in-Ok-clause-beside
returns-in-Ok-clause-beside g c =
    let x : CloudExchange = record { cloud = c.args.cloud.0; request = c.args.request.now; reply = c.ask.new.reply } in
    lost_spoken g.L.Link.talk c.args.link.now c.ask.new.link (x ∷ []) c.recipe_from.result c.in-Ok.ensures.spoken.0

pub returns-in-Err-clause-beside : goal.returns-in-Err-clause-beside
returns-in-Err-clause-beside g c =
    lost_as g.L.Link.talk (Unit {0}) Recipe c.args.link.now c.ask.new.link c.in-Err.e c.in-Err.ensures.beside

pub returns-in-Ok-clause-readable : goal.returns-in-Ok-clause-readable
returns-in-Ok-clause-readable g c =
    readable_recipe g.L.Link.tells c.args.link.now c.ask.new.link c.args.cloud c.args.request.now c.ask.new.reply c.args.shape
    c.recipe_from.result
    (subst (λ (l : List ℕ). RecipeFrom c.args.shape c.args.cloud (reply_at l) c.recipe_from.result) c.content.ensures.value
    c.recipe_from.ensures.from) c.in-Ok.ensures.passes

pub returns-in-Err-clause-readable : goal.returns-in-Err-clause-readable
returns-in-Err-clause-readable g c =
    readable_lost g.L.Link.tells c.args.link.now c.ask.new.link c.args.cloud c.args.request.now [] c.in-Err.e
    (error_is c.in-Err.e (errors.Lost c.args.cloud) c.in-Err.ensures.lost) c.in-Err.ensures.passes
