use Rattle.std.proofs.Common.{◌≡◌, ◌∷◌, ℕ, [], refl, append-nil, List, length, Ok, Err, sym, ap, subst, arith}
use Rattle.std.specs.Prelude.{All}
use Rattle.std.specs.List.{Contains}
use Rattle.std.proofs.lemmas.List.{length-map}
use Rattle.std.proofs.lemmas.List.Elements.{All-weaker}
use Rattle.user_dedup.specs.CdBase.Numbers.{numbers_of}
use Rattle.user_dedup.specs.CdBase.ids.CloudNo.{CloudNo}
use Rattle.user_dedup.specs.Recipe.Spelling.{Fits}
use Rattle.user_dedup.specs.Recipe.items.Item.{Item}
use Rattle.user_dedup.specs.Recipe.recipe.Recipe.{Recipe}
use Rattle.restore_job.specs.Refusals.{Names}
use Rattle.restore_job.specs.Steps.{AreItemsAt}
use Rattle.restore_job.specs.Brought.{AreSecrets, Agree, AppendsSecrets}
use Rattle.restore_job.proofs.Bringing.{none_differs}
use Rattle.restore_job.specs.Asking.{is_loss}
use Rattle.restore_job.proofs.Causing.{compared_found, compared_names}
use Rattle.restore_job.proofs.Leading.{asked_as, asked_none}
use Rattle.restore_job.proofs.Ending.{agreed_as, agreed_differs, agreed_items, agreed_told, agreed_unmade, items_as, fits_items}
use Rattle.std.proofs.Common.{Result, rules}
use Rattle.user_dedup.specs.CdBase.ids.UserId.{UserId}
use Rattle.user_dedup.specs.CdBase.shape.Shape.{Shape}
use Rattle.restore_job.specs.declared.error.RestoreErr.{RestoreErr}
use Rattle.restore_job.specs.Steps.{Compares}
use Rattle.restore_job.specs.Exchanges.{CloudExchange, AgreedRun, NothingAsked, Differ, Compared, ItemsRun}
use Rattle.restore_job.proofs.Speaking.{unlost, unlost_as, exchanged_none}
use Rattle.restore_job.proofs.Beside.{lost_spoken}
use Rattle.restore_job.proofs.Readable.{none_asked, none_asked_to}
use Rattle.restore_job.specs.declared.error.RestoreErr.TheVariants as errors
use Rattle.restore_job.proofs.restoring.restore_agreed.Goals as goal

abbrev bad : RestoreErr → Result (Unit {0}) RestoreErr
bad e = Err e

-- as many others as recipes of theirs
others_long : (clouds others : List CloudNo) (recipes rest : List Recipe) (first : CloudNo) (recipe : Recipe) → clouds ≡ first ∷ others → recipes ≡ recipe ∷ rest → length clouds ≡ length recipes → length (numbers_of others) ≡ length rest
others_long clouds others recipes rest first recipe c r pairs =
    let a = ap length c in
    let b = ap length r in
    let m : length (numbers_of others) ≡ length others = length-map others (λ (cloud : CloudNo). cloud.0) in
    omega arith

pub returns-in-Err-clause-any : goal.returns-in-Err-clause-any
returns-in-Err-clause-any g c =
    agreed_as g.L.Link.tells c.args.shape c.args.user c.args.link.now c.args.link.now c.args.out.now c.args.out.now (Err c.in-Err.e) (c.in-Some.first.0 ∷ numbers_of c.in-Some.others.now) (numbers_of c.args.clouds.now) (c.in-Some.recipe.now ∷ c.in-Some.rest.now) c.args.recipes.now
    (ap numbers_of c.in-Some.ensures.clouds) c.in-Some.ensures.recipes
    (agreed_differs g.L.Link.tells c.args.shape c.args.user c.in-Some.first.0 c.in-Some.recipe.now (numbers_of c.in-Some.others.now) c.in-Some.rest.now c.args.link.now c.args.out.now c.in-Err.e
    (others_long c.args.clouds.now c.in-Some.others.now c.args.recipes.now c.in-Some.rest.now c.in-Some.first c.in-Some.recipe.now c.in-Some.ensures.clouds c.in-Some.ensures.recipes c.requires.pairs) c.in-Err.ensures.compares)

pub returns-in-Err-points_of-clause-any : goal.returns-in-Err-points_of-clause-any
returns-in-Err-points_of-clause-any g c = agreed_unmade g.L.Link.tells c.args.shape c.args.user (numbers_of c.args.clouds.now) c.args.recipes.now c.args.link.now c.args.out.now

pub returns-in-Err-clause-told : goal.returns-in-Err-clause-told
returns-in-Err-clause-told g c =
    agreed_told g.L.Link.tells c.args.shape c.args.user c.args.link.now c.args.link.now c.args.out.now c.args.out.now (Err c.in-Err.e) (numbers_of c.args.clouds.now) c.args.recipes.now (returns-in-Err-clause-any g c)

pub returns-in-Err-points_of-clause-told : goal.returns-in-Err-points_of-clause-told
returns-in-Err-points_of-clause-told g c =
    agreed_told g.L.Link.tells c.args.shape c.args.user c.args.link.now c.args.link.now c.args.out.now c.args.out.now (Err errors.NoMemory) (numbers_of c.args.clouds.now) c.args.recipes.now (returns-in-Err-points_of-clause-any g c)

pub restore_items-requires-clause-lens : goal.restore_items-requires-clause-lens
restore_items-requires-clause-lens g c =
    let fits : Fits c.args.shape c.in-Some.recipe.now = (subst (All (Fits c.args.shape)) c.in-Some.ensures.recipes c.requires.fits) 0 c.in-Some.recipe.now (omega arith) in
    subst AreItemsAt (sym c.as_slice-firsts.ensures) (fits_items c.in-Some.recipe.now.items fits.items)

pub restore_items-requires-clause-items : goal.restore_items-requires-clause-items
restore_items-requires-clause-items g c = All-weaker (Fits c.args.shape) (λ (r : Recipe). AreItemsAt r.items) (λ r f. fits_items r.items f.items) c.args.recipes.now c.requires.fits

pub returns-in-Ok-restore_items-clause-any : goal.returns-in-Ok-restore_items-clause-any
returns-in-Ok-restore_items-clause-any g c =
    let t = g.L.Link.tells in
    agreed_as t c.args.shape c.args.user c.args.link.now c.restore_items.new.link c.args.out.now c.restore_items.new.out (Ok tt) (c.in-Some.first.0 ∷ numbers_of c.in-Some.others.now) (numbers_of c.args.clouds.now) (c.in-Some.recipe.now ∷ c.in-Some.rest.now) c.args.recipes.now
    (ap numbers_of c.in-Some.ensures.clouds) c.in-Some.ensures.recipes
    (agreed_items t c.args.shape c.args.user c.in-Some.first.0 c.in-Some.recipe.now (numbers_of c.in-Some.others.now) c.in-Some.rest.now c.args.link.now c.restore_items.new.link c.args.out.now c.restore_items.new.out (Ok tt)
    (others_long c.args.clouds.now c.in-Some.others.now c.args.recipes.now c.in-Some.rest.now c.in-Some.first c.in-Some.recipe.now c.in-Some.ensures.clouds c.in-Some.ensures.recipes c.requires.pairs) c.in-Ok.ensures.compares
    (items_as t c.args.shape c.args.user c.args.link.now c.restore_items.new.link c.args.out.now c.restore_items.new.out (Ok tt) (c.in-Some.first.0 ∷ numbers_of c.in-Some.others.now) (numbers_of c.args.clouds.now) (c.in-Some.recipe.now ∷ c.in-Some.rest.now) c.args.recipes.now
    c.in-Some.recipe.now.items c.as_slice-firsts.result.now (ap numbers_of c.in-Some.ensures.clouds) c.in-Some.ensures.recipes c.as_slice-firsts.ensures c.in-Ok-restore_items.ensures.told))

pub returns-clause-any : goal.returns-clause-any
returns-clause-any g c =
    let t = g.L.Link.tells in
    agreed_as t c.args.shape c.args.user c.args.link.now c.restore_items.new.link c.args.out.now c.restore_items.new.out (Err c.in-Err-restore_items.e) (c.in-Some.first.0 ∷ numbers_of c.in-Some.others.now) (numbers_of c.args.clouds.now) (c.in-Some.recipe.now ∷ c.in-Some.rest.now) c.args.recipes.now
    (ap numbers_of c.in-Some.ensures.clouds) c.in-Some.ensures.recipes
    (agreed_items t c.args.shape c.args.user c.in-Some.first.0 c.in-Some.recipe.now (numbers_of c.in-Some.others.now) c.in-Some.rest.now c.args.link.now c.restore_items.new.link c.args.out.now c.restore_items.new.out (Err c.in-Err-restore_items.e)
    (others_long c.args.clouds.now c.in-Some.others.now c.args.recipes.now c.in-Some.rest.now c.in-Some.first c.in-Some.recipe.now c.in-Some.ensures.clouds c.in-Some.ensures.recipes c.requires.pairs) c.in-Ok.ensures.compares
    (items_as t c.args.shape c.args.user c.args.link.now c.restore_items.new.link c.args.out.now c.restore_items.new.out (Err c.in-Err-restore_items.e) (c.in-Some.first.0 ∷ numbers_of c.in-Some.others.now) (numbers_of c.args.clouds.now) (c.in-Some.recipe.now ∷ c.in-Some.rest.now) c.args.recipes.now
    c.in-Some.recipe.now.items c.as_slice-firsts.result.now (ap numbers_of c.in-Some.ensures.clouds) c.in-Some.ensures.recipes c.as_slice-firsts.ensures c.in-Err-restore_items.ensures.told))

pub returns-in-Ok-restore_items-clause-told : goal.returns-in-Ok-restore_items-clause-told
returns-in-Ok-restore_items-clause-told g c =
    agreed_told g.L.Link.tells c.args.shape c.args.user c.args.link.now c.restore_items.new.link c.args.out.now c.restore_items.new.out (Ok tt) (numbers_of c.args.clouds.now) c.args.recipes.now (returns-in-Ok-restore_items-clause-any g c)

pub returns-clause-told : goal.returns-clause-told
returns-clause-told g c =
    agreed_told g.L.Link.tells c.args.shape c.args.user c.args.link.now c.restore_items.new.link c.args.out.now c.restore_items.new.out (Err c.in-Err-restore_items.e) (numbers_of c.args.clouds.now) c.args.recipes.now (returns-clause-any g c)

pub returns-in-Err-clause-asked : goal.returns-in-Err-clause-asked
returns-in-Err-clause-asked g c =
    let clouds = numbers_of c.args.clouds.now in
    asked_as g.L.Link.tells clouds c.args.link.now c.args.link.now _ (is_loss c.in-Err.e)
    (sym (compared_found c.in-Some.first.0 c.in-Some.recipe.now (numbers_of c.in-Some.others.now) c.in-Some.rest.now c.in-Err.e c.in-Err.ensures.compares)) (asked_none g.L.Link.tells clouds c.args.link.now)

pub returns-in-Err-clause-named : goal.returns-in-Err-clause-named
returns-in-Err-clause-named g c =
    subst (λ (l : List ℕ). Names (Contains l) c.in-Err.e) (sym (ap numbers_of c.in-Some.ensures.clouds))
    (compared_names c.in-Some.first.0 c.in-Some.recipe.now (numbers_of c.in-Some.others.now) c.in-Some.rest.now c.in-Err.e c.in-Err.ensures.compares)

pub returns-in_default-clause-brought : goal.returns-in_default-clause-brought
returns-in_default-clause-brought g c =
    subst (λ (l : List Recipe). Agree l × AppendsSecrets c.args.shape (numbers_of c.args.clouds.now) l c.args.out.now c.args.out.now) (sym c.in_default.ensures.recipes) (tt, ([], sym (append-nil c.args.out.now), refl))

pub returns-in-Ok-restore_items-clause-brought : goal.returns-in-Ok-restore_items-clause-brought
returns-in-Ok-restore_items-clause-brought g c =
    let items = c.in-Ok-restore_items.ensures.brought in
    let firsts = c.as_slice-firsts.ensures in
    let appends : AppendsSecrets c.args.shape (numbers_of c.args.clouds.now) (c.in-Some.recipe.now ∷ c.in-Some.rest.now) c.args.out.now c.restore_items.new.out = (
      items.0,
      items.1,
      subst (λ (l : List Recipe). AreSecrets c.args.shape (numbers_of c.args.clouds.now) c.in-Some.recipe.now.items l (length c.in-Some.recipe.now.items) items.0) c.in-Some.ensures.recipes
          (subst (λ (l : List Item). AreSecrets c.args.shape (numbers_of c.args.clouds.now) l c.args.recipes.now (length l) items.0) firsts items.2),
    ) in
    subst (λ (l : List Recipe). Agree l × AppendsSecrets c.args.shape (numbers_of c.args.clouds.now) l c.args.out.now c.restore_items.new.out) (sym c.in-Some.ensures.recipes) (
      none_differs c.in-Some.first.0 c.in-Some.recipe.now (numbers_of c.in-Some.others.now) c.in-Some.rest.now
          (others_long c.args.clouds.now c.in-Some.others.now c.args.recipes.now c.in-Some.rest.now c.in-Some.first c.in-Some.recipe.now c.in-Some.ensures.clouds c.in-Some.ensures.recipes c.requires.pairs) c.in-Ok.ensures.compares,
      appends,
    )

pub returns-in_default-clause-said : goal.returns-in_default-clause-said
returns-in_default-clause-said g c = (
  [],
  exchanged_none g.L.Link.tells g.L.Link.talk c.args.link.now,
  subst (λ (r : List Recipe). AgreedRun c.args.shape c.args.user c.args.clouds.now r [] c.args.out.now c.args.out.now (Ok tt)) (sym c.in_default.ensures.recipes) (NothingAsked c.args.out.now),
)

pub returns-in-Err-clause-said : goal.returns-in-Err-clause-said
returns-in-Err-clause-said g c = unlost (bad c.in-Err.e) _ (
  [],
  exchanged_none g.L.Link.tells g.L.Link.talk c.args.link.now,
  subst (λ (r : List Recipe). AgreedRun c.args.shape c.args.user c.args.clouds.now r [] c.args.out.now c.args.out.now (Err c.in-Err.e)) (sym c.in-Some.ensures.recipes)
      (Differ c.in-Some.first c.in-Some.others.now c.in-Some.recipe.now c.in-Some.rest.now c.args.out.now c.in-Err.e c.in-Some.ensures.clouds c.in-Err.ensures.compares),
)

-- the secrets come behind the comparison
items_said : (shape : Shape) (user : UserId) (clouds others : List CloudNo) (cloud : CloudNo) (recipe : Recipe) (rest recipes : List Recipe) (points : List ℕ) (firsts : List Item) (log : List CloudExchange) (old new : List ℕ) (result : Result (Unit {0}) RestoreErr)
    → clouds ≡ cloud ∷ others → recipes ≡ recipe ∷ rest → points ≡ numbers_of clouds → firsts ≡ recipe.items → Compares cloud.0 recipe (numbers_of others) rest (Ok tt)
    → ItemsRun shape user clouds points firsts recipes 0 log old new result → AgreedRun shape user clouds recipes log old new result
items_said shape user clouds others cloud recipe rest recipes points firsts log old new result c r p f compares run =
    subst (λ (l : List Recipe). AgreedRun shape user clouds l log old new result) (sym r)
    (Compared cloud others recipe rest log old new result c compares
    (subst (λ (l : List Recipe). ItemsRun shape user clouds (numbers_of clouds) recipe.items l 0 log old new result) r
    (subst (λ (i : List Item). ItemsRun shape user clouds (numbers_of clouds) i recipes 0 log old new result) f
    (subst (λ (q : List ℕ). ItemsRun shape user clouds q firsts recipes 0 log old new result) p run))))

pub returns-in-Ok-restore_items-clause-said : goal.returns-in-Ok-restore_items-clause-said
returns-in-Ok-restore_items-clause-said g c =
    let said = c.in-Ok-restore_items.ensures.said in (
      said.0,
      said.1,
      items_said c.args.shape c.args.user c.args.clouds.now c.in-Some.others.now c.in-Some.first c.in-Some.recipe.now c.in-Some.rest.now c.args.recipes.now _ _ said.0 c.args.out.now c.restore_items.new.out (Ok tt)
          c.in-Some.ensures.clouds c.in-Some.ensures.recipes (search rules) c.as_slice-firsts.ensures c.in-Ok.ensures.compares said.2,
    )

pub returns-clause-said : goal.returns-clause-said
returns-clause-said g c =
    unlost_as Unit Unit c.in-Err-restore_items.e _ _
    (λ said. (
      said.0,
      said.1,
      items_said c.args.shape c.args.user c.args.clouds.now c.in-Some.others.now c.in-Some.first c.in-Some.recipe.now c.in-Some.rest.now c.args.recipes.now _ _ said.0 c.args.out.now c.restore_items.new.out (Err c.in-Err-restore_items.e)
          c.in-Some.ensures.clouds c.in-Some.ensures.recipes (search rules) c.as_slice-firsts.ensures c.in-Ok.ensures.compares said.2,
    )) c.in-Err-restore_items.ensures.said

pub returns-in-Err-clause-beside : goal.returns-in-Err-clause-beside
returns-in-Err-clause-beside g c =
    let link = c.args.link.now in
    lost_spoken g.L.Link.talk link link [] (bad c.in-Err.e) (exchanged_none g.L.Link.tells g.L.Link.talk link).0

pub returns-in_default-clause-readable : goal.returns-in_default-clause-readable
returns-in_default-clause-readable g c = none_asked g.L.Link.tells c.args.link.now

pub returns-in-Err-clause-readable : goal.returns-in-Err-clause-readable
returns-in-Err-clause-readable g c = none_asked_to g.L.Link.tells c.args.link.now c.in-Err.e

pub returns-in-Err-points_of-clause-readable : goal.returns-in-Err-points_of-clause-readable
returns-in-Err-points_of-clause-readable g c = none_asked_to g.L.Link.tells c.args.link.now errors.NoMemory
