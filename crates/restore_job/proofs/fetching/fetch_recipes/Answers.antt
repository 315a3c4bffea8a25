use Rattle.std.proofs.Common.{◌≡◌, ℕ, Bool, List, [], subst, sym}
use Rattle.std.specs.Prelude.{IsTrue}
use Rattle.std.specs.List.{Contains}
use Rattle.user_dedup.specs.Recipe.recipe.Recipe.{Recipe}
use Rattle.restore_job.proofs.Causing.{names_to}
use Rattle.restore_job.proofs.Asks.{Fetched, fetched_none, fetched_more, fetched_all, fetched_stops, fetched_unkept, numbers_next, numbers_none, rest_is, next_named}
use Rattle.restore_job.proofs.Leading.{asked_on, asked_at}
use Rattle.user_dedup.specs.CdBase.ids.CloudNo.{CloudNo}
use Rattle.restore_job.proofs.Speaking.{SaidAlong, along_none, along_more, along_end, stops_unlost}
use Rattle.restore_job.proofs.Beside.{lost_on}
use Rattle.restore_job.proofs.Readable.{none_asked, readable_end, readable_on, readable_stop}
use Rattle.restore_job.specs.declared.error.RestoreErr.TheVariants as errors
use Rattle.restore_job.proofs.fetching.fetch_recipes.Goals as goal
use Rattle.user_dedup.specs.CdBase.Numbers.{numbers_of}

pub clouds-init : goal.clouds-init
clouds-init g c = record {
  fetched = subst (λ (l : List Recipe). Fetched g.L.Link.tells c.args.shape c.args.link.now c.args.link.now c.args.request.now (numbers_of c.args.clouds.now) (numbers_of c.args.clouds.now) l) (sym c.new-recipes.ensures)
      (fetched_none g.L.Link.tells c.args.shape c.args.link.now c.args.request.now (numbers_of c.args.clouds.now));
  said = subst (λ (l : List Recipe). SaidAlong g.L.Link.tells g.L.Link.talk c.args.shape c.args.request.now c.args.clouds.now c.args.clouds.now c.args.link.now c.args.link.now l) (sym c.new-recipes.ensures)
      (along_none g.L.Link.tells g.L.Link.talk c.args.shape c.args.request.now c.args.clouds.now c.args.link.now);
  readable = none_asked g.L.Link.tells c.args.link.now;
}

pub returns-in_default-clause-told : goal.returns-in_default-clause-told
returns-in_default-clause-told g c =
    fetched_all g.L.Link.tells c.args.shape c.args.link.now c.clouds.link c.args.request.now (numbers_of c.args.clouds.now) c.clouds.recipes
    (rest_is g.L.Link.tells c.args.shape c.args.link.now c.clouds.link c.args.request.now (numbers_of c.args.clouds.now) (numbers_of c.clouds.rest.now) [] c.clouds.recipes (numbers_none c.clouds.rest.now c.in_default.ensures) c.clouds.invariant.fetched)

pub fetch_recipe-requires-clause-reached : goal.fetch_recipe-requires-clause-reached
fetch_recipe-requires-clause-reached g c =
    let t = g.L.Link.tells in
    let f = rest_is t c.args.shape c.args.link.now c.clouds.link c.args.request.now (numbers_of c.args.clouds.now) (numbers_of c.clouds.rest.now) _ c.clouds.recipes (numbers_next c.clouds.rest.now c.in-Some.cloud c.in-Some.more.now c.in-Some.ensures) c.clouds.invariant.fetched in
    subst (λ (r : ℕ → Bool). IsTrue (r c.in-Some.cloud.0)) (sym f.asked.reaches)
    (c.requires.reached c.in-Some.cloud.0 (next_named t c.args.shape c.args.link.now c.clouds.link c.args.request.now (numbers_of c.args.clouds.now) c.in-Some.cloud.0 (numbers_of c.in-Some.more.now) c.clouds.recipes f))

pub returns-in-Err-push-clause-told : goal.returns-in-Err-push-clause-told
returns-in-Err-push-clause-told g c =
    let t = g.L.Link.tells in
    let f = rest_is t c.args.shape c.args.link.now c.clouds.link c.args.request.now (numbers_of c.args.clouds.now) (numbers_of c.clouds.rest.now) _ c.clouds.recipes (numbers_next c.clouds.rest.now c.in-Some.cloud c.in-Some.more.now c.in-Some.ensures) c.clouds.invariant.fetched in
    fetched_unkept t c.args.shape c.args.link.now c.clouds.link c.fetch_recipe.new.link c.args.request.now (numbers_of c.args.clouds.now) c.in-Some.cloud (numbers_of c.in-Some.more.now) c.clouds.recipes c.in-Ok.recipe f c.in-Ok.ensures.told

pub returns-in-Err-clause-told : goal.returns-in-Err-clause-told
returns-in-Err-clause-told g c =
    let t = g.L.Link.tells in
    let f = rest_is t c.args.shape c.args.link.now c.clouds.link c.args.request.now (numbers_of c.args.clouds.now) (numbers_of c.clouds.rest.now) _ c.clouds.recipes (numbers_next c.clouds.rest.now c.in-Some.cloud c.in-Some.more.now c.in-Some.ensures) c.clouds.invariant.fetched in
    fetched_stops t c.args.shape c.args.link.now c.clouds.link c.fetch_recipe.new.link c.args.request.now (numbers_of c.args.clouds.now) c.in-Some.cloud (numbers_of c.in-Some.more.now) c.clouds.recipes c.in-Err.e f c.in-Err.ensures.told

pub clouds-preserved : goal.clouds-preserved
clouds-preserved g c =
    let t = g.L.Link.tells in
    let f = rest_is t c.args.shape c.args.link.now c.clouds.link c.args.request.now (numbers_of c.args.clouds.now) (numbers_of c.clouds.rest.now) _ c.clouds.recipes (numbers_next c.clouds.rest.now c.in-Some.cloud c.in-Some.more.now c.in-Some.ensures) c.clouds.invariant.fetched in
    let came = c.in-Ok.ensures.said in
    let so_far = subst (λ (l : List CloudNo). SaidAlong g.L.Link.tells g.L.Link.talk c.args.shape c.args.request.now c.args.clouds.now l c.args.link.now c.clouds.link c.clouds.recipes) c.in-Some.ensures c.clouds.invariant.said in
    record {
      fetched = subst (λ (l : List Recipe). Fetched t c.args.shape c.args.link.now c.fetch_recipe.new.link c.args.request.now (numbers_of c.args.clouds.now) (numbers_of c.in-Some.more.now) l) (sym c.in-Ok-push.ensures.ok)
          (fetched_more t c.args.shape c.args.link.now c.clouds.link c.fetch_recipe.new.link c.args.request.now (numbers_of c.args.clouds.now) c.in-Some.cloud (numbers_of c.in-Some.more.now) c.clouds.recipes c.in-Ok.recipe f c.in-Ok.ensures.asked c.in-Ok.ensures.fits c.in-Ok.ensures.told);
      said = subst (λ (l : List Recipe). SaidAlong g.L.Link.tells g.L.Link.talk c.args.shape c.args.request.now c.args.clouds.now c.in-Some.more.now c.args.link.now c.fetch_recipe.new.link l) (sym c.in-Ok-push.ensures.ok)
          (along_more g.L.Link.tells g.L.Link.talk c.args.shape c.args.request.now c.args.clouds.now c.args.link.now c.clouds.link c.fetch_recipe.new.link c.in-Some.cloud c.in-Some.more.now c.clouds.recipes c.in-Ok.recipe came.0 so_far came.1 came.2);
      readable = readable_on t c.args.link.now c.clouds.link c.fetch_recipe.new.link c.clouds.invariant.readable
          c.in-Ok.ensures.readable;
    }

pub returns-in-Err-clause-named : goal.returns-in-Err-clause-named
returns-in-Err-clause-named g c =
    let t = g.L.Link.tells in
    let f = rest_is t c.args.shape c.args.link.now c.clouds.link c.args.request.now (numbers_of c.args.clouds.now) (numbers_of c.clouds.rest.now) _ c.clouds.recipes (numbers_next c.clouds.rest.now c.in-Some.cloud c.in-Some.more.now c.in-Some.ensures) c.clouds.invariant.fetched in
    let here = next_named t c.args.shape c.args.link.now c.clouds.link c.args.request.now (numbers_of c.args.clouds.now) c.in-Some.cloud.0 (numbers_of c.in-Some.more.now) c.clouds.recipes f in
    names_to (λ x. x ≡ c.in-Some.cloud.0) (Contains (numbers_of c.args.clouds.now)) c.in-Err.e (λ x is. subst (Contains (numbers_of c.args.clouds.now)) (sym is) here) c.in-Err.ensures.named

pub returns-in-Err-push-clause-asked : goal.returns-in-Err-push-clause-asked
returns-in-Err-push-clause-asked g c =
    let t = g.L.Link.tells in
    let f = rest_is t c.args.shape c.args.link.now c.clouds.link c.args.request.now (numbers_of c.args.clouds.now) (numbers_of c.clouds.rest.now) _ c.clouds.recipes (numbers_next c.clouds.rest.now c.in-Some.cloud c.in-Some.more.now c.in-Some.ensures) c.clouds.invariant.fetched in
    let here = next_named t c.args.shape c.args.link.now c.clouds.link c.args.request.now (numbers_of c.args.clouds.now) c.in-Some.cloud.0 (numbers_of c.in-Some.more.now) c.clouds.recipes f in
    asked_on t (numbers_of c.args.clouds.now) c.args.link.now c.clouds.link c.fetch_recipe.new.link _ c.clouds.invariant.fetched.asked (asked_at t c.in-Some.cloud.0 (numbers_of c.args.clouds.now) c.clouds.link c.fetch_recipe.new.link _ here c.in-Ok.ensures.asked)

pub returns-in-Err-clause-asked : goal.returns-in-Err-clause-asked
returns-in-Err-clause-asked g c =
    let t = g.L.Link.tells in
    let f = rest_is t c.args.shape c.args.link.now c.clouds.link c.args.request.now (numbers_of c.args.clouds.now) (numbers_of c.clouds.rest.now) _ c.clouds.recipes (numbers_next c.clouds.rest.now c.in-Some.cloud c.in-Some.more.now c.in-Some.ensures) c.clouds.invariant.fetched in
    let here = next_named t c.args.shape c.args.link.now c.clouds.link c.args.request.now (numbers_of c.args.clouds.now) c.in-Some.cloud.0 (numbers_of c.in-Some.more.now) c.clouds.recipes f in
    asked_on t (numbers_of c.args.clouds.now) c.args.link.now c.clouds.link c.fetch_recipe.new.link _ c.clouds.invariant.fetched.asked (asked_at t c.in-Some.cloud.0 (numbers_of c.args.clouds.now) c.clouds.link c.fetch_recipe.new.link _ here c.in-Err.ensures.asked)

pub returns-in_default-clause-said : goal.returns-in_default-clause-said
returns-in_default-clause-said g c =
    let ended = along_end g.L.Link.tells g.L.Link.talk c.args.shape c.args.request.now c.args.clouds.now c.args.link.now c.clouds.link c.clouds.recipes
    (subst (λ (l : List CloudNo). SaidAlong g.L.Link.tells g.L.Link.talk c.args.shape c.args.request.now c.args.clouds.now l c.args.link.now c.clouds.link c.clouds.recipes) c.in_default.ensures c.clouds.invariant.said) in
    (ended.log, ended.spoken, ended.said_so)

pub returns-in-Err-clause-said : goal.returns-in-Err-clause-said
returns-in-Err-clause-said g c =
    stops_unlost g.L.Link.tells g.L.Link.talk c.args.shape c.args.request.now c.args.clouds.now c.args.link.now c.clouds.link c.fetch_recipe.new.link c.in-Some.cloud c.in-Some.more.now c.clouds.recipes c.in-Err.e
    (subst (λ (l : List CloudNo). SaidAlong g.L.Link.tells g.L.Link.talk c.args.shape c.args.request.now c.args.clouds.now l c.args.link.now c.clouds.link c.clouds.recipes) c.in-Some.ensures c.clouds.invariant.said)
    c.in-Err.ensures.said

pub returns-in-Err-clause-beside : goal.returns-in-Err-clause-beside
returns-in-Err-clause-beside g c =
    lost_on g.L.Link.talk Recipe (List Recipe) c.args.link.now c.clouds.link c.fetch_recipe.new.link
    c.clouds.invariant.said.log c.in-Err.e c.clouds.invariant.said.spoken.0 c.in-Err.ensures.beside

pub returns-in_default-clause-readable : goal.returns-in_default-clause-readable
returns-in_default-clause-readable g c = c.clouds.invariant.readable

pub returns-in-Err-push-clause-readable : goal.returns-in-Err-push-clause-readable
returns-in-Err-push-clause-readable g c =
    readable_end g.L.Link.tells c.args.link.now c.fetch_recipe.new.link errors.NoMemory
    (readable_on g.L.Link.tells c.args.link.now c.clouds.link c.fetch_recipe.new.link c.clouds.invariant.readable
    c.in-Ok.ensures.readable)

pub returns-in-Err-clause-readable : goal.returns-in-Err-clause-readable
returns-in-Err-clause-readable g c =
    readable_stop g.L.Link.tells c.args.link.now c.clouds.link c.fetch_recipe.new.link c.in-Err.e
    c.clouds.invariant.readable c.in-Err.ensures.readable
