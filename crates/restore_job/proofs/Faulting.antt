-- A cloud that a restore says failed had answered so.
use Rattle.std.proofs.Common.{◌≡◌, ℕ, List, [], ◌∷◌, ◌++◌, Result, Ok, Err, sym, ap, ◌∙◌, subst}
use Rattle.std.specs.List.{Contains}
use Rattle.std.proofs.lemmas.List.Elements.{Contains-append_left, Contains-append_right}
use Rattle.user_dedup.specs.CdBase.Numbers.{numbers_of}
use Rattle.user_dedup.specs.CdBase.ids.CloudNo.{CloudNo}
use Rattle.user_dedup.specs.CdBase.ids.Tag.{Tag}
use Rattle.user_dedup.specs.CdBase.ids.UserId.{UserId}
use Rattle.user_dedup.specs.CdBase.ids.Version.{Version}
use Rattle.user_dedup.specs.CdBase.shape.Shape.{Shape}
use Rattle.user_dedup.specs.Messages.ReplyReading.{reply_at}
use Rattle.user_dedup.specs.Messages.Replies.{IsReply}
use Rattle.user_dedup.specs.Messages.reply.Reply.TheVariants as replies
use Rattle.user_dedup.proofs.Messages.ReplyLaws.{reply_law}
use Rattle.user_dedup.specs.Recipe.items.Item.{Item}
use Rattle.user_dedup.specs.Recipe.recipe.Recipe.{Recipe}
use Rattle.user_dedup.proofs.Owned.{contains_here, contains_later}
use Rattle.restore_job.specs.Exchanges.{CloudExchange, RecipeSaid, RecipesSaid, AllSaid, OneSaid, Refused, TakenAs, SharesSaid, BatchSaid, AllTaken, OneTaken, OneRefused}
use Rattle.restore_job.specs.Exchanges.{OpensBatch, BatchRun, BatchOpened, BatchUnread, ItemsRun, ItemsDone, ItemsNext, ItemsStop, AgreedRun, NothingAsked, Differ, Compared, RestoreRun, NoRecipes, HasRecipes, with_first}
use Rattle.restore_job.specs.Steps.{Compares, NoShares, Refuses, SharesFrom}
use Rattle.restore_job.specs.declared.error.RestoreErr.{RestoreErr}
use Rattle.restore_job.specs.declared.error.RestoreErr.TheVariants as errors

-- one of the exchanges brought Fault, of this cloud
pub record CameFault (log : List CloudExchange) (c : CloudNo) : Type 0 where
  pub x : CloudExchange
  pub has : Contains log x
  pub cloud_is : x.cloud ≡ c.0
  pub fault : IsReply x.reply replies.Fault

abbrev failed : {A : Type 0} → CloudNo → Result A RestoreErr
failed c = Err (errors.CloudFault c)

abbrev bad : {A : Type 0} → RestoreErr → Result A RestoreErr
bad e = Err e

one_error : {A : Type 0} (e : RestoreErr) (c : CloudNo) → bad {A = A} e ≡ failed c → e ≡ errors.CloudFault c
one_error e c same = cc

here : (x : CloudExchange) (c : CloudNo) → x.cloud ≡ c.0 → IsReply x.reply replies.Fault → CameFault (x ∷ []) c
here x c is fault = record { x = x; has = contains_here x []; cloud_is = is; fault = fault }

later : (x : CloudExchange) (log : List CloudExchange) (c : CloudNo) → CameFault log c → CameFault (x ∷ log) c
later x log c w = record { x = w.x; has = contains_later x log w.x w.has; cloud_is = w.cloud_is; fault = w.fault }

front : (log more : List CloudExchange) (c : CloudNo) → CameFault log c → CameFault (log ++ more) c
front log more c w = record { x = w.x; has = Contains-append_left log more w.x w.has; cloud_is = w.cloud_is; fault = w.fault }

back : (log more : List CloudExchange) (c : CloudNo) → CameFault more c → CameFault (log ++ more) c
back log more c w = record { x = w.x; has = Contains-append_right log more w.x w.has; cloud_is = w.cloud_is; fault = w.fault }

-- ---- recipes

first_err : (recipe : Recipe) (result : Result (List Recipe) RestoreErr) (c : CloudNo) → with_first recipe result ≡ failed c → result ≡ failed c
first_err recipe (Ok recipes) c e = cc
first_err recipe (Err f) c e = e

recipe_fault : (shape : Shape) (request : List ℕ) (cloud : CloudNo) (x : CloudExchange) (e : RestoreErr) (c : CloudNo) → RecipeSaid shape request cloud x (Err e) → e ≡ errors.CloudFault c → CameFault (x ∷ []) c
recipe_fault shape request cloud x e c said is =
    let it = subst (λ (f : RestoreErr). RecipeSaid shape request cloud x (Err f)) is said in
    here x c (it.cloud_is ∙ sym (ap (λ (n : CloudNo). n.0) it.came.0)) ((reply_law x.reply replies.Fault it.bytes).0 it.came.1)

recipes_fault : (shape : Shape) (request : List ℕ) (clouds : List CloudNo) (log : List CloudExchange) (r : Result (List Recipe) RestoreErr) (c : CloudNo) → RecipesSaid shape request clouds log r → r ≡ failed c → CameFault log c
recipes_fault shape request clouds log r c AllSaid e = cc
recipes_fault shape request clouds log r c (OneSaid cloud more x rest recipe result one said) e =
    later x rest c (recipes_fault shape request more rest result c said (first_err recipe result c e))
recipes_fault shape request clouds log r c (Refused cloud more x f said) e = recipe_fault shape request cloud x f c said (one_error {A = List Recipe} f c e)

-- ---- shares

shares_fault : (shape : Shape) (user : UserId) (cloud : CloudNo) (firsts : List Item) (recipe : Recipe) (place n : ℕ) (x : CloudExchange) (old new : List (List ℕ)) (e : RestoreErr) (c : CloudNo)
    → SharesSaid shape user cloud firsts recipe place n x old new (Err e) → e ≡ errors.CloudFault c → CameFault (x ∷ []) c
shares_fault shape user cloud firsts recipe place n x old new e c said is =
    let it = subst (λ (f : RestoreErr). SharesSaid shape user cloud firsts recipe place n x old new (Err f)) is said in
    go it it.brought it.came it.taken
  where
    go : SharesSaid shape user cloud firsts recipe place n x old new (Err (errors.CloudFault c)) → (b : Result (List (List ℕ)) RestoreErr) → SharesFrom cloud n (reply_at x.reply) b
        → TakenAs shape cloud firsts recipe.items place n b old new (Err (errors.CloudFault c)) → CameFault (x ∷ []) c
    go it (Ok shares) came taken = absurd taken
    go it (Err f) came taken =
        let w = subst (λ (g : RestoreErr). Refuses cloud (reply_at x.reply) (NoShares n) g) (one_error {A = Unit {0}} f c (sym taken)) came in
        here x c (it.cloud_is ∙ sym (ap (λ (m : CloudNo). m.0) w.0)) ((reply_law x.reply replies.Fault it.bytes).0 w.1)

batch_fault : (shape : Shape) (user : UserId) (firsts : List Item) (place n : ℕ) (clouds : List CloudNo) (recipes : List Recipe) (log : List CloudExchange) (old new : List (List ℕ)) (r : Result (Unit {0}) RestoreErr) (c : CloudNo)
    → BatchSaid shape user firsts place n clouds recipes log old new r → r ≡ failed c → CameFault log c
batch_fault shape user firsts place n clouds recipes log old new r c (AllTaken rooms) e = cc
batch_fault shape user firsts place n clouds recipes log old new r c (OneTaken cloud more recipe others x rest a mid b result one said) e =
    later x rest c (batch_fault shape user firsts place n more others rest mid b result c said e)
batch_fault shape user firsts place n clouds recipes log old new r c (OneRefused cloud more recipe others x a b f said) e =
    shares_fault shape user cloud firsts recipe place n x a b f c said (one_error {A = Unit {0}} f c e)

-- ---- batches

run_fault : (shape : Shape) (user : UserId) (clouds : List CloudNo) (points : List ℕ) (firsts : List Item) (recipes : List Recipe) (place n : ℕ) (log : List CloudExchange) (old new : List ℕ) (r : Result (Unit {0}) RestoreErr) (c : CloudNo)
    → BatchRun shape user clouds points firsts recipes place n log old new r → r ≡ failed c → CameFault log c
run_fault shape user clouds points firsts recipes place n log old new r c (BatchOpened rooms filled said_so a b result empty said opens) e =
    absurd ((subst (λ (x : Result (Unit {0}) RestoreErr). OpensBatch shape points firsts filled place n a b x) e opens).stops)
run_fault shape user clouds points firsts recipes place n log old new r c (BatchUnread rooms filled said_so out f empty said) e =
    batch_fault shape user firsts place n clouds recipes said_so rooms filled (Err f) c said e

items_fault : (shape : Shape) (user : UserId) (clouds : List CloudNo) (points : List ℕ) (firsts : List Item) (recipes : List Recipe) (place : ℕ) (log : List CloudExchange) (old new : List ℕ) (r : Result (Unit {0}) RestoreErr) (c : CloudNo)
    → ItemsRun shape user clouds points firsts recipes place log old new r → r ≡ failed c → CameFault log c
items_fault shape user clouds points firsts recipes place log old new r c (ItemsDone at out past) e = cc
items_fault shape user clouds points firsts recipes place log old new r c (ItemsNext at one more a mid b result within first rest) e =
    back one more c (items_fault shape user clouds points firsts recipes _ more mid b result c rest e)
items_fault shape user clouds points firsts recipes place log old new r c (ItemsStop at one a b f within first) e = run_fault shape user clouds points firsts recipes _ _ one a b (Err f) c first e

agreed_fault : (shape : Shape) (user : UserId) (clouds : List CloudNo) (recipes : List Recipe) (log : List CloudExchange) (old new : List ℕ) (r : Result (Unit {0}) RestoreErr) (c : CloudNo)
    → AgreedRun shape user clouds recipes log old new r → r ≡ failed c → CameFault log c
agreed_fault shape user clouds recipes log old new r c (NothingAsked out) e = cc
agreed_fault shape user clouds recipes log old new r c (Differ cloud others recipe rest out f is differs) e =
    absurd (subst (λ (x : Result (Unit {0}) RestoreErr). Compares cloud.0 recipe (numbers_of others) rest x) e differs)
agreed_fault shape user clouds recipes log old new r c (Compared cloud others recipe rest said_so a b result is same items) e =
    items_fault shape user clouds _ recipe.items (recipe ∷ rest) 0 said_so a b result c items e

pub restore_fault : (shape : Shape) (user : UserId) (tag : Tag) (version : Version) (clouds : List CloudNo) (log : List CloudExchange) (old new : List ℕ) (r : Result (Unit {0}) RestoreErr) (c : CloudNo)
    → RestoreRun shape user tag version clouds log old new r → r ≡ failed c → CameFault log c
restore_fault shape user tag version clouds log old new r c (NoRecipes request said_so out f is said) e =
    recipes_fault shape request clouds said_so (Err f) c said (ap (λ (x : RestoreErr). bad {A = List Recipe} x) (one_error {A = Unit {0}} f c e))
restore_fault shape user tag version clouds log old new r c (HasRecipes request recipes one more a b result is said agreed) e =
    back one more c (agreed_fault shape user clouds recipes more a b result c agreed e)
