-- What a cloud had said that a restore's refusal names.
use Rattle.std.proofs.Common.{◌≡◌, ℕ, ◌⊎◌, List, [], ◌∷◌, ◌++◌, Result, Ok, Err, sym, ap, ◌∙◌, subst, inl, inr}
use Rattle.std.specs.List.{Contains}
use Rattle.std.proofs.lemmas.List.Elements.{Contains-append_left, Contains-append_right}
use Rattle.commit_journal.specs.CdBase.Numbers.{numbers_of}
use Rattle.local_link.specs.CdBase.Reading.{AreBytes}
use Rattle.commit_journal.specs.CdBase.ids.CloudNo.{CloudNo}
use Rattle.commit_journal.specs.CdBase.ids.Fp.{Fp}
use Rattle.commit_journal.specs.CdBase.ids.Tag.{Tag}
use Rattle.commit_journal.specs.CdBase.ids.UserId.{UserId}
use Rattle.commit_journal.specs.CdBase.ids.Version.{Version}
use Rattle.commit_journal.specs.CdBase.shape.Shape.{Shape}
use Rattle.cloud_areas.proofs.UserDedup.Owned.{contains_here, contains_later}
use Rattle.local_link.specs.Messages.ReplyReading.{reply_at}
use Rattle.local_link.specs.Messages.Requests.{IsRequest}
use Rattle.local_link.specs.Messages.reply.Reply.{Reply}
use Rattle.local_link.specs.Messages.reply.Reply.TheVariants as replies
use Rattle.local_link.specs.Messages.request.Request.TheVariants as requests
use Rattle.subset_restore.specs.Recipe.items.Item.{Item}
use Rattle.subset_restore.specs.Recipe.recipe.Recipe.{Recipe}
use Rattle.subset_restore.specs.RestoreJob.Exchanges.{CloudExchange, RecipeSaid, RecipesSaid, AllSaid, OneSaid, Refused, TakenAs, SharesSaid, BatchSaid, AllTaken, OneTaken, OneRefused}
use Rattle.subset_restore.specs.RestoreJob.Exchanges.{OpensBatch, BatchRun, BatchOpened, BatchUnread, ItemsRun, ItemsDone, ItemsNext, ItemsStop, AgreedRun, NothingAsked, Differ, Compared, RestoreRun, NoRecipes, HasRecipes, with_first}
use Rattle.subset_restore.specs.RestoreJob.Restored.{Unrestored}
use Rattle.subset_restore.specs.RestoreJob.Steps.{Compares, NoShares, OpensSecretsTo, RecipeRefused, Refuses, SharesFrom, Takes}
use Rattle.subset_restore.specs.RestoreJob.error.RestoreErr.{RestoreErr}
use Rattle.subset_restore.specs.RestoreJob.error.RestoreErr.TheVariants as errors
use Rattle.kept_files.proofs.RestoreJob.Held.{refused}

-- One of the exchanges was with this cloud, for the recipe or for shares, and this came.
pub record HasHeard (user : UserId) (tag : Tag) (version : Version) (log : List CloudExchange) (c : CloudNo) (answer : Reply) : Type 0 where
  pub x : CloudExchange
  pub has : Contains log x
  pub cloud_is : x.cloud ≡ c.0
  pub bytes : AreBytes x.reply
  pub read : (let is : Result Reply ℕ = Ok answer in reply_at x.reply ≡ is)
  pub asked : IsRequest x.request (requests.GetRecipe user tag version) ⊎ ((fps : List Fp) × IsRequest x.request (requests.GetShares user fps))

same_error : {A : Type 0} (e f : RestoreErr) → refused {A = A} f ≡ refused e → f ≡ e
same_error e f is = cc

-- A refusal that a cloud's reply is, and nothing else.
pub record IsOfReply (e : RestoreErr) (c : CloudNo) (answer : Reply) : Type 0 where
  pub recipe : (shape : Shape) (cloud : CloudNo) (read : Result Reply ℕ) → RecipeRefused shape cloud read e → (c ≡ cloud) × (read ≡ Ok answer)
  pub shares : (cloud : CloudNo) (read : Result Reply ℕ) (n : ℕ) → Refuses cloud read (NoShares n) e → (c ≡ cloud) × (read ≡ Ok answer)
  pub taken : (shape : Shape) (cloud : CloudNo) (firsts items : List Item) (place n : ℕ) (shares old new : List (List ℕ)) → Takes shape cloud firsts items place n shares old new (Err e) → ⊥
  pub differ : (cloud : ℕ) (recipe : Recipe) (clouds : List ℕ) (others : List Recipe) → Compares cloud recipe clouds others (Err e) → ⊥
  pub opens : (outcome : Result (List ℕ) Unrestored) (old new : List ℕ) → OpensSecretsTo outcome (Err e) old new → ⊥

pub of_missing : (c : CloudNo) → IsOfReply (errors.Missing c) c replies.Missing
of_missing c = record {
  recipe = λ shape cloud read is. is;
  shares = λ cloud read n is. absurd is;
  taken = λ shape cloud firsts items place n shares old new is. is;
  differ = λ cloud recipe clouds others is. is;
  opens = λ outcome old new is. is;
}

pub of_damaged : (c : CloudNo) (at byte : ℕ) → IsOfReply (errors.CloudDamaged c at byte) c (replies.Damaged at byte)
of_damaged c at byte = record {
  recipe = λ shape cloud read is. is;
  shares = λ cloud read n is. is;
  taken = λ shape cloud firsts items place n shares old new is. is;
  differ = λ cloud recipe clouds others is. is;
  opens = λ outcome old new is. is;
}

pub of_rotten : (c : CloudNo) (named found : Fp) → IsOfReply (errors.CloudRotten c named found) c (replies.Rotten named found)
of_rotten c named found = record {
  recipe = λ shape cloud read is. is;
  shares = λ cloud read n is. is;
  taken = λ shape cloud firsts items place n shares old new is. is;
  differ = λ cloud recipe clouds others is. is;
  opens = λ outcome old new is. is;
}

module _ (shape : Shape) (user : UserId) (tag : Tag) (version : Version) (e : RestoreErr) (c : CloudNo) (answer : Reply) (kind : IsOfReply e c answer) where
  abbrev Heard : List CloudExchange → Type 0
  Heard log = HasHeard user tag version log c answer

  later : (x : CloudExchange) (log : List CloudExchange) → Heard log → Heard (x ∷ log)
  later x log w = record { x = w.x; has = contains_later x log w.x w.has; cloud_is = w.cloud_is; bytes = w.bytes; read = w.read; asked = w.asked }

  front : (log more : List CloudExchange) → Heard log → Heard (log ++ more)
  front log more w = record { x = w.x; has = Contains-append_left log more w.x w.has; cloud_is = w.cloud_is; bytes = w.bytes; read = w.read; asked = w.asked }

  back : (log more : List CloudExchange) → Heard more → Heard (log ++ more)
  back log more w = record { x = w.x; has = Contains-append_right log more w.x w.has; cloud_is = w.cloud_is; bytes = w.bytes; read = w.read; asked = w.asked }

  -- ---- recipes

  first_err : (recipe : Recipe) (result : Result (List Recipe) RestoreErr) → with_first recipe result ≡ refused e → result ≡ refused e
  first_err recipe (Ok recipes) is = cc
  first_err recipe (Err f) is = is

  recipe_heard : (request : List ℕ) (cloud : CloudNo) (x : CloudExchange) (f : RestoreErr) → IsRequest request (requests.GetRecipe user tag version) → RecipeSaid shape request cloud x (Err f)
      → f ≡ e → Heard (x ∷ [])
  recipe_heard request cloud x f asks said is =
      let it = subst (λ (g : RestoreErr). RecipeSaid shape request cloud x (Err g)) is said in
      let w = kind.recipe shape cloud (reply_at x.reply) it.came in
      record {
        x = x;
        has = contains_here x [];
        cloud_is = it.cloud_is ∙ sym (ap (λ (n : CloudNo). n.0) w.0);
        bytes = it.bytes;
        read = w.1;
        asked = inl (subst (λ (l : List ℕ). IsRequest l (requests.GetRecipe user tag version)) (sym it.request_is) asks);
      }

  recipes_heard : (request : List ℕ) (clouds : List CloudNo) (log : List CloudExchange) (r : Result (List Recipe) RestoreErr) → IsRequest request (requests.GetRecipe user tag version)
      → RecipesSaid shape request clouds log r → r ≡ refused e → Heard log
  recipes_heard request clouds log r asks AllSaid is = cc
  recipes_heard request clouds log r asks (OneSaid cloud more x rest recipe result one said) is =
      later x rest (recipes_heard request more rest result asks said (first_err recipe result is))
  recipes_heard request clouds log r asks (Refused cloud more x f said) is = recipe_heard request cloud x f asks said (same_error {A = List Recipe} e f is)

  -- ---- shares

  shares_heard : (cloud : CloudNo) (firsts : List Item) (recipe : Recipe) (place n : ℕ) (x : CloudExchange) (old new : List (List ℕ)) (f : RestoreErr)
      → SharesSaid shape user cloud firsts recipe place n x old new (Err f) → f ≡ e → Heard (x ∷ [])
  shares_heard cloud firsts recipe place n x old new f said is =
      let it = subst (λ (g : RestoreErr). SharesSaid shape user cloud firsts recipe place n x old new (Err g)) is said in
      go it it.brought it.came it.taken
    where
      go : SharesSaid shape user cloud firsts recipe place n x old new (Err e) → (b : Result (List (List ℕ)) RestoreErr) → SharesFrom cloud n (reply_at x.reply) b
          → TakenAs shape cloud firsts recipe.items place n b old new (Err e) → Heard (x ∷ [])
      go it (Ok shares) came taken = absurd (kind.taken shape cloud firsts recipe.items place n shares old new taken)
      go it (Err g) came taken =
          let w = kind.shares cloud (reply_at x.reply) n (subst (λ (h : RestoreErr). Refuses cloud (reply_at x.reply) (NoShares n) h) (same_error {A = Unit {0}} e g (sym taken)) came) in
          record {
            x = x;
            has = contains_here x [];
            cloud_is = it.cloud_is ∙ sym (ap (λ (m : CloudNo). m.0) w.0);
            bytes = it.bytes;
            read = w.1;
            asked = inr (_, it.asked);
          }

  batch_heard : (firsts : List Item) (place n : ℕ) (clouds : List CloudNo) (recipes : List Recipe) (log : List CloudExchange) (old new : List (List ℕ)) (r : Result (Unit {0}) RestoreErr)
      → BatchSaid shape user firsts place n clouds recipes log old new r → r ≡ refused e → Heard log
  batch_heard firsts place n clouds recipes log old new r (AllTaken rooms) is = cc
  batch_heard firsts place n clouds recipes log old new r (OneTaken cloud more recipe others x rest a mid b result one said) is =
      later x rest (batch_heard firsts place n more others rest mid b result said is)
  batch_heard firsts place n clouds recipes log old new r (OneRefused cloud more recipe others x a b f said) is =
      shares_heard cloud firsts recipe place n x a b f said (same_error {A = Unit {0}} e f is)

  -- ---- batches

  run_heard : (clouds : List CloudNo) (points : List ℕ) (firsts : List Item) (recipes : List Recipe) (place n : ℕ) (log : List CloudExchange) (old new : List ℕ) (r : Result (Unit {0}) RestoreErr)
      → BatchRun shape user clouds points firsts recipes place n log old new r → r ≡ refused e → Heard log
  run_heard clouds points firsts recipes place n log old new r (BatchOpened rooms filled said_so a b result empty said opens) is =
      let stopped = subst (λ (x : Result (Unit {0}) RestoreErr). OpensBatch shape points firsts filled place n a b x) is opens in
      absurd (kind.opens _ stopped.mid b stopped.stops)
  run_heard clouds points firsts recipes place n log old new r (BatchUnread rooms filled said_so out f empty said) is =
      batch_heard firsts place n clouds recipes said_so rooms filled (Err f) said is

  items_heard : (clouds : List CloudNo) (points : List ℕ) (firsts : List Item) (recipes : List Recipe) (place : ℕ) (log : List CloudExchange) (old new : List ℕ) (r : Result (Unit {0}) RestoreErr)
      → ItemsRun shape user clouds points firsts recipes place log old new r → r ≡ refused e → Heard log
  items_heard clouds points firsts recipes place log old new r (ItemsDone at out past) is = cc
  items_heard clouds points firsts recipes place log old new r (ItemsNext at one more a mid b result within first rest) is =
      back one more (items_heard clouds points firsts recipes _ more mid b result rest is)
  items_heard clouds points firsts recipes place log old new r (ItemsStop at one a b f within first) is = run_heard clouds points firsts recipes _ _ one a b (Err f) first is

  agreed_heard : (clouds : List CloudNo) (recipes : List Recipe) (log : List CloudExchange) (old new : List ℕ) (r : Result (Unit {0}) RestoreErr)
      → AgreedRun shape user clouds recipes log old new r → r ≡ refused e → Heard log
  agreed_heard clouds recipes log old new r (NothingAsked out) is = cc
  agreed_heard clouds recipes log old new r (Differ cloud others recipe rest out f same differs) is =
      absurd (kind.differ cloud.0 recipe (numbers_of others) rest (subst (λ (x : Result (Unit {0}) RestoreErr). Compares cloud.0 recipe (numbers_of others) rest x) is differs))
  agreed_heard clouds recipes log old new r (Compared cloud others recipe rest said_so a b result same agree items) is =
      items_heard clouds _ recipe.items (recipe ∷ rest) 0 said_so a b result items is

  pub restore_heard : (clouds : List CloudNo) (log : List CloudExchange) (old new : List ℕ) (r : Result (Unit {0}) RestoreErr)
      → RestoreRun shape user tag version clouds log old new r → r ≡ refused e → Heard log
  restore_heard clouds log old new r (NoRecipes request said_so out f asks said) is =
      recipes_heard request clouds said_so (Err f) asks said (ap (λ (x : RestoreErr). refused {A = List Recipe} x) (same_error {A = Unit {0}} e f is))
  restore_heard clouds log old new r (HasRecipes request recipes one more a b result asks said agreed) is =
      back one more (agreed_heard clouds recipes more a b result agreed is)
