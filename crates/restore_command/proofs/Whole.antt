-- What comes of a whole restore.
use Rattle.std.proofs.Common.{◌≡◌, ◌≢◌, ℕ, zero, suc, ◌+◌, ◌-◌, ◌<◌, ◌≤◌, inl, inr, Bool, true, false, List, [], ◌∷◌, ◌++◌, length, map, take, Option, Some, None, refl, sym, ap, ◌∙◌, subst, arith, append-nil, Result, Ok, Err}
use Rattle.std.specs.Prelude.{◌==◌, min, not, slice_index_or, option_map, if◌then◌else◌}
use Rattle.std.specs.List.{AllByRecursion}
use Rattle.std.specs.List.Sorted.{IsStrictlyIncreasing}
use Rattle.std.proofs.lemmas.Bool.{eqb-true}
use Rattle.std.proofs.lemmas.List.{length-map}
use Rattle.ports_link.specs.CdBase.Lengths.{share_len_of}
use Rattle.ports_link.specs.CdBase.Numbers.{numbers_of}
use Rattle.ports_link.specs.CdBase.ids.CloudNo.{CloudNo}
use Rattle.ports_link.specs.CdBase.ids.Fp.{Fp}
use Rattle.ports_link.specs.CdBase.ids.Tag.{Tag}
use Rattle.ports_link.specs.CdBase.ids.UserId.{UserId}
use Rattle.ports_link.specs.CdBase.ids.Version.{Version}
use Rattle.ports_link.specs.CdBase.shape.Shape.{Shape}
use Rattle.subset_restore.specs.CaontRs.Opening.{opened}
use Rattle.subset_restore.specs.CaontRs.opening.RecoverErr.{RecoverErr}
use Rattle.subset_restore.specs.CaontRs.opening.RecoverErr.TheVariants as opening
use Rattle.ports_link.specs.Messages.ReplyReading.{reply_at}
use Rattle.ports_link.specs.Messages.Requests.{IsRequest}
use Rattle.ports_link.specs.Messages.request.Request.TheVariants as requests
use Rattle.subset_restore.specs.Recipe.items.Item.{Item}
use Rattle.subset_restore.specs.Recipe.recipe.Recipe.{Recipe}
use Rattle.ports_link.specs.UserDedup.Owning.{fps_in}
use Rattle.subset_restore.specs.RestoreJob.Brought.{in_a_row}
use Rattle.subset_restore.specs.RestoreJob.Exchanges.{CloudExchange, RecipesSaid, AllSaid, OneSaid, Refused, with_first, AgreedRun, NothingAsked, Differ, Compared, RestoreRun, NoRecipes, HasRecipes}
use Rattle.subset_restore.specs.RestoreJob.Restored
use Rattle.subset_restore.specs.RestoreJob.Restored.{Unrestored, item_of, or_else, difference, differing, items_difference}
use Rattle.subset_restore.specs.RestoreJob.Steps.{Compares, NamesKind, RecipeRefused, IsShareOf}
use Rattle.subset_restore.specs.RestoreJob.error.RestoreErr.{RestoreErr}
use Rattle.subset_restore.specs.RestoreJob.error.RestoreErr.TheVariants as errors
use Rattle.restore_command.specs.Talks.{with_cloud, sent_in, received_in}
use Rattle.restore_command.specs.Fetched.{Outline, outline_of, len_at, AskShares, HasAskedForShares, BringsRecipe, IsShareOfSecret, Gave, Each, NoMore, OneMore, row, string_of, Fetched}
use Rattle.restore_command.specs.Stopped.{GaveRecipe, RefusedRecipe, EachRecipe, NoRecipe, OneRecipe, RecipesUntil, RecipeThere, RecipeFurther, IsUnasked, IsBatchAt, RefusedShares, LengthDiffers, HashDiffers, NamesString, WrongShares, EachUntil, There, Further, AllOpen, IsSecretUnopened, NamesSecret, Stopped, AtRecipe, AtComparison, AtShares, AtSecret}
use Rattle.restore_command.proofs.Lists.{NoneIs, Apart, apart, with_here, with_other, with_append}
use Rattle.restore_command.proofs.Items.{GaveFrom, RefusedFrom, LengthAt, HashAt, NamesAt, StopsFrom, SameCount}
use Rattle.restore_command.proofs.Runs.{OpensTill, FailsAt, BatchAt, ItemsStopped, SharesStop, SecretStop, ItemsCame, items_came}

-- ---- recipes

recipes_as : {P Q : CloudNo → Recipe → Type 0} (Is : CloudNo → Type 0) (clouds : List CloudNo) (recipes : List Recipe)
    → ((c : CloudNo) (r : Recipe) → Is c → P c r → Q c r) → AllByRecursion Is clouds → EachRecipe P clouds recipes
    → EachRecipe Q clouds recipes
recipes_as Is _ _ f is NoRecipe = NoRecipe
recipes_as Is _ _ f is (OneRecipe c r clouds recipes p more) = OneRecipe c r clouds recipes (f c r is.0 p)
    (recipes_as Is clouds recipes f is.1 more)

all_as : {P Q : CloudNo → Type 0} (Is : CloudNo → Type 0) (clouds : List CloudNo) → ((c : CloudNo) → Is c → P c → Q c)
    → AllByRecursion Is clouds → AllByRecursion P clouds → AllByRecursion Q clouds
all_as Is [] f is all = tt
all_as Is (c ∷ clouds) f is all = (f c is.0 all.0, all_as Is clouds f is.1 all.1)

recipes_until_as : {B B' : CloudNo → Recipe → Type 0} {A H A' H' : CloudNo → Type 0} (Is : CloudNo → Type 0)
    (clouds : List CloudNo) (recipes : List Recipe)
    → ((c : CloudNo) (r : Recipe) → Is c → B c r → B' c r) → ((c : CloudNo) → Is c → A c → A' c)
    → ((c : CloudNo) → Is c → H c → H' c)
    → AllByRecursion Is clouds → RecipesUntil B A H clouds recipes → RecipesUntil B' A' H' clouds recipes
recipes_until_as Is _ _ f g h is (RecipeThere c clouds at behind) = RecipeThere c clouds (g c is.0 at)
    (all_as Is clouds h is.1 behind)
recipes_until_as Is _ _ f g h is (RecipeFurther c r clouds recipes p more) = RecipeFurther c r clouds recipes
    (f c r is.0 p) (recipes_until_as Is clouds recipes f g h is.1 more)

anyone : (clouds : List CloudNo) → AllByRecursion (λ (c : CloudNo). Unit {0}) clouds
anyone [] = tt
anyone (c ∷ clouds) = (tt, anyone clouds)

as_many : {P : CloudNo → Recipe → Type 0} (clouds : List CloudNo) (recipes : List Recipe)
    → EachRecipe P clouds recipes → length clouds ≡ length recipes
as_many _ _ NoRecipe = refl
as_many _ _ (OneRecipe c r clouds recipes p more) = ap suc (as_many clouds recipes more)

module _ (shape : Shape) (request : List ℕ) where
  pub record RecipeOf (log : List CloudExchange) (cloud : CloudNo) (recipe : Recipe) : Type 0 where
    pub x : CloudExchange
    pub mine : with_cloud log cloud.0 ≡ x ∷ []
    pub asked : x.request ≡ request
    pub brought : BringsRecipe shape recipe x.reply

  pub record RefusedBy (log : List CloudExchange) (e : RestoreErr) (cloud : CloudNo) : Type 0 where
    pub x : CloudExchange
    pub mine : with_cloud log cloud.0 ≡ x ∷ []
    pub asked : x.request ≡ request
    pub refuses : RecipeRefused shape cloud (reply_at x.reply) e
    pub kind : NamesKind {A = Recipe} x.reply (Err e)

  abbrev pub RecipesCame : List CloudNo → List CloudExchange → Result (List Recipe) RestoreErr → Type 0
  RecipesCame clouds log (Ok recipes) = EachRecipe (RecipeOf log) clouds recipes
  RecipesCame clouds log (Err e) = (recipes : List Recipe) × RecipesUntil (RecipeOf log) (RefusedBy log e)
      (λ (c : CloudNo). with_cloud log c.0 ≡ []) clouds recipes

  recipes_others : (clouds : List CloudNo) (log : List CloudExchange) (result : Result (List Recipe) RestoreErr)
      → RecipesSaid shape request clouds log result → (c : ℕ) → NoneIs c clouds → with_cloud log c ≡ []
  recipes_others _ _ _ AllSaid c none = refl
  recipes_others _ _ _ (OneSaid cloud clouds x log recipe result one more) c none =
      with_other x log c (λ same. none.0 (sym same ∙ one.cloud_is)) ∙ recipes_others clouds log result more c none.1
  recipes_others _ _ _ (Refused cloud clouds x e one) c none = with_other x [] c
      (λ same. none.0 (sym same ∙ one.cloud_is))

  none_asked : (clouds : List CloudNo) (cloud : CloudNo) (x : CloudExchange) → x.cloud ≡ cloud.0 → NoneIs cloud.0 clouds
      → AllByRecursion (λ (c : CloudNo). with_cloud (x ∷ []) c.0 ≡ []) clouds
  none_asked [] cloud x same none = tt
  none_asked (c ∷ clouds) cloud x same none = (
    with_other x [] c.0 (λ e. none.0 (sym same ∙ e)),
    none_asked clouds
        cloud x same none.1,
  )

  module _ (cloud : CloudNo) (x : CloudExchange) (log : List CloudExchange) (same : x.cloud ≡ cloud.0) where
    recipe_behind : (c : CloudNo) (r : Recipe) → cloud.0 ≢ c.0 → RecipeOf log c r → RecipeOf (x ∷ log) c r
    recipe_behind c r differ g = record {
      x = g.x;
      mine = with_other x log c.0 (λ e. differ (sym same ∙ e))
          ∙ g.mine;
      asked = g.asked;
      brought = g.brought;
    }

    refused_behind : (e : RestoreErr) (c : CloudNo) → cloud.0 ≢ c.0 → RefusedBy log e c → RefusedBy (x ∷ log) e c
    refused_behind e c differ g = record {
      x = g.x;
      mine = with_other x log c.0 (λ e. differ (sym same ∙ e))
          ∙ g.mine;
      asked = g.asked;
      refuses = g.refuses;
      kind = g.kind;
    }

    recipes_on : (clouds : List CloudNo) (recipe : Recipe) (result : Result (List Recipe) RestoreErr)
        → NoneIs cloud.0 clouds → RecipeOf (x ∷ log) cloud recipe → RecipesCame clouds log result
        → RecipesCame (cloud ∷ clouds) (x ∷ log) (with_first recipe result)
    recipes_on clouds recipe (Ok recipes) none one more = OneRecipe cloud recipe clouds recipes one
        (recipes_as (λ (c : CloudNo). cloud.0 ≢ c.0) clouds recipes recipe_behind none more)
    recipes_on clouds recipe (Err e) none one more = (
      recipe ∷ more.0,
      RecipeFurther cloud recipe clouds more.0 one
          (recipes_until_as (λ (c : CloudNo). cloud.0 ≢ c.0) clouds more.0 recipe_behind (refused_behind e)
          (λ c differ g. with_other x log c.0 (λ e. differ (sym same ∙ e)) ∙ g) none more.1),
    )

  recipes_came : (clouds : List CloudNo) (log : List CloudExchange) (result : Result (List Recipe) RestoreErr)
      → Apart clouds → RecipesSaid shape request clouds log result → RecipesCame clouds log result
  recipes_came _ _ _ apart AllSaid = NoRecipe
  recipes_came _ _ _ apart (OneSaid cloud clouds x log recipe result one more) =
      let mine = with_here x log cloud.0 one.cloud_is ∙ ap (λ (l : List CloudExchange). x ∷ l)
      (recipes_others clouds log result more cloud.0 apart.0) in
      recipes_on cloud x log one.cloud_is clouds recipe result apart.0
      (record { x = x; mine = mine; asked = one.request_is; brought = one.came })
      (recipes_came clouds log result apart.1 more)
  recipes_came _ _ _ apart (Refused cloud clouds x e one) = (
    [],
    RecipeThere cloud clouds (record {
      x = x;
      mine = with_here x [] cloud.0 one.cloud_is;
      asked = one.request_is;
      refuses = one.came;
      kind = one.kind;
    })
        (none_asked clouds cloud x one.cloud_is apart.0),
  )

-- ---- recipes that agree

outline_same : (a b : Recipe) → a.name_len ≡ b.name_len → a.file_len ≡ b.file_len
    → map (λ (item : Item). item.secret_len) a.items ≡ map (λ (item : Item). item.secret_len) b.items
    → outline_of a ≡ outline_of b
outline_same a b e f g = λ i. record { name_len = e i; file_len = f i; lens = g i }

test_same : (m n : ℕ) (x : ℕ) (o : Option ℕ) → (if not (m == n) then Some x else o) ≡ None → (m ≡ n) × (o ≡ None)
test_same m n x o e = go (m == n) refl e
  where
    go : (b : Bool) → (m == n) ≡ b → (if not b then Some x else o) ≡ None → (m ≡ n) × (o ≡ None)
    go true t e = (eqb-true m n t, e)
    go false t e = absurd (let f : Some x ≡ None = e in cc)

test_item : (m n : ℕ) (x : ℕ) (o : Option ℕ) → (if m == n then o else Some x) ≡ None → (m ≡ n) × (o ≡ None)
test_item m n x o e = go (m == n) refl e
  where
    go : (b : Bool) → (m == n) ≡ b → (if b then o else Some x) ≡ None → (m ≡ n) × (o ≡ None)
    go true t e = (eqb-true m n t, e)
    go false t e = absurd (let f : Some x ≡ None = e in cc)

items_same : (place : ℕ) (a b : List Item) → length a ≡ length b → items_difference place a b ≡ None
    → map (λ (item : Item). item.secret_len) a ≡ map (λ (item : Item). item.secret_len) b
items_same place [] [] long e = refl
items_same place [] (y ∷ b) long e = absurd (omega arith)
items_same place (x ∷ a) [] long e = absurd (omega arith)
items_same place (x ∷ a) (y ∷ b) long e =
    let t = test_item x.secret_len y.secret_len place (items_difference (place + 1) a b) e in
    let more = items_same (place + 1) a b (omega arith) t.1 in
    λ i. t.0 i ∷ more i

no_difference : (a b : Recipe) → difference a b ≡ None → outline_of b ≡ outline_of a
no_difference a b e =
    let one = test_same a.name_len b.name_len 0 _ e in
    let two = test_same a.file_len b.file_len 1 _ one.1 in
    let three = test_same (length a.items) (length b.items) 2 _ two.1 in
    sym (outline_same a b one.0 two.0 (items_same 3 a.items b.items three.0 three.1))

outlines : (cloud : ℕ) (recipe : Recipe) (clouds : List ℕ) (recipes : List Recipe) → length clouds ≡ length recipes
    → differing cloud recipe clouds recipes ≡ None → AllByRecursion (λ (r : Recipe). outline_of r ≡ outline_of recipe)
    recipes
outlines cloud recipe clouds [] long e = tt
outlines cloud recipe [] (r ∷ recipes) long e = absurd (omega arith)
outlines cloud recipe (c ∷ clouds) (r ∷ recipes) long e =
    let parts = go (difference recipe r) (differing cloud recipe clouds recipes) e in
    (no_difference recipe r parts.0, outlines cloud recipe clouds recipes (omega arith) parts.1)
  where
    go : (o : Option ℕ) (rest : Option Unrestored) → or_else (option_map (Restored.RecipesDiffer cloud c) o) rest
        ≡ None → (o ≡ None) × (rest ≡ None)
    go None rest e = (refl, e)
    go (Some at) rest e = absurd (let f : Some (Restored.RecipesDiffer cloud c at) ≡ None = e in cc)

len_is : (items : List Item) (i : ℕ) → slice_index_or (map (λ (item : Item). item.secret_len) items) i 0 ≡
    (item_of items i).secret_len
len_is [] i = refl
len_is (x ∷ items) zero = refl
len_is (x ∷ items) (suc i) = len_is items i

same_counts : (shape : Shape) (user : UserId) (recipe : Recipe) (recipes : List Recipe)
    → AllByRecursion (λ (r : Recipe). outline_of r ≡ outline_of recipe) recipes
    → AllByRecursion (SameCount shape user recipe.items) recipes
same_counts shape user recipe [] are = tt
same_counts shape user recipe (r ∷ recipes) are = (
  sym (length-map r.items (λ (item : Item). item.secret_len)) ∙ (ap (λ (o : Outline). length o.lens) are.0
      ∙ length-map recipe.items (λ (item : Item). item.secret_len)),
  same_counts shape user recipe recipes are.1,
)

-- ---- one cloud, its recipe and its shares

module _ (shape : Shape) (user : UserId) (tag : Tag) (version : Version) (request : List ℕ)
    (asks : IsRequest request (requests.GetRecipe user tag version)) (recipe : Recipe) (log more : List CloudExchange)
  where
    mine : (c : CloudNo) (r : Recipe) (g : RecipeOf shape request log c r) → with_cloud (log ++ more) c.0
        ≡ g.x ∷ with_cloud more c.0
    mine c r g = with_append log more c.0 ∙ ap (λ (l : List CloudExchange). l ++ with_cloud more c.0) g.mine

    has_asked : (c : CloudNo) (r : Recipe) (g : RecipeOf shape request log c r) (fps : List Fp) → AskShares user fps
        (sent_in more c.0) → HasAskedForShares user tag version fps (sent_in (log ++ more) c.0)
    has_asked c r g fps shares = record {
      first = g.x.request;
      more = sent_in more c.0;
      in_order = ap (map (λ (x : CloudExchange). x.request)) (mine c r g);
      recipe = subst (λ (q : List ℕ). IsRequest q (requests.GetRecipe user tag version)) (sym g.asked) asks;
      shares = shares;
    }

    share_at : (r : Recipe) (s : List (List ℕ)) (i : ℕ) → IsShareOf shape recipe.items r.items 0 s i
        → IsShareOfSecret shape (len_at (outline_of recipe) i) (item_of r.items i).fp (string_of s i)
    share_at r s i h =
        let e : 0 + i ≡ i = omega arith in
        record {
          len = h.len ∙ (ap (λ (k : ℕ). share_len_of shape.k (item_of recipe.items k).secret_len) e
              ∙ ap (share_len_of shape.k) (sym (len_is recipe.items i)));
          hash = h.hash ∙ ap (λ (k : ℕ). (item_of r.items k).fp.0) e;
        }

    gave_whole : (n : ℕ) (c : CloudNo) (r : Recipe) (s : List (List ℕ)) → RecipeOf shape request log c r
        → outline_of r ≡ outline_of recipe → GaveFrom shape user recipe.items 0 n more c r s
        → Gave shape user tag version (outline_of recipe) n (sent_in (log ++ more) c.0) (received_in (log ++ more) c.0)
        r s
    gave_whole n c r s g agrees h = record {
      came = record {
        asked = has_asked c r g (take n (fps_in r.items)) h.asked;
        brought = record {
          first = g.x.reply;
          more = received_in more c.0;
          in_order = ap (map (λ (x : CloudExchange). x.reply)) (mine c r g);
          recipe = g.brought;
          shares = h.brought;
        };
        agrees = agrees;
        count = h.long;
      };
      shares = λ i l. share_at r s i (h.shares i l);
    }

    refused_whole : (m n : ℕ) (e : RestoreErr) (c : CloudNo) (r : Recipe) (s : List (List ℕ))
        → RecipeOf shape request log c r → outline_of r ≡ outline_of recipe → RefusedFrom shape user recipe.items 0 m n
        more e c r s
        → RefusedShares shape user tag version (outline_of recipe) m n e (sent_in (log ++ more) c.0)
        (received_in (log ++ more) c.0) c r s
    refused_whole m n e c r s g agrees h = record {
      asked = has_asked c r g (take (m + n) (fps_in r.items)) h.asked;
      heard = g.x.reply ∷ h.heard;
      reply = h.reply;
      in_order = ap (map (λ (x : CloudExchange). x.reply)) (mine c r g) ∙ ap (λ (l : List (List ℕ)). g.x.reply ∷ l) h.in_order;
      brought = record { first = g.x.reply; more = h.heard; in_order = refl; recipe = g.brought; shares = h.brought };
      agrees = agrees;
      count = h.long;
      shares = λ i l. share_at r s i (h.shares i l);
      refuses = h.refuses;
      kind = h.kind;
    }

    length_whole : (m n : ℕ) (r : Recipe) (s : List (List ℕ)) (secret found wanted : ℕ)
        → LengthAt shape user recipe.items 0 m n r s secret found wanted → LengthDiffers shape (outline_of recipe) r s m
        n secret found wanted
    length_whole m n r s secret found wanted h =
        let is = h.secret_is in
        let same : h.j ≡ secret = omega arith in
        let e : 0 + h.j ≡ h.j = omega arith in
        subst (λ (k : ℕ). LengthDiffers shape (outline_of recipe) r s m n k found wanted) same (record {
          from = h.from;
          within = h.within;
          front = λ i l. share_at r s i (h.front i l);
          found_is = h.found_is;
          wanted_is = h.wanted_is ∙ (ap (λ (k : ℕ). share_len_of shape.k (item_of recipe.items k).secret_len) e
              ∙ ap (share_len_of shape.k) (sym (len_is recipe.items h.j)));
          differ = h.differ;
        })

    hash_whole : (m n : ℕ) (r : Recipe) (s : List (List ℕ)) (secret : ℕ) (named found : Fp)
        → HashAt shape user recipe.items 0 m n r s secret named found → HashDiffers shape (outline_of recipe) r s m n
        secret named found
    hash_whole m n r s secret named found h =
        let is = h.secret_is in
        let same : h.j ≡ secret = omega arith in
        let e : 0 + h.j ≡ h.j = omega arith in
        subst (λ (k : ℕ). HashDiffers shape (outline_of recipe) r s m n k named found) same (record {
          from = h.from;
          within = h.within;
          front = λ i l. share_at r s i (h.front i l);
          len = h.len ∙ (ap (λ (k : ℕ). share_len_of shape.k (item_of recipe.items k).secret_len) e
              ∙ ap (share_len_of shape.k) (sym (len_is recipe.items h.j)));
          named_is = h.named_is ∙ ap (λ (k : ℕ). (item_of r.items k).fp.0) e;
          found_is = h.found_is;
          differ = h.differ;
        })

    names_whole : (m n : ℕ) (e : RestoreErr) (c : CloudNo) (r : Recipe) (s : List (List ℕ))
        → NamesAt shape user recipe.items 0 m n e c r s → NamesString shape (outline_of recipe) m n e c r s
    names_whole m n (errors.ShareLength d secret found wanted) c r s h =
        (h.0, length_whole m n r s secret found wanted h.1)
    names_whole m n (errors.BadShare d secret named found) c r s h = (h.0, hash_whole m n r s secret named found h.1)
    names_whole m n errors.NoMemory c r s h = tt
    names_whole m n (errors.Missing d) c r s h = absurd h
    names_whole m n (errors.Lost d) c r s h = absurd h
    names_whole m n (errors.CloudFault d) c r s h = absurd h
    names_whole m n (errors.CloudDamaged d at byte) c r s h = absurd h
    names_whole m n (errors.CloudRotten d named found) c r s h = absurd h
    names_whole m n (errors.CloudNoMemory d) c r s h = absurd h
    names_whole m n (errors.Strange d kind) c r s h = absurd h
    names_whole m n (errors.RecipesDiffer x y p) c r s h = absurd h
    names_whole m n (errors.BadSecret secret named found) c r s h = absurd h
    names_whole m n (errors.BadPad secret at byte) c r s h = absurd h

    stops_whole : (m n : ℕ) (e : RestoreErr) (c : CloudNo) (r : Recipe) (s : List (List ℕ))
        → RecipeOf shape request log c r → outline_of r ≡ outline_of recipe → StopsFrom shape user recipe.items 0 m n
        more e c r s
        → WrongShares shape user tag version (outline_of recipe) m n e (sent_in (log ++ more))
        (received_in (log ++ more)) c r s
    stops_whole m n e c r s g agrees (inl h) = inl (refused_whole m n e c r s g agrees h)
    stops_whole m n e c r s g agrees (inr h) = inr (record {
      came = record {
        asked = has_asked c r g (take (m + n) (fps_in r.items)) h.asked;
        brought = record {
          first = g.x.reply;
          more = received_in more c.0;
          in_order = ap (map (λ (x : CloudExchange). x.reply)) (mine c r g);
          recipe = g.brought;
          shares = h.brought;
        };
        agrees = agrees;
        count = h.long;
      };
      names = names_whole m n e c r s h.names;
    })

    -- ---- each cloud

    each_whole : {P Q : CloudNo → Recipe → List (List ℕ) → Type 0} (clouds : List CloudNo) (recipes : List Recipe)
        (all : List (List (List ℕ)))
        → ((c : CloudNo) (r : Recipe) (s : List (List ℕ)) → RecipeOf shape request log c r
        → outline_of r ≡ outline_of recipe → P c r s → Q c r s)
        → EachRecipe (RecipeOf shape request log) clouds recipes
        → AllByRecursion (λ (r : Recipe). outline_of r ≡ outline_of recipe) recipes → Each P clouds recipes all
        → Each Q clouds recipes all
    each_whole _ _ _ f NoRecipe are NoMore = NoMore
    each_whole _ _ _ f (OneRecipe c r clouds recipes g gs) are (OneMore _ _ s _ _ all p ps) = OneMore c r s clouds
        recipes all (f c r s g are.0 p) (each_whole clouds recipes all f gs are.1 ps)

    until_whole : {B A H B' A' H' : CloudNo → Recipe → List (List ℕ) → Type 0} (clouds : List CloudNo)
        (recipes : List Recipe) (all : List (List (List ℕ)))
        → ((c : CloudNo) (r : Recipe) (s : List (List ℕ)) → RecipeOf shape request log c r
        → outline_of r ≡ outline_of recipe → B c r s → B' c r s)
        → ((c : CloudNo) (r : Recipe) (s : List (List ℕ)) → RecipeOf shape request log c r
        → outline_of r ≡ outline_of recipe → A c r s → A' c r s)
        → ((c : CloudNo) (r : Recipe) (s : List (List ℕ)) → RecipeOf shape request log c r
        → outline_of r ≡ outline_of recipe → H c r s → H' c r s)
        → EachRecipe (RecipeOf shape request log) clouds recipes
        → AllByRecursion (λ (r : Recipe). outline_of r ≡ outline_of recipe) recipes → EachUntil B A H clouds recipes all
        → EachUntil B' A' H' clouds recipes all
    until_whole _ _ _ f g h (OneRecipe c r clouds recipes x xs) are (There _ _ s _ _ all at ps) = There c r s clouds
        recipes all (g c r s x are.0 at) (each_whole clouds recipes all h xs are.1 ps)
    until_whole _ _ _ f g h (OneRecipe c r clouds recipes x xs) are (Further _ _ s _ _ all p ps) = Further c r s clouds
        recipes all (f c r s x are.0 p) (until_whole clouds recipes all f g h xs are.1 ps)
    until_whole _ _ _ f g h NoRecipe are p = elim p [ ]

    -- ---- secrets

    long : length (outline_of recipe).lens ≡ length recipe.items
    long = length-map recipe.items (λ (item : Item). item.secret_len)

    opens_at : (points : List ℕ) (i : ℕ) (strings : List ℕ) (r : Result (List ℕ) RecoverErr)
        → opened shape (item_of recipe.items (0 + i)).secret_len points strings ≡ r
        → opened shape (len_at (outline_of recipe) i) points strings ≡ r
    opens_at points i strings r e =
        let z : i ≡ 0 + i = omega arith in
        ap (λ (n : ℕ). opened shape n points strings)
        (len_is recipe.items i ∙ ap (λ (k : ℕ). (item_of recipe.items k).secret_len) z) ∙ e

    module _ (clouds : List CloudNo) (recipes : List Recipe)
        (are : AllByRecursion (λ (r : Recipe). outline_of r ≡ outline_of recipe) recipes)
        (brought : EachRecipe (RecipeOf shape request log) clouds recipes) where
      fetched_whole : (old new : List ℕ) → ItemsCame shape user recipe.items (numbers_of clouds) clouds recipes 0 more
          old new (Ok tt)
          → (bytes : List ℕ) × (new ≡ old ++ bytes) × Fetched shape user tag version clouds (sent_in (log ++ more))
          (received_in (log ++ more)) bytes
      fetched_whole old new came =
          let o = came.2 in
          let count = o.count in
          let all : length recipe.items - 0 ≡ length (outline_of recipe).lens = omega (arith, long) in (
            in_a_row o.secrets,
            o.left,
            record {
              outline = outline_of recipe;
              recipes = recipes;
              strings = came.0;
              gave = subst (λ (n : ℕ). Each (λ (c : CloudNo). Gave shape user tag version (outline_of recipe) n
                  (sent_in (log ++ more) c.0) (received_in (log ++ more) c.0)) clouds recipes came.0) all
                  (each_whole {Q = λ (c : CloudNo). Gave shape user tag version (outline_of recipe)
                  (length recipe.items - 0) (sent_in (log ++ more) c.0) (received_in (log ++ more) c.0)} clouds
                  recipes came.0
                  (gave_whole (length recipe.items - 0)) brought are came.1);
              secrets = o.secrets;
              count = count ∙ all;
              opens = λ i l. opens_at (numbers_of clouds) i (row came.0 i) (Ok (string_of o.secrets i))
                  (o.opens i (omega arith));
              whole = refl;
            },
          )

      batch_whole : (m n : ℕ) → BatchAt shape user recipe.items (numbers_of clouds) clouds recipes 0 m n
          → IsBatchAt (outline_of recipe) m n
      batch_whole m n at =
          let some = at.some in
          let e : 0 + m ≡ m = omega arith in
          record {
            batches = at.batches;
            begins = at.begins;
            some = omega (arith, long);
            size = at.size ∙ (ap (λ (k : ℕ). min 256 (length recipe.items - k)) e ∙ ap (λ (k : ℕ). min 256 (k - m))
                (sym long));
          }

      open_whole : (m : ℕ) (all : List (List (List ℕ))) → OpensTill shape user recipe.items (numbers_of clouds) clouds
          recipes 0 m all → AllOpen shape (outline_of recipe) clouds all m
      open_whole m all till i l = let t = till i l in (t.0, opens_at (numbers_of clouds) i (row all i) (Ok t.0) t.1)

      unopened : (m n j secret : ℕ) (all : List (List (List ℕ))) (why : RecoverErr) → m ≤ j → j < m + n
          → OpensTill shape user recipe.items (numbers_of clouds) clouds recipes 0 j all → secret ≡ 0 + j
          → opened shape (item_of recipe.items (0 + j)).secret_len (numbers_of clouds) (row all j) ≡ Err why
          → IsSecretUnopened shape (outline_of recipe) clouds all m n secret why
      unopened m n j secret all why from within till is fails =
          let same : j ≡ secret = omega arith in
          subst (λ (k : ℕ). IsSecretUnopened shape (outline_of recipe) clouds all m n k why) same
          (record {
            from = from;
            within = within;
            front = open_whole j all till;
            fails = opens_at (numbers_of clouds) j
                (row all j) (Err why) fails;
          })

      fails_whole : (m n j : ℕ) (e : RestoreErr) (all : List (List (List ℕ))) → m ≤ j → j < m + n
          → OpensTill shape user recipe.items (numbers_of clouds) clouds recipes 0 j all
          → FailsAt shape user recipe.items (numbers_of clouds) clouds recipes e (0 + j) (row all j) → NamesSecret shape
          (outline_of recipe) clouds all m n e
      fails_whole m n j (errors.BadSecret secret named found) all from within till h = unopened m n j secret all
          (opening.BadSecret named found) from within till h.0 h.1
      fails_whole m n j (errors.BadPad secret at byte) all from within till h = unopened m n j secret all
          (opening.BadPad at byte) from within till h.0 h.1
      fails_whole m n j errors.NoMemory all from within till h = tt
      fails_whole m n j (errors.Missing d) all from within till h = absurd h
      fails_whole m n j (errors.Lost d) all from within till h = absurd h
      fails_whole m n j (errors.CloudFault d) all from within till h = absurd h
      fails_whole m n j (errors.CloudDamaged d at byte) all from within till h = absurd h
      fails_whole m n j (errors.CloudRotten d named found) all from within till h = absurd h
      fails_whole m n j (errors.CloudNoMemory d) all from within till h = absurd h
      fails_whole m n j (errors.Strange d kind) all from within till h = absurd h
      fails_whole m n j (errors.RecipesDiffer x y p) all from within till h = absurd h
      fails_whole m n j (errors.ShareLength d secret found wanted) all from within till h = absurd h
      fails_whole m n j (errors.BadShare d secret named found) all from within till h = absurd h

      stopped_whole : (e : RestoreErr) → ItemsStopped shape user recipe.items (numbers_of clouds) clouds recipes 0 more
          e → Stopped shape user tag version clouds (sent_in (log ++ more)) (received_in (log ++ more)) e
      stopped_whole e (SharesStop all m n at each till) =
          AtShares e (outline_of recipe) recipes all m n (batch_whole m n at) (open_whole m all till)
          (until_whole {B' = λ (c : CloudNo). Gave shape user tag version (outline_of recipe) (m + n)
          (sent_in (log ++ more) c.0) (received_in (log ++ more) c.0)}
          {A' = WrongShares shape user tag version (outline_of recipe) m n e (sent_in (log ++ more))
          (received_in (log ++ more))}
          {H' = λ (c : CloudNo). Gave shape user tag version (outline_of recipe) m (sent_in (log ++ more) c.0)
          (received_in (log ++ more) c.0)} clouds recipes all
          (gave_whole (m + n)) (stops_whole m n e) (gave_whole m) brought are each)
      stopped_whole e (SecretStop all m n j at each from within till fails) =
          AtSecret e (outline_of recipe) recipes all m n (batch_whole m n at)
          (each_whole {Q = λ (c : CloudNo). Gave shape user tag version (outline_of recipe) (m + n)
          (sent_in (log ++ more) c.0) (received_in (log ++ more) c.0)} clouds recipes all (gave_whole (m + n))
          brought are each)
          (fails_whole m n j e all from within till fails)

-- ---- the whole restore

module _ (shape : Shape) (user : UserId) (tag : Tag) (version : Version) where
  abbrev pub WholeCame : List CloudNo → List CloudExchange → List ℕ → List ℕ → Result (Unit {0}) RestoreErr → Type 0
  WholeCame clouds log old new (Ok u) = (bytes : List ℕ) × (new ≡ old ++ bytes) × Fetched shape user tag version
      clouds (sent_in log) (received_in log) bytes
  WholeCame clouds log old new (Err e) = Stopped shape user tag version clouds (sent_in log) (received_in log) e

  module _ (request : List ℕ) (asks : IsRequest request (requests.GetRecipe user tag version)) (log : List CloudExchange)
    where
      asked_alone : (c : CloudNo) (x : CloudExchange) → with_cloud log c.0 ≡ x ∷ [] → x.request ≡ request
          → HasAskedForShares user tag version [] (sent_in log c.0)
      asked_alone c x is asked = record {
        first = x.request;
        more = [];
        in_order = ap (map (λ (x : CloudExchange). x.request)) is;
        recipe = subst (λ (q : List ℕ). IsRequest q (requests.GetRecipe user tag version)) (sym asked) asks;
        shares = refl;
      }

      gave_alone : (c : CloudNo) (r : Recipe) → Unit {0} → RecipeOf shape request log c r
          → GaveRecipe shape user tag version (sent_in log c.0) (received_in log c.0) r
      gave_alone c r u g = record {
        asked = asked_alone c g.x g.mine g.asked;
        brought = record {
          first = g.x.reply;
          more = [];
          in_order = ap (map (λ (x : CloudExchange). x.reply)) g.mine;
          recipe = g.brought;
          shares = refl;
        };
      }

      refused_alone : (e : RestoreErr) (c : CloudNo) → Unit {0} → RefusedBy shape request log e c
          → RefusedRecipe shape user tag version e (sent_in log c.0) (received_in log c.0) c
      refused_alone e c u g = record {
        asked = asked_alone c g.x g.mine g.asked;
        reply = g.x.reply;
        received_it = ap (map (λ (x : CloudExchange). x.reply)) g.mine;
        refuses = g.refuses;
        kind = g.kind;
      }

      unasked_alone : (c : CloudNo) → Unit {0} → with_cloud log c.0 ≡ [] → IsUnasked (sent_in log c.0)
          (received_in log c.0)
      unasked_alone c u none = (ap (map (λ (x : CloudExchange). x.request)) none, ap (map (λ (x : CloudExchange). x.reply)) none)

      no_recipes : (clouds : List CloudNo) (e : RestoreErr) → Apart clouds → RecipesSaid shape request clouds log
          (Err e) → Stopped shape user tag version clouds (sent_in log) (received_in log) e
      no_recipes clouds e apart said =
          let came = recipes_came shape request clouds log (Err e) apart said in
          AtRecipe e came.0 (recipes_until_as {B' = λ (c : CloudNo). GaveRecipe shape user tag version (sent_in log c.0)
          (received_in log c.0)}
          {A' = λ (c : CloudNo). RefusedRecipe shape user tag version e (sent_in log c.0) (received_in log c.0) c}
          {H' = λ (c : CloudNo). IsUnasked (sent_in log c.0) (received_in log c.0)}
          (λ (c : CloudNo). Unit {0}) clouds came.0 gave_alone (refused_alone e) unasked_alone (anyone clouds) came.1)

      nothing_fetched : (clouds : List CloudNo) (recipes : List Recipe) (out : List ℕ) → recipes ≡ []
          → EachRecipe (RecipeOf shape request log) clouds recipes → WholeCame clouds (log ++ []) out out (Ok tt)
      nothing_fetched _ _ out none NoRecipe = (
        [],
        sym (append-nil out),
        record {
          outline = record { name_len = 0; file_len = 0; lens = [] };
          recipes = [];
          strings = [];
          gave = NoMore;
          secrets = [];
          count = refl;
          opens = λ i l. absurd (omega arith);
          whole = refl;
        },
      )
      nothing_fetched _ _ out none (OneRecipe c r clouds recipes g gs) = absurd (let f : r ∷ recipes ≡ [] = none in cc)

      differ_whole : (clouds : List CloudNo) (cloud : CloudNo) (others : List CloudNo) (recipe : Recipe)
          (recipes : List Recipe) (out : List ℕ) (e : RestoreErr) → clouds ≡ cloud ∷ others
          → Compares cloud.0 recipe (numbers_of others) recipes (Err e) → EachRecipe (RecipeOf shape request log) clouds
          (recipe ∷ recipes) → WholeCame clouds (log ++ []) out out (Err e)
      differ_whole clouds cloud others recipe recipes out e same compares brought =
          subst (λ (l : List CloudExchange). Stopped shape user tag version clouds (sent_in l) (received_in l) e)
          (sym (append-nil log))
          (AtComparison e cloud others recipe recipes same
          (recipes_as {Q = λ (c : CloudNo). GaveRecipe shape user tag version (sent_in log c.0) (received_in log c.0)}
          (λ (c : CloudNo). Unit {0}) clouds (recipe ∷ recipes) gave_alone (anyone clouds) brought) compares)

      items_whole : (clouds : List CloudNo) (recipe : Recipe) (recipes : List Recipe) (more : List CloudExchange)
          (old new : List ℕ) (result : Result (Unit {0}) RestoreErr)
          → AllByRecursion (λ (r : Recipe). outline_of r ≡ outline_of recipe) (recipe ∷ recipes)
          → EachRecipe (RecipeOf shape request log) clouds (recipe ∷ recipes)
          → ItemsCame shape user recipe.items (numbers_of clouds) clouds (recipe ∷ recipes) 0 more old new result
          → WholeCame clouds (log ++ more) old new result
      items_whole clouds recipe recipes more old new (Ok u) are brought came = fetched_whole shape user tag version
          request asks recipe log more clouds (recipe ∷ recipes) are brought old new came
      items_whole clouds recipe recipes more old new (Err e) are brought came = stopped_whole shape user tag version
          request asks recipe log more clouds (recipe ∷ recipes) are brought e came

      agreed_came : (clouds : List CloudNo) (recipes : List Recipe) (more : List CloudExchange) (old new : List ℕ)
          (result : Result (Unit {0}) RestoreErr) → Apart clouds → EachRecipe (RecipeOf shape request log) clouds
          recipes
          → AgreedRun shape user clouds recipes more old new result → WholeCame clouds (log ++ more) old new result
      agreed_came clouds _ _ _ _ _ apart brought (NothingAsked out) = nothing_fetched clouds [] out refl brought
      agreed_came clouds _ _ _ _ _ apart brought (Differ cloud others recipe recipes out e same compares) = differ_whole
          clouds cloud others recipe recipes out e same compares brought
      agreed_came clouds _ _ _ _ _ apart brought (Compared cloud others recipe recipes more old new result same compares
          items) =
          let many = as_many clouds (recipe ∷ recipes) brought in
          let longs : length (numbers_of others) ≡ length others = length-map others (λ (c : CloudNo). c.0) in
          let first : length clouds ≡ length (cloud ∷ others) = ap length same in
          let are = outlines cloud.0 recipe (numbers_of others) recipes (omega arith) compares in
          let both : AllByRecursion (λ (r : Recipe). outline_of r ≡ outline_of recipe) (recipe ∷ recipes) = (refl, are) in
          items_whole clouds recipe recipes more old new result both brought
          (items_came shape user recipe.items (numbers_of clouds) clouds (recipe ∷ recipes) 0 more old new result apart
          many (same_counts shape user recipe (recipe ∷ recipes) both) items)

  restore_came : (clouds : List CloudNo) (log : List CloudExchange) (old new : List ℕ)
      (result : Result (Unit {0}) RestoreErr) → Apart clouds → RestoreRun shape user tag version clouds log old new
      result → WholeCame clouds log old new result
  restore_came clouds _ _ _ _ apart (NoRecipes request log out e asks said) = no_recipes request asks log clouds e
      apart said
  restore_came clouds _ _ _ _ apart (HasRecipes request recipes log more old new result asks said agreed) =
      agreed_came request asks log clouds recipes more old new result apart (recipes_came shape request clouds log
      (Ok recipes) apart said) agreed

pub fetched_file : (shape : Shape) (user : UserId) (tag : Tag) (version : Version) (clouds : List CloudNo)
    (log : List CloudExchange) (old new : List ℕ) → IsStrictlyIncreasing (numbers_of clouds)
    → RestoreRun shape user tag version clouds log old new (Ok tt) → (bytes : List ℕ) × (new ≡ old ++ bytes)
    × Fetched shape user tag version clouds (sent_in log) (received_in log) bytes
fetched_file shape user tag version clouds log old new rises run = restore_came shape user tag version clouds log old
    new (Ok tt) (apart clouds rises) run

pub stopped_fetch : (shape : Shape) (user : UserId) (tag : Tag) (version : Version) (clouds : List CloudNo)
    (log : List CloudExchange) (old new : List ℕ) (e : RestoreErr) → IsStrictlyIncreasing (numbers_of clouds)
    → RestoreRun shape user tag version clouds log old new (Err e) → Stopped shape user tag version clouds
    (sent_in log) (received_in log) e
stopped_fetch shape user tag version clouds log old new e rises run = restore_came shape user tag version clouds log
    old new (Err e) (apart clouds rises) run
