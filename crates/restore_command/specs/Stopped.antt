-- A fetch that stopped at one reply or comparison: what each cloud was asked and gave up to there.
use Rattle.std.specs.Prelude.{◌≡◌, ◌≢◌, ℕ, ◌+◌, ◌*◌, ◌-◌, ◌<◌, ◌≤◌, ◌⊎◌, min, List, [], ◌∷◌, ◌++◌, length, take, Ok, Err, Result}
use Rattle.std.specs.List.{AllByRecursion}
use Rattle.sha2.specs.Sha256.{sha256 as sha256_of}
use Rattle.ports_link.specs.CdBase.Lengths.{share_len_of}
use Rattle.ports_link.specs.CdBase.Numbers.{numbers_of}
use Rattle.ports_link.specs.CdBase.ids.CloudNo.{CloudNo}
use Rattle.ports_link.specs.CdBase.ids.Fp.{Fp}
use Rattle.ports_link.specs.CdBase.ids.Tag.{Tag}
use Rattle.ports_link.specs.CdBase.ids.UserId.{UserId}
use Rattle.ports_link.specs.CdBase.ids.Version.{Version}
use Rattle.ports_link.specs.CdBase.shape.Shape.{Shape}
use Rattle.subset_restore.specs.CaontRs.Opening.{opened}
use Rattle.subset_restore.specs.CaontRs.opening.RecoverErr.{RecoverErr}
use Rattle.subset_restore.specs.CaontRs.opening.RecoverErr.TheVariants as opening
use Rattle.subset_restore.specs.Recipe.recipe.Recipe.{Recipe}
use Rattle.ports_link.specs.Messages.ReplyReading.{reply_at}
use Rattle.ports_link.specs.UserDedup.Owning.{fps_in}
use Rattle.subset_restore.specs.RestoreJob.Restored.{item_of}
use Rattle.subset_restore.specs.RestoreJob.Steps.{Compares, NamesKind, NoShares, RecipeRefused, Refuses}
use Rattle.subset_restore.specs.RestoreJob.error.RestoreErr.{RestoreErr}
use Rattle.subset_restore.specs.RestoreJob.error.RestoreErr.TheVariants as errors
use Rattle.restore_command.specs.Fetched.{Outline, outline_of, len_at, HasAskedForShares, HasBrought, string_of, AreSharesOfSecrets, HasCloudGiven, Gave, Each, row}

-- ---- recipes

-- A cloud was asked for its recipe alone, which came.
pub record GaveRecipe (shape : Shape) (user : UserId) (tag : Tag) (version : Version) (sent received : List (List ℕ))
    (recipe : Recipe) : Type 0 where
  pub asked : HasAskedForShares user tag version [] sent
  pub brought : HasBrought shape recipe [] received

-- A cloud was asked for its recipe alone, and its reply is this refusal; a strange one's kind is its first byte.
pub record RefusedRecipe (shape : Shape) (user : UserId) (tag : Tag) (version : Version) (e : RestoreErr)
    (sent received : List (List ℕ)) (cloud : CloudNo) : Type 0 where
  pub asked : HasAskedForShares user tag version [] sent
  pub reply : List ℕ
  pub received_it : received ≡ reply ∷ []
  pub refuses : RecipeRefused shape cloud (reply_at reply) e
  pub kind : let came : Result Recipe RestoreErr = Err e in NamesKind reply came

-- so of each cloud and its recipe
pub data EachRecipe (P : CloudNo → Recipe → Type 0) : List CloudNo → List Recipe → Type 0 where
  NoRecipe : EachRecipe P [] []
  OneRecipe : (cloud : CloudNo) (recipe : Recipe) (clouds : List CloudNo) (recipes : List Recipe)
      → P cloud recipe → EachRecipe P clouds recipes → EachRecipe P (cloud ∷ clouds) (recipe ∷ recipes)

-- the first clouds and their recipes so, the next cloud thus, and those behind it as the last
pub data RecipesUntil (Before : CloudNo → Recipe → Type 0) (At Behind : CloudNo → Type 0)
    : List CloudNo → List Recipe → Type 0 where
  RecipeThere : (cloud : CloudNo) (clouds : List CloudNo)
      → At cloud → AllByRecursion Behind clouds → RecipesUntil Before At Behind (cloud ∷ clouds) []
  RecipeFurther : (cloud : CloudNo) (recipe : Recipe) (clouds : List CloudNo) (recipes : List Recipe)
      → Before cloud recipe → RecipesUntil Before At Behind clouds recipes
      → RecipesUntil Before At Behind (cloud ∷ clouds) (recipe ∷ recipes)

-- nothing was asked and nothing came
abbrev pub IsUnasked : List (List ℕ) → List (List ℕ) → Type 0
IsUnasked sent received = (sent ≡ []) × (received ≡ [])

-- ---- shares

-- n items from a place on are a batch: they begin behind whole batches of 256, and are 256 or as many as are left.
pub record IsBatchAt (outline : Outline) (place n : ℕ) : Type 0 where
  pub batches : ℕ
  pub begins : place ≡ 256 * batches
  pub some : place < length outline.lens
  pub size : n ≡ min 256 (length outline.lens - place)

-- A cloud gave shares of the first `place` items. Then n more were asked for, and the reply is this refusal; a strange
-- one's kind is its first byte.
pub record RefusedShares (shape : Shape) (user : UserId) (tag : Tag) (version : Version) (outline : Outline)
    (place n : ℕ) (e : RestoreErr) (sent received : List (List ℕ)) (cloud : CloudNo) (recipe : Recipe)
    (strings : List (List ℕ)) : Type 0 where
  pub asked : HasAskedForShares user tag version (take (place + n) (fps_in recipe.items)) sent
  pub heard : List (List ℕ)
  pub reply : List ℕ
  pub in_order : received ≡ heard ++ reply ∷ []
  pub brought : HasBrought shape recipe strings heard
  pub agrees : outline_of recipe ≡ outline
  pub count : length strings ≡ place
  pub shares : AreSharesOfSecrets shape outline recipe strings place
  pub refuses : Refuses cloud (reply_at reply) (NoShares n) e
  pub kind : let came : Result (List (List ℕ)) RestoreErr = Err e in NamesKind reply came

-- The string of this item has another length than a share; those in front of it are shares.
pub record LengthDiffers (shape : Shape) (outline : Outline) (recipe : Recipe) (strings : List (List ℕ))
    (place n secret found wanted : ℕ) : Type 0 where
  pub from : place ≤ secret
  pub within : secret < place + n
  pub front : AreSharesOfSecrets shape outline recipe strings secret
  pub found_is : found ≡ length (string_of strings secret)
  pub wanted_is : wanted ≡ share_len_of shape.k (len_at outline secret)
  pub differ : found ≢ wanted

-- The string of this item is as long as a share, and has another SHA-256 than its fingerprint; those in front of it are
-- shares.
pub record HashDiffers (shape : Shape) (outline : Outline) (recipe : Recipe) (strings : List (List ℕ))
    (place n secret : ℕ) (named found : Fp) : Type 0 where
  pub from : place ≤ secret
  pub within : secret < place + n
  pub front : AreSharesOfSecrets shape outline recipe strings secret
  pub len : length (string_of strings secret) ≡ share_len_of shape.k (len_at outline secret)
  pub named_is : named.0 ≡ (item_of recipe.items secret).fp.0
  pub found_is : found.0 ≡ sha256_of (string_of strings secret)
  pub differ : found.0 ≢ named.0

-- the refusal names the first string of this cloud that is no share
abbrev pub NamesString : Shape → Outline → ℕ → ℕ → RestoreErr → CloudNo → Recipe → List (List ℕ) → Type 0
NamesString shape outline place n (errors.ShareLength c secret found wanted) cloud recipe strings =
    (c ≡ cloud) × LengthDiffers shape outline recipe strings place n secret found wanted
NamesString shape outline place n (errors.BadShare c secret named found) cloud recipe strings =
    (c ≡ cloud) × HashDiffers shape outline recipe strings place n secret named found
NamesString shape outline place n errors.NoMemory cloud recipe strings = Unit {0}
NamesString shape outline place n e cloud recipe strings = ⊥

-- A cloud brought a string for each of the first place + n items, and this refusal names one of the last n.
pub record WrongString (shape : Shape) (user : UserId) (tag : Tag) (version : Version) (outline : Outline)
    (place n : ℕ) (e : RestoreErr) (sent received : List (List ℕ)) (cloud : CloudNo) (recipe : Recipe)
    (strings : List (List ℕ)) : Type 0 where
  pub came : HasCloudGiven shape user tag version outline (place + n) sent received recipe strings
  pub names : NamesString shape outline place n e cloud recipe strings

-- the reply of a cloud, or a string that it brought, is what the refusal names
abbrev pub WrongShares : Shape → UserId → Tag → Version → Outline → ℕ → ℕ → RestoreErr
    → (ℕ → List (List ℕ)) → (ℕ → List (List ℕ)) → CloudNo → Recipe → List (List ℕ) → Type 0
WrongShares shape user tag version outline place n e sent received cloud recipe strings =
    RefusedShares shape user tag version outline place n e (sent cloud.0) (received cloud.0) cloud recipe strings
    ⊎ WrongString shape user tag version outline place n e (sent cloud.0) (received cloud.0) cloud recipe strings

-- the first clouds so, the next one thus, and those behind it as the last
pub data EachUntil (Before At Behind : CloudNo → Recipe → List (List ℕ) → Type 0)
    : List CloudNo → List Recipe → List (List (List ℕ)) → Type 0 where
  There : (cloud : CloudNo) (recipe : Recipe) (strings : List (List ℕ)) (clouds : List CloudNo)
      (recipes : List Recipe) (all : List (List (List ℕ)))
      → At cloud recipe strings → Each Behind clouds recipes all
      → EachUntil Before At Behind (cloud ∷ clouds) (recipe ∷ recipes) (strings ∷ all)
  Further : (cloud : CloudNo) (recipe : Recipe) (strings : List (List ℕ)) (clouds : List CloudNo)
      (recipes : List Recipe) (all : List (List (List ℕ)))
      → Before cloud recipe strings → EachUntil Before At Behind clouds recipes all
      → EachUntil Before At Behind (cloud ∷ clouds) (recipe ∷ recipes) (strings ∷ all)

-- ---- secrets

-- the shares of each of the first n items open to a secret
abbrev pub AllOpen : Shape → Outline → List CloudNo → List (List (List ℕ)) → ℕ → Type 0
AllOpen shape outline clouds strings n = (i : ℕ) → i < n
    → (secret : List ℕ) × (opened shape (len_at outline i) (numbers_of clouds) (row strings i) ≡ Ok secret)

-- the shares of this item of the batch don't open, for this reason; those in front of it do
pub record IsSecretUnopened (shape : Shape) (outline : Outline) (clouds : List CloudNo) (strings : List (List (List ℕ)))
    (place n secret : ℕ) (why : RecoverErr) : Type 0 where
  pub from : place ≤ secret
  pub within : secret < place + n
  pub front : AllOpen shape outline clouds strings secret
  pub fails : opened shape (len_at outline secret) (numbers_of clouds) (row strings secret) ≡ Err why

-- the refusal names the first secret that doesn't open
abbrev pub NamesSecret : Shape → Outline → List CloudNo → List (List (List ℕ)) → ℕ → ℕ → RestoreErr → Type 0
NamesSecret shape outline clouds strings place n (errors.BadSecret secret named found) =
    IsSecretUnopened shape outline clouds strings place n secret (opening.BadSecret named found)
NamesSecret shape outline clouds strings place n (errors.BadPad secret at byte) =
    IsSecretUnopened shape outline clouds strings place n secret (opening.BadPad at byte)
NamesSecret shape outline clouds strings place n errors.NoMemory = Unit {0}
NamesSecret shape outline clouds strings place n e = ⊥

-- ---- all clouds

-- A fetch from these clouds stopped at one reply or comparison, which the refusal names. Up to there it went as a whole
-- one goes; behind it nothing was asked. The clouds are asked in order, for their recipes and then batch by batch; want
-- of memory alone is named by nothing.
pub data Stopped (shape : Shape) (user : UserId) (tag : Tag) (version : Version) (clouds : List CloudNo)
    (sent received : ℕ → List (List ℕ)) : RestoreErr → Type 0 where
  -- a cloud's reply to the request for its recipe
  AtRecipe : (e : RestoreErr) (recipes : List Recipe)
      → RecipesUntil (λ cloud. GaveRecipe shape user tag version (sent cloud.0) (received cloud.0))
      (λ cloud. RefusedRecipe shape user tag version e (sent cloud.0) (received cloud.0) cloud)
      (λ cloud. IsUnasked (sent cloud.0) (received cloud.0)) clouds recipes
      → Stopped shape user tag version clouds sent received e
  -- the comparison of a recipe with the first
  AtComparison : (e : RestoreErr) (cloud : CloudNo) (others : List CloudNo) (recipe : Recipe) (recipes : List Recipe)
      → clouds ≡ cloud ∷ others
      → EachRecipe (λ cloud. GaveRecipe shape user tag version (sent cloud.0) (received cloud.0)) clouds
      (recipe ∷ recipes)
      → Compares cloud.0 recipe (numbers_of others) recipes (Err e)
      → Stopped shape user tag version clouds sent received e
  -- a cloud's reply to a request for shares, or the length or the hash of a string in it
  AtShares : (e : RestoreErr) (outline : Outline) (recipes : List Recipe) (strings : List (List (List ℕ))) (place n : ℕ)
      → IsBatchAt outline place n → AllOpen shape outline clouds strings place
      → EachUntil (λ cloud. Gave shape user tag version outline (place + n) (sent cloud.0) (received cloud.0))
      (WrongShares shape user tag version outline place n e sent received)
      (λ cloud. Gave shape user tag version outline place (sent cloud.0) (received cloud.0)) clouds recipes strings
      → Stopped shape user tag version clouds sent received e
  -- the opening of a secret
  AtSecret : (e : RestoreErr) (outline : Outline) (recipes : List Recipe) (strings : List (List (List ℕ))) (place n : ℕ)
      → IsBatchAt outline place n
      → Each (λ cloud. Gave shape user tag version outline (place + n) (sent cloud.0) (received cloud.0)) clouds
      recipes strings
      → NamesSecret shape outline clouds strings place n e
      → Stopped shape user tag version clouds sent received e
