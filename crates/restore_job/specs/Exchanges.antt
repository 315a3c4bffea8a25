-- What was said with the clouds of a link: which replies came to which requests, in order.
use Rattle.std.specs.Prelude.{◌≡◌, ◌≢◌, ℕ, ◌+◌, ◌-◌, ◌<◌, ◌≤◌, min, length, map, ◌==◌, Some, List, [], ◌∷◌, ◌++◌, take, drop, if◌then◌else◌, Result, Ok, Err, OnOk}
use Rattle.user_dedup.specs.CdBase.ids.UserId.{UserId}
use Rattle.user_dedup.specs.MessageFields.Fingerprints.{batch_limit}
use Rattle.user_dedup.specs.Messages.Requests.{IsRequest}
use Rattle.user_dedup.specs.Messages.request.Request.TheVariants as requests
use Rattle.user_dedup.specs.Recipe.items.Item.{Item}
use Rattle.user_dedup.specs.Owning.{fps_in}
use Rattle.user_dedup.specs.CdBase.ids.CloudNo.{CloudNo}
use Rattle.user_dedup.specs.CdBase.shape.Shape.{Shape}
use Rattle.user_dedup.specs.Messages.ReplyReading.{reply_at}
use Rattle.user_dedup.specs.Recipe.recipe.Recipe.{Recipe}
use Rattle.user_dedup.specs.Link.{IsReading, LinkTelling, Passes, Talk, first_reply, said}
use Rattle.user_dedup.specs.Link.{Exchange as Passed}
use Rattle.user_dedup.specs.CdBase.Reading.{AreBytes}
use Rattle.restore_job.specs.Steps.{RecipeFrom, SharesFrom, NamesKind, Takes, OpensSecretsTo, Compares, room_of}
use Rattle.user_dedup.specs.CdBase.Numbers.{numbers_of}
use Rattle.user_dedup.specs.CdBase.ids.Tag.{Tag}
use Rattle.user_dedup.specs.CdBase.ids.Version.{Version}
use Rattle.caont_rs.specs.Opening.{opened}
use Rattle.restore_job.specs.Restored.{item_of, of_secret}
use Rattle.restore_job.specs.declared.error.RestoreErr.{RestoreErr}
use Rattle.restore_job.specs.declared.error.RestoreErr.TheVariants as errors

-- a request to a cloud, and its reply
pub record CloudExchange : Type 0 where
  pub cloud : ℕ
  pub request : List ℕ
  pub reply : List ℕ

-- what was said with a cloud behind one more exchange, of this cloud or another
abbrev pub behind_one : ℕ → CloudExchange → Talk → Talk
behind_one cloud x talk = if x.cloud == cloud then said talk x.request else talk

abbrev pub behind_all : ℕ → List CloudExchange → Talk → Talk
behind_all cloud [] talk = talk
behind_all cloud (x ∷ log) talk = behind_all cloud log (behind_one cloud x talk)

-- the replies of a cloud are those that were to come, in order
abbrev pub AreReplies : ℕ → List CloudExchange → Talk → Type 0
AreReplies cloud [] talk = Unit {0}
AreReplies cloud (x ∷ log) talk = (x.cloud ≡ cloud → x.reply ≡ first_reply talk.coming) × AreReplies cloud log (behind_one cloud x talk)

-- With each cloud these exchanges were had, whatever was said before.
abbrev pub HasSpoken : {L : Type 0} → (L → ℕ → Talk → Type 0) → L → L → List CloudExchange → Type 0
HasSpoken talk old new log = (cloud : ℕ) (before : Talk) → talk old cloud before → talk new cloud (behind_all cloud log before) × AreReplies cloud log before

-- an exchange as the link's own, which brought its reply
abbrev pub passed_on : CloudExchange → Passed
passed_on x = record { cloud = x.cloud; content = x.request; reply = Some x.reply }

-- The link passed on these exchanges, one after another, and each asked for what adds nothing.
abbrev pub PassesAll : {L : Type 0} → LinkTelling L → L → L → List CloudExchange → Type 0
PassesAll t old new log = Passes t (λ e. IsReading e.content) old (map passed_on log) new

-- So it was said, and passed on by the link.
abbrev pub Exchanged : {L : Type 0} → LinkTelling L → (L → ℕ → Talk → Type 0) → L → L → List CloudExchange → Type 0
Exchanged t talk old new log = HasSpoken talk old new log × PassesAll t old new log

-- Unless an ask was lost, or memory ran out.
abbrev pub Unlost : {A : Type 0} → Result A RestoreErr → Type 0 → Type 0
Unlost (Ok x) P = P
Unlost (Err (errors.Lost c)) P = Unit {0}
Unlost (Err errors.NoMemory) P = Unit {0}
Unlost (Err e) P = P

-- With each cloud but one some exchanges were had, whatever was said before.
abbrev pub SpeaksBeside : {L : Type 0} → (L → ℕ → Talk → Type 0) → ℕ → L → L → Type 0
SpeaksBeside talk lost old new = (cloud : ℕ) → cloud ≢ lost → (before : Talk) → talk old cloud before
    → (log : List CloudExchange) × talk new cloud (behind_all cloud log before) × AreReplies cloud log before

-- Where an ask was lost, exchanges were had with each other cloud.
abbrev pub LostSaid : {L A : Type 0} → (L → ℕ → Talk → Type 0) → L → L → Result A RestoreErr → Type 0
LostSaid talk old new (Ok x) = Unit {0}
LostSaid talk old new (Err (errors.Lost c)) = SpeaksBeside talk c.0 old new
LostSaid talk old new (Err e) = Unit {0}

-- a cloud was asked this, and its reply brings a recipe or is this refusal
pub record RecipeSaid (shape : Shape) (request : List ℕ) (cloud : CloudNo) (x : CloudExchange) (result : Result Recipe RestoreErr) : Type 0 where
  pub cloud_is : x.cloud ≡ cloud.0
  pub request_is : x.request ≡ request
  pub came : RecipeFrom shape cloud (reply_at x.reply) result
  pub kind : NamesKind x.reply result
  pub bytes : AreBytes x.reply

-- a recipe in front of a result
abbrev pub with_first : Recipe → Result (List Recipe) RestoreErr → Result (List Recipe) RestoreErr
with_first recipe (Ok recipes) = Ok (recipe ∷ recipes)
with_first recipe (Err e) = Err e

abbrev pub with_front : List Recipe → Result (List Recipe) RestoreErr → Result (List Recipe) RestoreErr
with_front [] result = result
with_front (recipe ∷ recipes) result = with_first recipe (with_front recipes result)

-- Clouds were asked this in order, up to the first that refused.
pub data RecipesSaid (shape : Shape) (request : List ℕ) : List CloudNo → List CloudExchange → Result (List Recipe) RestoreErr → Type 0 where
  AllSaid : RecipesSaid shape request [] [] (Ok [])
  OneSaid : (cloud : CloudNo) (clouds : List CloudNo) (x : CloudExchange) (log : List CloudExchange) (recipe : Recipe) (result : Result (List Recipe) RestoreErr)
      → RecipeSaid shape request cloud x (Ok recipe) → RecipesSaid shape request clouds log result → RecipesSaid shape request (cloud ∷ clouds) (x ∷ log) (with_first recipe result)
  Refused : (cloud : CloudNo) (clouds : List CloudNo) (x : CloudExchange) (e : RestoreErr)
      → RecipeSaid shape request cloud x (Err e) → RecipesSaid shape request (cloud ∷ clouds) (x ∷ []) (Err e)

-- ---- shares

-- so many items, from a place on
abbrev pub items_at : ℕ → ℕ → List Item → List Item
items_at place n items = take (place + n - place) (drop place items)

-- the shares were looked at and appended in their rooms, or a reply was refused
abbrev pub TakenAs : Shape → CloudNo → List Item → List Item → ℕ → ℕ → Result (List (List ℕ)) RestoreErr → List (List ℕ) → List (List ℕ) → Result (Unit {0}) RestoreErr → Type 0
TakenAs shape cloud firsts items place n (Ok shares) old new result = Takes shape cloud firsts items place n shares old new result
TakenAs shape cloud firsts items place n (Err e) old new result = result ≡ Err e

-- A cloud was asked for its shares of so many secrets. Its reply brings them, which are then looked at in order, or is a refusal.
pub record SharesSaid (shape : Shape) (user : UserId) (cloud : CloudNo) (firsts : List Item) (recipe : Recipe) (place n : ℕ) (x : CloudExchange) (old new : List (List ℕ)) (result : Result (Unit {0}) RestoreErr) : Type 0 where
  pub cloud_is : x.cloud ≡ cloud.0
  pub asked : IsRequest x.request (requests.GetShares user (fps_in (items_at place n recipe.items)))
  pub brought : Result (List (List ℕ)) RestoreErr
  pub came : SharesFrom cloud n (reply_at x.reply) brought
  pub kind : NamesKind x.reply brought
  pub bytes : AreBytes x.reply
  pub taken : TakenAs shape cloud firsts recipe.items place n brought old new result

-- Clouds were asked so in order, up to the first that refused or whose shares are wrong.
pub data BatchSaid (shape : Shape) (user : UserId) (firsts : List Item) (place n : ℕ) : List CloudNo → List Recipe → List CloudExchange → List (List ℕ) → List (List ℕ) → Result (Unit {0}) RestoreErr → Type 0 where
  AllTaken : (rooms : List (List ℕ)) → BatchSaid shape user firsts place n [] [] [] rooms rooms (Ok tt)
  OneTaken : (cloud : CloudNo) (clouds : List CloudNo) (recipe : Recipe) (recipes : List Recipe) (x : CloudExchange) (log : List CloudExchange) (old mid new : List (List ℕ)) (result : Result (Unit {0}) RestoreErr)
      → SharesSaid shape user cloud firsts recipe place n x old mid (Ok tt) → BatchSaid shape user firsts place n clouds recipes log mid new result
      → BatchSaid shape user firsts place n (cloud ∷ clouds) (recipe ∷ recipes) (x ∷ log) old new result
  OneRefused : (cloud : CloudNo) (clouds : List CloudNo) (recipe : Recipe) (recipes : List Recipe) (x : CloudExchange) (old new : List (List ℕ)) (e : RestoreErr)
      → SharesSaid shape user cloud firsts recipe place n x old new (Err e) → BatchSaid shape user firsts place n (cloud ∷ clouds) (recipe ∷ recipes) (x ∷ []) old new (Err e)

-- ---- secrets

-- the secrets of the first so many rooms were opened and appended
pub data OpenedTo (shape : Shape) (points : List ℕ) (firsts : List Item) (rooms : List (List ℕ)) (place : ℕ) : ℕ → List ℕ → List ℕ → Type 0 where
  NoneOpened : (out : List ℕ) → OpenedTo shape points firsts rooms place 0 out out
  OneOpened : (j : ℕ) (old mid new : List ℕ) → OpenedTo shape points firsts rooms place j old mid
      → OpensSecretsTo (of_secret (place + j) (opened shape (item_of firsts (place + j)).secret_len points (room_of rooms j))) (Ok tt) mid new
      → OpenedTo shape points firsts rooms place (j + 1) old new

-- a room's secret doesn't open, and those in front of it were appended
pub record StopsAt (shape : Shape) (points : List ℕ) (firsts : List Item) (rooms : List (List ℕ)) (place n : ℕ) (old new : List ℕ) (e : RestoreErr) : Type 0 where
  pub j : ℕ
  pub within : j < n
  pub mid : List ℕ
  pub front : OpenedTo shape points firsts rooms place j old mid
  pub stops : OpensSecretsTo (of_secret (place + j) (opened shape (item_of firsts (place + j)).secret_len points (room_of rooms j))) (Err e) mid new

abbrev pub OpensBatch : Shape → List ℕ → List Item → List (List ℕ) → ℕ → ℕ → List ℕ → List ℕ → Result (Unit {0}) RestoreErr → Type 0
OpensBatch shape points firsts rooms place n old new (Ok u) = OpenedTo shape points firsts rooms place n old new
OpensBatch shape points firsts rooms place n old new (Err e) = StopsAt shape points firsts rooms place n old new e

-- ---- batches

abbrev pub AreEmpty : ℕ → List (List ℕ) → Type 0
AreEmpty n rooms = (j : ℕ) → j < n → room_of rooms j ≡ []

-- A batch of secrets: the clouds were asked for their shares, and what came was opened in order.
pub data BatchRun (shape : Shape) (user : UserId) (clouds : List CloudNo) (points : List ℕ) (firsts : List Item) (recipes : List Recipe) (place n : ℕ) : List CloudExchange → List ℕ → List ℕ → Result (Unit {0}) RestoreErr → Type 0 where
  BatchOpened : (rooms filled : List (List ℕ)) (log : List CloudExchange) (old new : List ℕ) (result : Result (Unit {0}) RestoreErr) → AreEmpty n rooms
      → BatchSaid shape user firsts place n clouds recipes log rooms filled (Ok tt) → OpensBatch shape points firsts filled place n old new result
      → BatchRun shape user clouds points firsts recipes place n log old new result
  BatchUnread : (rooms filled : List (List ℕ)) (log : List CloudExchange) (out : List ℕ) (e : RestoreErr)
      → AreEmpty n rooms
      → BatchSaid shape user firsts place n clouds recipes log rooms filled (Err e) → BatchRun shape user clouds points firsts recipes place n log out out (Err e)

-- All secrets from a place on, 256 at a time and at last as many as are left, up to the first batch that stops.
pub data ItemsRun (shape : Shape) (user : UserId) (clouds : List CloudNo) (points : List ℕ) (firsts : List Item) (recipes : List Recipe) : ℕ → List CloudExchange → List ℕ → List ℕ → Result (Unit {0}) RestoreErr → Type 0 where
  ItemsDone : (place : ℕ) (out : List ℕ) → length firsts ≤ place → ItemsRun shape user clouds points firsts recipes place [] out out (Ok tt)
  ItemsNext : (place : ℕ) (log more : List CloudExchange) (old mid new : List ℕ) (result : Result (Unit {0}) RestoreErr) → place < length firsts
      → BatchRun shape user clouds points firsts recipes place (min batch_limit (length firsts - place)) log old mid (Ok tt)
      → ItemsRun shape user clouds points firsts recipes (place + min batch_limit (length firsts - place)) more mid new result
      → ItemsRun shape user clouds points firsts recipes place (log ++ more) old new result
  ItemsStop : (place : ℕ) (log : List CloudExchange) (old new : List ℕ) (e : RestoreErr) → place < length firsts
      → BatchRun shape user clouds points firsts recipes place (min batch_limit (length firsts - place)) log old new (Err e)
      → ItemsRun shape user clouds points firsts recipes place log old new (Err e)

-- ---- a restore

-- The recipes are compared with the first one, and then the secrets come.
pub data AgreedRun (shape : Shape) (user : UserId) (clouds : List CloudNo) : List Recipe → List CloudExchange → List ℕ → List ℕ → Result (Unit {0}) RestoreErr → Type 0 where
  NothingAsked : (out : List ℕ) → AgreedRun shape user clouds [] [] out out (Ok tt)
  Differ : (cloud : CloudNo) (others : List CloudNo) (recipe : Recipe) (recipes : List Recipe) (out : List ℕ) (e : RestoreErr) → clouds ≡ cloud ∷ others
      → Compares cloud.0 recipe (numbers_of others) recipes (Err e) → AgreedRun shape user clouds (recipe ∷ recipes) [] out out (Err e)
  Compared : (cloud : CloudNo) (others : List CloudNo) (recipe : Recipe) (recipes : List Recipe) (log : List CloudExchange) (old new : List ℕ) (result : Result (Unit {0}) RestoreErr) → clouds ≡ cloud ∷ others
      → Compares cloud.0 recipe (numbers_of others) recipes (Ok tt) → ItemsRun shape user clouds (numbers_of clouds) recipe.items (recipe ∷ recipes) 0 log old new result
      → AgreedRun shape user clouds (recipe ∷ recipes) log old new result

-- What a restore asked and what came, in order, and its result by this: the request for the recipes is that of the user's version of this tag.
pub data RestoreRun (shape : Shape) (user : UserId) (tag : Tag) (version : Version) (clouds : List CloudNo) : List CloudExchange → List ℕ → List ℕ → Result (Unit {0}) RestoreErr → Type 0 where
  NoRecipes : (request : List ℕ) (log : List CloudExchange) (out : List ℕ) (e : RestoreErr) → IsRequest request (requests.GetRecipe user tag version)
      → RecipesSaid shape request clouds log (Err e) → RestoreRun shape user tag version clouds log out out (Err e)
  HasRecipes : (request : List ℕ) (recipes : List Recipe) (log more : List CloudExchange) (old new : List ℕ) (result : Result (Unit {0}) RestoreErr) → IsRequest request (requests.GetRecipe user tag version)
      → RecipesSaid shape request clouds log (Ok recipes) → AgreedRun shape user clouds recipes more old new result
      → RestoreRun shape user tag version clouds (log ++ more) old new result

-- A restore over a link that tells its replies. `left` is what stood behind it, and stands where it answered Ok.
pub record RestoreSaid {L : Type 0} (talk : L → ℕ → Talk → Type 0) (before after : L) (shape : Shape) (user : UserId) (tag : Tag) (version : Version) (clouds : List ℕ) (old new : List ℕ) (result : Result (Unit {0}) RestoreErr) : Type 0 where
  pub chosen : List CloudNo
  pub chosen_are : numbers_of chosen ≡ clouds
  pub log : List CloudExchange
  pub spoken : HasSpoken talk before after log
  pub left : List ℕ
  pub run : RestoreRun shape user tag version chosen log old left result
  pub stands : OnOk result (new ≡ left)

-- Its exchanges are those that the link passed on, one after another.
pub record RestorePassed {L : Type 0} (t : LinkTelling L) (talk : L → ℕ → Talk → Type 0) (before after : L)
    (shape : Shape) (user : UserId) (tag : Tag) (version : Version) (clouds : List ℕ) (old new : List ℕ)
    (result : Result (Unit {0}) RestoreErr) : Type 0 where
  pub said : RestoreSaid talk before after shape user tag version clouds old new result
  pub passed : PassesAll t before after said.log
