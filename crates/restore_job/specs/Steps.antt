-- What the steps of a restore leave.
use Rattle.std.specs.Prelude.{◌≡◌, ◌≢◌, ℕ, ◌+◌, ◌<◌, ◌≤◌, ◌⊎◌, List, [], ◌∷◌, ◌++◌, length, map, slice_index_or, Option, Some, None, unwrap_or, Result, Ok, Err, All, IsTrue}
use Rattle.std.specs.List.{Contains, flat_map}
use Rattle.sha2.specs.Sha256.{sha256 as sha256_of}
use Rattle.user_dedup.specs.CdBase.Lengths.{share_len_of}
use Rattle.user_dedup.specs.CdBase.Limits.{secret_limit}
use Rattle.user_dedup.specs.CdBase.ids.CloudNo.{CloudNo}
use Rattle.user_dedup.specs.CdBase.ids.Tag.{Tag}
use Rattle.user_dedup.specs.CdBase.ids.UserId.{UserId}
use Rattle.user_dedup.specs.CdBase.ids.Version.{Version}
use Rattle.user_dedup.specs.CdBase.shape.Shape.{Shape}
use Rattle.caont_rs.specs.declared.opening.RecoverErr.TheVariants as opening
use Rattle.user_dedup.specs.Recipe.Reading.{recipe_at}
use Rattle.user_dedup.specs.Recipe.items.Item.{Item}
use Rattle.user_dedup.specs.Recipe.recipe.Recipe.{Recipe}
use Rattle.user_dedup.specs.Messages.reply.Reply.{Reply}
use Rattle.user_dedup.specs.Messages.reply.Reply.TheVariants as replies
use Rattle.user_dedup.specs.Messages.ReplyViews.{kind_in}
use Rattle.user_dedup.specs.Cloud.{held_string}
use Rattle.user_dedup.specs.Exec.{Peer}
use Rattle.user_dedup.specs.Link.{LinkTelling}
use Rattle.restore_job.specs.Asking.{Reads, ReadFails, AreRead, StoppedAt}
use Rattle.restore_job.specs.Refusals.{Caused, Causes, Shown, Shows}
use Rattle.restore_job.specs.Restored
use Rattle.restore_job.specs.Restored.{Unrestored, Given, no_item, item_of, string_at, recipe_in, missing, wrong_strings, wrong_length, differing}
use Rattle.restore_job.specs.declared.error.RestoreErr.{RestoreErr}
use Rattle.restore_job.specs.declared.error.RestoreErr.TheVariants as errors

-- ---- what a reply says

-- a reply that no server gives to a request for a recipe
abbrev pub NoRecipe : Shape → Reply → Type 0
NoRecipe shape (replies.Recipe bytes) = (recipe : Recipe) → recipe_at shape bytes ≢ Ok recipe
NoRecipe shape replies.Missing = ⊥
NoRecipe shape replies.Fault = ⊥
NoRecipe shape (replies.Damaged at byte) = ⊥
NoRecipe shape (replies.Rotten named found) = ⊥
NoRecipe shape replies.NoMemory = ⊥
NoRecipe shape reply = Unit {0}

-- a reply that no server gives to a request for so many shares
abbrev pub NoShares : ℕ → Reply → Type 0
NoShares n (replies.Shares shares) = length shares ≢ n
NoShares n replies.Fault = ⊥
NoShares n (replies.Damaged at byte) = ⊥
NoShares n (replies.Rotten named found) = ⊥
NoShares n replies.NoMemory = ⊥
NoShares n reply = Unit {0}

-- the refusal that a reply is, where it brings nothing and `missing` is what Missing says
abbrev pub refusal : CloudNo → ℕ → RestoreErr → Reply → RestoreErr
refusal cloud kind missing replies.Missing = missing
refusal cloud kind missing replies.Fault = errors.CloudFault cloud
refusal cloud kind missing (replies.Damaged at byte) = errors.CloudDamaged cloud at byte
refusal cloud kind missing (replies.Rotten named found) = errors.CloudRotten cloud named found
refusal cloud kind missing replies.NoMemory = errors.CloudNoMemory cloud
refusal cloud kind missing reply = errors.Strange cloud kind

-- a cloud's refusal that any request may have
abbrev pub Refuses : CloudNo → Result Reply ℕ → (Reply → Type 0) → RestoreErr → Type 0
Refuses cloud read IsStrange (errors.CloudFault c) = (c ≡ cloud) × (read ≡ Ok replies.Fault)
Refuses cloud read IsStrange (errors.CloudDamaged c at byte) = (c ≡ cloud) × (read ≡ Ok (replies.Damaged at byte))
Refuses cloud read IsStrange (errors.CloudRotten c named found) = (c ≡ cloud) × (read ≡ Ok (replies.Rotten named found))
Refuses cloud read IsStrange (errors.CloudNoMemory c) = (c ≡ cloud) × (read ≡ Ok replies.NoMemory)
Refuses cloud read IsStrange (errors.Strange c kind) = (c ≡ cloud) × ((reply : Reply) → read ≡ Ok reply → IsStrange reply)
Refuses cloud read IsStrange errors.NoMemory = Unit {0}
Refuses cloud read IsStrange e = ⊥

abbrev pub RecipeRefused : Shape → CloudNo → Result Reply ℕ → RestoreErr → Type 0
RecipeRefused shape cloud read (errors.Missing c) = (c ≡ cloud) × (read ≡ Ok replies.Missing)
RecipeRefused shape cloud read e = Refuses cloud read (NoRecipe shape) e

-- the recipe in a reply, or the refusal that it is
abbrev pub RecipeFrom : Shape → CloudNo → Result Reply ℕ → Result Recipe RestoreErr → Type 0
RecipeFrom shape cloud read (Ok recipe) = (bytes : List ℕ) × (read ≡ Ok (replies.Recipe bytes)) × (recipe_at shape bytes ≡ Ok recipe)
RecipeFrom shape cloud read (Err e) = RecipeRefused shape cloud read e

-- so many shares in a reply, or the refusal that it is
abbrev pub SharesFrom : CloudNo → ℕ → Result Reply ℕ → Result (List (List ℕ)) RestoreErr → Type 0
SharesFrom cloud n read (Ok shares) = (read ≡ Ok (replies.Shares shares)) × (length shares ≡ n)
SharesFrom cloud n read (Err e) = Refuses cloud read (NoShares n) e

-- the kind of a strange reply is its first byte
abbrev pub HasKind : List ℕ → RestoreErr → Type 0
HasKind content (errors.Strange c kind) = kind ≡ kind_in content
HasKind content e = Unit {0}

abbrev pub NamesKind : {A : Type 0} → List ℕ → Result A RestoreErr → Type 0
NamesKind content (Ok x) = Unit {0}
NamesKind content (Err e) = HasKind content e

-- ---- recipes

-- a told cloud was asked for a recipe
abbrev pub RecipeTold : Shape → UserId → Tag × Version → CloudNo → Result Recipe RestoreErr → Peer → Peer → Type 0
RecipeTold shape user key cloud (Ok recipe) old new = Reads old new × (recipe_in shape new.list user key ≡ Some recipe)
RecipeTold shape user key cloud (Err (errors.Missing c)) old new = (c ≡ cloud) × Reads old new × (recipe_in shape new.list user key ≡ None)
RecipeTold shape user key cloud (Err (errors.CloudFault c)) old new = (c ≡ cloud) × ReadFails old new
RecipeTold shape user key cloud (Err (errors.Lost c)) old new = c ≡ cloud
RecipeTold shape user key cloud (Err errors.NoMemory) old new = Unit {0}
RecipeTold shape user key cloud (Err e) old new = ⊥

abbrev pub recipes_in : Shape → UserId → Tag × Version → (ℕ → Peer) → List ℕ → List (Option Recipe)
recipes_in shape user key peers clouds = map (λ cloud. recipe_in shape (peers cloud).list user key) clouds

-- told clouds were asked for recipes
abbrev pub RecipesTold : Shape → UserId → Tag × Version → List ℕ → Result (List Recipe) RestoreErr → (ℕ → Peer) → (ℕ → Peer) → Type 0
RecipesTold shape user key clouds (Ok recipes) before after = AreRead clouds before after × (recipes_in shape user key after clouds ≡ map Some recipes)
RecipesTold shape user key clouds (Err (errors.Missing c)) before after =
    (missing shape (λ cloud. (after cloud).list) user key clouds ≡ Some (Restored.Missing c.0)) × StoppedAt c.0 Reads clouds before after
RecipesTold shape user key clouds (Err (errors.CloudFault c)) before after = StoppedAt c.0 ReadFails clouds before after
RecipesTold shape user key clouds (Err (errors.Lost c)) before after = Contains clouds c.0
RecipesTold shape user key clouds (Err errors.NoMemory) before after = Unit {0}
RecipesTold shape user key clouds (Err e) before after = ⊥

-- the lengths of two items that stand first, and those behind them
abbrev pub NextPair : List Item → List Item → Option (ℕ × ℕ × List Item × List Item) → Type 0
NextPair one other None = (one ≡ []) ⊎ (other ≡ [])
NextPair one other (Some x) = (a : Item) × (b : Item) × (one ≡ a ∷ x.2) × (other ≡ b ∷ x.3) × (a.secret_len ≡ x.0) × (b.secret_len ≡ x.1)

-- what comparing recipes with the first one says
abbrev pub Compares : ℕ → Recipe → List ℕ → List Recipe → Result (Unit {0}) RestoreErr → Type 0
Compares cloud recipe clouds others (Ok u) = (differing cloud recipe clouds others ≡ None)
Compares cloud recipe clouds others (Err (errors.RecipesDiffer a b place)) = differing cloud recipe clouds others ≡ Some (Restored.RecipesDiffer a.0 b.0 place)
Compares cloud recipe clouds others (Err e) = ⊥

-- ---- shares

-- a told cloud stands settled, and this is its recipe
pub record ReadyAt (shape : Shape) (user : UserId) (key : Tag × Version) (recipe : Recipe) (p : Peer) : Type 0 where
  pub recipe_is : recipe_in shape p.list user key ≡ Some recipe
  pub settled : p.pending ≡ None

-- told clouds stand settled, and these are their recipes
pub record Ready (shape : Shape) (user : UserId) (key : Tag × Version) (clouds : List ℕ) (recipes : List Recipe) (peers : ℕ → Peer) : Type 0 where
  pub recipes_are : recipes_in shape user key peers clouds ≡ map Some recipes
  pub settled : (cloud : ℕ) → Contains clouds cloud → (peers cloud).pending ≡ None

-- of these clouds the told ones stand settled, and these are their recipes
abbrev pub ReadyWhere : {L : Type 0} → LinkTelling L → L → Shape → UserId → Tag × Version → List ℕ → List Recipe → (ℕ → Peer) → Type 0
ReadyWhere t link shape user key [] recipes peers = Unit {0}
ReadyWhere t link shape user key (cloud ∷ clouds) [] peers = Unit {0}
ReadyWhere t link shape user key (cloud ∷ clouds) (recipe ∷ recipes) peers =
    (IsTrue (t.told link cloud) → ReadyAt shape user key recipe (peers cloud)) × ReadyWhere t link shape user key clouds recipes peers

-- what asking a cloud for a recipe leaves, told or not
abbrev pub RecipeShown : {L : Type 0} → LinkTelling L → L → Shape → UserId → Tag × Version → ℕ → Result Recipe RestoreErr → (ℕ → Peer) → (ℕ → Peer) → Type 0
RecipeShown t link shape user key cloud (Ok recipe) before after = IsTrue (t.told link cloud) → ReadyAt shape user key recipe (after cloud)
RecipeShown t link shape user key cloud (Err e) before after = Shown t link shape user key e before after

-- what asking clouds for recipes leaves, told or not
abbrev pub RecipesCaused : {L : Type 0} → LinkTelling L → L → Shape → UserId → Tag × Version → List ℕ → Result (List Recipe) RestoreErr → (ℕ → Peer) → (ℕ → Peer) → Type 0
RecipesCaused t link shape user key clouds (Ok recipes) before after = ReadyWhere t link shape user key clouds recipes after
RecipesCaused t link shape user key clouds (Err e) before after = Caused t link shape user key e before after

abbrev pub RecipesShown : {L : Type 0} → LinkTelling L → L → Shape → UserId → Tag × Version → List ℕ → Result (List Recipe) RestoreErr → (ℕ → Peer) → (ℕ → Peer) → Type 0
RecipesShown t link shape user key clouds (Ok recipes) before after = ReadyWhere t link shape user key clouds recipes after
RecipesShown t link shape user key clouds (Err e) before after = Shown t link shape user key e before after

-- the secrets have the same lengths in both
abbrev pub SameLens : List Item → List Item → Type 0
SameLens one other = (i : ℕ) → (item_of one i).secret_len ≡ (item_of other i).secret_len

-- what asking a cloud for shares leaves, told or not
abbrev pub SharesShown : {L : Type 0} → LinkTelling L → L → Shape → UserId → Tag × Version → ℕ → List Item → Recipe → Result (Unit {0}) RestoreErr → (ℕ → Peer) → (ℕ → Peer) → Type 0
SharesShown t link shape user key cloud firsts recipe result before after =
    (IsTrue (t.told link cloud) → ReadyAt shape user key recipe (before cloud)) → SameLens firsts recipe.items → Shows t link shape user key result before after

-- what going on with these recipes leaves, told or not
abbrev pub BatchCaused : {L : Type 0} → LinkTelling L → L → Shape → UserId → Tag × Version → List ℕ → List Recipe → Result (Unit {0}) RestoreErr → (ℕ → Peer) → (ℕ → Peer) → Type 0
BatchCaused t link shape user key clouds recipes result before after =
    ReadyWhere t link shape user key clouds recipes before → Causes t link shape user key result before after

-- the same where the secrets have these lengths in each recipe
abbrev pub BatchShown : {L : Type 0} → LinkTelling L → L → Shape → UserId → Tag × Version → List ℕ → List Item → List Recipe → Result (Unit {0}) RestoreErr → (ℕ → Peer) → (ℕ → Peer) → Type 0
BatchShown t link shape user key clouds firsts recipes result before after =
    ReadyWhere t link shape user key clouds recipes before → All (λ (recipe : Recipe). SameLens firsts recipe.items) recipes → Shows t link shape user key result before after

abbrev pub AgreedShown : {L : Type 0} → LinkTelling L → L → Shape → UserId → Tag × Version → List ℕ → List Recipe → Result (Unit {0}) RestoreErr → (ℕ → Peer) → (ℕ → Peer) → Type 0
AgreedShown t link shape user key clouds recipes result before after =
    ReadyWhere t link shape user key clouds recipes before → Shows t link shape user key result before after

-- what a cloud with this list gives
abbrev pub given_of : Peer → ℕ → Recipe → Given
given_of p cloud recipe = record { cloud = cloud; recipe = recipe; held = λ fp. unwrap_or (held_string p.list fp) [] }

abbrev pub givens : (ℕ → Peer) → List ℕ → List Recipe → List Given
givens peers [] recipes = []
givens peers (cloud ∷ clouds) [] = []
givens peers (cloud ∷ clouds) (recipe ∷ recipes) = given_of (peers cloud) cloud recipe ∷ givens peers clouds recipes

abbrev pub room_of : List (List ℕ) → ℕ → List ℕ
room_of rooms j = slice_index_or rooms j []

-- string j is a share's length long, and has the fingerprint that the recipe names
pub record IsShareOf (shape : Shape) (firsts items : List Item) (place : ℕ) (shares : List (List ℕ)) (j : ℕ) : Type 0 where
  pub len : length (slice_index_or shares j []) ≡ share_len_of shape.k (item_of firsts (place + j)).secret_len
  pub hash : sha256_of (slice_index_or shares j []) ≡ (item_of items (place + j)).fp.0

-- the string of secret i is no share: those in front of it are
pub record WrongLength (shape : Shape) (firsts items : List Item) (place n : ℕ) (shares : List (List ℕ)) (secret found wanted : ℕ) : Type 0 where
  pub j : ℕ
  pub within : j < n
  pub secret_is : secret ≡ place + j
  pub found_is : found ≡ length (slice_index_or shares j [])
  pub wanted_is : wanted ≡ share_len_of shape.k (item_of firsts (place + j)).secret_len
  pub differ : found ≢ wanted
  pub front : (i : ℕ) → i < j → IsShareOf shape firsts items place shares i

pub record WrongHash (shape : Shape) (firsts items : List Item) (place n : ℕ) (shares : List (List ℕ)) (secret : ℕ) (named found : List ℕ) : Type 0 where
  pub j : ℕ
  pub within : j < n
  pub secret_is : secret ≡ place + j
  pub named_is : named ≡ (item_of items (place + j)).fp.0
  pub found_is : found ≡ sha256_of (slice_index_or shares j [])
  pub differ : found ≢ named
  pub len : length (slice_index_or shares j []) ≡ share_len_of shape.k (item_of firsts (place + j)).secret_len
  pub front : (i : ℕ) → i < j → IsShareOf shape firsts items place shares i

-- each room has one of the strings more
abbrev pub WithStrings : ℕ → List (List ℕ) → List (List ℕ) → List (List ℕ) → Type 0
WithStrings n shares old new = (j : ℕ) → j < n → room_of new j ≡ room_of old j ++ slice_index_or shares j []

-- The strings that a cloud sent are looked at in order, first the length and then the hash, and appended each to its room.
abbrev pub Takes : Shape → CloudNo → List Item → List Item → ℕ → ℕ → List (List ℕ) → List (List ℕ) → List (List ℕ) → Result (Unit {0}) RestoreErr → Type 0
Takes shape cloud firsts items place n shares old new (Ok u) = ((j : ℕ) → j < n → IsShareOf shape firsts items place shares j) × WithStrings n shares old new
Takes shape cloud firsts items place n shares old new (Err (errors.ShareLength c secret found wanted)) =
    (c ≡ cloud) × WrongLength shape firsts items place n shares secret found wanted
Takes shape cloud firsts items place n shares old new (Err (errors.BadShare c secret named found)) =
    (c ≡ cloud) × WrongHash shape firsts items place n shares secret named.0 found.0
Takes shape cloud firsts items place n shares old new (Err errors.NoMemory) = Unit {0}
Takes shape cloud firsts items place n shares old new (Err e) = ⊥

-- a told cloud was asked for the shares of a batch
abbrev pub SharesTold : Shape → CloudNo → List Item → Given → ℕ → ℕ → Result (Unit {0}) RestoreErr → List (List ℕ) → List (List ℕ) → Peer → Peer → Type 0
SharesTold shape cloud firsts given place n (Ok u) rooms filled old new =
    (wrong_strings shape firsts given place n ≡ None) × ((j : ℕ) → j < n → room_of filled j ≡ room_of rooms j ++ string_at given (place + j))
SharesTold shape cloud firsts given place n (Err (errors.ShareLength c secret found wanted)) rooms filled old new =
    wrong_strings shape firsts given place n ≡ Some (Restored.ShareLength c.0 secret found wanted)
SharesTold shape cloud firsts given place n (Err (errors.CloudFault c)) rooms filled old new = (c ≡ cloud) × ReadFails old new
SharesTold shape cloud firsts given place n (Err (errors.Lost c)) rooms filled old new = c ≡ cloud
SharesTold shape cloud firsts given place n (Err errors.NoMemory) rooms filled old new = Unit {0}
SharesTold shape cloud firsts given place n (Err e) rooms filled old new = ⊥

-- told clouds were asked for the shares of a batch, and `all` is what they give
abbrev pub BatchTold : Shape → List ℕ → List Item → List Given → ℕ → ℕ → Result (Unit {0}) RestoreErr → List (List ℕ) → List (List ℕ) → (ℕ → Peer) → (ℕ → Peer) → Type 0
BatchTold shape clouds firsts all place n (Ok u) rooms filled before after =
    (wrong_length shape firsts place n all ≡ None) × ((j : ℕ) → j < n → room_of filled j ≡ room_of rooms j ++ flat_map (λ given. string_at given (place + j)) all)
BatchTold shape clouds firsts all place n (Err (errors.ShareLength c secret found wanted)) rooms filled before after =
    wrong_length shape firsts place n all ≡ Some (Restored.ShareLength c.0 secret found wanted)
BatchTold shape clouds firsts all place n (Err (errors.CloudFault c)) rooms filled before after = Contains clouds c.0 × ReadFails (before c.0) (after c.0)
BatchTold shape clouds firsts all place n (Err (errors.Lost c)) rooms filled before after = Contains clouds c.0
BatchTold shape clouds firsts all place n (Err errors.NoMemory) rooms filled before after = Unit {0}
BatchTold shape clouds firsts all place n (Err e) rooms filled before after = ⊥

-- ---- secrets

-- the secrets of a batch were opened as this outcome says
abbrev pub OpensSecretsTo : Result (List ℕ) Unrestored → Result (Unit {0}) RestoreErr → List ℕ → List ℕ → Type 0
OpensSecretsTo outcome (Ok u) old new = (file : List ℕ) × (new ≡ old ++ file) × (outcome ≡ Ok file)
OpensSecretsTo outcome (Err (errors.BadSecret secret named found)) old new = outcome ≡ Err (Restored.NotOpened secret (opening.BadSecret named found))
OpensSecretsTo outcome (Err (errors.BadPad secret at byte)) old new = outcome ≡ Err (Restored.NotOpened secret (opening.BadPad at byte))
OpensSecretsTo outcome (Err errors.NoMemory) old new = Unit {0}
OpensSecretsTo outcome (Err e) old new = ⊥

-- a list, and maybe more behind it
abbrev pub Grows : List ℕ → List ℕ → Type 0
Grows old new = (more : List ℕ) × (new ≡ old ++ more)

-- an item of a recipe
pub record IsItem (item : Item) : Type 0 where
  pub some : 1 ≤ item.secret_len
  pub few : item.secret_len ≤ secret_limit
  pub fp : length item.fp.0 ≡ 32

abbrev pub AreItemsAt : List Item → Type 0
AreItemsAt items = (i : ℕ) → i < length items → IsItem (item_of items i)

-- what looking at one string says
abbrev pub ChecksString : Shape → CloudNo → ℕ → ℕ → List ℕ → List ℕ → Result (Unit {0}) RestoreErr → Type 0
ChecksString shape cloud secret len fp string (Ok u) = (length string ≡ share_len_of shape.k len)
    × (sha256_of string ≡ fp)
ChecksString shape cloud secret len fp string (Err (errors.ShareLength c s found wanted)) =
    (c ≡ cloud) × (s ≡ secret) × (found ≡ length string) × (wanted ≡ share_len_of shape.k len) × (found ≢ wanted)
ChecksString shape cloud secret len fp string (Err (errors.BadShare c s named found)) =
    (c ≡ cloud) × (s ≡ secret) × (named.0 ≡ fp) × (found.0 ≡ sha256_of string) × (found.0 ≢ named.0) × (length string ≡ share_len_of shape.k len)
ChecksString shape cloud secret len fp string (Err e) = ⊥
