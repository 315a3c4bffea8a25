-- A version of a file that was fetched: what each cloud was asked, what it gave, and the bytes that follow from it.
use Rattle.std.specs.Prelude.{◌≡◌, ◌≢◌, ℕ, ◌<◌, List, [], ◌∷◌, length, map, take, drop, slice_index_or, Ok}
use Rattle.std.specs.List.{flat_map}
use Rattle.sha2.specs.Sha256.{sha256 as sha256_of}
use Rattle.ports_link.specs.CdBase.Lengths.{share_len_of}
use Rattle.ports_link.specs.CdBase.Numbers.{numbers_of}
use Rattle.ports_link.specs.CdBase.ids.CloudNo.{CloudNo}
use Rattle.ports_link.specs.CdBase.ids.Fp.{Fp}
use Rattle.ports_link.specs.CdBase.ids.Tag.{Tag}
use Rattle.ports_link.specs.CdBase.ids.UserId.{UserId}
use Rattle.ports_link.specs.CdBase.ids.Version.{Version}
use Rattle.ports_link.specs.CdBase.shape.Shape.{Shape}
use Rattle.subset_restore.specs.CaontRs.Opening.{opened}
use Rattle.subset_restore.specs.Recipe.Reading.{recipe_at}
use Rattle.subset_restore.specs.Recipe.items.Item.{Item}
use Rattle.subset_restore.specs.Recipe.recipe.Recipe.{Recipe}
use Rattle.ports_link.specs.Messages.ReplyReading.{reply_at}
use Rattle.ports_link.specs.Messages.Requests.{IsRequest}
use Rattle.ports_link.specs.Messages.reply.Reply.TheVariants as replies
use Rattle.ports_link.specs.Messages.request.Request.TheVariants as requests
use Rattle.ports_link.specs.UserDedup.Owning.{fps_in}
use Rattle.subset_restore.specs.RestoreJob.Brought.{in_a_row}
use Rattle.subset_restore.specs.RestoreJob.Restored.{item_of}

-- In what the recipes of a file agree: the lengths of its path, of itself, and of each of its secrets.
pub record Outline : Type 0 where
  pub name_len : ℕ
  pub file_len : ℕ
  pub lens : List ℕ

abbrev pub outline_of : Recipe → Outline
outline_of recipe = record {
  name_len = recipe.name_len;
  file_len = recipe.file_len;
  lens = map (λ (item : Item). item.secret_len) recipe.items;
}

-- the length of secret i
abbrev pub len_at : Outline → ℕ → ℕ
len_at outline i = slice_index_or outline.lens i 0

-- ---- one cloud

-- The requests are for the shares with these fingerprints, in order and 256 at a time.
abbrev pub AskShares : UserId → List Fp → List (List ℕ) → Type 0
AskShares user fps [] = fps ≡ []
AskShares user fps (request ∷ sent) =
    (fps ≢ []) × IsRequest request (requests.GetShares user (take 256 fps)) × AskShares user (drop 256 fps) sent

-- First the recipe is asked for, and then the shares with these fingerprints.
pub record HasAskedForShares (user : UserId) (tag : Tag) (version : Version) (fps : List Fp)
    (sent : List (List ℕ)) : Type 0
  where
    pub first : List ℕ
    pub more : List (List ℕ)
    pub in_order : sent ≡ first ∷ more
    pub recipe : IsRequest first (requests.GetRecipe user tag version)
    pub shares : AskShares user fps more

-- the reply is a recipe of the shape, and this one
abbrev pub BringsRecipe : Shape → Recipe → List ℕ → Type 0
BringsRecipe shape recipe reply =
    (bytes : List ℕ) × (reply_at reply ≡ Ok (replies.Recipe bytes)) × (recipe_at shape bytes ≡ Ok recipe)

-- The replies bring these strings, in order and 256 at a time.
abbrev pub BringShares : List (List ℕ) → List (List ℕ) → Type 0
BringShares strings [] = strings ≡ []
BringShares strings (reply ∷ received) =
    (strings ≢ []) × (reply_at reply ≡ Ok (replies.Shares (take 256 strings))) × BringShares (drop 256 strings) received

-- First this recipe came, and then these strings.
pub record HasBrought (shape : Shape) (brought : Recipe) (strings received : List (List ℕ)) : Type 0 where
  pub first : List ℕ
  pub more : List (List ℕ)
  pub in_order : received ≡ first ∷ more
  pub recipe : BringsRecipe shape brought first
  pub shares : BringShares strings more

abbrev pub string_of : List (List ℕ) → ℕ → List ℕ
string_of strings i = slice_index_or strings i []

-- The string is as long as a share of a secret of that length, and its SHA-256 is the fingerprint.
pub record IsShareOfSecret (shape : Shape) (secret_len : ℕ) (fp : Fp) (string : List ℕ) : Type 0 where
  pub len : length string ≡ share_len_of shape.k secret_len
  pub hash : sha256_of string ≡ fp.0

-- the strings of the first n items are shares of secrets of these lengths
abbrev pub AreSharesOfSecrets : Shape → Outline → Recipe → List (List ℕ) → ℕ → Type 0
AreSharesOfSecrets shape outline recipe strings n =
    (i : ℕ) → i < n → IsShareOfSecret shape (len_at outline i) (item_of recipe.items i).fp (string_of strings i)

-- A cloud was asked for its recipe and for the shares of the recipe's first n items, in batches, and for nothing else.
-- It gave a recipe with this outline, and n strings.
pub record HasCloudGiven (shape : Shape) (user : UserId) (tag : Tag) (version : Version) (outline : Outline) (n : ℕ)
    (sent received : List (List ℕ)) (recipe : Recipe) (strings : List (List ℕ)) : Type 0 where
  pub asked : HasAskedForShares user tag version (take n (fps_in recipe.items)) sent
  pub brought : HasBrought shape recipe strings received
  pub agrees : outline_of recipe ≡ outline
  pub count : length strings ≡ n

-- and the strings are shares of these items
pub record Gave (shape : Shape) (user : UserId) (tag : Tag) (version : Version) (outline : Outline) (n : ℕ)
    (sent received : List (List ℕ)) (recipe : Recipe) (strings : List (List ℕ)) : Type 0 where
  pub came : HasCloudGiven shape user tag version outline n sent received recipe strings
  pub shares : AreSharesOfSecrets shape outline recipe strings n

-- ---- all clouds

-- so of each cloud, its recipe and its strings
pub data Each (P : CloudNo → Recipe → List (List ℕ) → Type 0)
    : List CloudNo → List Recipe → List (List (List ℕ)) → Type 0 where
  NoMore : Each P [] [] []
  OneMore : (cloud : CloudNo) (recipe : Recipe) (strings : List (List ℕ)) (clouds : List CloudNo)
      (recipes : List Recipe) (all : List (List (List ℕ)))
      → P cloud recipe strings → Each P clouds recipes all
      → Each P (cloud ∷ clouds) (recipe ∷ recipes) (strings ∷ all)

-- each cloud's string of item i, one behind another
abbrev pub row : List (List (List ℕ)) → ℕ → List ℕ
row all i = flat_map (λ (strings : List (List ℕ)). string_of strings i) all

-- A version of a file was fetched from these clouds: their recipes agree, each gave a share of each item, and the bytes
-- are what the shares of the items open to, one behind another.
pub record Fetched (shape : Shape) (user : UserId) (tag : Tag) (version : Version) (clouds : List CloudNo)
    (sent received : ℕ → List (List ℕ)) (bytes : List ℕ) : Type 0 where
  pub outline : Outline
  pub recipes : List Recipe
  pub strings : List (List (List ℕ))
  pub gave : Each (λ cloud.
      Gave shape user tag version outline (length outline.lens) (sent cloud.0) (received cloud.0)) clouds recipes
      strings
  pub secrets : List (List ℕ)
  pub count : length secrets ≡ length outline.lens
  pub opens : (i : ℕ) → i < length secrets
      → opened shape (len_at outline i) (numbers_of clouds) (row strings i) ≡ Ok (slice_index_or secrets i [])
  pub whole : bytes ≡ in_a_row secrets
