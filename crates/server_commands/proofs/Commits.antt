-- What a list answers to a Commit, and which reply a content is.
use Rattle.std.proofs.Common.{◌≡◌, ◌≢◌, ℕ, ◌<◌, ◌≤◌, Bool, true, false, cond, List, ◌∷◌, length, get_or, Option, Result, Ok, Err, refl, sym, ap, ◌∙◌, arith}
use Rattle.std.specs.Prelude.{OnOk, bytes_eq}
use Rattle.std.proofs.lemmas.List.{length-map}
use Rattle.server_reads.specs.CdBase.Limits.{recipe_limit}
use Rattle.server_reads.specs.CdBase.ids.Fp.{Fp}
use Rattle.server_reads.specs.CdBase.ids.Tag.{Tag}
use Rattle.server_reads.specs.CdBase.ids.UserId.{UserId}
use Rattle.server_reads.specs.CdBase.ids.Version.{Version}
use Rattle.server_reads.specs.CdBase.rooms.Room.{Room}
use Rattle.server_reads.specs.CdBase.rooms.Room.TheVariants as rooms
use Rattle.server_reads.specs.CdBase.shape.Shape.{Shape}
use Rattle.server_reads.specs.Messages.request.Request.{Request}
use Rattle.server_reads.specs.Messages.request.Request.TheVariants as requests
use Rattle.server_reads.specs.Messages.reply.Reply.{Reply}
use Rattle.server_reads.specs.Messages.reply.Reply.TheVariants as replies
use Rattle.server_reads.specs.Messages.Replies.{IsReply, room_number}
use Rattle.server_reads.specs.Recipe.items.Item.{Item}
use Rattle.server_reads.specs.Recipe.recipe.Recipe.{Recipe}
use Rattle.server_reads.specs.Recipe.Spelling.{IsRecipe, spelling}
use Rattle.server_reads.proofs.RecipeLaws.Written.{again, longest}
use Rattle.sha2.specs.Sha256.{sha256 as sha256_of}
use Rattle.server_reads.specs.UserDedup.command.Command.{Command}
use Rattle.server_reads.specs.UserDedup.command.Command.TheVariants as commands
use Rattle.server_reads.specs.UserDedup.file_list.FileEntry.{FileEntry}
use Rattle.server_reads.specs.UserDedup.Cloud.{fingerprint, user_view}
use Rattle.server_reads.specs.UserDedup.Owning.{fps_in, first_lacking}
use Rattle.server_reads.specs.UserDedup.Pages.{entry_at}
use Rattle.server_reads.specs.UserDedup.Requests.{fps_of, fps_read}
use Rattle.server_reads.specs.UserDedup.Dedup.{commit_outcome, answer_over}
use Rattle.server_reads.specs.Allowed.{Replies}
use Rattle.server_commands.specs.Leaving.{EntersNothing}
use Rattle.server_commands.specs.Serving.{IsGiven, GivesReply}
use Rattle.server_commands.specs.Steps.{IsOfNew, by_recipe}
use Rattle.server_commands.proofs.Contents.{one_kind}

-- ---- the recipe

pub few_bytes : (shape : Shape) (r : Recipe) (bytes : List ℕ) → IsRecipe shape (spelling r) r → bytes ≡ spelling r → length bytes ≤ recipe_limit
few_bytes shape r bytes is e = let long = ap length e in let most = longest shape r is.fits in omega (arith, long, most)

pub fps_spelled : (shape : Shape) (r : Recipe) → IsRecipe shape (spelling r) r → fps_of shape (spelling r) ≡ fps_in r.items
fps_spelled shape r is = ap fps_read (again shape r is.fits)

items_spelled : (shape : Shape) (r : Recipe) → IsRecipe shape (spelling r) r → length (fps_of shape (spelling r)) ≡ length r.items
items_spelled shape r is = ap length (fps_spelled shape r is) ∙ length-map r.items (λ (item : Item). item.fp)

pub fp_is : (s : List ℕ) (fp : Fp) → fp.0 ≡ sha256_of s → fingerprint s ≡ fp
fp_is s fp e = λ i. record { 0 = sym e i }

-- ---- what a list answers

module _ (shape : Shape) (number : ℕ) (list : List Command) (user : UserId) (tag : Tag) (version : Version) (recipe : List ℕ) where
  pub answers_commit : (lack : Option ℕ) (entry : Option FileEntry) → first_lacking (user_view shape list user).own (fps_of shape recipe) ≡ lack → entry_at (user_view shape list user).files (tag, version) ≡ entry
      → answer_over shape number list (requests.Commit user tag version recipe) ≡ commit_outcome lack entry (commands.Commit user tag version recipe) recipe
  answers_commit lack entry lacks at =
      ap (λ (l : Option ℕ). commit_outcome l (entry_at (user_view shape list user).files (tag, version)) (commands.Commit user tag version recipe) recipe) lacks
      ∙ ap (λ (e : Option FileEntry). commit_outcome lack e (commands.Commit user tag version recipe) recipe) at

-- ---- replies

given : (shape : Shape) (request : Request) (reply : Reply) (content : List ℕ) → IsReply content reply → IsGiven shape request reply → GivesReply shape request content
given shape request reply content is g = record { reply = reply; is = is; given = g }

pub committed_given : (shape : Shape) (user : UserId) (tag : Tag) (version : Version) (recipe : List ℕ) → IsGiven shape (requests.Commit user tag version recipe) replies.Committed
committed_given shape user tag version recipe = record {
  kind = tt;
  memory = λ e. let no : replies.Committed ≡ replies.NoMemory = e in cc;
  fault = λ e. let no : replies.Committed ≡ replies.Fault = e in cc;
  damaged = λ at byte e. let no : replies.Committed ≡ replies.Damaged at byte = e in cc;
}

exists_given : (shape : Shape) (user : UserId) (tag : Tag) (version : Version) (recipe : List ℕ) → IsGiven shape (requests.Commit user tag version recipe) replies.Exists
exists_given shape user tag version recipe = record {
  kind = tt;
  memory = λ e. let no : replies.Exists ≡ replies.NoMemory = e in cc;
  fault = λ e. let no : replies.Exists ≡ replies.Fault = e in cc;
  damaged = λ at byte e. let no : replies.Exists ≡ replies.Damaged at byte = e in cc;
}

pub rotten_of_commit : (shape : Shape) (user : UserId) (tag : Tag) (version : Version) (recipe : List ℕ) (named found : Fp) → IsGiven shape (requests.Commit user tag version recipe) (replies.Rotten named found)
rotten_of_commit shape user tag version recipe named found = record {
  kind = tt;
  memory = λ e. let no : replies.Rotten named found ≡ replies.NoMemory = e in cc;
  fault = λ e. let no : replies.Rotten named found ≡ replies.Fault = e in cc;
  damaged = λ at byte e. let no : replies.Rotten named found ≡ replies.Damaged at byte = e in cc;
}

pub lacking_given : (shape : Shape) (user : UserId) (tag : Tag) (version : Version) (r : Recipe) (content : List ℕ) (place : ℕ) → IsRecipe shape (spelling r) r → place < length r.items
    → IsReply content (replies.Lacking place) → GivesReply shape (requests.Commit user tag version (spelling r)) content
lacking_given shape user tag version r content place is within reply = record {
  reply = replies.Lacking place;
  is = reply;
  given = record {
    kind = omega (arith, items_spelled shape r is);
    memory = λ e. let no : replies.Lacking place ≡ replies.NoMemory = e in cc;
    fault = λ e. let no : replies.Lacking place ≡ replies.Fault = e in cc;
    damaged = λ at byte e. let no : replies.Lacking place ≡ replies.Damaged at byte = e in cc;
  };
}

-- ---- of a version that has an entry

compared_not : (content : List ℕ) (b : Bool) (a : ℕ) (rest : List ℕ) → 132 ≢ a → 133 ≢ a → IsReply content (cond b replies.Committed replies.Exists) → content ≡ a ∷ rest → ⊥
compared_not content true a rest one two is other = one (one_kind content 132 a _ rest is.spelled other)
compared_not content false a rest one two is other = two (one_kind content 133 a _ rest is.spelled other)

pub compared_never_rotten : (content there recipe : List ℕ) (named found : Fp) → IsReply content (by_recipe there recipe) → IsReply content (replies.Rotten named found) → ⊥
compared_never_rotten content there recipe named found is other =
    compared_not content (bytes_eq there recipe) 143 _ (λ e. omega (arith, e)) (λ e. omega (arith, e)) is other.spelled

pub compared_leaves : (content there recipe : List ℕ) (Left : Type 0) → IsReply content (by_recipe there recipe) → (answer : Reply) → EntersNothing answer → IsReply content answer → Left
compared_leaves content there recipe Left is (replies.Lacking place) leaves other =
    absurd (compared_not content (bytes_eq there recipe) 134 _ (λ e. omega (arith, e)) (λ e. omega (arith, e)) is other.spelled)
compared_leaves content there recipe Left is (replies.Full room used need limit) leaves other =
    absurd (compared_not content (bytes_eq there recipe) 140 _ (λ e. omega (arith, e)) (λ e. omega (arith, e)) is other.spelled)
compared_leaves content there recipe Left is answer leaves other = elim leaves [ ]

pub compared_gives : (shape : Shape) (user : UserId) (tag : Tag) (version : Version) (there recipe content : List ℕ) → IsReply content (by_recipe there recipe)
    → GivesReply shape (requests.Commit user tag version recipe) content
compared_gives shape user tag version there recipe content is = by (bytes_eq there recipe) is
  where
    by : (b : Bool) → IsReply content (cond b replies.Committed replies.Exists) → GivesReply shape (requests.Commit user tag version recipe) content
    by true w = given shape _ replies.Committed content w (committed_given shape user tag version recipe)
    by false w = given shape _ replies.Exists content w (exists_given shape user tag version recipe)

pub rotten_enters : (content : List ℕ) (named found : Fp) (Left : Type 0) → IsReply content (replies.Rotten named found) → (answer : Reply) → EntersNothing answer → IsReply content answer → Left
rotten_enters content named found Left is (replies.Lacking place) leaves other = absurd (omega (arith, one_kind content 143 134 _ _ is.spelled other.spelled))
rotten_enters content named found Left is (replies.Full room used need limit) leaves other = absurd (omega (arith, one_kind content 143 140 _ _ is.spelled other.spelled))
rotten_enters content named found Left is answer leaves other = elim leaves [ ]

-- ---- of a version that has none

new_not : (content : List ℕ) (reply : Reply) (a : ℕ) (rest : List ℕ) → 132 ≢ a → 140 ≢ a → IsReply content reply → IsOfNew reply → content ≡ a ∷ rest → ⊥
new_not content replies.Committed a rest one two is of other = one (one_kind content 132 a _ rest is.spelled other)
new_not content (replies.Full room used need limit) a rest one two is of other = two (one_kind content 140 a _ rest is.spelled other)
new_not content reply a rest one two is of other = elim of [ ]

new_given : (shape : Shape) (user : UserId) (tag : Tag) (version : Version) (recipe : List ℕ) (reply : Reply) → IsOfNew reply → IsGiven shape (requests.Commit user tag version recipe) reply
new_given shape user tag version recipe replies.Committed of = committed_given shape user tag version recipe
new_given shape user tag version recipe (replies.Full room used need limit) of = record {
  kind = tt;
  memory = λ e. let no : replies.Full room used need limit ≡ replies.NoMemory = e in cc;
  fault = λ e. let no : replies.Full room used need limit ≡ replies.Fault = e in cc;
  damaged = λ at byte e. let no : replies.Full room used need limit ≡ replies.Damaged at byte = e in cc;
}
new_given shape user tag version recipe reply of = elim of [ ]

module _ {T E : Type 0} (content : List ℕ) where
  pub new_never_rotten : (r : Result T E) → OnOk r (Replies content IsOfNew) → (named found : Fp) → OnOk r (IsReply content (replies.Rotten named found) → ⊥)
  new_never_rotten (Err e) s named found = tt
  new_never_rotten (Ok v) s named found = λ other. new_not content s.reply 143 _ (λ e. omega (arith, e)) (λ e. omega (arith, e)) s.is s.said other.spelled

  pub new_leaves : (r : Result T E) (Left : Type 0) → OnOk r (Replies content IsOfNew)
      → ((room : Room) (used need limit : ℕ) → room ≢ rooms.Journal → OnOk r (IsReply content (replies.Full room used need limit) → Left))
      → (answer : Reply) → EntersNothing answer → OnOk r (IsReply content answer → Left)
  new_leaves (Err e) Left s full answer leaves = tt
  new_leaves (Ok v) Left s full (replies.Lacking place) leaves = λ other. absurd (new_not content s.reply 134 _ (λ e. omega (arith, e)) (λ e. omega (arith, e)) s.is s.said other.spelled)
  new_leaves (Ok v) Left s full (replies.Full room used need limit) leaves = full room used need limit leaves
  new_leaves (Ok v) Left s full answer leaves = elim leaves [ ]

  pub new_gives : (r : Result T E) (shape : Shape) (user : UserId) (tag : Tag) (version : Version) (recipe : List ℕ) → OnOk r (Replies content IsOfNew)
      → OnOk r (GivesReply shape (requests.Commit user tag version recipe) content)
  new_gives (Err e) shape user tag version recipe s = tt
  new_gives (Ok v) shape user tag version recipe s = record { reply = s.reply; is = s.is; given = new_given shape user tag version recipe s.reply s.said }

-- ---- Full

of_journal : (room : Room) → 3 ≡ room_number room → room ≡ rooms.Journal
of_journal rooms.Shares e = absurd (omega (arith, e))
of_journal rooms.Recipes e = absurd (omega (arith, e))
of_journal rooms.Journal e = refl
of_journal rooms.Fps e = absurd (omega (arith, e))
of_journal rooms.Owners e = absurd (omega (arith, e))
of_journal rooms.Files e = absurd (omega (arith, e))

-- Full of the journal is Full of no other room
pub only_journal : (content : List ℕ) (used need limit : ℕ) (room : Room) (u n l : ℕ) → IsReply content (replies.Full rooms.Journal used need limit) → IsReply content (replies.Full room u n l) → room ≡ rooms.Journal
only_journal content used need limit room u n l one two = of_journal room (ap (λ (x : List ℕ). get_or x 1 0) (sym one.spelled ∙ two.spelled))

pub committed_or_full : (content : List ℕ) (room : Room) (u n l : ℕ) → IsReply content replies.Committed → IsReply content (replies.Full room u n l) → ⊥
committed_or_full content room u n l one two = omega (arith, one_kind content 132 140 _ _ one.spelled two.spelled)
