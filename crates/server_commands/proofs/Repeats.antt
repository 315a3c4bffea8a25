-- A Commit that adds nothing, by what its exits leave.
use Rattle.std.proofs.Common.{◌≡◌, ℕ, ◌<◌, List, length, Some, None, Err, refl, sym, ap, ◌∙◌, subst, arith}
use Rattle.std.specs.FinMap.{get}
use Rattle.server_reads.specs.CdBase.ids.Fp.{Fp}
use Rattle.server_reads.specs.CdBase.ids.Tag.{Tag}
use Rattle.server_reads.specs.CdBase.ids.UserId.{UserId}
use Rattle.server_reads.specs.CdBase.ids.Version.{Version}
use Rattle.server_reads.specs.CdEdges.Disk.{Cloud}
use Rattle.server_reads.specs.FileIndex.key.Entry.{Entry}
use Rattle.server_reads.specs.FileIndex.Files.{key_of}
use Rattle.server_reads.specs.Messages.request.Request.{Request}
use Rattle.server_reads.specs.Messages.request.Request.TheVariants as requests
use Rattle.server_reads.specs.Messages.reply.Reply.{Reply}
use Rattle.server_reads.specs.Messages.reply.Reply.TheVariants as replies
use Rattle.server_reads.specs.Messages.Replies.{IsReply, reply_bytes}
use Rattle.server_reads.specs.Recipe.recipe.Recipe.{Recipe}
use Rattle.server_reads.specs.Recipe.Spelling.{IsRecipe, spelling}
use Rattle.server_reads.specs.UserDedup.command.Command.{Command}
use Rattle.server_reads.specs.UserDedup.Cloud.{user_view}
use Rattle.server_reads.specs.UserDedup.Owning.{fps_in, first_lacking}
use Rattle.server_reads.specs.UserDedup.Pages.{entry_at}
use Rattle.server_reads.specs.UserDedup.Requests.{fps_of}
use Rattle.server_reads.specs.UserDedup.Spending.{full_for}
use Rattle.server_reads.specs.CloudMemory.Memory.{Memory, Remembers}
use Rattle.server_reads.specs.CloudMemory.Rooms.{memory_of}
use Rattle.cloud_store.specs.declared.store.CloudStore.{CloudStore}
use Rattle.cloud_store.specs.Store.{IsSettled, IsOpen, closed}
use Rattle.server_reads.specs.declared.blobs.BlobStop.{BlobStop}
use Rattle.server_reads.specs.declared.blobs.BlobStop.TheVariants as stops
use Rattle.server_reads.specs.Found.{IsFoundRecipe}
use Rattle.server_reads.specs.Reading.{HasReadCloud, IfRotten}
use Rattle.server_reads.proofs.Calling.{rotten_at}
use Rattle.server_commands.specs.Executing.{IsStoreReady, Executes}
use Rattle.server_commands.specs.Steps.{HasOnlyReadRecipes, by_recipe}
use Rattle.server_commands.proofs.Calls.{ok_result, failed_result, ok_read, failed_read, calls_failed, calls_read, no_calls, stays_still}
use Rattle.server_commands.proofs.Contents.{one_kind, rotten_said}
use Rattle.server_commands.proofs.Commits.{answers_commit, fps_spelled, lacking_given, rotten_of_commit, rotten_enters, compared_never_rotten, compared_leaves, compared_gives}
use Rattle.server_commands.proofs.Doing.{served_only, served_still, stays_executes}
use Rattle.server_commands.proofs.Deleted.{ByLists}
use Rattle.server_commands.proofs.Reread.{both_read, both_failed, leaves_failed, leaves_rotten, counts_at}

module _ (user : UserId) (tag : Tag) (version : Version) where
  -- the user owns what the recipe names, by each list that the memory has
  abbrev pub Owns : CloudStore → List ℕ → Type 0
  Owns s recipe = (list : List Command) → Remembers s.header.shape list (memory_of s.memory) → first_lacking (user_view s.header.shape list user).own (fps_of s.header.shape recipe) ≡ None

  -- where there is an entry none is entered
  entered_once : (m : Memory) (entry : Entry) (answer : Reply) → get m.files (key_of user.0 tag.0 version.0) ≡ Some entry → (answer ≡ replies.Committed) × (get m.files (key_of user.0 tag.0 version.0) ≡ None) → ⊥
  entered_once m entry answer has adds = let no : None ≡ Some entry = sym adds.1 ∙ has in cc

  module _ (Same : Type 0) (old mid : CloudStore) (a b : ℕ → Cloud) (f0 f1 : ℕ) (recipe content : List ℕ) (o : HasOnlyReadRecipes old mid (a old.header.cloud.0) (b old.header.cloud.0)) (ready : IsStoreReady old) where
    abbrev request : Request
    request = requests.Commit user tag version recipe

    pub compared : (there bytes : List ℕ) (entry : Entry) → get (memory_of old.memory).files (key_of user.0 tag.0 version.0) ≡ Some entry → Owns old recipe → HasReadCloud a b old.header.cloud.0 f0 f1 ok_read → ByLists user tag version old (a old.header.cloud.0) bytes ok_read → there ≡ bytes
        → IsReply content (by_recipe there recipe) → Executes Same old mid a b f0 f1 (requests.Commit user tag version recipe) content ok_result
    compared there bytes entry has owns read lists front is =
        let n = old.header.cloud.0 in
        stays_executes ok_result Same old mid a b f0 f1 request content
        (leaves_rotten old mid (a n) (b n) o ready)
        (both_read old mid (a n) (b n) o read.stays)
        (calls_read a b n f0 f1 read.call read.counts)
        (λ list some.
        let file = lists list some.c some.serves in
        served_still old mid (b n) list request content (by_recipe file.file.recipe recipe)
        (served_only (full_for old.header.shape old.header.rooms list) _ (by_recipe file.file.recipe recipe)
        (answers_commit old.header.shape n list user tag version recipe None (Some file.file) (owns list some.serves.known.remembers) file.here))
        (is.spelled ∙ ap (λ (l : List ℕ). reply_bytes (by_recipe l recipe)) (front ∙ file.given))
        (record { c = some.c; serves = o.serves list some.c some.serves }))
        (λ named found other. absurd (compared_never_rotten content there recipe named found is other))
        (λ answer leaves other. compared_leaves content there recipe (Same × (mid ≡ old)) is answer leaves other)
        (compared_gives old.header.shape user tag version there recipe content is)
        (ap (λ (s : CloudStore). s.disk.journal) o.same)
        (λ answer adds other. entered_once (memory_of old.memory) entry answer has adds)

    pub unread : (new : CloudStore) → HasReadCloud a b old.header.cloud.0 f0 f1 failed_read → new ≡ closed mid → IsSettled new → ¬ (IsOpen new)
        → Executes Same old new a b f0 f1 (requests.Commit user tag version recipe) content failed_result
    unread new read is settled shut =
        let n = old.header.cloud.0 in
        stays_executes failed_result Same old new a b f0 f1 request content
        (leaves_failed old mid new (a n) (b n) o ready is settled shut)
        (both_failed old mid new (a n) (b n) o is read.stays)
        (calls_failed a b n f0 f1 read)
        (λ list some. tt) (λ named found. tt) (λ answer leaves. tt) tt tt (λ answer adds. tt)

    pub rotten : (stop : BlobStop) (named found : Fp) (bytes : List ℕ) (entry : Entry) → get (memory_of old.memory).files (key_of user.0 tag.0 version.0) ≡ Some entry → stop ≡ stops.Rotten named found → HasReadCloud {A = Unit {0}} a b old.header.cloud.0 f0 f1 (Err stop)
        → ByLists user tag version old (a old.header.cloud.0) bytes (Err stop)
        → IfRotten {A = Unit {0}} (Err stop) (IsFoundRecipe (a old.header.cloud.0) (memory_of old.memory) (key_of user.0 tag.0 version.0))
        → IsReply content (replies.Rotten named found) → Executes Same old mid a b f0 f1 (requests.Commit user tag version recipe) content ok_result
    rotten stop named found bytes entry has is read lists lies content_is =
        let n = old.header.cloud.0 in
        let finds = IsFoundRecipe (a n) (memory_of old.memory) (key_of user.0 tag.0 version.0) in
        stays_executes ok_result Same old mid a b f0 f1 request content
        (leaves_rotten old mid (a n) (b n) o ready)
        (both_read old mid (a n) (b n) o read.stays)
        (calls_read a b n f0 f1 read.call (counts_at stop named found _ is read.counts))
        (λ list some. absurd (rotten_at stop named found (λ (x y : Fp). ⊥) is (lists list some.c some.serves).never))
        (λ x y other. rotten_said content finds named found x y content_is other (rotten_at stop named found finds is lies))
        (λ answer leaves other. rotten_enters content named found (Same × (mid ≡ old)) content_is answer leaves other)
        (record { reply = replies.Rotten named found; is = content_is; given = rotten_of_commit old.header.shape user tag version recipe named found })
        (ap (λ (s : CloudStore). s.disk.journal) o.same)
        (λ answer adds other. entered_once (memory_of old.memory) entry answer has adds)

  pub lacking : (Same : Type 0) (old : CloudStore) (a : ℕ → Cloud) (f : ℕ) (r : Recipe) (content : List ℕ) (place : ℕ) → Same → IsStoreReady old → IsRecipe old.header.shape (spelling r) r → place < length r.items
      → ((list : List Command) → Remembers old.header.shape list (memory_of old.memory) → first_lacking (user_view old.header.shape list user).own (fps_in r.items) ≡ Some place)
      → IsReply content (replies.Lacking place) → Executes Same old old a a f f (requests.Commit user tag version (spelling r)) content ok_result
  lacking Same old a f r content place same ready is within lacks content_is =
      let n = old.header.cloud.0 in let shape = old.header.shape in
      stays_executes ok_result Same old old a a f f (requests.Commit user tag version (spelling r)) content
      (record { ready = ready; settled = ready.settled; none = ready.none; shut = tt; header = refl })
      (record { cloud = stays_still (a n); memory = refl })
      (no_calls a n f)
      (λ list some.
      served_still old old (a n) list (requests.Commit user tag version (spelling r)) content (replies.Lacking place)
      (served_only (full_for shape old.header.rooms list) _ (replies.Lacking place)
      (answers_commit shape n list user tag version (spelling r) (Some place) (entry_at (user_view shape list user).files (tag, version))
      (ap (first_lacking (user_view shape list user).own) (fps_spelled shape r is) ∙ lacks list some.serves.known.remembers) refl))
      content_is.spelled some)
      (λ named found other. absurd (omega (arith, one_kind content 134 143 _ _ content_is.spelled other.spelled)))
      (λ answer leaves other. (same, refl))
      (lacking_given shape user tag version r content place is within content_is)
      refl
      (λ answer adds other. omega (arith, one_kind content 134 132 _ _ content_is.spelled (subst (IsReply content) adds.0 other).spelled))
