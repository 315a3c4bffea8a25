-- A Delete, by what its exits leave.
use Rattle.std.proofs.Common.{◌≡◌, ℕ, List, Some, None, Result, Err, refl, sym, ap, ◌∙◌, subst, arith}
use Rattle.std.proofs.lemmas.List.Elements.{All-nil}
use Rattle.std.specs.Prelude.{OnOk}
use Rattle.std.specs.FinMap.{get}
use Rattle.server_reads.specs.CdBase.ids.Fp.{Fp}
use Rattle.server_reads.specs.CdBase.ids.Tag.{Tag}
use Rattle.server_reads.specs.CdBase.ids.UserId.{UserId}
use Rattle.server_reads.specs.CdBase.ids.Version.{Version}
use Rattle.server_reads.specs.CdEdges.area.Area.TheVariants.{Shares, Recipes}
use Rattle.server_reads.specs.CdEdges.Disk.{Areas, Cloud}
use Rattle.server_reads.specs.CdEdges.Shelf.{Stays}
use Rattle.server_reads.proofs.CdEdges.Moments.{told_on}
use Rattle.server_reads.specs.ContainerLog.Caches.{Kept}
use Rattle.server_reads.specs.FileIndex.key.Entry.{Entry}
use Rattle.server_reads.specs.FileIndex.key.FileKey.{FileKey}
use Rattle.server_reads.specs.FileIndex.Files.{key_of}
use Rattle.server_reads.specs.Messages.request.Request.{Request}
use Rattle.server_reads.specs.Messages.request.Request.TheVariants as requests
use Rattle.server_reads.specs.Messages.reply.Reply.TheVariants as replies
use Rattle.server_reads.specs.Messages.Replies.{IsReply}
use Rattle.server_reads.specs.UserDedup.command.Command.{Command}
use Rattle.server_reads.specs.UserDedup.file_list.FileEntry.{FileEntry}
use Rattle.server_reads.specs.UserDedup.Cloud.{user_view}
use Rattle.server_reads.specs.UserDedup.Pages.{entry_at}
use Rattle.cloud_store.specs.CloudAreas.Standing.{Chain}
use Rattle.server_reads.specs.CloudMemory.Rooms.{memory_of}
use Rattle.cloud_store.specs.CloudDisk.Held.{IsFlushed}
use Rattle.cloud_store.specs.JournalHalves.Journals.{Where}
use Rattle.cloud_store.specs.RecordBody.Spelling as bodies
use Rattle.cloud_store.specs.RecordBody.Spelling.{Body, body_bytes}
use Rattle.cloud_store.specs.declared.store.CloudStore.{CloudStore}
use Rattle.cloud_store.specs.Adding.{KeepsOrGrows, IsGrownFrom}
use Rattle.cloud_store.specs.Store.{IsSettled, IsOpen, Serves, closed}
use Rattle.server_reads.specs.declared.blobs.BlobStop.{BlobStop}
use Rattle.server_reads.specs.declared.blobs.BlobStop.TheVariants as stops
use Rattle.server_reads.specs.Allowed.{Replies}
use Rattle.server_reads.specs.Found.{HasNone, IsFoundRecipe}
use Rattle.server_reads.specs.Reading.{HasReadCloud, IfRotten}
use Rattle.server_reads.proofs.Calling.{rotten_at, Answer}
use Rattle.server_reads.proofs.Held.{none_there}
use Rattle.server_commands.specs.Executing.{IsStoreReady, Executes}
use Rattle.server_commands.specs.Growing.{HasCommandAdded}
use Rattle.server_commands.specs.Steps.{Calls, IsLeftSettled, DoesByList, GoesBehind, HasOnlyReadRecipes, ReadsFile, IsOfDelete}
use Rattle.server_commands.proofs.Grown.{IsFilled, goes_on, is_added, still_ended}
use Rattle.server_commands.proofs.Calls.{ok_result, failed_result, ok_read, failed_read, calls_then, calls_failed, calls_read, no_calls, stays_still}
use Rattle.server_commands.proofs.Contents.{one_kind, rotten_said, rotten_leaves, delete_never_rotten, delete_adds, delete_gives, missing_given, rotten_of_delete}
use Rattle.server_commands.proofs.Deletions.{missing_served}
use Rattle.server_commands.proofs.Doing.{served_still, stays_executes, adds_executes}
use Rattle.server_commands.proofs.EntryLaws.{keeping}
use Rattle.server_commands.proofs.Reread.{does_read, behind_read, both_read, both_failed, leaves_failed, leaves_rotten, counts_at}

module _ (user : UserId) (tag : Tag) (version : Version) where
  abbrev request : Request
  request = requests.Delete user tag version

  abbrev key : FileKey
  key = key_of user.0 tag.0 version.0

  abbrev delete_record : Body
  delete_record = bodies.Delete (record { user = user; tag = tag; version = version })

  -- what adding the Delete of this recipe leaves of a store
  pub record Forgets {T E : Type 0} (x new : CloudStore) (b c : ℕ → Cloud) (f1 f2 : ℕ) (recipe content : List ℕ) (r : Result T E) : Type 0 where
    pub leaves : IsLeftSettled x new r
    pub does : (list : List Command) (chain : Chain) (file : FileEntry) → Serves list chain x (b x.header.cloud.0)
        → entry_at (user_view x.header.shape list user).files (tag, version) ≡ Some file → file.recipe ≡ recipe
        → DoesByList x new (b x.header.cloud.0) (c x.header.cloud.0) list (requests.Delete user tag version) content r
    pub behind : KeepsOrGrows x (body_bytes delete_record) (b x.header.cloud.0) (c x.header.cloud.0)
    pub goes : GoesBehind x new (body_bytes delete_record) (b x.header.cloud.0) (c x.header.cloud.0) (IsReply content replies.Deleted) r
    pub some : OnOk r (Replies content IsOfDelete)
    pub calls : Calls b c x.header.cloud.0 f1 f2 r

  -- what a list says of the bytes that were read
  abbrev pub ByLists : CloudStore → Cloud → List ℕ → Answer → Type 0
  ByLists old cloud bytes read = (list : List Command) (chain : Chain) → Serves list chain old cloud → ReadsFile (user_view old.header.shape list user).files (tag, version) bytes read

  delete_added : (w : Where) (old : CloudStore) (kept : List Kept) (new : CloudStore) (a b c : Cloud) → IsStoreReady old → Stays a b → IsGrownFrom w (keeping old kept) new (body_bytes delete_record) b c
      → HasCommandAdded w old new a c request
  delete_added w old kept new a b c ready stays g =
      is_added w old new a c request delete_record (keeping old kept).disk.shares (keeping old kept).disk.recipes refl ready.meet refl refl ready.none.shares
      (record { fit = ready.none.recipes.fit; bytes = ready.none.recipes.bytes })
      (All-nil IsFilled) (All-nil IsFilled) refl g.chain
      (subst (λ (x : Areas). IsFlushed (keeping old kept).disk.shares (x Shares) (c.now Shares)) stays.now g.shares)
      (subst (λ (x : Areas). IsFlushed (keeping old kept).disk.recipes (x Recipes) (c.now Recipes)) stays.now g.recipes)

  module _ (Same : Type 0) (old mid new : CloudStore) (a b c : ℕ → Cloud) (f0 f1 f2 : ℕ) (bytes content : List ℕ) where
    pub deleted : {T E : Type 0} (r : Result T E) (recipe : List ℕ) (entry : Entry) → IsStoreReady old → get (memory_of old.memory).files key ≡ Some entry → HasOnlyReadRecipes old mid (a old.header.cloud.0) (b old.header.cloud.0) → HasReadCloud a b old.header.cloud.0 f0 f1 ok_read
        → ByLists old (a old.header.cloud.0) bytes ok_read → recipe ≡ bytes → Forgets mid new b c f1 f2 recipe content r
        → Executes Same old new a c f0 f2 (requests.Delete user tag version) content r
    deleted r recipe entry ready has o read there front forgets =
        let n = old.header.cloud.0 in
        let kept = mid.disk.recipes.kept in
        let f = subst (λ (x : CloudStore). Forgets x new b c f1 f2 recipe content r) o.same forgets in
        adds_executes r Same old new a c f0 f2 request content
        (record { ready = f.leaves.ready; settled = f.leaves.settled; none = f.leaves.none; shut = f.leaves.shut; header = f.leaves.header })
        (λ list some.
        let file = there list some.c some.serves in
        let serves = subst (λ (x : CloudStore). Serves list some.c x (b n)) o.same (o.serves list some.c some.serves) in
        does_read old kept new (a n) (b n) (c n) read.stays r list request content (f.does list some.c file.file serves file.here (sym file.given ∙ sym front)))
        (record { body = delete_record; is = refl; chain = behind_read old kept new (a n) (b n) (c n) read.stays (body_bytes delete_record) read.call.told f.behind })
        (λ told w ended.
        goes_on r w (keeping old kept) old new (a n) (b n) (c n) request content (body_bytes delete_record) (IsReply content replies.Deleted)
        (λ answer is_deleted is. subst (IsReply content) is_deleted is)
        (delete_added w old kept new (a n) (b n) (c n) ready read.stays)
        (f.goes (told_on (a n) (b n) read.call.told told) w (still_ended w old (keeping old kept) (a n) (b n) refl read.stays.now ended)))
        (calls_then r a b c n f0 f1 f2 read f.calls)
        (λ none. let no : None ≡ Some entry = sym none ∙ has in cc)
        (delete_never_rotten content r f.some)
        (delete_adds content r (Same × (new ≡ old)) f.some)
        (delete_gives content r old.header.shape user tag version f.some)

  module _ (Same : Type 0) (old mid : CloudStore) (a b : ℕ → Cloud) (f0 f1 : ℕ) (content : List ℕ) (o : HasOnlyReadRecipes old mid (a old.header.cloud.0) (b old.header.cloud.0)) (ready : IsStoreReady old) where
    pub failed : (new : CloudStore) → HasReadCloud a b old.header.cloud.0 f0 f1 failed_read → new ≡ closed mid → IsSettled new → ¬ (IsOpen new)
        → Executes Same old new a b f0 f1 (requests.Delete user tag version) content failed_result
    failed new read is settled shut =
        let n = old.header.cloud.0 in
        stays_executes failed_result Same old new a b f0 f1 request content
        (leaves_failed old mid new (a n) (b n) o ready is settled shut)
        (both_failed old mid new (a n) (b n) o is read.stays)
        (calls_failed a b n f0 f1 read)
        (λ list some. tt) (λ named found. tt) (λ answer leaves. tt) tt tt (λ answer adds. tt)

    pub rotten : (stop : BlobStop) (named found : Fp) (bytes : List ℕ) → stop ≡ stops.Rotten named found → HasReadCloud {A = Unit {0}} a b old.header.cloud.0 f0 f1 (Err stop)
        → ByLists old (a old.header.cloud.0) bytes (Err stop) → IfRotten {A = Unit {0}} (Err stop) (IsFoundRecipe (a old.header.cloud.0) (memory_of old.memory) (key_of user.0 tag.0 version.0))
        → IsReply content (replies.Rotten named found) → Executes Same old mid a b f0 f1 (requests.Delete user tag version) content ok_result
    rotten stop named found bytes is read there lies content_is =
        let n = old.header.cloud.0 in
        let finds = IsFoundRecipe (a n) (memory_of old.memory) key in
        stays_executes ok_result Same old mid a b f0 f1 request content
        (leaves_rotten old mid (a n) (b n) o ready)
        (both_read old mid (a n) (b n) o read.stays)
        (calls_read a b n f0 f1 read.call (counts_at stop named found _ is read.counts))
        (λ list some. absurd (rotten_at stop named found (λ (x y : Fp). ⊥) is (there list some.c some.serves).never))
        (λ x y other. rotten_said content finds named found x y content_is other (rotten_at stop named found finds is lies))
        (λ answer leaves other. rotten_leaves content named found (Same × (mid ≡ old)) content_is answer leaves other)
        (record { reply = replies.Rotten named found; is = content_is; given = rotten_of_delete old.header.shape user tag version named found })
        (ap (λ (s : CloudStore). s.disk.journal) o.same)
        (λ answer is_deleted other. omega (arith, one_kind content 143 146 _ _ content_is.spelled (subst (IsReply content) is_deleted other).spelled))

  pub missing : (Same : Type 0) (old : CloudStore) (a : ℕ → Cloud) (f : ℕ) (content : List ℕ) → Same → IsStoreReady old → HasNone (memory_of old.memory) (key_of user.0 tag.0 version.0)
      → IsReply content replies.Missing → Executes Same old old a a f f (requests.Delete user tag version) content ok_result
  missing Same old a f content same ready none content_is =
      let n = old.header.cloud.0 in
      stays_executes ok_result Same old old a a f f request content
      (record { ready = ready; settled = ready.settled; none = ready.none; shut = tt; header = refl })
      (record { cloud = stays_still (a n); memory = refl })
      (no_calls a n f)
      (λ list some.
      served_still old old (a n) list request content replies.Missing
      (missing_served old list user tag version (none_there old.header.shape list (memory_of old.memory) user tag version some.serves.known.remembers none)) content_is.spelled some)
      (λ named found other. absurd (omega (arith, one_kind content 136 143 _ _ content_is.spelled other.spelled)))
      (λ answer leaves other. (same, refl))
      (missing_given old.header.shape user tag version content content_is)
      refl
      (λ answer is_deleted other. omega (arith, one_kind content 136 146 _ _ content_is.spelled (subst (IsReply content) is_deleted other).spelled))
