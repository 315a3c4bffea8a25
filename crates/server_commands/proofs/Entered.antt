-- A Commit of a version that has no entry: its recipe is staged, and the command added.
use Rattle.std.proofs.Common.{◌≡◌, ◌≢◌, ℕ, ◌+◌, ◌≤◌, max, List, [], ◌∷◌, ◌++◌, length, Option, None, Result, Ok, Err, refl, sym, ap, ◌∙◌, subst, arith, length-append}
use Rattle.std.specs.Prelude.{OnOk, IsSome}
use Rattle.std.specs.List.{flat_map}
use Rattle.std.specs.Int.{w16, w32, w64, to_be_bytes}
use Rattle.std.proofs.lemmas.List.Elements.{All-nil, All-cons}
use Rattle.server_reads.specs.CdBase.Limits.{recipe_limit}
use Rattle.server_reads.specs.CdBase.ids.Fp.{Fp}
use Rattle.server_reads.specs.CdBase.ids.Tag.{Tag}
use Rattle.server_reads.specs.CdBase.ids.UserId.{UserId}
use Rattle.server_reads.specs.CdBase.ids.Version.{Version}
use Rattle.server_reads.specs.CdBase.rooms.Room.{Room}
use Rattle.server_reads.specs.CdBase.rooms.Room.TheVariants as rooms
use Rattle.server_reads.specs.CdBase.shape.Shape.{Shape}
use Rattle.server_reads.specs.CdEdges.Disk.{Cloud}
use Rattle.server_reads.specs.ContainerLog.Places.{place_of}
use Rattle.server_reads.specs.ContainerLog.States.{State, HasStaged, need_of}
use Rattle.server_reads.proofs.ContainerLog.Least.{place_behind}
use Rattle.server_reads.proofs.ContainerLog.Rooms.{room_staged}
use Rattle.server_reads.proofs.ContainerLog.Staged.{staged_end_of, staged_more}
use Rattle.server_reads.specs.FileIndex.key.Entry.{Entry}
use Rattle.server_reads.specs.FileIndex.Files.{key_of}
use Rattle.server_reads.specs.Messages.request.Request.{Request}
use Rattle.server_reads.specs.Messages.request.Request.TheVariants as requests
use Rattle.server_reads.specs.Messages.reply.Reply.TheVariants as replies
use Rattle.server_reads.specs.Messages.Requests.{FitsRequest}
use Rattle.server_reads.specs.Messages.Replies.{IsReply}
use Rattle.server_reads.specs.Recipe.recipe.Recipe.{Recipe}
use Rattle.server_reads.specs.Recipe.Spelling.{IsRecipe, item, spelling}
use Rattle.server_reads.specs.UserDedup.command.Command.{Command}
use Rattle.server_reads.specs.UserDedup.command.Command.TheVariants as commands
use Rattle.server_reads.specs.UserDedup.Cloud.{fingerprint, user_view}
use Rattle.server_reads.specs.UserDedup.Owning.{fps_in, first_lacking}
use Rattle.server_reads.specs.UserDedup.Dedup.{Outcome, Added}
use Rattle.cloud_store.specs.CloudAreas.Standing.{Chain}
use Rattle.cloud_store.proofs.DiskProofs.Standing.{none_staged}
use Rattle.server_reads.specs.CloudMemory.Memory.{Remembers}
use Rattle.server_reads.specs.CloudMemory.Rooms.{memory_of}
use Rattle.cloud_store.specs.declared.store.CloudStore.{CloudStore}
use Rattle.cloud_store.specs.Store.{EndsMeet, Serves}
use Rattle.cloud_store.specs.JournalHalves.Journals.{Where}
use Rattle.cloud_store.specs.RecordBody.Spelling as bodies
use Rattle.cloud_store.specs.RecordBody.Spelling.{body_bytes}
use Rattle.cloud_store.specs.Adding.{NoneStaged, IsCommit, EndBehind, IsGrownFrom, KeepsOrGrows, commit_body, unstaged}
use Rattle.cloud_store.proofs.Held.{recipe_staged}
use Rattle.server_reads.specs.Allowed.{Replies}
use Rattle.server_reads.specs.Found.{HasNone}
use Rattle.server_reads.proofs.Held.{none_there}
use Rattle.server_commands.specs.Executing.{IsStoreReady, Executes}
use Rattle.server_commands.specs.Growing.{HasCommandAdded, commit_record}
use Rattle.server_commands.specs.Serving.{IsServedByList}
use Rattle.server_commands.specs.Steps.{Calls, IsLeftSettled, DoesByList, GoesBehind, HasRecipeStaged, IsOfNew, IsAnsweredNew, staging}
use Rattle.server_commands.proofs.Commits.{answers_commit, few_bytes, fps_spelled, new_never_rotten, new_leaves, new_gives}
use Rattle.server_commands.proofs.Doing.{adds_executes}
use Rattle.server_commands.proofs.Grown.{IsFilled, goes_on, is_added}

-- ---- staging

pub recipe_room : (log : State) (recipe : List ℕ) → HasStaged log [] → length recipe ≤ recipe_limit → need_of log (length recipe) ≤ 4194304
recipe_room log recipe none few = room_staged log [] recipe recipe_limit none (All-nil (λ (b : List ℕ). length b ≤ recipe_limit)) few (omega (arith, few))

pub recipe_has : (s : CloudStore) (recipe : List ℕ) → IsStoreReady s → length recipe ≤ recipe_limit → HasStaged (staging s recipe).disk.recipes (recipe ∷ [])
recipe_has s recipe ready few = staged_more s.disk.recipes [] recipe ready.none.recipes (recipe_room s.disk.recipes recipe ready.none.recipes few)

-- ---- the ends of both logs

pub ends_met : (old new : CloudStore) (recipe : List ℕ) (len : ℕ) → HasRecipeStaged old recipe → length recipe ≡ len → EndBehind old new → new.memory.shares_end ≡ old.memory.shares_end
    → new.memory.recipes_end ≡ max old.memory.recipes_end (place_of old.memory.recipes_end len + len) → EndsMeet new
ends_met old new recipe len has long ends shares recipes = record {
  shares = ends.shares ∙ staged_end_of old.disk.shares [] has.shares ∙ has.meet.shares ∙ sym shares;
  recipes =
      let behind = place_behind old.memory.recipes_end len in
      let most : max old.memory.recipes_end (place_of old.memory.recipes_end len + len) ≡ place_of old.memory.recipes_end len + len = omega (arith, behind) in
      ends.recipes ∙ staged_end_of old.disk.recipes (recipe ∷ []) has.recipes ∙ (λ i. place_of (has.meet.recipes i) (long i) + long i) ∙ sym (recipes ∙ most);
}

-- ---- by a list

pub is_commit : (s : CloudStore) (list : List Command) (c : Chain) (cloud : Cloud) (user : UserId) (tag : Tag) (version : Version) (fp : Fp) (len : ℕ) (r : Recipe) → Serves list c s cloud
    → FitsRequest (requests.Commit user tag version (spelling r)) → IsAnsweredNew s.header list user tag version (spelling r) → IsRecipe s.header.shape (spelling r) r
    → fingerprint (spelling r) ≡ fp → length (spelling r) ≡ len → HasRecipeStaged s (spelling r) → IsCommit list c s user tag version fp len (fps_in r.items) (spelling r) cloud
is_commit s list c cloud user tag version fp len r serves fits answered is fp_is len_is has = record {
  serves = serves;
  sound = Added list (requests.Commit user tag version (spelling r)) (commands.Commit user tag version (spelling r)) serves.known.on.read.sound fits answered.has_recipe (ap (λ (o : Outcome). o.adds) answered.answer);
  fp_is = fp_is;
  len_is = len_is;
  names_are = fps_spelled s.header.shape r is;
  shares = none_staged s.disk.shares has.shares;
  recipes = recipe_staged list c s cloud (spelling r) len serves len_is has.recipes;
}

-- ---- all of it

spelled_some : (r : Recipe) → 1 ≤ length (spelling r)
spelled_some r =
    let rest = r.name_share ++ (to_be_bytes w64 r.file_len ++ (to_be_bytes w32 (length r.items) ++ flat_map item r.items)) in
    omega (arith, length-append (to_be_bytes w16 r.name_len) rest)

-- the record by the recipe's fingerprint and length
pub record_as : (s : CloudStore) (user : UserId) (tag : Tag) (version : Version) (recipe : List ℕ) (fp : Fp) (len : ℕ) (P : List ℕ → Type 0) → fingerprint recipe ≡ fp → length recipe ≡ len
    → P (body_bytes (bodies.Commit (commit_body s user tag version fp len))) → P (body_bytes (commit_record s user tag version recipe))
record_as s user tag version recipe fp len P fp_is len_is p = subst P (λ i. body_bytes (bodies.Commit (commit_body s user tag version (sym fp_is i) (sym len_is i)))) p

module _ (user : UserId) (tag : Tag) (version : Version) where
  -- what adding the Commit leaves of a store that has its recipe staged
  pub record Enters {T E : Type 0} (Same : Type 0) (x new : CloudStore) (b c : ℕ → Cloud) (f1 f2 : ℕ) (recipe content : List ℕ) (r : Result T E) : Type 0 where
    pub leaves : IsLeftSettled x new r
    pub does : (list : List Command) (chain : Chain) → Serves list chain x (b x.header.cloud.0) → IsAnsweredNew x.header list user tag version recipe
        → DoesByList x new (b x.header.cloud.0) (c x.header.cloud.0) list (requests.Commit user tag version recipe) content r
    pub behind : KeepsOrGrows x (body_bytes (commit_record x user tag version recipe)) (b x.header.cloud.0) (c x.header.cloud.0)
    pub goes : GoesBehind x new (body_bytes (commit_record x user tag version recipe)) (b x.header.cloud.0) (c x.header.cloud.0) (IsReply content replies.Committed) r
    pub some : OnOk r (Replies content IsOfNew)
    pub full : (room : Room) (used need limit : ℕ) → room ≢ rooms.Journal → OnOk r (IsReply content (replies.Full room used need limit) → Same × (new ≡ unstaged x))
    pub calls : Calls b c x.header.cloud.0 f1 f2 r

  none_has : (o : Option Entry) → o ≡ None → IsSome o → ⊥
  none_has o none has = let no = subst (λ (x : Option Entry). IsSome x) none has in cc

  unstaged_is : (s : CloudStore) (recipe : List ℕ) → NoneStaged s → unstaged (staging s recipe) ≡ s
  unstaged_is s recipe none = λ i. record s { disk = record s.disk { shares = record s.disk.shares { staged = sym none.shares.bytes i }; recipes = record s.disk.recipes { staged = sym none.recipes.bytes i } } }

  served_staged : {T E : Type 0} (old new : CloudStore) (c : Cloud) (recipe : List ℕ) (list : List Command) (request : Request) (content : List ℕ) (r : Result T E)
      → OnOk r (IsServedByList (staging old recipe) new c list request content) → OnOk r (IsServedByList old new c list request content)
  served_staged old new c recipe list request content (Err e) s = tt
  served_staged old new c recipe list request content (Ok v) s = record { reply = s.reply; next = s.next }

  does_staged : {T E : Type 0} (old new : CloudStore) (a c : Cloud) (recipe : List ℕ) (list : List Command) (request : Request) (content : List ℕ) (r : Result T E)
      → DoesByList (staging old recipe) new a c list request content r → DoesByList old new a c list request content r
  does_staged old new a c recipe list request content r d = record {
    any_moment = d.any_moment;
    served = served_staged old new c recipe list request content r d.served;
    stays = λ none. let l = d.stays none in record { cloud = l.cloud; memory = l.memory };
  }

  full_then : {T E : Type 0} (r : Result T E) (P Same : Type 0) (old new : CloudStore) (recipe : List ℕ) → NoneStaged old → OnOk r (P → Same × (new ≡ unstaged (staging old recipe))) → OnOk r (P → Same × (new ≡ old))
  full_then (Err e) P Same old new recipe none f = tt
  full_then (Ok v) P Same old new recipe none f = λ p. let u = f p in (u.0, u.1 ∙ unstaged_is old recipe none)

  commit_added : (w : Where) (old new : CloudStore) (a c : Cloud) (shape : Shape) (r : Recipe) → IsRecipe shape (spelling r) r → IsStoreReady old
      → IsGrownFrom w (staging old (spelling r)) new (body_bytes (commit_record old user tag version (spelling r))) a c → HasCommandAdded w old new a c (requests.Commit user tag version (spelling r))
  commit_added w old new a c shape r is ready g =
      is_added w old new a c (requests.Commit user tag version (spelling r)) (commit_record old user tag version (spelling r)) old.disk.shares (staging old (spelling r)).disk.recipes
      refl ready.meet refl refl ready.none.shares (recipe_has old (spelling r) ready (few_bytes shape r (spelling r) is refl)) (All-nil IsFilled)
      (All-cons IsFilled (spelling r) [] (spelled_some r) (All-nil IsFilled)) refl g.chain g.shares g.recipes

  pub entered : {T E : Type 0} (rs : Result T E) (Same : Type 0) (old x new : CloudStore) (a c : ℕ → Cloud) (f0 f2 : ℕ) (r : Recipe) (content : List ℕ) → x ≡ staging old (spelling r)
      → IsStoreReady old → IsRecipe old.header.shape (spelling r) r → HasNone (memory_of old.memory) (key_of user.0 tag.0 version.0)
      → ((list : List Command) → Remembers old.header.shape list (memory_of old.memory) → first_lacking (user_view old.header.shape list user).own (fps_in r.items) ≡ None)
      → ((list : List Command) (chain : Chain) (cloud : Cloud) → Serves list chain old cloud → Serves list chain x cloud)
      → Enters Same x new a c f0 f2 (spelling r) content rs
      → Executes Same old new a c f0 f2 (requests.Commit user tag version (spelling r)) content rs
  entered rs Same old x new a c f0 f2 r content staged ready is none lacks serves enters =
      let n = old.header.cloud.0 in let shape = old.header.shape in
      let e = subst (λ (s : CloudStore). Enters Same s new a c f0 f2 (spelling r) content rs) staged enters in
      adds_executes rs Same old new a c f0 f2 (requests.Commit user tag version (spelling r)) content
      (record { ready = e.leaves.ready; settled = e.leaves.settled; none = e.leaves.none; shut = e.leaves.shut; header = e.leaves.header })
      (λ list some.
      let d = e.does list some.c (subst (λ (s : CloudStore). Serves list some.c s (a n)) staged (serves list some.c (a n) some.serves))
      (record {
        has_recipe = (r, is);
        answer = answers_commit shape n list user tag version (spelling r) None None
            (ap (first_lacking (user_view shape list user).own) (fps_spelled shape r is) ∙ lacks list some.serves.known.remembers)
            (none_there shape list (memory_of old.memory) user tag version some.serves.known.remembers none);
      }) in
      does_staged old new (a n) (c n) (spelling r) list (requests.Commit user tag version (spelling r)) content rs d)
      (record { body = commit_record old user tag version (spelling r); is = refl; chain = e.behind })
      (λ told w ended.
      goes_on rs w (staging old (spelling r)) old new (a n) (a n) (c n) (requests.Commit user tag version (spelling r)) content
      (body_bytes (commit_record old user tag version (spelling r))) (IsReply content replies.Committed)
      (λ answer adds is_said. subst (IsReply content) adds.0 is_said)
      (commit_added w old new (a n) (c n) shape r is ready)
      (e.goes told w ended))
      e.calls
      (none_has _ none)
      (new_never_rotten content rs e.some)
      (new_leaves content rs (Same × (new ≡ old)) e.some (λ room used need limit other. full_then rs _ Same old new (spelling r) ready.none (e.full room used need limit other)))
      (new_gives content rs shape user tag version (spelling r) e.some)
