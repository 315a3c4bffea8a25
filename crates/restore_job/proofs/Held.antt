-- What told clouds answer to reading requests.
use Rattle.std.proofs.Common.{◌≡◌, ◌⊎◌, ℕ, Bool, true, false, List, [], ◌∷◌, ◌++◌, map, Option, Some, None, Result, Ok, Err, refl, sym, ap, ◌∙◌, subst, inl, inr, append-nil}
use Rattle.std.specs.Prelude.{IsTrue, All, option_map, option_to_list, unwrap_or, slice_get}
use Rattle.std.specs.Bool.{MatchBool}
use Rattle.std.specs.List.{Contains}
use Rattle.std.proofs.lemmas.List.Elements.{All-get_or, All-weaker, Contains-push_cases}
use Rattle.std.proofs.lemmas.Option.{get_or_from_slice_get, slice_get_within}
use Rattle.std.proofs.lemmas.Bool.{cases_eq}
use Rattle.sha2.specs.Sha256.{sha256 as sha256_of}
use Rattle.user_dedup.specs.CdBase.Reading.{AreBytes}
use Rattle.user_dedup.specs.CdBase.ids.CloudNo.{CloudNo}
use Rattle.user_dedup.specs.CdBase.ids.Fp.{Fp}
use Rattle.user_dedup.specs.CdBase.ids.Tag.{Tag}
use Rattle.user_dedup.specs.CdBase.ids.UserId.{UserId}
use Rattle.user_dedup.specs.CdBase.ids.Version.{Version}
use Rattle.user_dedup.specs.CdBase.shape.Shape.{Shape}
use Rattle.user_dedup.specs.Recipe.recipe.Recipe.{Recipe}
use Rattle.user_dedup.specs.Recipe.Spelling.{IsRecipe}
use Rattle.user_dedup.specs.Recipe.Reading.{recipe_at}
use Rattle.user_dedup.proofs.RecipeLaws.Written.{again as recipe_again}
use Rattle.user_dedup.specs.CdEdges.Causes.{Rose}
use Rattle.user_dedup.specs.Messages.request.Request.{Request}
use Rattle.user_dedup.specs.Messages.request.Request.TheVariants as requests
use Rattle.user_dedup.specs.Messages.reply.Reply.{Reply}
use Rattle.user_dedup.specs.Messages.reply.Reply.TheVariants as replies
use Rattle.user_dedup.specs.Messages.ReplyReading.{reply_at}
use Rattle.user_dedup.proofs.Messages.ReplyLaws.{reply_law}
use Rattle.user_dedup.specs.declared.command.Command.{Command}
use Rattle.user_dedup.specs.declared.command.Command.TheVariants as commands
use Rattle.user_dedup.specs.declared.file_list.FileEntry.{FileEntry}
use Rattle.user_dedup.specs.declared.view.View.{View}
use Rattle.user_dedup.specs.Cloud.{user_of, user_view, view_after, held_string}
use Rattle.user_dedup.specs.Owning.{first_lacking, fps_in, FindsLacking}
use Rattle.user_dedup.specs.Pages.{entry_at}
use Rattle.user_dedup.specs.Requests.{fps_read, HasRecipe}
use Rattle.user_dedup.specs.Dedup.{answer_over, IsSound, Begun, Added, FullRoom, recipe_reply, shares_reply}
use Rattle.user_dedup.specs.Exec.{Peer, MaySettleAs, Settles, KeepsPeer, Answers, FailsTold, ExecTold, ExecUntold, Exec, StandsSound, served}
use Rattle.user_dedup.specs.Link.{LinkTelling, Asks, LosesAsk, TellsSound}
use Rattle.user_dedup.proofs.Owned.{finds, contains_nothing}
use Rattle.user_dedup.proofs.Deleting.{entries_left}
use Rattle.user_dedup.proofs.Sound.{found_entry, entries_owned, put_adds, commit_adds, deletes_from}
use Rattle.user_dedup.proofs.Views.{own_adds, others_stay, owned_is_held}
use Rattle.restore_job.specs.Asking.{Reads, MayRead, ReadFails}
use Rattle.restore_job.specs.Restored.{recipe_in, recipe_read}
use Rattle.restore_job.specs.Steps.{RecipeFrom, RecipeTold, ReadyAt}
use Rattle.restore_job.specs.declared.error.RestoreErr.{RestoreErr}
use Rattle.restore_job.specs.declared.error.RestoreErr.TheVariants as errors
use Rattle.restore_job.proofs.Leading.{Moves, no_pending}
use Rattle.restore_job.proofs.Causing.{FaultRose, recipe_rose}

-- ---- the recipes of sound lists

-- each entry's recipe is one of the shape
abbrev EntriesRead : Shape → View → Type 0
EntriesRead shape v = (entry : FileEntry) → Contains v.files entry → (r : Recipe) × (recipe_at shape entry.recipe ≡ Ok r)

is_read : (shape : Shape) (bytes : List ℕ) (r : Recipe) → IsRecipe shape bytes r → recipe_at shape bytes ≡ Ok r
is_read shape bytes r is = ap (recipe_at shape) is.spelled ∙ recipe_again shape r is.fits

none_some : {A B : Type 0} (x : B) → None ≡ Some x → A
none_some x e = absurd (let f : None ≡ Some x = e in cc)

-- a command that a request adds enters a recipe of the shape, if it enters one
abbrev BringsRecipe : Shape → Command → Type 0
BringsRecipe shape (commands.Put user shares) = Unit {0}
BringsRecipe shape (commands.Commit user tag version recipe) = (r : Recipe) × IsRecipe shape recipe r
BringsRecipe shape (commands.Delete user tag version) = Unit {0}

brings : (shape : Shape) (cloud : ℕ) (list : List Command) (request : Request) (command : Command) → HasRecipe shape request
    → (answer_over shape cloud list request).adds ≡ Some command → BringsRecipe shape command
brings shape cloud list requests.Hello command has e = none_some command e
brings shape cloud list (requests.Query user fps) command has e = none_some command e
brings shape cloud list (requests.Put user shares) command has e = subst (BringsRecipe shape) (sym (put_adds user _ command e)) tt
brings shape cloud list (requests.Commit user tag version recipe) command has e = subst (BringsRecipe shape) (sym (commit_adds _ _ _ recipe command e).2) has
brings shape cloud list (requests.GetRecipe user tag version) command has e = none_some command e
brings shape cloud list (requests.GetShares user fps) command has e = none_some command e
brings shape cloud list (requests.List user after) command has e = none_some command e
brings shape cloud list (requests.Delete user tag version) command has e = subst (BringsRecipe shape) (sym (deletes_from _ _ command e).1) tt

entries_step : (shape : Shape) (v : View) (command : Command) → BringsRecipe shape command → EntriesRead shape v → EntriesRead shape (view_after shape v command)
entries_step shape v (commands.Put user shares) brings_it old entry has = old entry has
entries_step shape v (commands.Commit user tag version recipe) brings_it old entry has =
    elim (Contains-push_cases v.files (record { tag = tag; version = version; recipe = recipe }) entry has) [
      | inl h ↦ old entry h
      | inr same ↦ subst (λ (x : FileEntry). (r : Recipe) × (recipe_at shape x.recipe ≡ Ok r)) same (brings_it.0, is_read shape recipe brings_it.0 brings_it.1)
    ]
entries_step shape v (commands.Delete user tag version) brings_it old entry has =
    old entry (entries_left (tag, version) v.files entry has).0

pub entries_read : (shape : Shape) (cloud : ℕ) (list : List Command) → IsSound shape cloud list → (user : UserId) → EntriesRead shape (user_view shape list user)
entries_read shape cloud list Begun user entry has = absurd (contains_nothing entry has)
entries_read shape cloud list (Added before request command sound fits recipe adds) user entry has =
    by_user (cases_eq (user_of command).0 user.0) (λ x h. entries_read shape cloud before sound user x h) entry has
  where
    by_user : ((user_of command).0 ≡ user.0) ⊎ ((user_of command).0 ≡ user.0 → ⊥) → EntriesRead shape (user_view shape before user) → EntriesRead shape (user_view shape (before ++ command ∷ []) user)
    by_user (inl same) k =
        subst (EntriesRead shape) (sym (own_adds shape before command user same))
        (entries_step shape (user_view shape before user) command (brings shape cloud before request command recipe adds) k)
    by_user (inr other) k = subst (EntriesRead shape) (sym (others_stay shape before command user other)) k

-- ---- one request that adds nothing

abbrev pub good : Reply → Result Reply ℕ
good r = Ok r

-- a request adds no command
abbrev AddsNone : Shape → ℕ → (List Command → Command → Option FullRoom) → Request → Type 0
AddsNone shape cloud full request = (list : List Command) → (served shape cloud full list request).adds ≡ None

settles_read : (shape : Shape) (cloud : ℕ) (full : List Command → Command → Option FullRoom) (p q : Peer) (request : Request) (reply : Reply) → AddsNone shape cloud full request
    → Answers (served shape cloud full) p request reply q → Settles p q × (reply ≡ (served shape cloud full q.list request).reply)
settles_read shape cloud full p q request reply none a =
    let list_is : q.list ≡ a.before = a.list ∙ ap (λ (o : Option Command). a.before ++ option_to_list o) (none a.before) ∙ append-nil a.before in
    (record { list = subst (MaySettleAs p) (sym list_is) a.settled; pending = a.pending }, a.served ∙ ap (λ (l : List Command). (served shape cloud full l request).reply) (sym list_is))

fails_may : (shape : Shape) (cloud : ℕ) (full : List Command → Command → Option FullRoom) (p q : Peer) (request : Request) (reply : Reply) → AddsNone shape cloud full request
    → FailsTold (served shape cloud full) p request reply q → KeepsPeer p q ⊎ Settles p q
fails_may shape cloud full p q request reply none f =
    elim f.left [
      | inl stays ↦ inl stays
      | inr cut ↦ inr (record { list = cut.list; pending = cut.pending ∙ none q.list })
    ]

exec_may : (shape : Shape) (cloud : ℕ) (full : List Command → Command → Option FullRoom) (told : Bool) (p q : Peer) (request : Request) (reply : Reply) → AddsNone shape cloud full request
    → Exec shape told (served shape cloud full) p request reply q → MayRead p q
exec_may shape cloud full told p q request reply none exec = (go told exec.does, exec.counts)
  where
    go : (b : Bool) → MatchBool b (ExecTold (served shape cloud full) p request reply q) (ExecUntold shape p request reply q) → KeepsPeer p q ⊎ Settles p q
    go true (inl a) = inr (settles_read shape cloud full p q request reply none a).0
    go true (inr f) = fails_may shape cloud full p q request reply none f
    go false u = inl u.stays

-- a told cloud answered, or its device failed
abbrev pub ToldAnswer : Shape → ℕ → (List Command → Command → Option FullRoom) → Peer → Request → Reply → Peer → Type 0
ToldAnswer shape cloud full p request reply q = (Reads p q × (reply ≡ (served shape cloud full q.list request).reply)) ⊎ (ReadFails p q × (reply ≡ replies.Fault))

exec_told : (shape : Shape) (cloud : ℕ) (full : List Command → Command → Option FullRoom) (told : Bool) (p q : Peer) (request : Request) (reply : Reply) → AddsNone shape cloud full request
    → told ≡ true → Exec shape told (served shape cloud full) p request reply q → ToldAnswer shape cloud full p request reply q
exec_told shape cloud full told p q request reply none is exec =
    go (subst (λ (b : Bool). MatchBool b (ExecTold (served shape cloud full) p request reply q) (ExecUntold shape p request reply q)) is exec.does)
  where
    go : ExecTold (served shape cloud full) p request reply q → ToldAnswer shape cloud full p request reply q
    go (inl a) = let s = settles_read shape cloud full p q request reply none a in inl ((s.0, exec.counts), s.1)
    go (inr f) = inr ((f.rose, (fails_may shape cloud full p q request reply none f, exec.counts)), f.reply_is)

loses_may : {L : Type 0} (t : LinkTelling L) (cloud : ℕ) (old : L) (p q : Peer) (request : Request) → AddsNone (t.shape old) cloud (t.full old cloud) request
    → LosesAsk t cloud old p request q → MayRead p q
loses_may t cloud old p q request none (inl x) = (inl x.0, x.1)
loses_may t cloud old p q request none (inr x) = exec_may (t.shape old) cloud (t.full old cloud) (t.told old cloud) p q request x.0 none x.1

-- What a lost ask leaves.
pub lost_moves : {L : Type 0} (t : LinkTelling L) (cloud : ℕ) (old new : L) (request : Request) (content : List ℕ) (e : RestoreErr) (B P : Peer → Peer → Type 0)
    → AddsNone (t.shape old) cloud (t.full old cloud) request → Asks t cloud old request content (Err e) new → ((p q : Peer) → B p q) → ((p q : Peer) → P p q) → Moves t cloud old new B P
lost_moves t cloud old new request content e B P none asks always any p stands =
    let a = asks p stands in
    (a.0, a.1, loses_may t cloud old p a.0 request none a.2, always p a.0, λ told. any p a.0)

-- a request to which no list answers fault
abbrev pub NeverFaults : Shape → ℕ → (List Command → Command → Option FullRoom) → Request → Type 0
NeverFaults shape cloud full request = (list : List Command) → (served shape cloud full list request).reply ≡ replies.Fault → ⊥

exec_rose : (shape : Shape) (cloud : ℕ) (full : List Command → Command → Option FullRoom) (told : Bool) (p q : Peer) (request : Request) (reply : Reply) → NeverFaults shape cloud full request
    → Exec shape told (served shape cloud full) p request reply q → reply ≡ replies.Fault → Rose p.faults q.faults
exec_rose shape cloud full told p q request reply never exec is = go told exec.does
  where
    go : (b : Bool) → MatchBool b (ExecTold (served shape cloud full) p request reply q) (ExecUntold shape p request reply q) → Rose p.faults q.faults
    go true (inl a) = absurd (never a.before (sym a.served ∙ is))
    go true (inr f) = f.rose
    go false u = u.fault is

one_reply : (a b : Reply) → good a ≡ good b → a ≡ b
one_reply a b e = cc

-- What an answered ask leaves, by the reply's reading.
pub heard_moves : {L : Type 0} (t : LinkTelling L) (cloud : ℕ) (old new : L) (request : Request) (content : List ℕ) (B P : Peer → Peer → Type 0)
    → AddsNone (t.shape old) cloud (t.full old cloud) request → NeverFaults (t.shape old) cloud (t.full old cloud) request → AreBytes content → Asks {E = RestoreErr} t cloud old request content (Ok tt) new
    → ((p q : Peer) → (reply_at content ≡ Ok replies.Fault → Rose p.faults q.faults) → B p q)
    → ((p q : Peer) → t.stands old cloud p → IsTrue (t.told old cloud) → Reads p q → reply_at content ≡ Ok (served (t.shape old) cloud (t.full old cloud) q.list request).reply → P p q)
    → ((p q : Peer) → ReadFails p q → reply_at content ≡ Ok replies.Fault → P p q)
    → Moves t cloud old new B P
heard_moves t cloud old new request content B P none never bytes asks always answered failed p stands =
    let a = asks p stands in
    let answer = a.2.0 in
    let read = (reply_law content answer bytes).1 a.2.1 in (
      a.0,
      a.1,
      exec_may (t.shape old) cloud (t.full old cloud) (t.told old cloud) p a.0 request answer none a.2.2,
      always p a.0 (λ fault. exec_rose (t.shape old) cloud (t.full old cloud) (t.told old cloud) p a.0 request answer never a.2.2 (one_reply answer replies.Fault (sym read ∙ fault))),
      λ told. by_answer a.0 answer told read (exec_told (t.shape old) cloud (t.full old cloud) (t.told old cloud) p a.0 request answer none told a.2.2),
    )
  where
    by_answer : (q : Peer) (answer : Reply) → IsTrue (t.told old cloud) → reply_at content ≡ Ok answer → ToldAnswer (t.shape old) cloud (t.full old cloud) p request answer q → P p q
    by_answer q answer told read (inl x) = answered p q stands told x.0 (read ∙ ap good x.1)
    by_answer q answer told read (inr x) = failed p q x.0 (read ∙ ap good x.1)

-- ---- a recipe

-- what an entry, or none, is read as
abbrev EntryReads : Shape → Option FileEntry → Type 0
EntryReads shape None = Unit {0}
EntryReads shape (Some entry) = (r : Recipe) × (recipe_at shape entry.recipe ≡ Ok r)

-- a told cloud with this entry, or none, was asked for the recipe
abbrev EntryTold : Shape → CloudNo → Option FileEntry → Result Recipe RestoreErr → Peer → Peer → Type 0
EntryTold shape cloud entry (Ok recipe) p q = Reads p q × (option_map (λ e. recipe_read (recipe_at shape e.recipe)) entry ≡ Some recipe)
EntryTold shape cloud entry (Err (errors.Missing c)) p q = (c ≡ cloud) × Reads p q × (option_map (λ e. recipe_read (recipe_at shape e.recipe)) entry ≡ None)
EntryTold shape cloud entry (Err (errors.CloudFault c)) p q = (c ≡ cloud) × ReadFails p q
EntryTold shape cloud entry (Err (errors.Lost c)) p q = c ≡ cloud
EntryTold shape cloud entry (Err errors.NoMemory) p q = Unit {0}
EntryTold shape cloud entry (Err e) p q = ⊥

by_entry : (shape : Shape) (cloud : CloudNo) (entry : Option FileEntry) (res : Result Recipe RestoreErr) (p q : Peer) → EntryReads shape entry → Reads p q
    → RecipeFrom shape cloud (Ok (recipe_reply entry)) res → EntryTold shape cloud entry res p q
by_entry shape cloud None (Ok recipe) p q reads read from = absurd (let f : good replies.Missing ≡ good (replies.Recipe from.0) = from.1 in cc)
by_entry shape cloud (Some entry) (Ok recipe) p q reads read from =
    let same : entry.recipe ≡ from.0 = (let f : good (replies.Recipe entry.recipe) ≡ good (replies.Recipe from.0) = from.1 in cc) in
    (read, ap (λ (x : Result Recipe ℕ). Some (recipe_read x)) (ap (recipe_at shape) same ∙ from.2))
by_entry shape cloud None (Err (errors.Missing c)) p q reads read from = (from.0, read, refl)
by_entry shape cloud (Some entry) (Err (errors.Missing c)) p q reads read from = absurd (let f : good (replies.Recipe entry.recipe) ≡ good replies.Missing = from.1 in cc)
by_entry shape cloud None (Err (errors.CloudFault c)) p q reads read from = absurd (let f : good replies.Missing ≡ good replies.Fault = from.1 in cc)
by_entry shape cloud (Some entry) (Err (errors.CloudFault c)) p q reads read from = absurd (let f : good (replies.Recipe entry.recipe) ≡ good replies.Fault = from.1 in cc)
by_entry shape cloud None (Err (errors.CloudDamaged c at byte)) p q reads read from = absurd (let f : good replies.Missing ≡ good (replies.Damaged at byte) = from.1 in cc)
by_entry shape cloud (Some entry) (Err (errors.CloudDamaged c at byte)) p q reads read from = absurd (let f : good (replies.Recipe entry.recipe) ≡ good (replies.Damaged at byte) = from.1 in cc)
by_entry shape cloud None (Err (errors.CloudRotten c named found)) p q reads read from = absurd (let f : good replies.Missing ≡ good (replies.Rotten named found) = from.1 in cc)
by_entry shape cloud (Some entry) (Err (errors.CloudRotten c named found)) p q reads read from = absurd (let f : good (replies.Recipe entry.recipe) ≡ good (replies.Rotten named found) = from.1 in cc)
by_entry shape cloud None (Err (errors.CloudNoMemory c)) p q reads read from = absurd (let f : good replies.Missing ≡ good replies.NoMemory = from.1 in cc)
by_entry shape cloud (Some entry) (Err (errors.CloudNoMemory c)) p q reads read from = absurd (let f : good (replies.Recipe entry.recipe) ≡ good replies.NoMemory = from.1 in cc)
by_entry shape cloud None (Err (errors.Strange c kind)) p q reads read from = from.1 replies.Missing refl
by_entry shape cloud (Some entry) (Err (errors.Strange c kind)) p q reads read from = from.1 (replies.Recipe entry.recipe) refl reads.0 reads.1
by_entry shape cloud entry (Err errors.NoMemory) p q reads read from = tt
by_entry shape cloud entry (Err (errors.Lost c)) p q reads read from = absurd from
by_entry shape cloud entry (Err (errors.RecipesDiffer a b place)) p q reads read from = absurd from
by_entry shape cloud entry (Err (errors.ShareLength c secret found wanted)) p q reads read from = absurd from
by_entry shape cloud entry (Err (errors.BadShare c secret named found)) p q reads read from = absurd from
by_entry shape cloud entry (Err (errors.BadSecret secret named found)) p q reads read from = absurd from
by_entry shape cloud entry (Err (errors.BadPad secret at byte)) p q reads read from = absurd from

by_failing : (shape : Shape) (user : UserId) (key : Tag × Version) (cloud : CloudNo) (res : Result Recipe RestoreErr) (p q : Peer) → ReadFails p q
    → RecipeFrom shape cloud (Ok replies.Fault) res → RecipeTold shape user key cloud res p q
by_failing shape user key cloud (Ok recipe) p q fails from = absurd (let f : good replies.Fault ≡ good (replies.Recipe from.0) = from.1 in cc)
by_failing shape user key cloud (Err (errors.Missing c)) p q fails from = absurd (let f : good replies.Fault ≡ good replies.Missing = from.1 in cc)
by_failing shape user key cloud (Err (errors.CloudFault c)) p q fails from = (from.0, fails)
by_failing shape user key cloud (Err (errors.CloudDamaged c at byte)) p q fails from = absurd (let f : good replies.Fault ≡ good (replies.Damaged at byte) = from.1 in cc)
by_failing shape user key cloud (Err (errors.CloudRotten c named found)) p q fails from = absurd (let f : good replies.Fault ≡ good (replies.Rotten named found) = from.1 in cc)
by_failing shape user key cloud (Err (errors.CloudNoMemory c)) p q fails from = absurd (let f : good replies.Fault ≡ good replies.NoMemory = from.1 in cc)
by_failing shape user key cloud (Err (errors.Strange c kind)) p q fails from = from.1 replies.Fault refl
by_failing shape user key cloud (Err errors.NoMemory) p q fails from = tt
by_failing shape user key cloud (Err (errors.Lost c)) p q fails from = absurd from
by_failing shape user key cloud (Err (errors.RecipesDiffer a b place)) p q fails from = absurd from
by_failing shape user key cloud (Err (errors.ShareLength c secret found wanted)) p q fails from = absurd from
by_failing shape user key cloud (Err (errors.BadShare c secret named found)) p q fails from = absurd from
by_failing shape user key cloud (Err (errors.BadSecret secret named found)) p q fails from = absurd from
by_failing shape user key cloud (Err (errors.BadPad secret at byte)) p q fails from = absurd from

as_recipe : (shape : Shape) (user : UserId) (key : Tag × Version) (cloud : CloudNo) (res : Result Recipe RestoreErr) (p q : Peer)
    → EntryTold shape cloud (entry_at (user_view shape q.list user).files key) res p q → RecipeTold shape user key cloud res p q
as_recipe shape user key cloud (Ok recipe) p q told = told
as_recipe shape user key cloud (Err (errors.Missing c)) p q told = told
as_recipe shape user key cloud (Err (errors.CloudFault c)) p q told = told
as_recipe shape user key cloud (Err (errors.CloudDamaged c at byte)) p q told = absurd told
as_recipe shape user key cloud (Err (errors.CloudRotten c named found)) p q told = absurd told
as_recipe shape user key cloud (Err (errors.CloudNoMemory c)) p q told = absurd told
as_recipe shape user key cloud (Err (errors.Strange c kind)) p q told = absurd told
as_recipe shape user key cloud (Err errors.NoMemory) p q told = tt
as_recipe shape user key cloud (Err (errors.Lost c)) p q told = told
as_recipe shape user key cloud (Err (errors.RecipesDiffer a b place)) p q told = absurd told
as_recipe shape user key cloud (Err (errors.ShareLength c secret found wanted)) p q told = absurd told
as_recipe shape user key cloud (Err (errors.BadShare c secret named found)) p q told = absurd told
as_recipe shape user key cloud (Err (errors.BadSecret secret named found)) p q told = absurd told
as_recipe shape user key cloud (Err (errors.BadPad secret at byte)) p q told = absurd told

-- the entry under a key is read
entry_reads : (shape : Shape) (cloud : ℕ) (list : List Command) (user : UserId) (key : Tag × Version) → IsSound shape cloud list
    → EntryReads shape (entry_at (user_view shape list user).files key)
entry_reads shape cloud list user key sound = go (entry_at (user_view shape list user).files key) refl
  where
    go : (o : Option FileEntry) → entry_at (user_view shape list user).files key ≡ o → EntryReads shape o
    go None e = tt
    go (Some entry) e = entries_read shape cloud list sound user entry (found_entry (user_view shape list user).files key entry e).1

recipe_no_fault : (o : Option FileEntry) → recipe_reply o ≡ replies.Fault → ⊥
recipe_no_fault None e = (let f : replies.Missing ≡ replies.Fault = e in cc)
recipe_no_fault (Some entry) e = (let f : replies.Recipe entry.recipe ≡ replies.Fault = e in cc)

pub recipe_moves : {L : Type 0} (t : LinkTelling L) (shape : Shape) (user : UserId) (tag : Tag) (version : Version) (cloud : CloudNo) (old new : L) (content : List ℕ) (res : Result Recipe RestoreErr)
    → t.shape old ≡ shape → TellsSound t old → AreBytes content → Asks {E = RestoreErr} t cloud.0 old (requests.GetRecipe user tag version) content (Ok tt) new
    → RecipeFrom shape cloud (reply_at content) res → Moves t cloud.0 old new (FaultRose res) (RecipeTold shape user (tag, version) cloud res)
recipe_moves {L} t shape user tag version cloud old new content res same sound bytes asks from =
    heard_moves t cloud.0 old new (requests.GetRecipe user tag version) content (FaultRose res) (RecipeTold shape user (tag, version) cloud res) (λ list. refl)
    (λ list e. recipe_no_fault (entry_at (user_view (t.shape old) list user).files (tag, version)) e) bytes asks
    (λ p q rose. recipe_rose shape cloud (reply_at content) res p q from rose)
    (λ p q stands told read at. answered p q (subst (λ (s : Shape). StandsSound s cloud.0 p) same (sound cloud.0 p told stands)) read
    (at ∙ ap (λ (s : Shape). good (recipe_reply (entry_at (user_view s q.list user).files (tag, version)))) same))
    (λ p q fails at. by_failing shape user (tag, version) cloud res p q fails (subst (λ (x : Result Reply ℕ). RecipeFrom shape cloud x res) at from))
  where
    answered : (p q : Peer) → StandsSound shape cloud.0 p → Reads p q → reply_at content ≡ Ok (recipe_reply (entry_at (user_view shape q.list user).files (tag, version)))
        → RecipeTold shape user (tag, version) cloud res p q
    answered p q stands read at =
        as_recipe shape user (tag, version) cloud res p q
        (by_entry shape cloud (entry_at (user_view shape q.list user).files (tag, version)) res p q
        (entry_reads shape cloud.0 q.list user (tag, version) (stands q.list read.0.list)) read (subst (λ (x : Result Reply ℕ). RecipeFrom shape cloud x res) at from))

-- ---- shares

fps_read_in : (x : Result Recipe ℕ) → fps_read x ≡ fps_in (recipe_read x).items
fps_read_in (Ok r) = refl
fps_read_in (Err at) = refl

-- the fingerprints of a told cloud's recipe are the user's own there
pub recipe_owned : (shape : Shape) (cloud : ℕ) (list : List Command) (user : UserId) (key : Tag × Version) (recipe : Recipe) → IsSound shape cloud list
    → recipe_in shape list user key ≡ Some recipe → All (Contains (user_view shape list user).own) (fps_in recipe.items)
recipe_owned shape cloud list user key recipe sound is = go (entry_at (user_view shape list user).files key) refl is
  where
    go : (o : Option FileEntry) → entry_at (user_view shape list user).files key ≡ o → option_map (λ e. recipe_read (recipe_at shape e.recipe)) o ≡ Some recipe
        → All (Contains (user_view shape list user).own) (fps_in recipe.items)
    go None e is = none_some recipe is
    go (Some entry) e is =
        let same : recipe_read (recipe_at shape entry.recipe) ≡ recipe = (let f : Some (recipe_read (recipe_at shape entry.recipe)) ≡ Some recipe = is in cc) in
        let owned = entries_owned shape cloud list user entry sound (found_entry (user_view shape list user).files key entry e).1 in
        subst (λ (r : Recipe). All (Contains (user_view shape list user).own) (fps_in r.items)) same
        (subst (All (Contains (user_view shape list user).own)) (fps_read_in (recipe_at shape entry.recipe)) owned)

-- where all are the user's own, none is lacking
pub none_lacking : (own fps : List Fp) → All (Contains own) fps → first_lacking own fps ≡ None
none_lacking own fps all = go (first_lacking own fps) refl (finds own fps)
  where
    owned : (f : Fp) (place : ℕ) → slice_get fps place ≡ Some f → Contains own f
    owned f place here = subst (Contains own) (get_or_from_slice_get fps place f f here) (All-get_or (Contains own) fps place f (slice_get_within fps place f here) all)

    go : (o : Option ℕ) → first_lacking own fps ≡ o → FindsLacking own fps o → first_lacking own fps ≡ None
    go None e found = e
    go (Some place) e found = absurd (found.lacks (owned found.fp place found.here))

-- the string that a list holds under a fingerprint
abbrev pub held_in : List Command → Fp → List ℕ
held_in list fp = unwrap_or (held_string list fp) []

abbrev pub AreHeld : List Command → List Fp → Type 0
AreHeld list fps = All (λ fp. sha256_of (held_in list fp) ≡ fp.0) fps

owned_hash : (shape : Shape) (list : List Command) (user : UserId) (fp : Fp) → Contains (user_view shape list user).own fp → sha256_of (held_in list fp) ≡ fp.0
owned_hash shape list user fp has =
    let held = owned_is_held shape list user fp has in
    ap (λ (o : Option (List ℕ)). sha256_of (unwrap_or o [])) held.1 ∙ ap (λ (f : Fp). f.0) held.2

shares_no_fault : (o : Option ℕ) (strings : List (List ℕ)) → shares_reply o strings ≡ replies.Fault → ⊥
shares_no_fault None strings e = (let f : replies.Shares strings ≡ replies.Fault = e in cc)
shares_no_fault (Some place) strings e = (let f : replies.NotYours place ≡ replies.Fault = e in cc)

pub shares_moves : {L : Type 0} (t : LinkTelling L) (shape : Shape) (user : UserId) (key : Tag × Version) (recipe : Recipe) (cloud : CloudNo) (old new : L) (content : List ℕ) (fps : List Fp) (B P : Peer → Peer → Type 0)
    → t.shape old ≡ shape → TellsSound t old → AreBytes content → Asks {E = RestoreErr} t cloud.0 old (requests.GetShares user fps) content (Ok tt) new
    → ((own : List Fp) → All (Contains own) (fps_in recipe.items) → All (Contains own) fps)
    → ((p q : Peer) → (reply_at content ≡ Ok replies.Fault → Rose p.faults q.faults) → B p q)
    → ((p q : Peer) → reply_at content ≡ Ok (replies.Shares (map (held_in p.list) fps)) → AreHeld p.list fps → P p q)
    → ((p q : Peer) → ReadFails p q → reply_at content ≡ Ok replies.Fault → P p q)
    → Moves t cloud.0 old new B (λ p q. ReadyAt shape user key recipe p → P p q)
shares_moves {L} t shape user key recipe cloud old new content fps B P same sound bytes asks part always answered failed =
    heard_moves t cloud.0 old new (requests.GetShares user fps) content B (λ p q. ReadyAt shape user key recipe p → P p q) (λ list. refl)
    (λ list e. shares_no_fault (first_lacking (user_view (t.shape old) list user).own fps) (map (held_in list) fps) e) bytes asks always
    (λ p q stands told read at ready. by_ready p q (subst (λ (s : Shape). StandsSound s cloud.0 p) same (sound cloud.0 p told stands)) read ready
    (at ∙ ap (λ (s : Shape). good (shares_reply (first_lacking (user_view s q.list user).own fps) (map (held_in q.list) fps))) same))
    (λ p q fails at ready. failed p q fails at)
  where
    by_ready : (p q : Peer) → StandsSound shape cloud.0 p → Reads p q → ReadyAt shape user key recipe p
        → reply_at content ≡ Ok (shares_reply (first_lacking (user_view shape q.list user).own fps) (map (held_in q.list) fps)) → P p q
    by_ready p q stands read ready at =
        let list_is : q.list ≡ p.list = no_pending p q.list ready.settled read.0.list in
        let owned = part (user_view shape p.list user).own (recipe_owned shape cloud.0 p.list user key recipe (stands p.list (inl refl)) ready.recipe_is) in
        let none = none_lacking (user_view shape p.list user).own fps owned in
        answered p q
        (at ∙ ap (λ (l : List Command). good (shares_reply (first_lacking (user_view shape l user).own fps) (map (held_in l) fps))) list_is
        ∙ ap (λ (o : Option ℕ). good (shares_reply o (map (held_in p.list) fps))) none)
        (All-weaker (Contains (user_view shape p.list user).own) (λ fp. sha256_of (held_in p.list fp) ≡ fp.0) (owned_hash shape p.list user) fps owned)

-- ---- a lost ask

abbrev pub refused : {A : Type 0} → RestoreErr → Result A RestoreErr
refused e = Err e

pub error_is : {A : Type 0} (a b : RestoreErr) → refused {A = A} a ≡ refused b → a ≡ b
error_is {A} a b e = ap (error_of a) e
  where
    error_of : RestoreErr → Result A RestoreErr → RestoreErr
    error_of d (Ok x) = d
    error_of d (Err x) = x

pub lost_recipe : (shape : Shape) (user : UserId) (key : Tag × Version) (cloud : CloudNo) (e : RestoreErr) (p q : Peer) → refused {A = Unit {0}} e ≡ Err (errors.Lost cloud)
    → RecipeTold shape user key cloud (Err e) p q
lost_recipe shape user key cloud e p q is = subst (λ (x : RestoreErr). RecipeTold shape user key cloud (Err x) p q) (sym (error_is e (errors.Lost cloud) is)) refl
