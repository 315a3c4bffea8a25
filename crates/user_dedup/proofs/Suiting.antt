-- The replies of a sound list suit their requests.
use Rattle.std.proofs.Common.{◌≡◌, ℕ, suc, ◌<◌, ◌≤◌, Bool, true, false, cond, List, [], ◌∷◌, ◌++◌, length, get_or, map, Option, Some, None, Ok, refl, sym, ap, ◌∙◌, subst, arith, inl, inr, ◌⊎◌, append-nil, leb}
use Rattle.std.specs.Prelude.{bytes_eq, All, unwrap_or}
use Rattle.std.specs.List.{Contains, flat_map}
use Rattle.std.proofs.lemmas.Bool.{cases_eq, and_parts, leb-true}
use Rattle.std.proofs.lemmas.Option.{slice_get_within}
use Rattle.std.proofs.lemmas.List.{length-map}
use Rattle.std.proofs.lemmas.List.Elements.{All-nil, All-append, All-contains, All-map, All-weaker, Contains-get_or, Contains-push_cases}
use Rattle.std.proofs.lemmas.Grind.{flat_map-append}
use Rattle.journal_start.specs.CdBase.ids.Fp.{Fp}
use Rattle.journal_start.specs.CdBase.ids.Tag.{Tag}
use Rattle.journal_start.specs.CdBase.ids.UserId.{UserId}
use Rattle.journal_start.specs.CdBase.ids.Version.{Version}
use Rattle.journal_start.specs.CdBase.shape.Shape.{Shape}
use Rattle.journal_start.specs.MessageFields.Shares.{IsShare}
use Rattle.journal_start.specs.MessageFields.Keys.{IsKey, AreAbove, AreKeys}
use Rattle.recipe.specs.declared.recipe.Recipe.{Recipe}
use Rattle.recipe.specs.declared.items.Item.{Item}
use Rattle.recipe.specs.Spelling.{IsRecipe}
use Rattle.recipe.specs.Reading.{recipe_at}
use Rattle.recipe.proofs.Written.{again, length-spelling, longest}
use Rattle.messages.specs.declared.request.Request.{Request}
use Rattle.messages.specs.declared.request.Request.TheVariants as requests
use Rattle.messages.specs.declared.reply.Reply.TheVariants as replies
use Rattle.messages.specs.Requests.{FitsRequest}
use Rattle.user_dedup.specs.declared.command.Command.{Command}
use Rattle.user_dedup.specs.declared.command.Command.TheVariants as commands
use Rattle.user_dedup.specs.declared.file_list.FileEntry.{FileEntry}
use Rattle.user_dedup.specs.Cloud.{fingerprint, user_of, view_after, user_view, strings_of, held_string}
use Rattle.user_dedup.specs.Owning.{is_among, flag, first_lacking, FindsLacking, new_strings}
use Rattle.user_dedup.specs.Pages.{key_of, entry_at, page_of}
use Rattle.user_dedup.specs.Requests.{fps_read, fps_of, HasRecipe}
use Rattle.messages.specs.Answering.{IsReplyTo}
use Rattle.user_dedup.specs.Dedup.{put_outcome, commit_outcome, delete_outcome, recipe_reply, shares_reply, answer_over, FullRoom, room_for, by_room, IsSound, Begun, Added}
use Rattle.user_dedup.specs.Exec.{Suits, items_of, served}
use Rattle.user_dedup.proofs.Owned.{finds, contains_here, contains_later, contains_nothing, contains_cases}
use Rattle.user_dedup.proofs.New.{are_new}
use Rattle.user_dedup.proofs.Views.{own_adds, others_stay, held_is, owned_is_held}
use Rattle.user_dedup.proofs.Deleting.{entries_left}
use Rattle.user_dedup.proofs.Sound.{put_adds, commit_adds, deletes_from, found_entry}
use Rattle.user_dedup.proofs.Pages.{is_page}

pub all_from : {A : Type 0} (P : A → Type 0) (xs : List A) → ((x : A) → Contains xs x → P x) → All P xs
all_from P xs f k d l = f (get_or xs k d) (Contains-get_or xs k d l)

-- ---- what stands in a sound list

abbrev IsKept : Shape → FileEntry → Type 0
IsKept shape entry = IsKey (key_of entry) × ((r : Recipe) × IsRecipe shape entry.recipe r)

abbrev BringsKept : Shape → Command → Type 0
BringsKept shape (commands.Put user shares) = All IsShare shares
BringsKept shape (commands.Commit user tag version recipe) = IsKept shape (record { tag = tag; version = version; recipe = recipe })
BringsKept shape (commands.Delete user tag version) = Unit {0}

brings_kept : (shape : Shape) (cloud : ℕ) (list : List Command) (request : Request) (command : Command) → FitsRequest request → HasRecipe shape request
    → (answer_over shape cloud list request).adds ≡ Some command → BringsKept shape command
brings_kept shape cloud list requests.Hello command fits has e = absurd (let f : None ≡ Some command = e in cc)
brings_kept shape cloud list (requests.Query user fps) command fits has e = absurd (let f : None ≡ Some command = e in cc)
brings_kept shape cloud list (requests.Put user shares) command fits has e =
    let own = (user_view shape list user).own in
    subst (BringsKept shape) (sym (put_adds user (new_strings own shares) command e))
    (all_from IsShare (new_strings own shares) (λ s c. All-contains IsShare shares s fits.1.1 ((are_new own shares).among s c).0))
brings_kept shape cloud list (requests.Commit user tag version recipe) command fits has e =
    let v = user_view shape list user in
    let a = commit_adds (first_lacking v.own (fps_of shape recipe)) (entry_at v.files (tag, version)) (commands.Commit user tag version recipe) recipe command e in
    subst (BringsKept shape) (sym a.2) (fits.0.1, has)
brings_kept shape cloud list (requests.GetRecipe user tag version) command fits has e = absurd (let f : None ≡ Some command = e in cc)
brings_kept shape cloud list (requests.GetShares user fps) command fits has e = absurd (let f : None ≡ Some command = e in cc)
brings_kept shape cloud list (requests.List user after) command fits has e = absurd (let f : None ≡ Some command = e in cc)
brings_kept shape cloud list (requests.Delete user tag version) command fits has e =
    subst (BringsKept shape) (sym (deletes_from (entry_at (user_view shape list user).files (tag, version)) (commands.Delete user tag version) command e).1) tt

strings_brought : (shape : Shape) (command : Command) → BringsKept shape command → All IsShare (strings_of command ++ [])
strings_brought shape (commands.Put user shares) b = subst (All IsShare) (sym (append-nil shares)) b
strings_brought shape (commands.Commit user tag version recipe) b = All-nil IsShare
strings_brought shape (commands.Delete user tag version) b = All-nil IsShare

strings_kept : (shape : Shape) (cloud : ℕ) (list : List Command) → IsSound shape cloud list → All IsShare (flat_map strings_of list)
strings_kept shape cloud list Begun = All-nil IsShare
strings_kept shape cloud list (Added before request command sound fits has adds) =
    subst (All IsShare) (sym (flat_map-append strings_of before (command ∷ [])))
    (All-append IsShare (flat_map strings_of before) (strings_of command ++ []) (strings_kept shape cloud before sound) (strings_brought shape command (brings_kept shape cloud before request command fits has adds)))

abbrev AreKept : Shape → List FileEntry → Type 0
AreKept shape files = (entry : FileEntry) → Contains files entry → IsKept shape entry

files_step : (shape : Shape) (list : List Command) (command : Command) (user : UserId) → BringsKept shape command → AreKept shape (user_view shape list user).files
    → AreKept shape (view_after shape (user_view shape list user) command).files
files_step shape list (commands.Put u shares) user b k entry c = k entry c
files_step shape list (commands.Commit u tag version recipe) user b k entry c =
    elim (Contains-push_cases (user_view shape list user).files (record { tag = tag; version = version; recipe = recipe }) entry c) [
      | inl old ↦ k entry old
      | inr same ↦ subst (IsKept shape) same b
    ]
files_step shape list (commands.Delete u tag version) user b k entry c = k entry (entries_left (tag, version) (user_view shape list user).files entry c).0

files_kept : (shape : Shape) (cloud : ℕ) (list : List Command) → IsSound shape cloud list → (user : UserId) → AreKept shape (user_view shape list user).files
files_kept shape cloud list Begun user = λ entry c. absurd (contains_nothing entry c)
files_kept shape cloud list (Added before request command sound fits has adds) user =
    by_user (cases_eq (user_of command).0 user.0) (files_kept shape cloud before sound user)
  where
    by_user : ((user_of command).0 ≡ user.0) ⊎ ((user_of command).0 ≡ user.0 → ⊥) → AreKept shape (user_view shape before user).files → AreKept shape (user_view shape (before ++ command ∷ []) user).files
    by_user (inl same) k =
        subst (λ v. AreKept shape v.files) (sym (own_adds shape before command user same))
        (files_step shape before command user (brings_kept shape cloud before request command fits has adds) k)
    by_user (inr other) k = subst (λ v. AreKept shape v.files) (sym (others_stay shape before command user other)) k

-- ---- the replies

flag_small : (own : List Fp) (fp : Fp) → flag own fp ≤ 1
flag_small own fp = by_test (is_among own fp)
  where
    by_test : (b : Bool) → cond b 1 0 ≤ 1
    by_test true = omega arith
    by_test false = omega arith

pub few_new : (own : List Fp) (sent : List (List ℕ)) → length (new_strings own sent) ≤ length sent
few_new own [] = omega arith
few_new own (s ∷ sent) = by_test (is_among own (fingerprint s)) (few_new own sent) (few_new (own ++ fingerprint s ∷ []) sent)
  where
    by_test : (b : Bool) → length (new_strings own sent) ≤ length sent → length (new_strings (own ++ fingerprint s ∷ []) sent) ≤ length sent
        → length (cond b (new_strings own sent) (s ∷ new_strings (own ++ fingerprint s ∷ []) sent)) ≤ suc (length sent)
    by_test true old new = omega arith
    by_test false old new = omega arith

put_suits : (shape : Shape) (user : UserId) (shares new : List (List ℕ)) → length new ≤ length shares → length shares ≤ 256
    → Suits shape (requests.Put user shares) (put_outcome user new).reply
put_suits shape user shares [] few most = record { fits = omega arith; writable = tt; kind = omega arith }
put_suits shape user shares (s ∷ new) few most = record { fits = omega arith; writable = tt; kind = few }

few_items : (shape : Shape) (recipe : List ℕ) (r : Recipe) → IsRecipe shape recipe r → length (fps_of shape recipe) ≤ 32768
few_items shape recipe r is =
    let read : recipe_at shape recipe ≡ Ok r = ap (recipe_at shape) is.spelled ∙ again shape r is.fits in
    let fps = ap fps_read read in
    let count = leb-true (length r.items) 32768 (and_parts (leb (length r.items) 32768) _ is.fits.count).0 in
    let long = ap length fps in
    omega (arith, length-map r.items (λ (item : Item). item.fp))

lacking_within : (own fps : List Fp) (place : ℕ) → FindsLacking own fps (Some place) → place < length fps
lacking_within own fps place f = slice_get_within fps place f.fp f.here

commit_suits : (shape : Shape) (user : UserId) (tag : Tag) (version : Version) (recipe : List ℕ) (own : List Fp) (lack : Option ℕ) (entry : Option FileEntry) (command : Command)
    → FindsLacking own (fps_of shape recipe) lack → length (fps_of shape recipe) ≤ 32768
    → Suits shape (requests.Commit user tag version recipe) (commit_outcome lack entry command recipe).reply
commit_suits shape user tag version recipe own (Some place) entry command f few =
    let within = lacking_within own (fps_of shape recipe) place f in
    record { fits = omega arith; writable = tt; kind = within }
commit_suits shape user tag version recipe own None None command f few = record { fits = tt; writable = tt; kind = tt }
commit_suits shape user tag version recipe own None (Some entry) command f few = by_test (bytes_eq entry.recipe recipe)
  where
    by_test : (b : Bool) → Suits shape (requests.Commit user tag version recipe) (cond b replies.Committed replies.Exists)
    by_test true = record { fits = tt; writable = tt; kind = tt }
    by_test false = record { fits = tt; writable = tt; kind = tt }

recipe_suits : (shape : Shape) (user : UserId) (tag : Tag) (version : Version) (entry : Option FileEntry) → ((e : FileEntry) → entry ≡ Some e → IsKept shape e)
    → Suits shape (requests.GetRecipe user tag version) (recipe_reply entry)
recipe_suits shape user tag version None kept = record { fits = tt; writable = tt; kind = tt }
recipe_suits shape user tag version (Some entry) kept =
    let k = kept entry refl in
    let long = ap length k.1.1.spelled ∙ length-spelling shape k.1.0 k.1.1.fits in
    let most = longest shape k.1.0 k.1.1.fits in
    let spelled = ap length k.1.1.spelled in
    record { fits = omega arith; writable = omega arith; kind = tt }

shares_suit : (shape : Shape) (user : UserId) (fps : List Fp) (own : List Fp) (strings : List (List ℕ)) (lack : Option ℕ) → FindsLacking own fps lack
    → (1 ≤ length fps) × (length fps ≤ 256) → length strings ≡ length fps → (All (Contains own) fps → All IsShare strings)
    → Suits shape (requests.GetShares user fps) (shares_reply lack strings)
shares_suit shape user fps own strings (Some place) f batch long all =
    let within = lacking_within own fps place f in
    record { fits = omega arith; writable = tt; kind = within }
shares_suit shape user fps own strings None f batch long all = record {
  fits = ((omega arith, omega arith), all f);
  writable = (omega arith, All-weaker IsShare (λ share. length share ≤ 8208) (λ s h. h.1) strings (all f));
  kind = long;
}

keys_rise : (last : Option (Tag × Version)) (keys : List (Tag × Version)) → AreAbove last keys → ((key : Tag × Version) → Contains keys key → IsKey key) → AreKeys last keys
keys_rise last [] a k = tt
keys_rise last (key ∷ keys) a k =
    ((k key (contains_here key keys), a.0), keys_rise (Some key) keys a.1 (λ other c. k other (contains_later key keys other c)))

from_none : (after : Option (Tag × Version)) (keys : List (Tag × Version)) → AreAbove after keys → AreAbove None keys
from_none after [] a = tt
from_none after (key ∷ keys) a = (refl, a.1)

mapped_key : (files : List FileEntry) (key : Tag × Version) → Contains (map key_of files) key → (entry : FileEntry) × Contains files entry × (key_of entry ≡ key)
mapped_key [] key c = absurd (contains_nothing key c)
mapped_key (e ∷ files) key c = by_cases (mapped_key files key) (contains_cases (key_of e) (map key_of files) key c)
  where
    by_cases : (Contains (map key_of files) key → (entry : FileEntry) × Contains files entry × (key_of entry ≡ key)) → (key_of e ≡ key) ⊎ Contains (map key_of files) key
        → (entry : FileEntry) × Contains (e ∷ files) entry × (key_of entry ≡ key)
    by_cases rest (inl same) = (e, contains_here e files, same)
    by_cases rest (inr later) = let r = rest later in (r.0, contains_later e files r.0 r.1, r.2)

shares_held : (shape : Shape) (cloud : ℕ) (list : List Command) (user : UserId) (fps : List Fp) → IsSound shape cloud list → All (Contains (user_view shape list user).own) fps
    → All IsShare (map (λ fp. unwrap_or (held_string list fp) []) fps)
shares_held shape cloud list user fps sound all =
    All-map IsShare (λ (fp : Fp). unwrap_or (held_string list fp) []) fps
    (All-weaker (Contains (user_view shape list user).own) (λ fp. IsShare (unwrap_or (held_string list fp) [])) (λ fp o.
    let held = owned_is_held shape list user fp o in
    subst (λ (r : Option (List ℕ)). IsShare (unwrap_or r [])) (sym held.1)
    (All-contains IsShare (flat_map strings_of list) held.0 (strings_kept shape cloud list sound) (held_is list fp held.0 held.1).1)) fps all)

delete_suits : (shape : Shape) (user : UserId) (tag : Tag) (version : Version) (entry : Option FileEntry)
    → Suits shape (requests.Delete user tag version) (delete_outcome entry (commands.Delete user tag version)).reply
delete_suits shape user tag version None = record { fits = tt; writable = tt; kind = tt }
delete_suits shape user tag version (Some entry) = record { fits = tt; writable = tt; kind = tt }

pub suits : (shape : Shape) (cloud : ℕ) (list : List Command) (request : Request) → IsSound shape cloud list → cloud < 256 → FitsRequest request → HasRecipe shape request
    → Suits shape request (answer_over shape cloud list request).reply
suits shape cloud list requests.Hello sound small fits has =
    let few = shape.few in
    let spare = shape.spare in
    record { fits = (omega arith, (omega arith, (small, refl))); writable = tt; kind = tt }
suits shape cloud list (requests.Query user fps) sound small fits has =
    let own = (user_view shape list user).own in
    let long = length-map fps (flag own) in
    let batch = fits.1.0 in
    record {
      fits = ((omega arith, omega arith), All-map (λ b. b ≤ 1) (flag own) fps (all_from (λ fp. flag own fp ≤ 1) fps (λ fp c. flag_small own fp)));
      writable = omega arith;
      kind = long;
    }
suits shape cloud list (requests.Put user shares) sound small fits has =
    let own = (user_view shape list user).own in
    put_suits shape user shares (new_strings own shares) (few_new own shares) fits.1.0.1
suits shape cloud list (requests.Commit user tag version recipe) sound small fits has =
    let v = user_view shape list user in
    commit_suits shape user tag version recipe v.own (first_lacking v.own (fps_of shape recipe)) (entry_at v.files (tag, version)) (commands.Commit user tag version recipe)
    (finds v.own (fps_of shape recipe)) (few_items shape recipe has.0 has.1)
suits shape cloud list (requests.GetRecipe user tag version) sound small fits has =
    let files = (user_view shape list user).files in
    recipe_suits shape user tag version (entry_at files (tag, version)) (λ e at. files_kept shape cloud list sound user e (found_entry files (tag, version) e at).1)
suits shape cloud list (requests.GetShares user fps) sound small fits has =
    let own = (user_view shape list user).own in
    shares_suit shape user fps own (map (λ fp. unwrap_or (held_string list fp) []) fps) (first_lacking own fps) (finds own fps) (fits.1.0.0, fits.1.0.1)
    (length-map fps (λ (fp : Fp). unwrap_or (held_string list fp) [])) (shares_held shape cloud list user fps sound)
suits shape cloud list (requests.List user after) sound small fits has =
    let files = (user_view shape list user).files in
    let page = is_page files after in
    record {
      fits = (
        page.few,
        keys_rise None (page_of files after) (from_none after (page_of files after) page.rising) (λ key c.
            let m = mapped_key files key (page.among key c) in
            subst IsKey m.2 (files_kept shape cloud list sound user m.0 m.1).0),
      );
      writable = page.few;
      kind = page.rising;
    }
suits shape cloud list (requests.Delete user tag version) sound small fits has =
    delete_suits shape user tag version (entry_at (user_view shape list user).files (tag, version))

-- ---- where a room may be full

full_suits : (shape : Shape) (cloud : ℕ) (list : List Command) (request : Request) (command : Command) (f : FullRoom) → (answer_over shape cloud list request).adds ≡ Some command
    → IsReplyTo (items_of shape request) request (replies.Full f.room f.used f.need f.limit)
full_suits shape cloud list requests.Hello command f e = absurd (let g : None ≡ Some command = e in cc)
full_suits shape cloud list (requests.Query user fps) command f e = absurd (let g : None ≡ Some command = e in cc)
full_suits shape cloud list (requests.Put user shares) command f e = tt
full_suits shape cloud list (requests.Commit user tag version recipe) command f e = tt
full_suits shape cloud list (requests.GetRecipe user tag version) command f e = absurd (let g : None ≡ Some command = e in cc)
full_suits shape cloud list (requests.GetShares user fps) command f e = absurd (let g : None ≡ Some command = e in cc)
full_suits shape cloud list (requests.List user after) command f e = absurd (let g : None ≡ Some command = e in cc)
full_suits shape cloud list (requests.Delete user tag version) command f e = tt

pub served_suits : (shape : Shape) (cloud : ℕ) (full : List Command → Command → Option FullRoom) (list : List Command) (request : Request) → IsSound shape cloud list → cloud < 256 → FitsRequest request → HasRecipe shape request
    → IsReplyTo (items_of shape request) request (served shape cloud full list request).reply
served_suits shape cloud full list request sound small fits has = by_adds (answer_over shape cloud list request).adds refl
  where
    by_room_of : (command : Command) (room : Option FullRoom) → (answer_over shape cloud list request).adds ≡ Some command → IsReplyTo (items_of shape request) request (by_room (answer_over shape cloud list request) room).reply
    by_room_of command None e = (suits shape cloud list request sound small fits has).kind
    by_room_of command (Some f) e = full_suits shape cloud list request command f e

    by_adds : (adds : Option Command) → (answer_over shape cloud list request).adds ≡ adds → IsReplyTo (items_of shape request) request (by_room (answer_over shape cloud list request) (room_for (full list) adds)).reply
    by_adds None e = (suits shape cloud list request sound small fits has).kind
    by_adds (Some command) e = by_room_of command (full list command) e
