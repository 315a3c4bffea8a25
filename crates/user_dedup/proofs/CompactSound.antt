-- The compact list of a sound list is sound: each of its commands is one that the cloud adds after those before it.
use Rattle.std.proofs.Common.{◌≡◌, ◌≢◌, ℕ, zero, suc, ◌<◌, ◌≤◌, ◌^◌, Bool, false, cond, List, [], ◌∷◌, ◌++◌, length, map, take, drop, Option, Some, None, refl, sym, ap, subst, ◌∙◌, arith, inl, inr, ◌⊎◌, append-nil, append_assoc}
use Rattle.std.specs.Prelude.{fold, unwrap_or}
use Rattle.std.specs.List.{Contains, flat_map}
use Rattle.std.proofs.lemmas.Bool.{cases_eq, false_from_ne_true}
use Rattle.std.proofs.lemmas.List.{length-map}
use Rattle.std.proofs.lemmas.List.Elements.{All-contains, Contains-push_cases, Contains-append_left, Contains-append_right}
use Rattle.journal_start.specs.CdBase.ids.Fp.{Fp}
use Rattle.journal_start.specs.CdBase.ids.Tag.{Tag}
use Rattle.journal_start.specs.CdBase.ids.UserId.{UserId}
use Rattle.journal_start.specs.CdBase.ids.Version.{Version}
use Rattle.journal_start.specs.CdBase.shape.Shape.{Shape}
use Rattle.journal_start.specs.MessageFields.Fingerprints.{IsBatch}
use Rattle.journal_start.specs.MessageFields.Shares.{IsShare, AreShares}
use Rattle.messages.specs.Requests.{FitsRequest}
use Rattle.messages.specs.declared.request.Request.{Request}
use Rattle.messages.specs.declared.request.Request.TheVariants as requests
use Rattle.user_dedup.specs.declared.file_list.FileEntry.{FileEntry}
use Rattle.user_dedup.specs.declared.view.View.{View}
use Rattle.user_dedup.specs.Cloud.{fingerprint, no_view}
use Rattle.user_dedup.specs.Owning.{is_among, lacking_from, first_lacking, new_strings}
use Rattle.user_dedup.specs.Pages.{key_of, is_at, entry_at, sorted_keys}
use Rattle.user_dedup.specs.Requests.{fps_of, HasRecipe, asker}
use Rattle.user_dedup.specs.Dedup.{put_outcome, commit_outcome}
use Rattle.user_dedup.proofs.New.{are_new}
use Rattle.user_dedup.proofs.Owned.{among_contains, contains_among, contains_here, contains_later, contains_nothing, contains_cases}
use Rattle.user_dedup.proofs.Sound.{put_adds, commit_adds, found_entry}
use Rattle.user_dedup.specs.declared.command.Command.{Command}
use Rattle.user_dedup.specs.declared.command.Command.TheVariants as commands
use Rattle.user_dedup.specs.Cloud.{user_of, view_after, user_view, strings_of, strings_in, held_bytes}
use Rattle.user_dedup.specs.Dedup.{answer_over, IsSound, Begun, Added}
use Rattle.user_dedup.specs.Compact.{users_in, sorted_fps, parts_by, in_parts, user_at, puts_for, commit_at, commits_for, compact}
use Rattle.user_dedup.proofs.Filtered.{from_flat}
use Rattle.user_dedup.proofs.Views.{view_more, own_adds, others_stay, owned_is_held, held_is}
use Rattle.user_dedup.proofs.Deleting.{its_key, entries_left}
use Rattle.user_dedup.proofs.Sorting.{Rises, number_cases, joined, joined_parts, fps_have, fps_from}
use Rattle.user_dedup.proofs.Sound.{by_asker, deletes_from, contained, entries_owned}
use Rattle.user_dedup.proofs.Compacting.{find_none, AreOf, none_own, users_rise, part_of, view_at, puts_of, commits_of, no_puts, back, owned_held, after_puts, commits_in, from_mapped}
use Rattle.user_dedup.proofs.Once.{Once, fps_once, keys_once, Fresh, fresh_of, fresh_cut}

-- ---- what a sound list has fits

user_fits : (request : Request) → FitsRequest request → (asker request).0 < 2 ^ 32
user_fits requests.Hello f = omega arith
user_fits (requests.Query user fps) f = f.0
user_fits (requests.Put user shares) f = f.0
user_fits (requests.Commit user tag version recipe) f = f.0.0
user_fits (requests.GetRecipe user tag version) f = f.0
user_fits (requests.GetShares user fps) f = f.0
user_fits (requests.List user after) f = f.0
user_fits (requests.Delete user tag version) f = f.0

-- the strings of a Put are as long as shares are, and a Commit can be asked
abbrev pub FitsCommand : Shape → Command → Type 0
FitsCommand shape (commands.Put user shares) = (s : List ℕ) → Contains shares s → IsShare s
FitsCommand shape (commands.Commit user tag version recipe) =
    FitsRequest (requests.Commit user tag version recipe) × HasRecipe shape (requests.Commit user tag version recipe)
FitsCommand shape (commands.Delete user tag version) = Unit {0}

added_fits : (shape : Shape) (cloud : ℕ) (list : List Command) (request : Request) (command : Command) → FitsRequest request → HasRecipe shape request
    → (answer_over shape cloud list request).adds ≡ Some command → FitsCommand shape command
added_fits shape cloud list requests.Hello command f r e = absurd (let no : None ≡ Some command = e in cc)
added_fits shape cloud list (requests.Query user fps) command f r e = absurd (let no : None ≡ Some command = e in cc)
added_fits shape cloud list (requests.Put user shares) command f r e =
    let own = (user_view shape list user).own in
    let c = put_adds user (new_strings own shares) command e in
    subst (FitsCommand shape) (sym c)
    (λ s among. All-contains IsShare shares s f.1.1 ((are_new own shares).among s among).0)
added_fits shape cloud list (requests.Commit user tag version recipe) command f r e =
    let lack = first_lacking (user_view shape list user).own (fps_of shape recipe) in
    let entry = entry_at (user_view shape list user).files (tag, version) in
    let c = commit_adds lack entry (commands.Commit user tag version recipe) recipe command e in
    subst (FitsCommand shape) (sym c.2) (f, r)
added_fits shape cloud list (requests.GetRecipe user tag version) command f r e = absurd (let no : None ≡ Some command = e in cc)
added_fits shape cloud list (requests.GetShares user fps) command f r e = absurd (let no : None ≡ Some command = e in cc)
added_fits shape cloud list (requests.List user after) command f r e = absurd (let no : None ≡ Some command = e in cc)
added_fits shape cloud list (requests.Delete user tag version) command f r e =
    let d = deletes_from (entry_at (user_view shape list user).files (tag, version)) (commands.Delete user tag version) command e in
    subst (FitsCommand shape) (sym d.1) tt

abbrev pub FitsAll : Shape → Command → Type 0
FitsAll shape c = ((user_of c).0 < 2 ^ 32) × FitsCommand shape c

pub all_fit : (shape : Shape) (cloud : ℕ) (list : List Command) → IsSound shape cloud list → (c : Command) → Contains list c → FitsAll shape c
all_fit shape cloud list Begun c d = absurd (contains_nothing c d)
all_fit shape cloud list (Added before request command sound fits recipe adds) c d =
    elim (Contains-push_cases before command c d) [
      | inl old ↦ all_fit shape cloud before sound c old
      | inr same ↦
          let low : (user_of command).0 < 2 ^ 32 =
          subst (λ (u : UserId). u.0 < 2 ^ 32) (sym (by_asker shape cloud before request command adds)) (user_fits request fits) in
          subst (FitsAll shape) same (low, added_fits shape cloud before request command fits recipe adds)
    ]

-- each entry of a user could be asked for by a Commit
abbrev pub FitFiles : Shape → UserId → List FileEntry → Type 0
FitFiles shape user files = (e : FileEntry) → Contains files e → FitsCommand shape (commands.Commit user e.tag e.version e.recipe)

files_step : (shape : Shape) (user : UserId) (v : View) (command : Command) → user_of command ≡ user → FitsCommand shape command
    → FitFiles shape user v.files → FitFiles shape user (view_after shape v command).files
files_step shape user v (commands.Put u shares) same f k = k
files_step shape user v (commands.Commit u tag version recipe) same f k = λ e c.
    elim (Contains-push_cases v.files (record { tag = tag; version = version; recipe = recipe }) e c) [
      | inl old ↦ k e old
      | inr is ↦ subst (λ (x : FileEntry). FitsCommand shape (commands.Commit user x.tag x.version x.recipe)) is
          (subst (λ (w : UserId). FitsCommand shape (commands.Commit w tag version recipe)) same f)
    ]
files_step shape user v (commands.Delete u tag version) same f k = λ e c. k e (entries_left (tag, version) v.files e c).0

pub files_fit : (shape : Shape) (cloud : ℕ) (list : List Command) → IsSound shape cloud list → (user : UserId)
    → FitFiles shape user (user_view shape list user).files
files_fit shape cloud list Begun user = λ e c. absurd (contains_nothing e c)
files_fit shape cloud list (Added before request command sound fits recipe adds) user =
    by_user (cases_eq (user_of command).0 user.0) (files_fit shape cloud before sound user)
  where
    by_user : ((user_of command).0 ≡ user.0) ⊎ ((user_of command).0 ≡ user.0 → ⊥) → FitFiles shape user (user_view shape before user).files
        → FitFiles shape user (user_view shape (before ++ command ∷ []) user).files
    by_user (inl same) k =
        let user_is : user_of command ≡ user = λ i. record { 0 = same i } in
        subst (λ (w : View). FitFiles shape user w.files) (sym (own_adds shape before command user same))
        (files_step shape user (user_view shape before user) command user_is (added_fits shape cloud before request command fits recipe adds) k)
    by_user (inr other) k = subst (λ (w : View). FitFiles shape user w.files) (sym (others_stay shape before command user other)) k

pub share_of : (shape : Shape) (c : Command) (s : List ℕ) → FitsCommand shape c → Contains (strings_of c) s → IsShare s
share_of shape (commands.Put user shares) s f c = f s c
share_of shape (commands.Commit user tag version recipe) s f c = absurd (contains_nothing s c)
share_of shape (commands.Delete user tag version) s f c = absurd (contains_nothing s c)

shares_fit : (shape : Shape) (cloud : ℕ) (list : List Command) → IsSound shape cloud list → (s : List ℕ) → Contains (strings_in list) s → IsShare s
shares_fit shape cloud list sound s c =
    let f = from_flat strings_of list s c in
    share_of shape f.0 s (all_fit shape cloud list sound f.0 f.1).1 f.2

-- the users of a list are those of its commands
users_from : (list : List Command) → ((c : Command) → Contains list c → (user_of c).0 < 2 ^ 32) → (n : ℕ) → Contains (users_in list) n → n < 2 ^ 32
users_from [] low n c = absurd (contains_nothing n c)
users_from (command ∷ list) low n c =
    elim (number_cases (user_of command).0 (users_in list) n c) [
      | inl same ↦ subst (λ (m : ℕ). m < 2 ^ 32) same (low command (contains_here command list))
      | inr later ↦ users_from list (λ d e. low d (contains_later command list d e)) n later
    ]

-- ---- one command more

-- what is fresh is new
new_all : (own : List Fp) (ss : List (List ℕ)) → Fresh own (map fingerprint ss) → new_strings own ss ≡ ss
new_all own [] f = refl
new_all own (s ∷ ss) f =
    let test : is_among own (fingerprint s) ≡ false = false_from_ne_true (is_among own (fingerprint s)) (λ t. f.0 (among_contains own (fingerprint s) t)) in
    ap (λ (b : Bool). cond b (new_strings own ss) (s ∷ new_strings (own ++ fingerprint s ∷ []) ss)) test
    ∙ ap (λ l. s ∷ l) (new_all (own ++ fingerprint s ∷ []) ss f.1)

put_given : (user : UserId) (shares : List (List ℕ)) → 1 ≤ length shares → (put_outcome user shares).adds ≡ Some (commands.Put user shares)
put_given user [] le = absurd (omega (arith, le))
put_given user (s ∷ ss) le = refl

put_sound : (shape : Shape) (cloud : ℕ) (front : List Command) (user : UserId) (shares : List (List ℕ)) → IsSound shape cloud front
    → user.0 < 2 ^ 32 → AreShares shares → new_strings (user_view shape front user).own shares ≡ shares
    → IsSound shape cloud (front ++ commands.Put user shares ∷ [])
put_sound shape cloud front user shares sound low fit new =
    let adds : (answer_over shape cloud front (requests.Put user shares)).adds ≡ Some (commands.Put user shares) =
    ap (λ (ss : List (List ℕ)). (put_outcome user ss).adds) new ∙ put_given user shares fit.0.0 in
    Added front (requests.Put user shares) (commands.Put user shares) sound (low, fit) tt adds

-- none of what is owned is lacking
none_lacking : (own fps : List Fp) (i : ℕ) → ((fp : Fp) → Contains fps fp → Contains own fp) → lacking_from own i fps ≡ None
none_lacking own [] i all = refl
none_lacking own (fp ∷ fps) i all =
    ap (λ (b : Bool). cond b (lacking_from own (suc i) fps) (Some i)) (contains_among own fp (all fp (contains_here fp fps)))
    ∙ none_lacking own fps (suc i) (λ q c. all q (contains_later fp fps q c))

commit_sound : (shape : Shape) (cloud : ℕ) (front : List Command) (user : UserId) (e : FileEntry) → IsSound shape cloud front
    → FitsCommand shape (commands.Commit user e.tag e.version e.recipe)
    → ((fp : Fp) → Contains (fps_of shape e.recipe) fp → Contains (user_view shape front user).own fp)
    → entry_at (user_view shape front user).files (key_of e) ≡ None
    → IsSound shape cloud (front ++ commands.Commit user e.tag e.version e.recipe ∷ [])
commit_sound shape cloud front user e sound fits owned none =
    let v = user_view shape front user in
    let command = commands.Commit user e.tag e.version e.recipe in
    let adds : (answer_over shape cloud front (requests.Commit user e.tag e.version e.recipe)).adds ≡ Some (commands.Commit user e.tag e.version e.recipe) =
    ap (λ (l : Option ℕ). (commit_outcome l (entry_at v.files (key_of e)) command e.recipe).adds) (none_lacking v.own (fps_of shape e.recipe) 0 owned)
    ∙ ap (λ (o : Option FileEntry). (commit_outcome None o command e.recipe).adds) none in
    Added front (requests.Commit user e.tag e.version e.recipe) (commands.Commit user e.tag e.version e.recipe) sound fits.0 fits.1 adds

-- other users' commands leave a view
rest_stays : (shape : Shape) (front more : List Command) (user : UserId) (n : ℕ) → n ≢ user.0 → AreOf n more
    → user_view shape (front ++ more) user ≡ user_view shape front user
rest_stays shape front more user n other of =
    view_more shape front more user ∙ ap (fold (view_after shape) (user_view shape front user)) (none_own user n more other of)

-- ---- parts

take_few : (n : ℕ) (fps : List Fp) → length (take n fps) ≤ n
take_few zero fps = omega arith
take_few (suc n) [] = omega arith
take_few (suc n) (fp ∷ fps) = let few = take_few n fps in omega (arith, few)

parts_batch : (steps : ℕ) (fps part : List Fp) → Contains (parts_by steps fps) part → IsBatch part
parts_batch zero fps part c = absurd (contains_nothing part c)
parts_batch (suc steps) [] part c = absurd (contains_nothing part c)
parts_batch (suc steps) (fp ∷ fps) part c =
    elim (contains_cases (take 256 (fp ∷ fps)) (parts_by steps (drop 256 (fp ∷ fps))) part c) [
      | inl same ↦ subst (λ (l : List Fp). IsBatch l) same (let few = take_few 255 fps in (omega arith, omega (arith, few)))
      | inr later ↦ parts_batch steps (drop 256 (fp ∷ fps)) part later
    ]

module _ (shape : Shape) (cloud : ℕ) (list : List Command) (sound : IsSound shape cloud list) where
  abbrev put_of : UserId → List Fp → Command
  put_of user fps = commands.Put user (map (held_bytes list) fps)

  abbrev AreOwn : UserId → List Fp → Type 0
  AreOwn user fps = (fp : Fp) → Contains fps fp → Contains (user_view shape list user).own fp

  held_share : (user : UserId) (fp : Fp) → Contains (user_view shape list user).own fp → IsShare (held_bytes list fp)
  held_share user fp own =
      let h = owned_is_held shape list user fp own in
      let bytes : held_bytes list fp ≡ h.0 = ap (λ o. unwrap_or o []) h.1 in
      subst (λ (s : List ℕ). IsShare s) (sym bytes) (shares_fit shape cloud list sound h.0 (held_is list fp h.0 h.1).1)

  are_shares : (user : UserId) (fps : List Fp) → IsBatch fps → AreOwn user fps → AreShares (map (held_bytes list) fps)
  are_shares user fps batch own =
      let len = length-map fps (held_bytes list) in (
        (omega (arith, len, batch.0), omega (arith, len, batch.1)),
        contained IsShare (map (held_bytes list) fps) (λ s c.
            let m = from_mapped shape list (held_bytes list) fps s c in
            subst (λ (t : List ℕ). IsShare t) m.2 (held_share user m.0 (own m.0 m.1))),
      )

  -- ---- a user's Puts

  add_puts : (front : List Command) (user : UserId) (parts : List (List Fp)) → IsSound shape cloud front → user.0 < 2 ^ 32
      → ((part : List Fp) → Contains parts part → IsBatch part) → AreOwn user (joined parts)
      → Fresh (user_view shape front user).own (joined parts)
      → IsSound shape cloud (front ++ map (put_of user) parts)
  add_puts front user [] s low batch own fresh = subst (λ (l : List Command). IsSound shape cloud l) (sym (append-nil front)) s
  add_puts front user (part ∷ parts) s low batch own fresh =
      let had = (user_view shape front user).own in
      let here = λ (q : Fp) (c : Contains part q). own q (Contains-append_left part (joined parts) q c) in
      let there = λ (q : Fp) (c : Contains (joined parts) q). own q (Contains-append_right part (joined parts) q c) in
      let same = back shape list part (owned_held shape list user part here) in
      let cut = fresh_cut had part (joined parts) fresh in
      let new = new_all had (map (held_bytes list) part) (subst (Fresh had) (sym same) cut.0) in
      let shares = are_shares user part (batch part (contains_here part parts)) here in
      let next = put_sound shape cloud front user (map (held_bytes list) part) s low shares new in
      let grown : (user_view shape (front ++ put_of user part ∷ []) user).own ≡ had ++ part =
      ap (λ (w : View). w.own) (own_adds shape front (put_of user part) user refl) ∙ ap (λ l. had ++ l) same in
      let more = add_puts (front ++ put_of user part ∷ []) user parts next low (λ p c. batch p (contains_later part parts p c)) there
      (subst (λ o. Fresh o (joined parts)) (sym grown) cut.1) in
      subst (λ (l : List Command). IsSound shape cloud l) (append_assoc front (put_of user part ∷ []) (map (put_of user) parts)) more

  puts_sound : (front : List Command) (ns : List ℕ) → IsSound shape cloud front → Rises ns → ((n : ℕ) → Contains ns n → n < 2 ^ 32)
      → ((n : ℕ) → Contains ns n → (user_view shape front (user_at n)).own ≡ [])
      → IsSound shape cloud (front ++ flat_map (puts_for shape list) ns)
  puts_sound front [] s rise low none = subst (λ (l : List Command). IsSound shape cloud l) (sym (append-nil front)) s
  puts_sound front (n ∷ ns) s rise low none =
      let fps = sorted_fps (view_at shape list n).own in
      let all : joined (in_parts fps) ≡ fps = joined_parts fps in
      let own : AreOwn (user_at n) (joined (in_parts fps)) = λ fp c. fps_from (view_at shape list n).own fp (subst (λ l. Contains l fp) all c) in
      let fresh : Fresh (user_view shape front (user_at n)).own (joined (in_parts fps)) =
      subst (λ o. Fresh o (joined (in_parts fps))) (sym (none n (contains_here n ns)))
      (subst (Fresh []) (sym all) (fresh_of [] fps (fps_once (view_at shape list n).own) (λ q c d. contains_nothing q c))) in
      let first = add_puts front (user_at n) (in_parts fps) s (low n (contains_here n ns)) (parts_batch (length fps) fps) own fresh in
      let rest = puts_sound (front ++ puts_for shape list n) ns first rise.1 (λ m c. low m (contains_later n ns m c)) (λ m c.
      ap (λ (w : View). w.own) (rest_stays shape front (puts_for shape list n) (user_at m) n (λ same. let l = rise.0 m c in omega (arith, l, same)) (puts_of shape list n))
      ∙ none m (contains_later n ns m c)) in
      subst (λ (l : List Command). IsSound shape cloud l) (append_assoc front (puts_for shape list n) (flat_map (puts_for shape list) ns)) rest

  -- ---- a user's Commits

  -- all that the user owns in the list is owned, and no entry has one of these keys
  abbrev IsReady : List Command → UserId → List (Tag × Version) → Type 0
  IsReady front user keys =
      ((fp : Fp) → Contains (user_view shape list user).own fp → Contains (user_view shape front user).own fp)
      × ((e : FileEntry) → Contains (user_view shape front user).files e → Contains keys (key_of e) → ⊥)

  add_commits : (front : List Command) (user : UserId) (keys : List (Tag × Version)) → IsSound shape cloud front → Once keys → IsReady front user keys
      → IsSound shape cloud (front ++ commits_in shape list user (user_view shape list user).files keys)
  add_commits front user [] s once ready = subst (λ (l : List Command). IsSound shape cloud l) (sym (append-nil front)) s
  add_commits front user (key ∷ keys) s once ready =
      by_found (entry_at (user_view shape list user).files key) refl (λ behind t r. add_commits behind user keys t once.1 r)
    where
      rest : List Command
      rest = commits_in shape list user (user_view shape list user).files keys

      by_found : (found : Option FileEntry) → entry_at (user_view shape list user).files key ≡ found
          → ((behind : List Command) → IsSound shape cloud behind → IsReady behind user keys → IsSound shape cloud (behind ++ commits_in shape list user (user_view shape list user).files keys))
          → IsSound shape cloud (front ++ (commit_at user found ++ commits_in shape list user (user_view shape list user).files keys))
      by_found None is more = more front s (ready.0, λ e c d. ready.1 e c (contains_later key keys (key_of e) d))
      by_found (Some e) is more =
          let v = user_view shape front user in
          let files = (user_view shape list user).files in
          let command = commands.Commit user e.tag e.version e.recipe in
          let f = found_entry files key e is in
          let owned = λ (fp : Fp) (c : Contains (fps_of shape e.recipe) fp).
          ready.0 fp (All-contains (Contains (user_view shape list user).own) (fps_of shape e.recipe) fp (entries_owned shape cloud list user e sound f.1) c) in
          let none : entry_at v.files (key_of e) ≡ None =
          find_none (is_at (key_of e)) v.files (λ y c t.
          ready.1 y c (subst (Contains (key ∷ keys)) (sym (its_key y (key_of e) t ∙ f.0)) (contains_here key keys))) in
          let next = commit_sound shape cloud front user e s (files_fit shape cloud list sound user e f.1) owned none in
          let after = own_adds shape front command user refl in
          let left : IsReady (front ++ command ∷ []) user keys = (
            λ fp c. subst (λ (w : View). Contains w.own fp) (sym after) (ready.0 fp c),
            λ y c d. elim (Contains-push_cases v.files e y (subst (λ (w : View). Contains w.files y) after c)) [
              | inl old ↦ ready.1 y old (contains_later key keys (key_of y) d)
              | inr same ↦ once.0 (subst (Contains keys) (ap key_of (sym same) ∙ f.0) d)
            ],
          ) in
          subst (λ (l : List Command). IsSound shape cloud l)
          (append_assoc front (command ∷ []) (commits_in shape list user files keys)) (more (front ++ command ∷ []) next left)

  -- all that users own is owned, and there is no entry yet
  abbrev AreReady : List Command → List ℕ → Type 0
  AreReady front ns = (n : ℕ) → Contains ns n
      → ((fp : Fp) → Contains (view_at shape list n).own fp → Contains (user_view shape front (user_at n)).own fp)
      × ((user_view shape front (user_at n)).files ≡ [])

  commits_sound : (front : List Command) (ns : List ℕ) → IsSound shape cloud front → Rises ns → AreReady front ns
      → IsSound shape cloud (front ++ flat_map (commits_for shape list) ns)
  commits_sound front [] s rise ready = subst (λ (l : List Command). IsSound shape cloud l) (sym (append-nil front)) s
  commits_sound front (n ∷ ns) s rise ready =
      let keys = sorted_keys (map key_of (view_at shape list n).files) in
      let now = ready n (contains_here n ns) in
      let first = add_commits front (user_at n) keys s (keys_once (map key_of (view_at shape list n).files))
      (now.0, λ e c d. contains_nothing e (subst (λ (l : List FileEntry). Contains l e) now.1 c)) in
      let stays = λ (m : ℕ) (c : Contains ns m).
      rest_stays shape front (commits_for shape list n) (user_at m) n (λ same. let l = rise.0 m c in omega (arith, l, same)) (commits_of shape list n) in
      let rest = commits_sound (front ++ commits_for shape list n) ns first rise.1 (λ m c.
      let r = ready m (contains_later n ns m c) in
      (λ fp o. subst (λ (w : View). Contains w.own fp) (sym (stays m c)) (r.0 fp o), ap (λ (w : View). w.files) (stays m c) ∙ r.1)) in
      subst (λ (l : List Command). IsSound shape cloud l) (append_assoc front (commits_for shape list n) (flat_map (commits_for shape list) ns)) rest

  -- ---- all of it

  put_view : (n : ℕ) → user_view shape (flat_map (puts_for shape list) (users_in list)) (user_at n)
      ≡ record { own = joined (in_parts (sorted_fps (view_at shape list n).own)); files = [] }
  put_view n =
      let fps = sorted_fps (view_at shape list n).own in
      let held = owned_held shape list (user_at n) (joined (in_parts fps)) (λ fp c. fps_from (view_at shape list n).own fp (subst (λ l. Contains l fp) (joined_parts fps) c)) in
      ap (fold (view_after shape) no_view) (part_of (puts_for shape list) (puts_of shape list) list (user_at n) (no_puts shape list (user_at n)))
      ∙ after_puts shape list (user_at n) (in_parts fps) no_view held

  pub compact_sound : IsSound shape cloud (compact shape list)
  unfolding compact
  compact_sound =
      let users = users_in list in
      let puts = puts_sound [] users Begun (users_rise list) (users_from list (λ c d. (all_fit shape cloud list sound c d).0)) (λ n c. refl) in
      commits_sound (flat_map (puts_for shape list) users) users puts (users_rise list) (λ n c. (
        λ fp o. subst (λ (w : View). Contains w.own fp) (sym (put_view n))
            (subst (λ l. Contains l fp) (sym (joined_parts (sorted_fps (view_at shape list n).own))) (fps_have (view_at shape list n).own fp o)),
        ap (λ (w : View). w.files) (put_view n),
      ))
