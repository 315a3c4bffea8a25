-- What is kept stays, and what is committed is kept.
use Rattle.std.proofs.Common.{◌≡◌, ◌⊎◌, ℕ, Bool, true, false, cond, List, [], ◌∷◌, ◌++◌, length, map, Option, Some, None, refl, sym, ap, ◌∙◌, subst, append-nil, append_assoc, eq-eqb, inl, inr}
use Rattle.std.specs.Prelude.{All, ◌≤◌, ◌&&◌, ◌==◌, find, bytes_eq, option_map, option_to_list}
use Rattle.std.specs.List.{Contains, flat_map}
use Rattle.std.specs.Option.{option_or}
use Rattle.std.proofs.lemmas.List.Elements.{All-nil, All-cons, All-head, All-tail}
use Rattle.std.proofs.lemmas.List.Folds.{find-append}
use Rattle.std.proofs.lemmas.Slice.Eq.{bytes_eq-Decides}
use Rattle.file_recipe.specs.CdBase.Limits.{IsPath}
use Rattle.file_recipe.specs.CdBase.ids.Fp.{Fp}
use Rattle.file_recipe.specs.CdBase.ids.Tag.{Tag}
use Rattle.file_recipe.specs.CdBase.ids.UserId.{UserId}
use Rattle.file_recipe.specs.CdBase.ids.Version.{Version}
use Rattle.file_recipe.specs.CdBase.shape.Shape.{Shape}
use Rattle.restore_job.specs.CaontRs.Package.{share, tag}
use Rattle.restore_job.proofs.Recipe.Written.{again}
use Rattle.file_recipe.specs.FileRecipe.{secrets, recipe_of, recipe_bytes, item_of as item_for}
use Rattle.file_recipe.proofs.Recipes.{recipe_fits}
use Rattle.restore_job.specs.Messages.request.Request.TheVariants as requests
use Rattle.restore_job.specs.Messages.reply.Reply.TheVariants as replies
use Rattle.restore_job.specs.UserDedup.command.Command.{Command}
use Rattle.restore_job.specs.UserDedup.command.Command.TheVariants as commands
use Rattle.restore_job.specs.UserDedup.file_list.FileEntry.{FileEntry}
use Rattle.restore_job.specs.UserDedup.view.View.{View}
use Rattle.restore_job.specs.UserDedup.Cloud.{fingerprint, user_view, strings_of, held_string}
use Rattle.restore_job.specs.UserDedup.Requests.{fps_read, fps_of}
use Rattle.restore_job.specs.UserDedup.Owning.{fps_in, first_lacking, FindsLacking}
use Rattle.restore_job.specs.UserDedup.Pages.{is_at, entry_at}
use Rattle.restore_job.specs.UserDedup.Dedup.{commit_outcome, answer_over, TakesVersionOut}
use Rattle.restore_job.proofs.UserDedup.Owned.{contains_here, contains_later, finds}
use Rattle.restore_job.proofs.UserDedup.Deleting.{version_stays}
use Rattle.restore_job.proofs.UserDedup.Growing.{Each, IsNoDelete, ends_none}
use Rattle.restore_job.proofs.UserDedup.Views.{own_adds, held_is, owned_is_held, held_more}
use Rattle.kept_files.specs.Kept.{Keeps, IsWithoutCollision, key_of, AreHarmless}

-- ---- more commands

entry_next : (shape : Shape) (list : List Command) (c : Command) (user : UserId) (key : Tag × Version) (r : List ℕ) → ¬ TakesVersionOut user key c → (o : Option FileEntry) → entry_at (user_view shape list user).files key ≡ o
    → option_map (λ (e : FileEntry). e.recipe) o ≡ Some r → option_map (λ (e : FileEntry). e.recipe) (entry_at (user_view shape (list ++ c ∷ []) user).files key) ≡ Some r
entry_next shape list c user key r harmless None at h = absurd (let f : None ≡ Some r = h in cc)
entry_next shape list c user key r harmless (Some e) at h = ap (option_map (λ (e : FileEntry). e.recipe)) (version_stays shape list c user key e harmless at) ∙ h

keeps_next : (shape : Shape) (cloud : ℕ) (list : List Command) (c : Command) (user : UserId) (path : List ℕ) (version : Version) (file : List ℕ)
    → ¬ TakesVersionOut user (key_of shape path version) c → Keeps shape cloud list user path version file → Keeps shape cloud (list ++ c ∷ []) user path version file
keeps_next shape cloud list c user path version file harmless k = record {
  entry = entry_next shape list c user (key_of shape path version) (recipe_bytes shape cloud path file) harmless (entry_at (user_view shape list user).files (key_of shape path version)) refl k.entry;
  shares = λ i d h. held_more list (c ∷ []) _ _ (k.shares i d h);
}

pub keeps_still : (shape : Shape) (cloud : ℕ) (list more : List Command) (user : UserId) (path : List ℕ) (version : Version) (file : List ℕ)
    → AreHarmless user (key_of shape path version) more → Keeps shape cloud list user path version file → Keeps shape cloud (list ++ more) user path version file
keeps_still shape cloud list [] user path version file harmless k = subst (λ (l : List Command). Keeps shape cloud l user path version file) (sym (append-nil list)) k
keeps_still shape cloud list (c ∷ more) user path version file harmless k =
    subst (λ (l : List Command). Keeps shape cloud l user path version file) (append_assoc list (c ∷ []) more)
    (keeps_still shape cloud (list ++ c ∷ []) more user path version file (All-tail (λ command. ¬ TakesVersionOut user (key_of shape path version) command) c more harmless)
    (keeps_next shape cloud list c user path version file (All-head (λ command. ¬ TakesVersionOut user (key_of shape path version) command) c more harmless) k))

-- commands of which none is a Delete end no version
pub harmless_all : (user : UserId) (key : Tag × Version) (more : List Command) → Each IsNoDelete more → AreHarmless user key more
harmless_all user key [] each = All-nil (λ command. ¬ TakesVersionOut user key command)
harmless_all user key (c ∷ more) each = All-cons (λ command. ¬ TakesVersionOut user key command) c more (ends_none user key c each.0) (harmless_all user key more each.1)

-- ---- a Committed answer

-- what the outcome of a Commit adds, where it answers Committed
pub record Enters (lack : Option ℕ) (entry : Option FileEntry) (command : Command) (recipe : List ℕ) : Type 0 where
  pub whole : lack ≡ None
  pub adds : ((e : FileEntry) × (entry ≡ Some e) × (e.recipe ≡ recipe) × ((commit_outcome lack entry command recipe).adds ≡ None))
      ⊎ ((entry ≡ None) × ((commit_outcome lack entry command recipe).adds ≡ Some command))

by_test : (e : FileEntry) (command : Command) (recipe : List ℕ) (b : Bool) → bytes_eq e.recipe recipe ≡ b → cond b replies.Committed replies.Exists ≡ replies.Committed → Enters None (Some e) command recipe
by_test e command recipe true is h = record { whole = refl; adds = inl (e, refl, (bytes_eq-Decides e.recipe recipe).0 is, refl) }
by_test e command recipe false is h = absurd (let f : replies.Exists ≡ replies.Committed = h in cc)

enters : (lack : Option ℕ) (entry : Option FileEntry) (command : Command) (recipe : List ℕ) → (commit_outcome lack entry command recipe).reply ≡ replies.Committed → Enters lack entry command recipe
enters (Some place) entry command recipe h = absurd (let f : replies.Lacking place ≡ replies.Committed = h in cc)
enters None (Some e) command recipe h = by_test e command recipe (bytes_eq e.recipe recipe) refl h
enters None None command recipe h = record { whole = refl; adds = inr (refl, refl) }

-- the fingerprints that the recipe names
fps_named : (shape : Shape) (cloud : ℕ) (path file : List ℕ) → IsPath path → length file ≤ 67108864 → fps_of shape (recipe_bytes shape cloud path file) ≡ map (λ secret. fingerprint (share shape cloud secret)) (secrets file)
fps_named shape cloud path file named few =
    ap fps_read (again shape (recipe_of shape cloud path file) (recipe_fits shape cloud path file named few)) ∙ items_named (secrets file)
  where
    items_named : (xs : List (List ℕ)) → fps_in (map (item_for shape cloud) xs) ≡ map (λ secret. fingerprint (share shape cloud secret)) xs
    items_named [] = refl
    items_named (x ∷ xs) = ap (λ (l : List Fp). fingerprint (share shape cloud x) ∷ l) (items_named xs)

-- what is owned is held, as the share itself
held_all : (shape : Shape) (cloud : ℕ) (list : List Command) (user : UserId) (file : List ℕ) (xs : List (List ℕ))
    → ((string secret : List ℕ) → Contains (flat_map strings_of list) string → Contains xs secret → fingerprint string ≡ fingerprint (share shape cloud secret) → string ≡ share shape cloud secret)
    → All (Contains (user_view shape list user).own) (map (λ secret. fingerprint (share shape cloud secret)) xs)
    → All (λ secret. held_string list (fingerprint (share shape cloud secret)) ≡ Some (share shape cloud secret)) xs
held_all shape cloud list user file [] apart owned = All-nil (λ secret. held_string list (fingerprint (share shape cloud secret)) ≡ Some (share shape cloud secret))
held_all shape cloud list user file (x ∷ xs) apart owned =
    let own = (user_view shape list user).own in
    let fps = map (λ secret. fingerprint (share shape cloud secret)) xs in
    let fp = fingerprint (share shape cloud x) in
    let some = owned_is_held shape list user fp (All-head (Contains own) fp fps owned) in
    let same = apart some.0 x (held_is list fp some.0 some.1).1 (contains_here x xs) some.2 in
    All-cons (λ secret. held_string list (fingerprint (share shape cloud secret)) ≡ Some (share shape cloud secret)) x xs
    (some.1 ∙ ap (λ (s : List ℕ). Some s) same)
    (held_all shape cloud list user file xs (λ string secret put among. apart string secret put (contains_later x xs secret among)) (All-tail (Contains own) fp fps owned))

-- an entry stands at its own key
is_same : (shape : Shape) (path : List ℕ) (version : Version) (recipe : List ℕ) → is_at (key_of shape path version) (record { tag = record { 0 = tag shape path }; version = version; recipe = recipe }) ≡ true
is_same shape path version recipe =
    ap (λ (b : Bool). b && (version.0 == version.0)) ((bytes_eq-Decides (tag shape path) (tag shape path)).1 refl) ∙ eq-eqb version.0 version.0 refl

pub committed_keeps : (shape : Shape) (cloud : ℕ) (list : List Command) (user : UserId) (path : List ℕ) (version : Version) (file : List ℕ) → IsPath path → length file ≤ 67108864 → IsWithoutCollision shape cloud list file
    → (answer_over shape cloud list (requests.Commit user (record { 0 = tag shape path }) version (recipe_bytes shape cloud path file))).reply ≡ replies.Committed
    → Keeps shape cloud (list ++ option_to_list (answer_over shape cloud list (requests.Commit user (record { 0 = tag shape path }) version (recipe_bytes shape cloud path file))).adds) user path version file
committed_keeps shape cloud list user path version file named few apart h =
    by_entry (enters lack entry command recipe h)
  where
    view : View
    view = user_view shape list user

    recipe : List ℕ
    recipe = recipe_bytes shape cloud path file

    lack : Option ℕ
    lack = first_lacking view.own (fps_of shape recipe)

    entry : Option FileEntry
    entry = entry_at view.files (key_of shape path version)

    command : Command
    command = commands.Commit user (record { 0 = tag shape path }) version recipe

    held : Enters lack entry command recipe → All (λ secret. held_string list (fingerprint (share shape cloud secret)) ≡ Some (share shape cloud secret)) (secrets file)
    held e =
        let owned = subst (λ (o : Option ℕ). FindsLacking view.own (fps_of shape recipe) o) e.whole (finds view.own (fps_of shape recipe)) in
        held_all shape cloud list user file (secrets file) apart (subst (All (Contains view.own)) (fps_named shape cloud path file named few) owned)

    by_entry : Enters lack entry command recipe → Keeps shape cloud (list ++ option_to_list (commit_outcome lack entry command recipe).adds) user path version file
    by_entry e = by_adds e.adds
      where
        by_adds : ((f : FileEntry) × (entry ≡ Some f) × (f.recipe ≡ recipe) × ((commit_outcome lack entry command recipe).adds ≡ None)) ⊎ ((entry ≡ None) × ((commit_outcome lack entry command recipe).adds ≡ Some command))
            → Keeps shape cloud (list ++ option_to_list (commit_outcome lack entry command recipe).adds) user path version file
        by_adds (inl x) =
            subst (λ (o : Option Command). Keeps shape cloud (list ++ option_to_list o) user path version file) (sym x.3)
            (subst (λ (l : List Command). Keeps shape cloud l user path version file) (sym (append-nil list))
            (record { entry = ap (option_map (λ (f : FileEntry). f.recipe)) x.1 ∙ ap (λ (r : List ℕ). Some r) x.2; shares = held e }))
        by_adds (inr x) =
            subst (λ (o : Option Command). Keeps shape cloud (list ++ option_to_list o) user path version file) (sym x.1) (record {
              entry =
                  ap (λ (v : View). option_map (λ (f : FileEntry). f.recipe) (entry_at v.files (key_of shape path version))) (own_adds shape list command user refl)
                  ∙ ap (option_map (λ (f : FileEntry). f.recipe)) (find-append (is_at (key_of shape path version)) view.files (new ∷ []))
                  ∙ ap (λ (o : Option FileEntry). option_map (λ (f : FileEntry). f.recipe) (option_or o (find (is_at (key_of shape path version)) (new ∷ [])))) x.0
                  ∙ here;
              shares = λ i d lt. held_more list (command ∷ []) _ _ (held e i d lt);
            })
          where
            new : FileEntry
            new = record { tag = record { 0 = tag shape path }; version = version; recipe = recipe }

            found_new : (b : Bool) → b ≡ true → option_map (λ (f : FileEntry). f.recipe) (cond b (Some new) None) ≡ Some recipe
            found_new true q = refl
            found_new false q = absurd (let f : false ≡ true = q in cc)

            here : option_map (λ (f : FileEntry). f.recipe) (find (is_at (key_of shape path version)) (new ∷ [])) ≡ Some recipe
            here = found_new (is_at (key_of shape path version) new) (is_same shape path version recipe)
