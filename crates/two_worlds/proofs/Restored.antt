-- What clouds give of a user's version follows from the user's own commands, where no two strings share a SHA-256.
use Rattle.std.proofs.Common.{◌≡◌, ℕ, zero, suc, ◌+◌, ◌-◌, cond, List, [], ◌∷◌, ◌++◌, length, map, Option, Some, None, Result, Ok, Err, refl, sym, ap, ◌∙◌, subst, inl, inr, ◌⊎◌, arith}
use Rattle.std.specs.Prelude.{find, is_none, min, ◌==◌, option_map, unwrap_or}
use Rattle.std.specs.List.{Contains, flat_map}
use Rattle.std.proofs.lemmas.List.Elements.{All-contains}
use Rattle.sha2.specs.Sha256.{sha256 as sha256_of}
use Rattle.sha2.proofs.Facts256.{length-sha256}
use Rattle.recipe.specs.CdBase.Lengths.{share_len_of}
use Rattle.recipe.specs.CdBase.ids.Fp.{Fp}
use Rattle.recipe.specs.CdBase.ids.Tag.{Tag}
use Rattle.recipe.specs.CdBase.ids.UserId.{UserId}
use Rattle.recipe.specs.CdBase.ids.Version.{Version}
use Rattle.recipe.specs.CdBase.shape.Shape.{Shape}
use Rattle.session_model.specs.CaontRs.Opening.{opened}
use Rattle.session_model.specs.MessageFields.Fingerprints.{batch_limit}
use Rattle.recipe.specs.Reading.{recipe_at}
use Rattle.recipe.specs.declared.items.Item.{Item}
use Rattle.recipe.specs.declared.recipe.Recipe.{Recipe}
use Rattle.session_model.specs.UserDedup.command.Command.{Command}
use Rattle.session_model.specs.UserDedup.file_list.FileEntry.{FileEntry}
use Rattle.session_model.specs.UserDedup.view.View.{View}
use Rattle.session_model.specs.UserDedup.Cloud.{commands_of, user_view, held_string, strings_in}
use Rattle.session_model.specs.UserDedup.Owning.{fps_in}
use Rattle.session_model.specs.UserDedup.Pages.{is_at, entry_at, key_of, sorted_keys}
use Rattle.session_model.specs.UserDedup.Requests.{fps_of, fps_read}
use Rattle.session_model.proofs.UserDedup.Owned.{contains_here, contains_later, contains_nothing}
use Rattle.session_model.proofs.UserDedup.Views.{found_passes}
use Rattle.session_model.proofs.UserDedup.Views.{held_is}
use Rattle.two_worlds.proofs.Rules.{EntriesOwned}
use Rattle.session_model.specs.RestoreJob.Restored.{Unrestored, ShareLength, Missing, Given, no_recipe, item_of, string_at, recipe_read, recipe_in, given_by, missing, differing, or_else, unless, behind, wrong_string, wrong_strings, wrong_length, secret_opened, of_secret, secrets_opened, batch_opened, batches_opened, batch_count, items_opened, agreed, restored_file}
use Rattle.session_model.specs.SubsetRestore.Subsets.{subsets}
use Rattle.session_model.specs.SubsetRestore.Restored.{first_given, restored_any}
use Rattle.session_model.specs.Rebuild.Found.{name_opened, name_judged, unless_skipped, recipes_differ, version_named, version_under, keys_in, finding_under, findings, first_of}
use Rattle.two_worlds.proofs.Alone.{Apart, same_view, same_held}

-- ---- what is given, alike

-- the same cloud and recipe, and the same string for each item
pub record GivenAlike (a b : Given) : Type 0 where
  pub cloud : a.cloud ≡ b.cloud
  pub recipe : a.recipe ≡ b.recipe
  pub strings : (i : ℕ) → string_at a i ≡ string_at b i

abbrev pub AllAlike : List Given → List Given → Type 0
AllAlike [] [] = Unit {0}
AllAlike [] (b ∷ bs) = ⊥
AllAlike (a ∷ gs) [] = ⊥
AllAlike (a ∷ gs) (b ∷ bs) = GivenAlike a b × AllAlike gs bs

clouds_alike : (gs bs : List Given) → AllAlike gs bs → map (λ (g : Given). g.cloud) gs ≡ map (λ (g : Given). g.cloud) bs
clouds_alike [] [] x = refl
clouds_alike [] (b ∷ bs) x = absurd x
clouds_alike (a ∷ gs) [] x = absurd x
clouds_alike (a ∷ gs) (b ∷ bs) x = let h = x.0.cloud in let t = clouds_alike gs bs x.1 in λ i. h i ∷ t i

recipes_alike : (gs bs : List Given) → AllAlike gs bs → map (λ (g : Given). g.recipe) gs ≡ map (λ (g : Given). g.recipe) bs
recipes_alike [] [] x = refl
recipes_alike [] (b ∷ bs) x = absurd x
recipes_alike (a ∷ gs) [] x = absurd x
recipes_alike (a ∷ gs) (b ∷ bs) x = let h = x.0.recipe in let t = recipes_alike gs bs x.1 in λ i. h i ∷ t i

shares_alike : (cs ds : List Given) → AllAlike cs ds → flat_map (λ (g : Given). g.recipe.name_share) cs ≡ flat_map (λ (g : Given). g.recipe.name_share) ds
shares_alike [] [] y = refl
shares_alike [] (d ∷ ds) y = absurd y
shares_alike (c ∷ cs) [] y = absurd y
shares_alike (c ∷ cs) (d ∷ ds) y = let h = y.0.recipe in let t = shares_alike cs ds y.1 in λ j. (h j).name_share ++ t j

strings_alike : (gs bs : List Given) → AllAlike gs bs → (i : ℕ) → flat_map (λ (g : Given). string_at g i) gs ≡ flat_map (λ (g : Given). string_at g i) bs
strings_alike [] [] x i = refl
strings_alike [] (b ∷ bs) x i = absurd x
strings_alike (a ∷ gs) [] x i = absurd x
strings_alike (a ∷ gs) (b ∷ bs) x i = let h = x.0.strings i in let t = strings_alike gs bs x.1 i in λ j. h j ++ t j

abbrev wrong_by : Shape → List Item → ℕ → List ℕ → ℕ → Option Unrestored
wrong_by shape items cloud string i =
    let found = length string in
    let wanted = share_len_of shape.k (item_of items i).secret_len in
    cond (found == wanted) None (Some (ShareLength cloud i found wanted))

module _ (shape : Shape) (items : List Item) where
  wrong_alike : (a b : Given) → GivenAlike a b → (i : ℕ) → wrong_string shape items a i ≡ wrong_string shape items b i
  wrong_alike a b x i = let c = x.cloud in let s = x.strings i in λ j. wrong_by shape items (c j) (s j) i

  wrongs_alike : (a b : Given) → GivenAlike a b → (place n : ℕ) → wrong_strings shape items a place n ≡ wrong_strings shape items b place n
  wrongs_alike a b x place zero = refl
  wrongs_alike a b x place (suc n) = let h = wrong_alike a b x place in let t = wrongs_alike a b x (place + 1) n in λ j. or_else (h j) (t j)

  lengths_alike : (gs bs : List Given) → AllAlike gs bs → (place n : ℕ) → wrong_length shape items place n gs ≡ wrong_length shape items place n bs
  lengths_alike [] [] x place n = refl
  lengths_alike [] (b ∷ bs) x place n = absurd x
  lengths_alike (a ∷ gs) [] x place n = absurd x
  lengths_alike (a ∷ gs) (b ∷ bs) x place n = let h = wrongs_alike a b x.0 place n in let t = lengths_alike gs bs x.1 place n in λ j. or_else (h j) (t j)

  opened_alike : (gs bs : List Given) → AllAlike gs bs → (i : ℕ) → secret_opened shape items gs i ≡ secret_opened shape items bs i
  opened_alike gs bs x i =
      let c = clouds_alike gs bs x in let s = strings_alike gs bs x i in
      λ j. opened shape (item_of items i).secret_len (c j) (s j)

  secrets_alike : (gs bs : List Given) → AllAlike gs bs → (place n : ℕ) → secrets_opened shape items gs place n ≡ secrets_opened shape items bs place n
  secrets_alike gs bs x place zero = refl
  secrets_alike gs bs x place (suc n) =
      let h = opened_alike gs bs x place in let t = secrets_alike gs bs x (place + 1) n in
      λ j. behind (of_secret place (h j)) (t j)

  batch_alike : (gs bs : List Given) → AllAlike gs bs → (place n : ℕ) → batch_opened shape items gs place n ≡ batch_opened shape items bs place n
  batch_alike gs bs x place n = let h = lengths_alike gs bs x place n in let t = secrets_alike gs bs x place n in λ j. unless (h j) (t j)

  batches_alike : (gs bs : List Given) → AllAlike gs bs → (m place left : ℕ) → batches_opened shape items gs m place left ≡ batches_opened shape items bs m place left
  batches_alike gs bs x zero place left = refl
  batches_alike gs bs x (suc m) place left =
      let h = batch_alike gs bs x place (min batch_limit left) in
      let t = batches_alike gs bs x m (place + min batch_limit left) (left - min batch_limit left) in
      λ j. behind (h j) (t j)

module _ (shape : Shape) where
  items_alike : (gs bs : List Given) → AllAlike gs bs → (one two : List Item) → one ≡ two → items_opened shape one gs ≡ items_opened shape two bs
  items_alike gs bs x one two same =
      ap (λ (l : List Item). items_opened shape l gs) same
      ∙ batches_alike shape two gs bs x (batch_count (length two)) 0 (length two)

  agreed_alike : (gs bs : List Given) → AllAlike gs bs → agreed shape gs ≡ agreed shape bs
  agreed_alike [] [] x = refl
  agreed_alike [] (b ∷ bs) x = absurd x
  agreed_alike (a ∷ gs) [] x = absurd x
  agreed_alike (a ∷ gs) (b ∷ bs) x =
      let c = x.0.cloud in let r = x.0.recipe in let cs = clouds_alike gs bs x.1 in let rs = recipes_alike gs bs x.1 in
      let t = items_alike (a ∷ gs) (b ∷ bs) x a.recipe.items b.recipe.items (ap (λ (y : Recipe). y.items) r) in
      λ j. unless (differing (c j) (r j) (cs j) (rs j)) (t j)

-- ---- a user's own

-- no string has the fingerprint of no bytes
pub nothing_held : (list : List Command) → held_string list (record { 0 = [] }) ≡ None
nothing_held list = by_found (held_string list (record { 0 = [] })) refl
  where
    by_found : (o : Option (List ℕ)) → held_string list (record { 0 = [] }) ≡ o → o ≡ None
    by_found None e = refl
    by_found (Some s) e =
        let f = held_is list (record { 0 = [] }) s e in
        let none : length (sha256_of s) ≡ 0 = ap (λ (x : Fp). length x.0) f.0 in
        let some = length-sha256 s in
        absurd (omega (arith, none, some))

item_cases : (items : List Item) (i : ℕ) → Contains (fps_in items) (item_of items i).fp ⊎ ((item_of items i).fp ≡ record { 0 = [] })
item_cases [] i = inr refl
item_cases (item ∷ items) zero = inl (contains_here item.fp (fps_in items))
item_cases (item ∷ items) (suc i) = elim (item_cases items i) [
  | inl has ↦ inl (contains_later item.fp (fps_in items) (item_of items i).fp has)
  | inr none ↦ inr none
]

module _ (shape : Shape) (u : UserId) (key : Tag × Version) where
  -- the recipe of an entry that is there names what is owned
  entry_names : (v : View) → EntriesOwned shape v → (entry : FileEntry) → entry_at v.files key ≡ Some entry → (fp : Fp) → Contains (fps_of shape entry.recipe) fp → Contains v.own fp
  entry_names v owned entry at fp has =
      All-contains (Contains v.own) (fps_of shape entry.recipe) fp (owned entry (found_passes (is_at key) v.files entry at).1) has

  names_read : (r : Result Recipe ℕ) → fps_in (recipe_read r).items ≡ fps_read r
  names_read (Ok recipe) = refl
  names_read (Err at) = refl

  -- what the recipe of the user's entry names, if there is one, is owned
  recipe_owned : (v : View) → EntriesOwned shape v → (o : Option FileEntry) → entry_at v.files key ≡ o
      → (fp : Fp) → Contains (fps_in (unwrap_or (option_map (λ (entry : FileEntry). recipe_read (recipe_at shape entry.recipe)) o) no_recipe).items) fp → Contains v.own fp
  recipe_owned v owned None at fp has = absurd (contains_nothing fp has)
  recipe_owned v owned (Some entry) at fp has =
      entry_names v owned entry at fp (subst (λ (l : List Fp). Contains l fp) (names_read (recipe_at shape entry.recipe)) has)

  pub same_recipe : (list : List Command) → recipe_in shape (commands_of u list) u key ≡ recipe_in shape list u key
  same_recipe list = ap (λ (v : View). option_map (λ (entry : FileEntry). recipe_read (recipe_at shape entry.recipe)) (entry_at v.files key)) (same_view shape u list)

  module _ (lists : ℕ → List Command) (owned : (c : ℕ) → EntriesOwned shape (user_view shape (lists c) u)) (apart : (c : ℕ) → Apart (Contains (strings_in (lists c)))) where
    abbrev pub own_lists : ℕ → List Command
    own_lists c = commands_of u (lists c)

    given_alike : (c : ℕ) → GivenAlike (given_by shape own_lists u key c) (given_by shape lists u key c)
    given_alike c = record { cloud = refl; recipe = recipes; strings = strings }
      where
        recipes : unwrap_or (recipe_in shape (own_lists c) u key) no_recipe ≡ unwrap_or (recipe_in shape (lists c) u key) no_recipe
        recipes = ap (λ (o : Option Recipe). unwrap_or o no_recipe) (same_recipe (lists c))

        held : (fp : Fp) → Contains (user_view shape (lists c) u).own fp ⊎ (fp ≡ record { 0 = [] }) → unwrap_or (held_string (own_lists c) fp) [] ≡ unwrap_or (held_string (lists c) fp) []
        held fp (inl has) = ap (λ (o : Option (List ℕ)). unwrap_or o []) (same_held shape u (lists c) (apart c) fp has)
        held fp (inr none) =
            ap (λ (f : Fp). unwrap_or (held_string (own_lists c) f) []) none ∙ ap (λ (o : Option (List ℕ)). unwrap_or o []) (nothing_held (own_lists c) ∙ sym (nothing_held (lists c)))
            ∙ sym (ap (λ (f : Fp). unwrap_or (held_string (lists c) f) []) none)

        strings : (i : ℕ) → string_at (given_by shape own_lists u key c) i ≡ string_at (given_by shape lists u key c) i
        strings i =
            let items = (unwrap_or (recipe_in shape (lists c) u key) no_recipe).items in
            let named : (item_of (unwrap_or (recipe_in shape (own_lists c) u key) no_recipe).items i).fp ≡ (item_of items i).fp = ap (λ (r : Recipe). (item_of r.items i).fp) recipes in
            ap (λ (f : Fp). unwrap_or (held_string (own_lists c) f) []) named
            ∙ held (item_of items i).fp (elim (item_cases items i) [
              | inl has ↦ inl (recipe_owned (user_view shape (lists c) u) (owned c) (entry_at (user_view shape (lists c) u).files key) refl (item_of items i).fp has)
              | inr none ↦ inr none
            ])

    all_alike : (clouds : List ℕ) → AllAlike (map (given_by shape own_lists u key) clouds) (map (given_by shape lists u key) clouds)
    all_alike [] = tt
    all_alike (c ∷ clouds) = (given_alike c, all_alike clouds)

    found_alike : (cs : List ℕ) → find (λ c. is_none (recipe_in shape (own_lists c) u key)) cs ≡ find (λ c. is_none (recipe_in shape (lists c) u key)) cs
    found_alike [] = refl
    found_alike (c ∷ cs) =
        let h = ap (λ (o : Option Recipe). is_none o) (same_recipe (lists c)) in let t = found_alike cs in
        λ j. cond (h j) (Some c) (t j)

    missing_alike : (clouds : List ℕ) → missing shape own_lists u key clouds ≡ missing shape lists u key clouds
    missing_alike clouds = ap (option_map Missing) (found_alike clouds)

    pub restored_alike : (clouds : List ℕ) → restored_file shape own_lists u key clouds ≡ restored_file shape lists u key clouds
    unfolding restored_file
    restored_alike clouds =
        let h = missing_alike clouds in
        let t = agreed_alike shape (map (given_by shape own_lists u key) clouds) (map (given_by shape lists u key) clouds) (all_alike clouds) in
        λ j. unless (h j) (t j)

    outcomes_alike : (choices : List (List ℕ)) → map (restored_file shape own_lists u key) choices ≡ map (restored_file shape lists u key) choices
    outcomes_alike [] = refl
    outcomes_alike (clouds ∷ choices) = let h = restored_alike clouds in let t = outcomes_alike choices in λ j. h j ∷ t j

    pub any_alike : (clouds : List ℕ) → restored_any shape own_lists u key clouds ≡ restored_any shape lists u key clouds
    unfolding restored_any
    any_alike clouds = ap first_given (outcomes_alike (subsets shape.k clouds))

    names_alike : (gs bs : List Given) → AllAlike gs bs → name_opened shape gs ≡ name_opened shape bs
    names_alike [] [] x = refl
    names_alike [] (b ∷ bs) x = absurd x
    names_alike (a ∷ gs) [] x = absurd x
    names_alike (a ∷ gs) (b ∷ bs) x =
        let r = x.0.recipe in let cs = clouds_alike (a ∷ gs) (b ∷ bs) x in let rs = recipes_alike (a ∷ gs) (b ∷ bs) x in
        ap (λ (len : ℕ). opened shape len (map (λ (g : Given). g.cloud) (a ∷ gs)) (flat_map (λ (g : Given). g.recipe.name_share) (a ∷ gs))) (ap (λ (y : Recipe). y.name_len) r)
        ∙ ap (λ (l : List ℕ). opened shape b.recipe.name_len l (flat_map (λ (g : Given). g.recipe.name_share) (a ∷ gs))) cs
        ∙ ap (λ (l : List ℕ). opened shape b.recipe.name_len (map (λ (g : Given). g.cloud) (b ∷ bs)) l) (shares_alike (a ∷ gs) (b ∷ bs) x)

    differ_alike : (gs bs : List Given) → AllAlike gs bs → recipes_differ gs ≡ recipes_differ bs
    differ_alike [] [] x = refl
    differ_alike [] (b ∷ bs) x = absurd x
    differ_alike (a ∷ gs) [] x = absurd x
    differ_alike (a ∷ gs) (b ∷ bs) x =
        let c = x.0.cloud in let r = x.0.recipe in let cs = clouds_alike gs bs x.1 in let rs = recipes_alike gs bs x.1 in
        λ j. differing (c j) (r j) (cs j) (rs j)

    pub version_alike : (from : List ℕ) → version_under shape own_lists from u key ≡ version_under shape lists from u key
    unfolding version_under
    version_alike from =
        let gs = map (given_by shape own_lists u key) from in
        let bs = map (given_by shape lists u key) from in
        let x = all_alike from in
        let h = missing_alike from in let d = differ_alike gs bs x in
        let n = names_alike gs bs x in let t = restored_alike from in
        λ j. unless_skipped (h j) (unless_skipped (d j) (version_named u key (name_judged shape key (n j)) (t j)))

module _ (shape : Shape) (u : UserId) (lists : ℕ → List Command) (owned : (c : ℕ) → EntriesOwned shape (user_view shape (lists c) u)) (apart : (c : ℕ) → Apart (Contains (strings_in (lists c)))) where
  under_alike : (from : List ℕ) (keys : List (Tag × Version))
      → map (finding_under shape (λ c. commands_of u (lists c)) from u) keys ≡ map (finding_under shape lists from u) keys
  under_alike from [] = refl
  under_alike from (key ∷ keys) =
      let h = version_alike shape u key lists owned apart from in let t = under_alike from keys in
      λ j. record { key = key; found = h j } ∷ t j

  pub findings_alike : (from : List ℕ) → findings shape (λ c. commands_of u (lists c)) from u ≡ findings shape lists from u
  findings_alike from =
      ap (λ (v : View). map (finding_under shape (λ c. commands_of u (lists c)) from u) (sorted_keys (map key_of v.files))) (same_view shape u (lists (first_of from)))
      ∙ under_alike from (keys_in shape (lists (first_of from)) u)
