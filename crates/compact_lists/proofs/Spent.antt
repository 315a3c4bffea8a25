-- What users have spent in a compact list.
use Rattle.std.proofs.Common.{◌≡◌, ℕ, List, [], ◌∷◌, ◌++◌, length, map, Option, Some, None, refl, sym, ap, ◌∙◌, arith, append-nil}
use Rattle.std.proofs.lemmas.List.{length-map}
use Rattle.std.specs.Prelude.{Bool, cond, count_by, unwrap_or}
use Rattle.std.specs.List.{Contains, flat_map, sum_by}
use Rattle.std.proofs.lemmas.Grind.{flat_map-append}
use Rattle.std.proofs.lemmas.List.Sums.{sum_by-cons}
use Rattle.std.proofs.lemmas.List.Elements.{filter-append}
use Rattle.user_dedup.specs.CdBase.ids.Fp.{Fp}
use Rattle.user_dedup.specs.CdBase.ids.UserId.{UserId}
use Rattle.user_dedup.specs.CdBase.shape.Shape.{Shape}
use Rattle.user_dedup.specs.declared.file_list.FileEntry.{FileEntry}
use Rattle.user_dedup.specs.declared.view.View.{View}
use Rattle.user_dedup.specs.Strings.{fingerprint}
use Rattle.user_dedup.specs.Pages.{key_of, entry_at, sorted_keys}
use Rattle.user_dedup.specs.Requests.{fps_of}
use Rattle.user_dedup.specs.declared.command.Command.{Command}
use Rattle.user_dedup.specs.declared.command.Command.TheVariants as commands
use Rattle.user_dedup.specs.Dedup.{IsSound}
use Rattle.user_dedup.specs.Cloud.{is_of, commands_of, user_view, named_in, strings_of, strings_in, recipes_of, held_bytes}
use Rattle.user_dedup.specs.Compact.{users_in, sorted_fps, in_parts, puts_for, commit_at, commits_for, compact}
use Rattle.user_dedup.specs.Spending.{held_len, spent_of, files_of}
use Rattle.user_dedup.proofs.Compacting.{part_of, puts_of, commits_of, no_puts, no_commits, compact_view, same_held}
use Rattle.user_dedup.proofs.Sorting.{joined, joined_parts, fps_from}
use Rattle.user_dedup.proofs.Sound.{keys_apart}
use Rattle.user_dedup.proofs.Views.{owned_is_held}
use Rattle.user_dedup.proofs.Pages.{Key}
use Rattle.compact_lists.specs.Live.{bytes_held, live_of}
use Rattle.compact_lists.proofs.Sums.{sum_alike, sum_ones, sum_mapped, sum_flat, sorted_fps_sum, sorted_fps_length, entries_sum}
use Rattle.compact_lists.proofs.Parts.{own_once}

module _ (shape : Shape) (cloud : ℕ) (list : List Command) (sound : IsSound shape cloud list) (user : UserId) where
  abbrev v : View
  v = user_view shape list user

  abbrev held : Fp → List ℕ
  held fp = held_bytes list fp

  own_commands : commands_of user (compact shape list) ≡ puts_for shape list user.0 ++ commits_for shape list user.0
  unfolding compact
  own_commands =
      let puts = part_of (puts_for shape list) (puts_of shape list) list user (no_puts shape list user) in
      let commits = part_of (commits_for shape list) (commits_of shape list) list user (no_commits shape list user) in
      filter-append (is_of user) (flat_map (puts_for shape list) (users_in list)) (flat_map (commits_for shape list) (users_in list))
      ∙ (λ i. puts i ++ commits i)

  -- ---- strings

  put_strings : (parts : List (List Fp)) → strings_in (map (λ (fps : List Fp). commands.Put user (map held fps)) parts) ≡ map held (joined parts)
  put_strings [] = refl
  put_strings (part ∷ parts) = ap (λ l. map held part ++ l) (put_strings parts) ∙ sym (map-append part (joined parts))
    where
      map-append : (xs ys : List Fp) → map held (xs ++ ys) ≡ map held xs ++ map held ys
      map-append [] ys = refl
      map-append (x ∷ xs) ys = ap (λ l. held x ∷ l) (map-append xs ys)

  commit_strings : (keys : List Key) → strings_in (flat_map (λ (key : Key). commit_at user (entry_at v.files key)) keys) ≡ []
  commit_strings [] = refl
  commit_strings (key ∷ keys) =
      flat_map-append strings_of (commit_at user (entry_at v.files key)) (flat_map (λ (k : Key). commit_at user (entry_at v.files k)) keys)
      ∙ ap (λ l. l ++ strings_in (flat_map (λ (k : Key). commit_at user (entry_at v.files k)) keys)) (by_found (entry_at v.files key))
      ∙ commit_strings keys
    where
      by_found : (o : Option FileEntry) → strings_in (commit_at user o) ≡ []
      by_found None = refl
      by_found (Some e) = refl

  pub strings_are : strings_in (commands_of user (compact shape list)) ≡ map held (sorted_fps v.own)
  strings_are =
      ap strings_in own_commands
      ∙ flat_map-append strings_of (puts_for shape list user.0) (commits_for shape list user.0)
      ∙ (λ i. put_strings (in_parts (sorted_fps v.own)) i ++ commit_strings (sorted_keys (map key_of v.files)) i)
      ∙ append-nil (map held (joined (in_parts (sorted_fps v.own))))
      ∙ ap (map held) (joined_parts (sorted_fps v.own))

  once : Rattle.user_dedup.proofs.Once.Once v.own
  once = own_once shape cloud list sound user

  pub owners_kept : (spent_of (compact shape list) user).owners ≡ (live_of shape list user).owners
  owners_kept =
      ap (λ (l : List (List ℕ)). length l) strings_are
      ∙ length-map (sorted_fps v.own) held
      ∙ sorted_fps_length v.own once

  held_itself : (fp : Fp) → Contains v.own fp → held_len (compact shape list) (held fp) ≡ bytes_held list fp
  held_itself fp own =
      let h = owned_is_held shape list user fp own in
      let bytes : held fp ≡ h.0 = ap (λ o. unwrap_or o []) h.1 in
      let named : fingerprint (held fp) ≡ fp = ap fingerprint bytes ∙ h.2 in
      ap (λ (f : Fp). length (held_bytes (compact shape list) f)) named
      ∙ ap (λ (o : Option (List ℕ)). length (unwrap_or o [])) (same_held shape list user fp own)

  pub shares_kept : (spent_of (compact shape list) user).shares ≡ (live_of shape list user).shares
  shares_kept =
      ap (sum_by (held_len (compact shape list))) strings_are
      ∙ sum_mapped (held_len (compact shape list)) held (sorted_fps v.own)
      ∙ sum_alike (λ (fp : Fp). held_len (compact shape list) (held fp)) (bytes_held list) (sorted_fps v.own) (λ fp c. held_itself fp (fps_from v.own fp c))
      ∙ sorted_fps_sum (bytes_held list) v.own once

  -- ---- recipes

  put_recipes : (parts : List (List Fp)) → flat_map recipes_of (map (λ (fps : List Fp). commands.Put user (map held fps)) parts) ≡ []
  put_recipes [] = refl
  put_recipes (part ∷ parts) = put_recipes parts

  abbrev recipe_bytes : List Command → ℕ
  recipe_bytes some = sum_by (λ (recipe : List ℕ). length recipe) (flat_map recipes_of some)

  one_recipe : (e : FileEntry) → sum_by (λ (c : Command). sum_by (λ (recipe : List ℕ). length recipe) (recipes_of c)) (commit_at user (Some e)) ≡ length e.recipe
  one_recipe e =
      let len = λ (recipe : List ℕ). length recipe in
      let outer = sum_by-cons (λ (c : Command). sum_by len (recipes_of c)) (commands.Commit user e.tag e.version e.recipe) [] in
      let inner = sum_by-cons len e.recipe [] in
      omega (arith, outer, inner)

  pub recipes_kept : (spent_of (compact shape list) user).recipes ≡ (live_of shape list user).recipes
  recipes_kept =
      let len = λ (recipe : List ℕ). length recipe in
      let keys = sorted_keys (map key_of v.files) in
      let commits = flat_map (λ (key : Key). commit_at user (entry_at v.files key)) keys in
      let all : flat_map recipes_of (commands_of user (compact shape list)) ≡ flat_map recipes_of commits =
      ap (flat_map recipes_of) own_commands
      ∙ flat_map-append recipes_of (puts_for shape list user.0) (commits_for shape list user.0)
      ∙ ap (λ l. l ++ flat_map recipes_of (commits_for shape list user.0)) (put_recipes (in_parts (sorted_fps v.own))) in
      ap (sum_by len) all
      ∙ sum_flat len recipes_of commits
      ∙ sum_flat (λ (c : Command). sum_by len (recipes_of c)) (λ (key : Key). commit_at user (entry_at v.files key)) keys
      ∙ entries_sum (λ (o : Option FileEntry). sum_by (λ (c : Command). sum_by len (recipes_of c)) (commit_at user o)) v.files (keys_apart shape cloud list user sound)
      ∙ sum_alike (λ (e : FileEntry). sum_by (λ (c : Command). sum_by len (recipes_of c)) (commit_at user (Some e))) (λ (e : FileEntry). length e.recipe) v.files (λ e c. one_recipe e)

  pub spent_kept : spent_of (compact shape list) user ≡ live_of shape list user
  spent_kept = λ i. record { owners = owners_kept i; shares = shares_kept i; recipes = recipes_kept i }

  -- ---- entries

  abbrev entry_list : Option FileEntry → List FileEntry
  entry_list None = []
  entry_list (Some e) = e ∷ []

  listed_many : (h : Option FileEntry → List FileEntry) → h None ≡ [] → ((e : FileEntry) → length (h (Some e)) ≡ 1) → (files : List FileEntry)
      → files ≡ flat_map (λ (key : Key). h (entry_at v.files key)) (sorted_keys (map key_of v.files)) → length files ≡ length v.files
  listed_many h none one files is =
      ap (λ (l : List FileEntry). length l) is
      ∙ Rattle.std.proofs.lemmas.List.Concat.length-flat_map (λ (key : Key). h (entry_at v.files key)) (sorted_keys (map key_of v.files))
      ∙ entries_sum (λ (o : Option FileEntry). length (h o)) v.files (keys_apart shape cloud list user sound)
      ∙ sum_alike (λ (e : FileEntry). length (h (Some e))) (λ (e : FileEntry). 1) v.files (λ e c. one e)
      ∙ sum_ones v.files

  -- a sum over the entries of a compact list
  alike_in : (f : FileEntry → ℕ) (files : List FileEntry) → files ≡ flat_map (λ (key : Key). entry_list (entry_at v.files key)) (sorted_keys (map key_of v.files))
      → sum_by f files ≡ sum_by f v.files
  alike_in f files is =
      ap (sum_by f) is
      ∙ sum_flat f (λ (key : Key). entry_list (entry_at v.files key)) (sorted_keys (map key_of v.files))
      ∙ entries_sum (λ (o : Option FileEntry). sum_by f (entry_list o)) v.files (keys_apart shape cloud list user sound)
      ∙ sum_alike (λ (e : FileEntry). sum_by f (entry_list (Some e))) f v.files (λ e c. one_entry e)
    where
      one_entry : (e : FileEntry) → sum_by f (entry_list (Some e)) ≡ f e
      one_entry e = let one = sum_by-cons f e [] in omega (arith, one)

  pub entries_alike : (f : FileEntry → ℕ) → sum_by f (user_view shape (compact shape list) user).files ≡ sum_by f v.files
  entries_alike f = alike_in f (user_view shape (compact shape list) user).files (ap (λ (w : View). w.files) (compact_view shape list user))

  pub uses_kept : (p : Fp → Bool) → count_by p (named_in shape (user_view shape (compact shape list) user).files) ≡ count_by p (named_in shape v.files)
  uses_kept p =
      let one = λ (fp : Fp). cond (p fp) 1 0 in
      let names = λ (e : FileEntry). fps_of shape e.recipe in
      sum_flat one names (user_view shape (compact shape list) user).files
      ∙ entries_alike (λ (e : FileEntry). sum_by one (names e))
      ∙ sym (sum_flat one names v.files)

  pub files_kept : files_of shape (compact shape list) user ≡ files_of shape list user
  files_kept =
      listed_many entry_list refl (λ e. refl) (user_view shape (compact shape list) user).files (ap (λ (w : View). w.files) (compact_view shape list user))
