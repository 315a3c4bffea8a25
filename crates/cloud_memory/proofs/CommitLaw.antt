-- A Commit's memory is that of the list with the Commit.
use Rattle.std.proofs.Common.{◌≡◌, ◌≢◌, ℕ, zero, suc, ◌+◌, ◌-◌, ◌<◌, ◌≤◌, ◌^◌, lt-ltb, Bool, true, false, cond, List, [], ◌∷◌, ◌++◌, length, Option, Some, None, refl, sym, ap, ◌∙◌, subst, arith, inl, inr, append-nil, eq-eqb}
use Rattle.std.specs.Prelude.{◌&&◌, is_some, IsSome, option_map}
use Rattle.std.specs.List.{Contains, sum_by}
use Rattle.std.specs.Option.{option_or}
use Rattle.std.specs.FinMap.{get}
use Rattle.std.proofs.lemmas.Bool.{cases_eq, ne_eqb}
use Rattle.std.proofs.lemmas.List.Elements.{All-contains}
use Rattle.std.proofs.lemmas.List.Folds.{find-append}
use Rattle.std.proofs.lemmas.Grind.{flat_map-append}
use Rattle.spent_table.specs.CdBase.ids.Fp.{Fp}
use Rattle.spent_table.specs.CdBase.ids.Tag.{Tag}
use Rattle.spent_table.specs.CdBase.ids.UserId.{UserId}
use Rattle.spent_table.specs.CdBase.ids.Version.{Version}
use Rattle.spent_table.specs.CdBase.shape.Shape.{Shape}
use Rattle.file_index.specs.declared.key.Entry.{Entry}
use Rattle.file_index.specs.Files.{key_of}
use Rattle.share_index.specs.Order.{owner_of}
use Rattle.spent_table.specs.declared.Spent.{Spent as Row}
use Rattle.spent_table.specs.Spending.{spent_by, both}
use Rattle.cloud_areas.specs.UserDedup.file_list.FileEntry.{FileEntry}
use Rattle.cloud_areas.specs.UserDedup.view.View.{View}
use Rattle.cloud_areas.specs.UserDedup.Cloud.{fingerprint}
use Rattle.cloud_areas.specs.UserDedup.Owning.{is_among}
use Rattle.cloud_areas.specs.UserDedup.Pages.{is_at, entry_at}
use Rattle.cloud_areas.specs.UserDedup.Pages.{key_of as file_key}
use Rattle.cloud_areas.specs.UserDedup.Requests.{fps_of}
use Rattle.cloud_areas.proofs.UserDedup.Owned.{among_contains}
use Rattle.cloud_areas.specs.UserDedup.command.Command.{Command}
use Rattle.cloud_areas.specs.UserDedup.command.Command.TheVariants as commands
use Rattle.cloud_areas.specs.UserDedup.Cloud.{user_view, named_in, strings_in}
use Rattle.cloud_areas.specs.UserDedup.Spending.{SpentByUser, spent_of, files_of}
use Rattle.cloud_areas.proofs.UserDedup.Deleting.{its_key}
use Rattle.cloud_areas.proofs.UserDedup.Views.{own_adds, others_stay}
use Rattle.cloud_areas.specs.Chains.{commit_of}
use Rattle.cloud_memory.specs.Memory.{Memory, Remembers, as_spent, uses_of, times, summary, summary_of}
use Rattle.cloud_memory.specs.Sharing.{AreOwned}
use Rattle.cloud_memory.specs.Steps.{with_commit}
use Rattle.cloud_memory.proofs.Puts.{ArePlaced}
use Rattle.cloud_memory.proofs.PutLaw.{same_owners, named_user}
use Rattle.cloud_memory.proofs.Keys.{entry_in}
use Rattle.cloud_memory.proofs.Naming.{among_times, times-append, all_raised, repeated, one_more, committed_as_viewed}
use Rattle.cloud_memory.proofs.Few.{few_named, all_named, times_few}
use Rattle.cloud_memory.proofs.Lists.{strings_more, is_placed, placed_len_is, are_placed, and_more, spent_next, row_here, row_there}

-- nothing is spent beside what was
pub none_more : (list : List Command) (s : SpentByUser) → and_more list [] s ≡ s
none_more list s =
    let zero_more : (n : ℕ) → n + 0 ≡ n = λ n. omega arith in
    λ i. record { owners = zero_more s.owners i; shares = zero_more s.shares i; recipes = zero_more s.recipes i }

module _ (shape : Shape) (list : List Command) (user : UserId) (tag : Tag) (version : Version) (bytes : List ℕ) (at : ℕ) (m : Memory)
    (r : Remembers shape list m) (new : get m.files (key_of user.0 tag.0 version.0) ≡ None) (owned : AreOwned m.owners user (fps_of shape bytes))
    (few : files_of shape list user ≤ 16384) where
  abbrev command : Command
  command = commands.Commit user tag version bytes

  abbrev after_list : List Command
  after_list = list ++ command ∷ []

  abbrev before_view : View
  before_view = user_view shape list user

  abbrev fresh : FileEntry
  fresh = record { tag = tag; version = version; recipe = bytes }

  abbrev after : Memory
  after = with_commit (fps_of shape bytes) (commit_of user tag version bytes at) m

  abbrev names : List Fp
  names = fps_of shape bytes

  same_strings : strings_in after_list ≡ strings_in list
  same_strings = strings_more list command ∙ append-nil (strings_in list)

  placed_after : ArePlaced (strings_in after_list) m.places
  placed_after = subst (λ (l : List (List ℕ)). ArePlaced l m.places) (sym same_strings) (are_placed (strings_in list) m.places r.placed r.lens)

  view_is : user_view shape after_list user ≡ record { own = before_view.own; files = before_view.files ++ fresh ∷ [] }
  view_is = own_adds shape list command user refl

  -- ---- uses

  -- the user owns what is named
  not_named : (f : Fp) → is_among before_view.own f ≡ false → times names f ≡ 0
  not_named f off = by_count (times names f) refl
    where
      by_count : (n : ℕ) → times names f ≡ n → n ≡ 0
      by_count zero is = refl
      by_count (suc n) is =
          let here : Contains names f = among_contains names f (among_times names f (suc n) is ∙ lt-ltb 0 (suc n) (omega arith)) in
          let has = All-contains (λ (fp : Fp). IsSome (get m.owners (owner_of user.0 fp.0))) names f owned here in
          let none : get m.owners (owner_of user.0 f.0) ≡ None = r.owners user f ∙ ap (λ (b : Bool). cond b (Some (uses_of shape before_view.files f)) None) off in
          absurd (let never : false ≡ true = sym (ap is_some none) ∙ has in cc)

  uses_more : (f : Fp) → uses_of shape (before_view.files ++ fresh ∷ []) f ≡ times names f + uses_of shape before_view.files f
  uses_more f =
      let all : named_in shape (before_view.files ++ fresh ∷ []) ≡ named_in shape before_view.files ++ names =
      flat_map-append (λ (e : FileEntry). fps_of shape e.recipe) before_view.files (fresh ∷ []) ∙ ap (λ (l : List Fp). named_in shape before_view.files ++ l) (append-nil names) in
      let sum = times-append (named_in shape before_view.files) names f in
      ap (λ (l : List Fp). times l f) all ∙ omega (arith, sum)

  fits : (f : Fp) → times names f + uses_of shape before_view.files f ≤ 2 ^ 32 - 1
  fits f =
      let a = times_few names f in
      let b = few_named shape bytes in
      let c = times_few (named_in shape before_view.files) f in
      let d = all_named shape before_view.files in
      let e = few in
      omega (arith, a, b, c, d, e)

  owners_user : (f : Fp) → get after.owners (owner_of user.0 f.0)
      ≡ cond (is_among (user_view shape after_list user).own f) (Some (uses_of shape (user_view shape after_list user).files f)) None
  owners_user f =
      all_raised user names m.owners user f
      ∙ ap (λ (b : Bool). cond b (repeated one_more (times names f) (get m.owners (owner_of user.0 f.0))) (get m.owners (owner_of user.0 f.0))) (eq-eqb user.0 user.0 refl)
      ∙ committed_as_viewed user names m.owners f (is_among before_view.own f) (uses_of shape before_view.files f) (r.owners user f) (not_named f) (fits f)
      ∙ ap (λ (n : ℕ). cond (is_among before_view.own f) (Some n) None) (sym (uses_more f))
      ∙ ap (λ (v : View). cond (is_among v.own f) (Some (uses_of shape v.files f)) None) (sym view_is)

  owners_other : (q : UserId) (f : Fp) → user.0 ≢ q.0 → get after.owners (owner_of q.0 f.0)
      ≡ cond (is_among (user_view shape after_list q).own f) (Some (uses_of shape (user_view shape after_list q).files f)) None
  owners_other q f other =
      same_owners shape list after_list q f (get after.owners (owner_of q.0 f.0)) (others_stay shape list command q other)
      (all_raised user names m.owners q f
      ∙ ap (λ (b : Bool). cond b (repeated one_more (times names f) (get m.owners (owner_of q.0 f.0))) (get m.owners (owner_of q.0 f.0))) (ne_eqb user.0 q.0 other)
      ∙ r.owners q f)

  -- ---- entries

  abbrev AreFiles : UserId → Tag → Version → Type 0
  AreFiles q t v = option_map summary (get after.files (key_of q.0 t.0 v.0)) ≡ option_map summary_of (entry_at (user_view shape after_list q).files (t, v))

  abbrev entry : Entry
  entry = record { at = at; len = length bytes; fp = fingerprint bytes }

  none_from : (o : Option FileEntry) → None ≡ option_map summary_of o → o ≡ None
  none_from None e = refl
  none_from (Some x) e = absurd (let never : None ≡ Some (summary_of x) = e in cc)

  lacked : entry_at before_view.files (tag, version) ≡ None
  lacked = none_from (entry_at before_view.files (tag, version)) (sym (ap (option_map summary) new) ∙ r.files user tag version)

  files_user : (t : Tag) (v : Version) → AreFiles user t v
  files_user t v =
      ap (option_map summary) (entry_in m.files user.0 tag.0 version.0 entry user.0 t.0 v.0)
      ∙ ap (λ (b : Bool). option_map summary (cond (b && is_at (t, v) fresh) (Some entry) (get m.files (key_of user.0 t.0 v.0)))) (eq-eqb user.0 user.0 refl)
      ∙ by_test (is_at (t, v) fresh) refl
      ∙ sym (ap (λ (w : View). option_map summary_of (entry_at w.files (t, v))) view_is
      ∙ ap (option_map summary_of) (find-append (is_at (t, v)) before_view.files (fresh ∷ [])))
    where
      or_none : (o : Option FileEntry) → o ≡ option_or o None
      or_none None = refl
      or_none (Some x) = refl

      by_test : (b : Bool) → is_at (t, v) fresh ≡ b
          → option_map summary (cond b (Some entry) (get m.files (key_of user.0 t.0 v.0))) ≡ option_map summary_of (option_or (entry_at before_view.files (t, v)) (cond b (Some fresh) None))
      by_test true e =
          let key : file_key fresh ≡ (t, v) = its_key fresh (t, v) e in
          let none : entry_at before_view.files (t, v) ≡ None = ap (entry_at before_view.files) (sym key) ∙ lacked in
          sym (ap (λ (o : Option FileEntry). option_map summary_of (option_or o (Some fresh))) none)
      by_test false e = r.files user t v ∙ ap (option_map summary_of) (or_none (entry_at before_view.files (t, v)))

  files_other : (q : UserId) (t : Tag) (v : Version) → user.0 ≢ q.0 → AreFiles q t v
  files_other q t v other =
      ap (option_map summary) (entry_in m.files user.0 tag.0 version.0 entry q.0 t.0 v.0)
      ∙ ap (λ (b : Bool). option_map summary (cond (b && is_at (t, v) fresh) (Some entry) (get m.files (key_of q.0 t.0 v.0)))) (ne_eqb user.0 q.0 other)
      ∙ r.files q t v
      ∙ ap (λ (w : View). option_map summary_of (entry_at w.files (t, v))) (sym (others_stay shape list command q other))

  -- ---- what is spent

  abbrev more : Row
  more = record { owners = 0; shares = 0; recipes = length bytes }

  spent_user : user.0 < length m.spent → as_spent (spent_by after.spent user) ≡ spent_of after_list user
  spent_user place =
      let had = r.spent user in
      let one : sum_by (λ (recipe : List ℕ). length recipe) (bytes ∷ []) ≡ length bytes = omega arith in
      ap as_spent (row_here m.spent user (both (spent_by m.spent user) more) place)
      ∙ (λ i. record { owners = (had i).owners + 0; shares = (had i).shares + 0; recipes = (had i).recipes + sym one i })
      ∙ sym (spent_next list command user ∙ ap (λ (b : Bool). and_more after_list (cond b (command ∷ []) []) (spent_of list user)) (eq-eqb user.0 user.0 refl))

  spent_other : (q : UserId) → user.0 ≢ q.0 → as_spent (spent_by after.spent q) ≡ spent_of after_list q
  spent_other q other =
      ap as_spent (row_there m.spent user q (both (spent_by m.spent user) more) (λ e. other (sym e)))
      ∙ r.spent q
      ∙ sym (spent_next list command q
      ∙ ap (λ (b : Bool). and_more after_list (cond b (command ∷ []) []) (spent_of list q)) (ne_eqb user.0 q.0 other)
      ∙ none_more after_list (spent_of list q))

  pub commit_remembered : user.0 < length m.spent → Remembers shape after_list after
  commit_remembered place = record {
    placed = is_placed (strings_in after_list) m.places placed_after;
    lens = placed_len_is (strings_in after_list) m.places placed_after;
    owners = λ q f. elim (cases_eq user.0 q.0) [
      | inl same ↦ subst (λ (u : UserId). get after.owners (owner_of u.0 f.0) ≡ cond (is_among (user_view shape after_list u).own f) (Some (uses_of shape (user_view shape after_list u).files f)) None)
          (named_user user q same) (owners_user f)
      | inr other ↦ owners_other q f other
    ];
    files = λ q t v. elim (cases_eq user.0 q.0) [
      | inl same ↦ subst (λ (u : UserId). AreFiles u t v) (named_user user q same) (files_user t v)
      | inr other ↦ files_other q t v other
    ];
    spent = λ q. elim (cases_eq user.0 q.0) [
      | inl same ↦ subst (λ (u : UserId). as_spent (spent_by after.spent u) ≡ spent_of after_list u) (named_user user q same) (spent_user place)
      | inr other ↦ spent_other q other
    ];
  }
