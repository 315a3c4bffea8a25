-- A Delete's memory is that of the list with the Delete.
use Rattle.std.proofs.Common.{◌≡◌, ◌≢◌, ℕ, suc, ◌+◌, Bool, true, false, cond, List, [], ◌∷◌, ◌++◌, Option, Some, None, refl, sym, ap, ◌∙◌, subst, arith, inl, inr, append-nil, eq-eqb}
use Rattle.std.specs.Prelude.{◌&&◌, ◌==◌, not, bytes_eq, slice_get, option_map}
use Rattle.std.specs.FinMap.{get}
use Rattle.std.proofs.lemmas.Bool.{cases_eq, ne_eqb, false_from_ne_true}
use Rattle.spent_table.specs.CdBase.ids.Fp.{Fp}
use Rattle.spent_table.specs.CdBase.ids.Tag.{Tag}
use Rattle.spent_table.specs.CdBase.ids.UserId.{UserId}
use Rattle.spent_table.specs.CdBase.ids.Version.{Version}
use Rattle.spent_table.specs.CdBase.shape.Shape.{Shape}
use Rattle.file_index.specs.Files.{key_of}
use Rattle.share_index.specs.Order.{owner_of}
use Rattle.cloud_areas.specs.UserDedup.file_list.FileEntry.{FileEntry}
use Rattle.cloud_areas.specs.UserDedup.view.View.{View}
use Rattle.cloud_areas.specs.UserDedup.Owning.{is_among}
use Rattle.cloud_areas.specs.UserDedup.Pages.{is_at, entry_at, AreApart}
use Rattle.cloud_areas.specs.UserDedup.Requests.{fps_of}
use Rattle.cloud_areas.specs.UserDedup.command.Command.{Command}
use Rattle.cloud_areas.specs.UserDedup.command.Command.TheVariants as commands
use Rattle.cloud_areas.specs.UserDedup.Dedup.{IsSound}
use Rattle.cloud_areas.specs.UserDedup.Cloud.{user_view, named_by, named_in, without_key, still_owned, strings_in}
use Rattle.cloud_areas.specs.UserDedup.Cloud.{without_entry as view_without}
use Rattle.cloud_areas.proofs.UserDedup.Deleting.{its_key, at_its_key, entry_gone, entry_stays, deleted_view, one_entry}
use Rattle.cloud_areas.proofs.UserDedup.Sound.{keys_apart}
use Rattle.cloud_areas.proofs.UserDedup.Spending.{deletes_nothing_spent}
use Rattle.cloud_areas.proofs.UserDedup.Views.{others_stay}
use Rattle.cloud_memory.specs.Memory.{Memory, Remembers, uses_of, times, summary, summary_of}
use Rattle.cloud_memory.specs.Steps.{without_entry}
use Rattle.cloud_memory.proofs.Puts.{ArePlaced}
use Rattle.cloud_memory.proofs.PutLaw.{same_owners, named_user}
use Rattle.cloud_memory.proofs.Keys.{entry_out}
use Rattle.cloud_memory.proofs.Naming.{times-append, all_lowered, repeated, one_less, deleted_as_viewed}
use Rattle.cloud_memory.proofs.Lists.{strings_more, is_placed, placed_len_is, are_placed}

-- ---- what the entries name, with the one that goes apart

kept_all : (key : Tag × Version) (files : List FileEntry) → ((k : ℕ) (b : FileEntry) → slice_get files k ≡ Some b → is_at key b ≡ false) → without_key key files ≡ files
kept_all key [] none = refl
kept_all key (x ∷ files) none =
    ap (λ (b : Bool). cond (not b) (x ∷ without_key key files) (without_key key files)) (none 0 x refl)
    ∙ ap (λ (l : List FileEntry). x ∷ l) (kept_all key files (λ k b e. none (suc k) b e))

later_apart : (x : FileEntry) (files : List FileEntry) → AreApart (x ∷ files) → AreApart files
later_apart x files apart i j a b at_i at_j same = let e = apart (suc i) (suc j) a b at_i at_j same in omega (arith, e)

uses_split : (shape : Shape) (key : Tag × Version) (files : List FileEntry) (entry : FileEntry) (f : Fp) → AreApart files → entry_at files key ≡ Some entry
    → uses_of shape files f ≡ times (fps_of shape entry.recipe) f + uses_of shape (without_key key files) f
uses_split shape key [] entry f apart found = absurd (let never : None ≡ Some entry = found in cc)
uses_split shape key (x ∷ files) entry f apart found =
    by_test (is_at key x) refl (λ e. uses_split shape key files entry f (later_apart x files apart) e) found
  where
    names_here : uses_of shape (x ∷ files) f ≡ times (fps_of shape x.recipe) f + uses_of shape files f
    names_here = times-append (fps_of shape x.recipe) (named_in shape files) f

    alone : is_at key x ≡ true → (k : ℕ) (b : FileEntry) → slice_get files k ≡ Some b → is_at key b ≡ false
    alone here k b at = false_from_ne_true (is_at key b) (λ t.
        let wrong : 0 ≡ suc k = apart 0 (suc k) x b refl at (its_key x key here ∙ sym (its_key b key t)) in
        absurd (omega (arith, wrong)))

    by_test : (b : Bool) → is_at key x ≡ b → (entry_at files key ≡ Some entry → uses_of shape files f ≡ times (fps_of shape entry.recipe) f + uses_of shape (without_key key files) f)
        → cond b (Some x) (entry_at files key) ≡ Some entry
        → uses_of shape (x ∷ files) f ≡ times (fps_of shape entry.recipe) f + uses_of shape (cond (not b) (x ∷ without_key key files) (without_key key files)) f
    by_test true here rest found =
        let same = one_entry x entry found in
        names_here
        ∙ (λ i. times (fps_of shape (same i).recipe) f + uses_of shape (sym (kept_all key files (alone here)) i) f)
    by_test false here rest found =
        let more = rest found in
        let left = times-append (fps_of shape x.recipe) (named_in shape (without_key key files)) f in
        let now = names_here in
        omega (arith, more, left, now)

-- ---- the memory

module _ (shape : Shape) (cloud : ℕ) (list : List Command) (user : UserId) (tag : Tag) (version : Version) (entry : FileEntry) (m : Memory)
    (sound : IsSound shape cloud list) (r : Remembers shape list m) (there : entry_at (user_view shape list user).files (tag, version) ≡ Some entry) where
  abbrev command : Command
  command = commands.Delete user tag version

  abbrev after_list : List Command
  after_list = list ++ command ∷ []

  abbrev key : Tag × Version
  key = (tag, version)

  abbrev before_view : View
  before_view = user_view shape list user

  abbrev names : List Fp
  names = fps_of shape entry.recipe

  abbrev after : Memory
  after = without_entry names user (key_of user.0 tag.0 version.0) m

  same_strings : strings_in after_list ≡ strings_in list
  same_strings = strings_more list command ∙ append-nil (strings_in list)

  placed_after : ArePlaced (strings_in after_list) m.places
  placed_after = subst (λ (l : List (List ℕ)). ArePlaced l m.places) (sym same_strings) (are_placed (strings_in list) m.places r.placed r.lens)

  view_is : user_view shape after_list user ≡ view_without shape key before_view
  view_is = deleted_view shape list user key

  -- ---- uses

  abbrev left : List Fp
  left = named_in shape (without_key key before_view.files)

  owners_user : (f : Fp) → get after.owners (owner_of user.0 f.0)
      ≡ cond (is_among (user_view shape after_list user).own f) (Some (uses_of shape (user_view shape after_list user).files f)) None
  owners_user f =
      let split = uses_split shape key before_view.files entry f (keys_apart shape cloud list user sound) there in
      let had = r.owners user f ∙ ap (λ (n : ℕ). cond (is_among before_view.own f) (Some n) None) split in
      all_lowered user names m.owners user f
      ∙ ap (λ (b : Bool). cond b (repeated one_less (times names f) (get m.owners (owner_of user.0 f.0))) (get m.owners (owner_of user.0 f.0))) (eq-eqb user.0 user.0 refl)
      ∙ deleted_as_viewed user names left before_view.own m.owners f had
      ∙ ap (λ (o : Option FileEntry). cond (is_among (still_owned (named_by shape o) left before_view.own) f) (Some (times left f)) None) (sym there)
      ∙ ap (λ (v : View). cond (is_among v.own f) (Some (uses_of shape v.files f)) None) (sym view_is)

  owners_other : (q : UserId) (f : Fp) → user.0 ≢ q.0 → get after.owners (owner_of q.0 f.0)
      ≡ cond (is_among (user_view shape after_list q).own f) (Some (uses_of shape (user_view shape after_list q).files f)) None
  owners_other q f other =
      same_owners shape list after_list q f (get after.owners (owner_of q.0 f.0)) (others_stay shape list command q other)
      (all_lowered user names m.owners q f
      ∙ ap (λ (b : Bool). cond b (repeated one_less (times names f) (get m.owners (owner_of q.0 f.0))) (get m.owners (owner_of q.0 f.0))) (ne_eqb user.0 q.0 other)
      ∙ r.owners q f)

  -- ---- entries

  abbrev AreFiles : UserId → Tag → Version → Type 0
  AreFiles q t v = option_map summary (get after.files (key_of q.0 t.0 v.0)) ≡ option_map summary_of (entry_at (user_view shape after_list q).files (t, v))

  abbrev at_key : Tag → Version → Bool
  at_key t v = bytes_eq tag.0 t.0 && (version.0 == v.0)

  files_user : (t : Tag) (v : Version) → AreFiles user t v
  files_user t v =
      ap (option_map summary) (entry_out m.files user.0 tag.0 version.0 user.0 t.0 v.0)
      ∙ ap (λ (b : Bool). option_map summary (cond (b && at_key t v) None (get m.files (key_of user.0 t.0 v.0)))) (eq-eqb user.0 user.0 refl)
      ∙ by_test (at_key t v) refl
      ∙ sym (ap (λ (w : View). option_map summary_of (entry_at w.files (t, v))) view_is)
    where
      whole : FileEntry
      whole = record { tag = tag; version = version; recipe = [] }

      by_test : (b : Bool) → at_key t v ≡ b
          → option_map summary (cond b None (get m.files (key_of user.0 t.0 v.0))) ≡ option_map summary_of (entry_at (view_without shape key before_view).files (t, v))
      by_test true e =
          let same : (tag, version) ≡ (t, v) = its_key whole (t, v) e in
          sym (ap (λ (k : Tag × Version). option_map summary_of (entry_at (view_without shape key before_view).files k)) (sym same)
          ∙ ap (option_map summary_of) (entry_gone shape key before_view))
      by_test false e =
          let apart : (t, v) ≢ key = λ same. let never : false ≡ true = sym e ∙ at_its_key whole (t, v) (sym same) in cc in
          r.files user t v ∙ sym (ap (option_map summary_of) (entry_stays shape key (t, v) before_view apart))

  files_other : (q : UserId) (t : Tag) (v : Version) → user.0 ≢ q.0 → AreFiles q t v
  files_other q t v other =
      ap (option_map summary) (entry_out m.files user.0 tag.0 version.0 q.0 t.0 v.0)
      ∙ ap (λ (b : Bool). option_map summary (cond (b && at_key t v) None (get m.files (key_of q.0 t.0 v.0)))) (ne_eqb user.0 q.0 other)
      ∙ r.files q t v
      ∙ ap (λ (w : View). option_map summary_of (entry_at w.files (t, v))) (sym (others_stay shape list command q other))

  pub delete_remembered : Remembers shape after_list after
  delete_remembered = record {
    placed = is_placed (strings_in after_list) m.places placed_after;
    lens = placed_len_is (strings_in after_list) m.places placed_after;
    owners = λ q f. elim (cases_eq user.0 q.0) [
      | inl same ↦ subst (λ (u : UserId). get after.owners (owner_of u.0 f.0) ≡ cond (is_among (user_view shape after_list u).own f) (Some (uses_of shape (user_view shape after_list u).files f)) None)
          (named_user user q same) (owners_user f)
      | inr other ↦ owners_other q f other
    ];
    files = λ q t v. elim (cases_eq user.0 q.0) [
      | inl same ↦ subst (λ (u : UserId). AreFiles u t v) (named_user user q same) (files_user t v)
      | inr other ↦ files_other q t v other
    ];
    spent = λ q. r.spent q ∙ sym (deletes_nothing_spent list user q key);
  }
