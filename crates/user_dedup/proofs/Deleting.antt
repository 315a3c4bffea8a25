-- What a deletion takes, and what it leaves.
use Rattle.std.proofs.Common.{◌≡◌, ◌≢◌, ℕ, zero, suc, Bool, true, false, cond, List, [], ◌∷◌, ◌++◌, Option, Some, None, refl, sym, ap, ◌∙◌, subst, inl, inr, arith}
use Rattle.std.specs.Prelude.{not, ◌||◌, ◌↔◌, slice_get}
use Rattle.std.specs.List.{Contains}
use Rattle.std.specs.Option.{option_or}
use Rattle.std.proofs.lemmas.Bool.{cases_eq, or_left, or_right, or_cases, not-true, not_from_false, false_from_ne_true}
use Rattle.std.proofs.lemmas.List.Folds.{find-append}
use Rattle.journal_start.specs.CdBase.ids.Fp.{Fp}
use Rattle.journal_start.specs.CdBase.ids.Tag.{Tag}
use Rattle.journal_start.specs.CdBase.ids.UserId.{UserId}
use Rattle.journal_start.specs.CdBase.ids.Version.{Version}
use Rattle.journal_start.specs.CdBase.shape.Shape.{Shape}
use Rattle.user_dedup.specs.declared.file_list.FileEntry.{FileEntry}
use Rattle.user_dedup.specs.declared.view.View.{View}
use Rattle.user_dedup.specs.Owning.{is_among}
use Rattle.user_dedup.specs.Pages.{key_of, is_at, entry_at, AreApart}
use Rattle.user_dedup.specs.Requests.{fps_of}
use Rattle.user_dedup.proofs.Owned.{among_contains, contains_among}
pub use Rattle.user_dedup.proofs.EntryLists.{at_its_key, its_key}
use Rattle.user_dedup.proofs.EntryLists.{found_entry}
use Rattle.user_dedup.specs.declared.command.Command.{Command}
use Rattle.user_dedup.specs.declared.command.Command.TheVariants as commands
use Rattle.user_dedup.specs.Cloud.{user_of, view_after, user_view, named_in, named_by, without_key, without_entry, deletion, IsNamedBeside}
use Rattle.user_dedup.specs.Dedup.{TakesVersionOut}
use Rattle.user_dedup.proofs.Filtered.{from_filter, in_filter, get_filter, in_flat, from_flat}
use Rattle.user_dedup.proofs.Views.{own_adds, others_stay}

abbrev stays_at : Tag × Version → FileEntry → Bool
stays_at key e = not (is_at key e)

-- ---- entries

pub entries_left : (key : Tag × Version) (files : List FileEntry) (entry : FileEntry) → Contains (without_key key files) entry → Contains files entry × (key_of entry ≢ key)
entries_left key files entry c =
    let f = from_filter (stays_at key) files entry c in
    let off = not-true (is_at key entry) f.1 in
    (f.0, λ same. let no : false ≡ true = sym off ∙ at_its_key entry key same in cc)

pub others_stay_in : (key : Tag × Version) (files : List FileEntry) (entry : FileEntry) → Contains files entry → key_of entry ≢ key → Contains (without_key key files) entry
others_stay_in key files entry c other =
    in_filter (stays_at key) files entry c (not_from_false (is_at key entry) (false_from_ne_true (is_at key entry) (λ t. other (its_key entry key t))))

pub entries_are : (shape : Shape) (key : Tag × Version) (v : View) (entry : FileEntry) → Contains (without_entry shape key v).files entry ↔ (Contains v.files entry × (key_of entry ≢ key))
entries_are shape key v entry = (entries_left key v.files entry, λ h. others_stay_in key v.files entry h.0 h.1)

-- the key has no entry any more
gone_from : (key : Tag × Version) (files : List FileEntry) (found : Option FileEntry) → entry_at (without_key key files) key ≡ found → found ≡ None
gone_from key files None e = refl
gone_from key files (Some entry) e =
    let f = found_entry (without_key key files) key entry e in
    absurd ((entries_left key files entry f.1).1 f.0)

pub entry_gone : (shape : Shape) (key : Tag × Version) (v : View) → entry_at (without_entry shape key v).files key ≡ None
entry_gone shape key v = gone_from key v.files (entry_at (without_key key v.files) key) refl

-- and the other keys have theirs
others_found : (key other : Tag × Version) (files : List FileEntry) → other ≢ key → entry_at (without_key key files) other ≡ entry_at files other
others_found key other [] apart = refl
others_found key other (e ∷ files) apart = by_test (is_at key e) refl (is_at other e) refl (others_found key other files apart)
  where
    by_test : (b : Bool) → is_at key e ≡ b → (a : Bool) → is_at other e ≡ a → entry_at (without_key key files) other ≡ entry_at files other
        → entry_at (cond (not b) (e ∷ without_key key files) (without_key key files)) other ≡ cond a (Some e) (entry_at files other)
    by_test true gone true here more = absurd (apart (sym (its_key e other here) ∙ its_key e key gone))
    by_test true gone false here more = more
    by_test false gone true here more = rw here refl
    by_test false gone false here more = rw here more

pub entry_stays : (shape : Shape) (key other : Tag × Version) (v : View) → other ≢ key → entry_at (without_entry shape key v).files other ≡ entry_at v.files other
entry_stays shape key other v apart = others_found key other v.files apart

-- ---- fingerprints

abbrev keeps : List Fp → List Fp → Fp → Bool
keeps gone left fp = not (is_among gone fp) || is_among left fp

pub named_left : (shape : Shape) (key : Tag × Version) (files : List FileEntry) (fp : Fp) → IsNamedBeside shape key files fp → is_among (named_in shape (without_key key files)) fp ≡ true
named_left shape key files fp n =
    contains_among (named_in shape (without_key key files)) fp
    (in_flat (λ (e : FileEntry). fps_of shape e.recipe) (without_key key files) n.entry fp (others_stay_in key files n.entry n.here n.other) n.names)

beside_from : (shape : Shape) (key : Tag × Version) (files : List FileEntry) (fp : Fp) → is_among (named_in shape (without_key key files)) fp ≡ true → IsNamedBeside shape key files fp
beside_from shape key files fp e =
    let f = from_flat (λ (e : FileEntry). fps_of shape e.recipe) (without_key key files) fp (among_contains (named_in shape (without_key key files)) fp e) in
    let l = entries_left key files f.0 f.1 in
    record { entry = f.0; here = l.0; other = l.1; names = f.2 }

pub own_named : (shape : Shape) (key : Tag × Version) (v : View) (fp : Fp) → Contains v.own fp → IsNamedBeside shape key v.files fp → Contains (without_entry shape key v).own fp
own_named shape key v fp c n =
    let gone = named_by shape (entry_at v.files key) in
    let left = named_in shape (without_key key v.files) in
    in_filter (keeps gone left) v.own fp c (or_right (not (is_among gone fp)) (is_among left fp) (named_left shape key v.files fp n))

pub own_foreign : (shape : Shape) (key : Tag × Version) (v : View) (entry : FileEntry) (fp : Fp) → entry_at v.files key ≡ Some entry
    → (Contains (fps_of shape entry.recipe) fp → ⊥) → Contains v.own fp → Contains (without_entry shape key v).own fp
own_foreign shape key v entry fp at unnamed c =
    let gone = named_by shape (entry_at v.files key) in
    let left = named_in shape (without_key key v.files) in
    let names : gone ≡ fps_of shape entry.recipe = ap (named_by shape) at in
    let off : is_among gone fp ≡ false = false_from_ne_true (is_among gone fp) (λ t. unnamed (subst (λ (l : List Fp). Contains l fp) names (among_contains gone fp t))) in
    in_filter (keeps gone left) v.own fp c (or_left (not (is_among gone fp)) (is_among left fp) (not_from_false (is_among gone fp) off))

pub own_taken : (shape : Shape) (key : Tag × Version) (v : View) (entry : FileEntry) (fp : Fp) → entry_at v.files key ≡ Some entry
    → Contains (fps_of shape entry.recipe) fp → (IsNamedBeside shape key v.files fp → ⊥) → Contains (without_entry shape key v).own fp → ⊥
own_taken shape key v entry fp at names alone c =
    let gone = named_by shape (entry_at v.files key) in
    let left = named_in shape (without_key key v.files) in
    let on : is_among gone fp ≡ true = contains_among gone fp (subst (λ (l : List Fp). Contains l fp) (sym (ap (named_by shape) at)) names) in
    elim (or_cases (not (is_among gone fp)) (is_among left fp) (from_filter (keeps gone left) v.own fp c).1) [
      | inl off ↦ (let no : false ≡ true = sym (not-true (is_among gone fp) off) ∙ on in cc)
      | inr still ↦ alone (beside_from shape key v.files fp still)
    ]

pub own_less : (shape : Shape) (key : Tag × Version) (v : View) (fp : Fp) → Contains (without_entry shape key v).own fp → Contains v.own fp
own_less shape key v fp c = (from_filter (keeps (named_by shape (entry_at v.files key)) (named_in shape (without_key key v.files))) v.own fp c).0

-- ---- lists

pub deleted_view : (shape : Shape) (list : List Command) (user : UserId) (key : Tag × Version)
    → user_view shape (list ++ deletion user key ∷ []) user ≡ without_entry shape key (user_view shape list user)
deleted_view shape list user key = own_adds shape list (deletion user key) user refl

-- a version stays until it is taken out
found_more : (files more : List FileEntry) (key : Tag × Version) (entry : FileEntry) → entry_at files key ≡ Some entry → entry_at (files ++ more) key ≡ Some entry
found_more files more key entry e = find-append (is_at key) files more ∙ ap (λ o. option_or o (entry_at more key)) e

version_in : (shape : Shape) (v : View) (command : Command) (key : Tag × Version) (entry : FileEntry) → (TakesVersionOut (user_of command) key command → ⊥)
    → entry_at v.files key ≡ Some entry → entry_at (view_after shape v command).files key ≡ Some entry
version_in shape v (commands.Put user shares) key entry stays e = e
version_in shape v (commands.Commit user tag version recipe) key entry stays e = found_more v.files (record { tag = tag; version = version; recipe = recipe } ∷ []) key entry e
version_in shape v (commands.Delete user tag version) key entry stays e = entry_stays shape (tag, version) key v (λ same. stays (refl, sym same)) ∙ e

pub version_stays : (shape : Shape) (list : List Command) (command : Command) (user : UserId) (key : Tag × Version) (entry : FileEntry) → (TakesVersionOut user key command → ⊥)
    → entry_at (user_view shape list user).files key ≡ Some entry → entry_at (user_view shape (list ++ command ∷ []) user).files key ≡ Some entry
version_stays shape list command user key entry stays e =
    elim (cases_eq (user_of command).0 user.0) [
      | inl same ↦
          let user_is : user_of command ≡ user = λ i. record { 0 = same i } in
          ap (λ (v : View). entry_at v.files key) (own_adds shape list command user same)
          ∙ version_in shape (user_view shape list user) command key entry (subst (λ (u : UserId). TakesVersionOut u key command → ⊥) (sym user_is) stays) e
      | inr other ↦ ap (λ (v : View). entry_at v.files key) (others_stay shape list command user other) ∙ e
    ]

-- ---- keys apart

pub one_entry : (x a : FileEntry) → Some x ≡ Some a → x ≡ a
one_entry x a e = cc

apart_cons : (x : FileEntry) (files : List FileEntry) → ((k : ℕ) (b : FileEntry) → slice_get files k ≡ Some b → key_of x ≡ key_of b → ⊥) → AreApart files → AreApart (x ∷ files)
apart_cons x files alone more zero zero a b at_i at_j same = refl
apart_cons x files alone more zero (suc j) a b at_i at_j same = absurd (alone j b at_j (ap key_of (one_entry x a at_i) ∙ same))
apart_cons x files alone more (suc i) zero a b at_i at_j same = absurd (alone i a at_i (ap key_of (one_entry x b at_j) ∙ sym same))
apart_cons x files alone more (suc i) (suc j) a b at_i at_j same = ap suc (more i j a b at_i at_j same)

tail_apart : (x : FileEntry) (files : List FileEntry) → AreApart (x ∷ files) → AreApart files
tail_apart x files apart i j a b at_i at_j same = let e = apart (suc i) (suc j) a b at_i at_j same in omega (arith, e)

head_alone : (x : FileEntry) (files : List FileEntry) → AreApart (x ∷ files) → (k : ℕ) (b : FileEntry) → slice_get files k ≡ Some b → key_of x ≡ key_of b → ⊥
head_alone x files apart k b at same = let e = apart zero (suc k) x b refl at same in omega (arith, e)

pub apart_left : (key : Tag × Version) (files : List FileEntry) → AreApart files → AreApart (without_key key files)
apart_left key [] apart = apart
apart_left key (x ∷ files) apart = by_test (stays_at key x) (apart_left key files (tail_apart x files apart))
  where
    by_test : (t : Bool) → AreApart (without_key key files) → AreApart (cond t (x ∷ without_key key files) (without_key key files))
    by_test false more = more
    by_test true more =
        apart_cons x (without_key key files)
        (λ k b at same. let found = get_filter (stays_at key) files k b at in head_alone x files apart found.0 b found.1 same) more
