-- The least key of a user's files above the last one.
use Rattle.std.proofs.Common.{rules, ◌≡◌, ◌≢◌, ℕ, suc, true, false, List, [], ◌∷◌, map, take, Option, Some, None, refl, sym, ap, ◌∙◌, subst, arith, inl, inr}
use Rattle.std.specs.Prelude.{◌↔◌, is_some, IsSome, IsTrue, MatchOption, slice_get, option_map}
use Rattle.std.specs.List.{Contains}
use Rattle.std.specs.FinMap.{FinMap, get}
use Rattle.std.specs.declared.cmp.Ordering.{Ordering}
use Rattle.std.specs.declared.cmp.Ordering.TheVariants.{Less, Equal, Greater}
use Rattle.std.specs.Ordering.{nat_cmp, on, then_cmp, ordering_then, ordering_reverse, is_lt}
use Rattle.std.specs.Cmp.{IsTotalOrder, nat_cmp_is}
use Rattle.std.specs.Cmp.Rules.{comparing}
use Rattle.std.proofs.lemmas.Cmp.{tied_itself}
use Rattle.std.specs.Cmp.Lexicographic.{slice_cmp}
use Rattle.std.proofs.lemmas.List.Elements.{All-head}
use Rattle.spent_table.specs.CdBase.ids.UserId.{UserId}
use Rattle.spent_table.specs.CdBase.shape.Shape.{Shape}
use Rattle.file_index.specs.declared.key.Entry.{Entry}
use Rattle.file_index.specs.declared.key.FileKey.{FileKey}
use Rattle.file_index.specs.Files.{key_of, IsAfter, IsNext, HasNoNext}
use Rattle.file_index.specs.Order.{key_cmp, key_exact}
use Rattle.cloud_areas.specs.MessageFields.Keys.{is_above, AreAbove}
use Rattle.cloud_areas.specs.MessageFields.Keys.{key_cmp as cmp_keys}
use Rattle.cloud_areas.specs.UserDedup.file_list.FileEntry.{FileEntry}
use Rattle.cloud_areas.specs.UserDedup.command.Command.{Command}
use Rattle.cloud_areas.specs.UserDedup.Cloud.{user_view}
use Rattle.cloud_areas.specs.UserDedup.Pages.{page_of, entry_at, IsPage}
use Rattle.cloud_areas.specs.UserDedup.Pages.{key_of as file_key}
use Rattle.cloud_areas.proofs.UserDedup.Owned.{contains_here, contains_later, contains_nothing, contains_cases}
use Rattle.cloud_areas.proofs.UserDedup.Pages.{is_page, Key}
use Rattle.cloud_areas.proofs.UserDedup.Sound.{found_entry, no_entry}
use Rattle.cloud_memory.specs.Memory.{Memory, Remembers, summary, summary_of, keys_above}

-- a key of the user's in the map
abbrev pub of : UserId → Key → FileKey
of user key = key_of user.0 key.0.0 key.1.0

-- keys of one user are in the order of tags and versions
same_order : (user : UserId) (a b : Key) → key_cmp (of user a) (of user b) ≡ cmp_keys a b
same_order user a b = sym (ap (λ r. ordering_then r (cmp_keys a b)) (nat_cmp_is user.0 user.0 Equal refl))

pub less_above : (r : Ordering) → is_lt r ≡ true → r ≡ Less
less_above Less e = refl
less_above Equal e = cc
less_above Greater e = cc

pub keys_total : IsTotalOrder cmp_keys
keys_total = let t : IsTotalOrder (then_cmp (on (λ (k : Key). k.0.0) (slice_cmp nat_cmp)) (on (λ (k : Key). k.1.0) nat_cmp)) = search (comparing, rules) in t

keys_exact : (user : UserId) (a b : Key) → cmp_keys a b ≡ Equal → a ≡ b
keys_exact user a b e =
    let same = key_exact (of user a) (of user b) (same_order user a b ∙ e) in
    λ i. (record { 0 = (same i).tag }, record { 0 = (same i).version })

-- the user's keys in the map are those of the files
abbrev pub Holds : FinMap key_cmp Entry → UserId → List FileEntry → Type 0
Holds m user files = (key : Key) → IsSome (get m (of user key)) ↔ Contains (map file_key files) key

after_from : (user : UserId) (last : Option Key) (key : Key) → is_above last key ≡ true → IsAfter user.0 last (of user key)
after_from user None key e = refl
after_from user (Some last) key e = (refl, same_order user last key ∙ less_above (cmp_keys last key) e)

above_from : (user : UserId) (last : Option Key) (key : Key) → IsAfter user.0 last (of user key) → is_above last key ≡ true
above_from user None key a = refl
above_from user (Some last) key a = ap is_lt (sym (same_order user last key) ∙ a.1)

-- what stands behind a key of rising keys is above it
pub behind : (key : Key) (keys : List Key) (k : Key) → AreAbove (Some key) keys → Contains keys k → cmp_keys key k ≡ Less
behind key [] k a c = absurd (contains_nothing k c)
behind key (other ∷ keys) k a c =
    elim (contains_cases other keys k c) [
      | inl same ↦ subst (λ y. cmp_keys key y ≡ Less) same (less_above (cmp_keys key other) a.0)
      | inr later ↦ keys_total.trans key other k (less_above (cmp_keys key other) a.0) (behind other keys k a.1 later)
    ]

module _ (m : FinMap key_cmp Entry) (user : UserId) (files : List FileEntry) (last : Option Key) (holds : Holds m user files) where
  none_left : HasNoNext m user.0 last → (page : List Key) → IsPage files last page → page ≡ []
  none_left none [] p = refl
  none_left none (key ∷ rest) p =
      absurd (none (of user key) ((holds key).1 (p.among key (contains_here key rest))) (after_from user last key (p.rising.0)))

  first_is : (next : Key) → IsNext m user.0 last next → (page : List Key) → IsPage files last page → slice_get page 0 ≡ Some next
  first_is next is [] p =
      let full = (p.least next ((holds next).0 is.present) (above_from user last next is.after) (contains_nothing next)).0 in
      absurd (let wrong : 0 ≡ 256 = full in omega arith)
  first_is next is (key ∷ rest) p = ap (λ k. Some k) (by_order (cmp_keys key next) refl)
    where
      there : Contains (map file_key files) next
      there = (holds next).0 is.present

      not_greater : cmp_keys next key ≢ Greater
      not_greater g = is.least (of user key) ((holds key).1 (p.among key (contains_here key rest))) (after_from user last key (p.rising.0)) (same_order user next key ∙ g)

      -- the least key isn't behind the first, nor left out of a page that begins above it
      by_order : (r : Ordering) → cmp_keys key next ≡ r → key ≡ next
      by_order Less o = absurd (not_greater (keys_total.antisymm next key ∙ ap ordering_reverse o))
      by_order Equal o = keys_exact user key next o
      by_order Greater o =
          absurd (let above = All-head (λ (other : Key). IsTrue (is_above (Some other) next)) key rest (p.least next there (above_from user last next is.after) lacks).1 in
          let wrong : Greater ≡ Less = sym o ∙ less_above (cmp_keys key next) above in cc)
        where
          lacks : Contains (key ∷ rest) next → ⊥
          lacks c =
              elim (contains_cases key rest next c) [
                | inl same ↦ let wrong : Greater ≡ Equal = sym o ∙ subst (λ k. cmp_keys key k ≡ Equal) same (tied_itself keys_total key) in cc
                | inr later ↦ let wrong : Greater ≡ Less = sym o ∙ behind key rest next p.rising.1 later in cc
              ]

  front : (keys : List Key) → slice_get (take 256 keys) 0 ≡ slice_get keys 0
  front [] = refl
  front (key ∷ keys) = refl

  pub next_is : (result : Option Key) → MatchOption result (HasNoNext m user.0 last) (IsNext m user.0 last) → result ≡ slice_get (keys_above files last) 0
  next_is None none = sym (ap (λ (l : List Key). slice_get l 0) (none_left none (page_of files last) (is_page files last))) ∙ front (keys_above files last)
  next_is (Some next) is = sym (first_is next is (page_of files last) (is_page files last)) ∙ front (keys_above files last)

-- ---- the files of the view

pub mapped : (files : List FileEntry) (file : FileEntry) → Contains files file → Contains (map file_key files) (file_key file)
mapped [] file c = absurd (contains_nothing file c)
mapped (x ∷ files) file c =
    elim (contains_cases x files file c) [
      | inl same ↦ subst (λ y. Contains (map file_key (x ∷ files)) y) (ap file_key same) (contains_here (file_key x) (map file_key files))
      | inr later ↦ contains_later (file_key x) (map file_key files) (file_key file) (mapped files file later)
    ]

pub mapped_at : (files : List FileEntry) (key : Key) → Contains (map file_key files) key → (i : ℕ) × (file : FileEntry) × (slice_get files i ≡ Some file) × (file_key file ≡ key)
mapped_at [] key c = absurd (contains_nothing key c)
mapped_at (x ∷ files) key c =
    elim (contains_cases (file_key x) (map file_key files) key c) [
      | inl same ↦ (0, x, refl, same)
      | inr later ↦ let r = mapped_at files key later in (suc r.0, r.1, r.2, r.3)
    ]

pub both_there : (o : Option Entry) (w : Option FileEntry) → option_map summary o ≡ option_map summary_of w → is_some o ≡ is_some w
both_there None None e = refl
both_there None (Some x) e = absurd (let wrong : None ≡ Some (summary_of x) = e in cc)
both_there (Some x) None e = absurd (let wrong : Some (summary x) ≡ None = e in cc)
both_there (Some x) (Some y) e = refl

pub holds_of : (shape : Shape) (list : List Command) (m : Memory) → Remembers shape list m → (user : UserId) → Holds m.files user (user_view shape list user).files
holds_of shape list m r user key = (forth, back)
  where
    files : List FileEntry
    files = (user_view shape list user).files

    same : is_some (get m.files (of user key)) ≡ is_some (entry_at files key)
    same = both_there (get m.files (of user key)) (entry_at files key) (r.files user key.0 key.1)

    forth : IsSome (get m.files (of user key)) → Contains (map file_key files) key
    forth some = by_file (entry_at files key) refl
      where
        by_file : (o : Option FileEntry) → entry_at files key ≡ o → Contains (map file_key files) key
        by_file None at = absurd (let wrong : false ≡ true = sym (ap (λ (o : Option FileEntry). is_some o) at) ∙ sym same ∙ some in cc)
        by_file (Some file) at =
            let f = found_entry files key file at in
            subst (λ k. Contains (map file_key files) k) f.0 (mapped files file f.1)

    back : Contains (map file_key files) key → IsSome (get m.files (of user key))
    back c = same ∙ by_file (entry_at files key) refl
      where
        by_file : (o : Option FileEntry) → entry_at files key ≡ o → is_some o ≡ true
        by_file None at = absurd (let r = mapped_at files key c in no_entry files key at r.0 r.1 r.2 r.3)
        by_file (Some file) at = refl

pub after_is : (shape : Shape) (list : List Command) (m : Memory) (user : UserId) (last : Option Key) (result : Option Key) → Remembers shape list m
    → MatchOption result (HasNoNext m.files user.0 last) (IsNext m.files user.0 last) → result ≡ slice_get (keys_above (user_view shape list user).files last) 0
after_is shape list m user last result r next = next_is m.files user (user_view shape list user).files last (holds_of shape list m r user) result next
