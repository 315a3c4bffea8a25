-- What a compact list has: each user's view, and the strings that users own.
use Rattle.std.proofs.Common.{◌≡◌, ◌≢◌, ℕ, Bool, true, false, cond, List, [], ◌∷◌, ◌++◌, map, Option, Some, None, refl, sym, ap, subst, ◌∙◌, arith, inl, inr, ◌⊎◌, eq-eqb, append_assoc, append-nil}
use Rattle.std.specs.Prelude.{◌↔◌, find, fold, unwrap_or}
use Rattle.std.specs.List.{Contains, flat_map}
use Rattle.std.proofs.lemmas.Bool.{cases_eq, ne_eqb}
use Rattle.std.proofs.lemmas.List.Elements.{filter-append, Contains-append_left, Contains-append_right, Contains-append_cases}
use Rattle.std.proofs.lemmas.Grind.{fold-append}
use Rattle.journal_start.specs.CdBase.ids.Fp.{Fp}
use Rattle.journal_start.specs.CdBase.ids.Tag.{Tag}
use Rattle.journal_start.specs.CdBase.ids.UserId.{UserId}
use Rattle.journal_start.specs.CdBase.ids.Version.{Version}
use Rattle.journal_start.specs.CdBase.shape.Shape.{Shape}
use Rattle.user_dedup.specs.declared.file_list.FileEntry.{FileEntry}
use Rattle.user_dedup.specs.declared.view.View.{View}
use Rattle.user_dedup.specs.Cloud.{fingerprint, has_fingerprint, no_view}
use Rattle.user_dedup.specs.Pages.{key_of, is_at, entry_at, sorted_keys}
use Rattle.user_dedup.proofs.Owned.{contains_here, contains_later, contains_nothing, contains_cases, fp_same}
use Rattle.user_dedup.proofs.Sound.{found_entry}
use Rattle.user_dedup.proofs.Views.{is_held}
use Rattle.user_dedup.specs.declared.command.Command.{Command}
use Rattle.user_dedup.specs.declared.command.Command.TheVariants as commands
use Rattle.user_dedup.specs.Cloud.{user_of, is_of, commands_of, view_after, user_view, strings_of, strings_in, held_string, held_bytes}
use Rattle.user_dedup.specs.Compact.{users_in, sorted_fps, in_parts, user_at, puts_for, commit_at, commits_for, compact}
use Rattle.user_dedup.proofs.Filtered.{in_flat, from_flat}
use Rattle.user_dedup.proofs.Views.{owned_is_held}
use Rattle.user_dedup.proofs.Deleting.{at_its_key, its_key}
use Rattle.user_dedup.proofs.Sorting.{Rises, has_number, number_later, number_rises, joined, joined_parts, fps_have, fps_from, keys_have}

-- ---- what is found, where only one passes

module _ {X : Type 0} (p : X → Bool) where
  find_only : (xs : List X) (x : X) → Contains xs x → p x ≡ true → ((y : X) → Contains xs y → p y ≡ true → y ≡ x) → find p xs ≡ Some x
  find_only [] x c e only = absurd (contains_nothing x c)
  find_only (z ∷ xs) x c e only = by_test (p z) refl (find_only xs x) (contains_cases z xs x c)
    where
      by_test : (b : Bool) → p z ≡ b → (Contains xs x → p x ≡ true → ((y : X) → Contains xs y → p y ≡ true → y ≡ x) → find p xs ≡ Some x)
          → (z ≡ x) ⊎ Contains xs x → cond b (Some z) (find p xs) ≡ Some x
      by_test true h rest cases = ap Some (only z (contains_here z xs) h)
      by_test false h rest (inl same) = absurd (let no : false ≡ true = sym h ∙ ap p same ∙ e in cc)
      by_test false h rest (inr later) = rest later e (λ y d. only y (contains_later z xs y d))

  pub find_none : (xs : List X) → ((y : X) → Contains xs y → p y ≡ true → ⊥) → find p xs ≡ None
  find_none [] none = refl
  find_none (z ∷ xs) none = by_test (p z) refl (find_none xs (λ y d. none y (contains_later z xs y d)))
    where
      by_test : (b : Bool) → p z ≡ b → find p xs ≡ None → cond b (Some z) (find p xs) ≡ None
      by_test true h rest = absurd (none z (contains_here z xs) h)
      by_test false h rest = rest

-- ---- one user's commands of all

abbrev pub AreOf : ℕ → List Command → Type 0
AreOf n list = (c : Command) → Contains list c → (user_of c).0 ≡ n

all_own : (user : UserId) (list : List Command) → AreOf user.0 list → commands_of user list ≡ list
all_own user [] own = refl
all_own user (c ∷ list) own =
    ap (λ (b : Bool). cond b (c ∷ commands_of user list) (commands_of user list)) (eq-eqb (user_of c).0 user.0 (own c (contains_here c list)))
    ∙ ap (λ l. c ∷ l) (all_own user list (λ d e. own d (contains_later c list d e)))

pub none_own : (user : UserId) (n : ℕ) (list : List Command) → n ≢ user.0 → AreOf n list → commands_of user list ≡ []
none_own user n [] other own = refl
none_own user n (c ∷ list) other own =
    ap (λ (b : Bool). cond b (c ∷ commands_of user list) (commands_of user list)) (ne_eqb (user_of c).0 user.0 (λ same. other (sym (own c (contains_here c list)) ∙ same)))
    ∙ none_own user n list other (λ d e. own d (contains_later c list d e))

module _ (g : ℕ → List Command) (of : (n : ℕ) → AreOf n (g n)) (user : UserId) where
  cut : (n : ℕ) (ns : List ℕ) → commands_of user (flat_map g (n ∷ ns)) ≡ commands_of user (g n) ++ commands_of user (flat_map g ns)
  cut n ns = filter-append (is_of user) (g n) (flat_map g ns)

  none_among : (ns : List ℕ) → (Contains ns user.0 → ⊥) → commands_of user (flat_map g ns) ≡ []
  none_among [] lacks = refl
  none_among (n ∷ ns) lacks =
      cut n ns
      ∙ ap (λ l. l ++ commands_of user (flat_map g ns)) (none_own user n (g n) (λ same. lacks (subst (Contains (n ∷ ns)) same (contains_here n ns))) (of n))
      ∙ none_among ns (λ c. lacks (contains_later n ns user.0 c))

  picked : (ns : List ℕ) → Rises ns → Contains ns user.0 → commands_of user (flat_map g ns) ≡ g user.0
  picked [] r c = absurd (contains_nothing user.0 c)
  picked (n ∷ ns) r c =
      elim (contains_cases n ns user.0 c) [
        | inl same ↦
            cut n ns
            ∙ ap (λ l. commands_of user (g n) ++ l) (none_among ns (λ d. let l = r.0 user.0 d in omega (arith, l, same)))
            ∙ append-nil (commands_of user (g n))
            ∙ ap (λ m. commands_of user (g m)) same
            ∙ all_own user (g user.0) (of user.0)
        | inr later ↦
            cut n ns
            ∙ ap (λ l. l ++ commands_of user (flat_map g ns)) (none_own user n (g n) (λ same. let l = r.0 user.0 later in omega (arith, l, same)) (of n))
            ∙ picked ns r.1 later
      ]

-- ---- which users there are

pub users_rise : (list : List Command) → Rises (users_in list)
users_rise [] = tt
users_rise (c ∷ list) = number_rises (user_of c).0 (users_in list) (users_rise list)

no_commands : (list : List Command) (user : UserId) → (Contains (users_in list) user.0 → ⊥) → commands_of user list ≡ []
no_commands [] user lacks = refl
no_commands (c ∷ list) user lacks =
    ap (λ (b : Bool). cond b (c ∷ commands_of user list) (commands_of user list))
    (ne_eqb (user_of c).0 user.0 (λ same. lacks (subst (Contains (users_in (c ∷ list))) same (has_number (user_of c).0 (users_in list)))))
    ∙ no_commands list user (λ d. lacks (number_later (user_of c).0 (users_in list) user.0 d))

member : (n : ℕ) (ns : List ℕ) → Contains ns n ⊎ (Contains ns n → ⊥)
member n [] = inr (contains_nothing n)
member n (m ∷ ns) =
    elim (cases_eq m n) [
      | inl same ↦ inl (subst (Contains (m ∷ ns)) same (contains_here m ns))
      | inr other ↦ elim (member n ns) [
        | inl later ↦ inl (contains_later m ns n later)
        | inr lacks ↦ inr (λ c. elim (contains_cases m ns n c) [ inl same ↦ other same | inr later ↦ lacks later ])
      ]
    ]

-- what is made of a user's view, and is nothing where there is none, is that user's part of the whole
pub part_of : (g : ℕ → List Command) (of : (n : ℕ) → AreOf n (g n)) (list : List Command) (user : UserId)
    → (commands_of user list ≡ [] → g user.0 ≡ []) → commands_of user (flat_map g (users_in list)) ≡ g user.0
part_of g of list user empty =
    elim (member user.0 (users_in list)) [
      | inl here ↦ picked g of user (users_in list) (users_rise list) here
      | inr lacks ↦ none_among g of user (users_in list) lacks ∙ sym (empty (no_commands list user lacks))
    ]

-- ---- a user's Puts and Commits

mapped_of : {X : Type 0} (n : ℕ) (f : X → Command) (xs : List X) → ((x : X) → (user_of (f x)).0 ≡ n) → AreOf n (map f xs)
mapped_of n f [] own c d = absurd (contains_nothing c d)
mapped_of n f (x ∷ xs) own c d =
    elim (contains_cases (f x) (map f xs) c d) [
      | inl same ↦ subst (λ (e : Command). (user_of e).0 ≡ n) same (own x)
      | inr later ↦ mapped_of n f xs own c later
    ]

commit_of : (user : UserId) (found : Option FileEntry) → AreOf user.0 (commit_at user found)
commit_of user None c d = absurd (contains_nothing c d)
commit_of user (Some e) c d =
    elim (contains_cases (commands.Commit user e.tag e.version e.recipe) [] c d) [
      | inl same ↦ subst (λ (x : Command). (user_of x).0 ≡ user.0) same refl
      | inr later ↦ absurd (contains_nothing c later)
    ]

module _ (shape : Shape) (list : List Command) where
  abbrev pub view_at : ℕ → View
  view_at n = user_view shape list (user_at n)

  pub puts_of : (n : ℕ) → AreOf n (puts_for shape list n)
  puts_of n = mapped_of n (λ (fps : List Fp). commands.Put (user_at n) (map (held_bytes list) fps)) (in_parts (sorted_fps (view_at n).own)) (λ fps. refl)

  pub commits_of : (n : ℕ) → AreOf n (commits_for shape list n)
  commits_of n c d =
      let at = λ (key : Tag × Version). commit_at (user_at n) (entry_at (view_at n).files key) in
      let f = from_flat at (sorted_keys (map key_of (view_at n).files)) c d in
      commit_of (user_at n) (entry_at (view_at n).files f.0) c f.2

  pub no_puts : (user : UserId) → commands_of user list ≡ [] → puts_for shape list user.0 ≡ []
  no_puts user e =
      ap (λ (l : List Command). map (λ (fps : List Fp). commands.Put user (map (held_bytes list) fps)) (in_parts (sorted_fps (fold (view_after shape) no_view l).own))) e

  pub no_commits : (user : UserId) → commands_of user list ≡ [] → commits_for shape list user.0 ≡ []
  no_commits user e =
      ap (λ (l : List Command). flat_map (λ (key : Tag × Version). commit_at user (entry_at (fold (view_after shape) no_view l).files key)) (sorted_keys (map key_of (fold (view_after shape) no_view l).files))) e

  own_commands : (user : UserId) → commands_of user (compact shape list) ≡ puts_for shape list user.0 ++ commits_for shape list user.0
  unfolding compact
  own_commands user =
      let puts = part_of (puts_for shape list) puts_of list user (no_puts user) in
      let commits = part_of (commits_for shape list) commits_of list user (no_commits user) in
      filter-append (is_of user) (flat_map (puts_for shape list) (users_in list)) (flat_map (commits_for shape list) (users_in list))
      ∙ (λ i. puts i ++ commits i)

  -- ---- what they make of a view

  abbrev pub AreHeld : List Fp → Type 0
  AreHeld fps = (fp : Fp) → Contains fps fp → fingerprint (held_bytes list fp) ≡ fp

  pub back : (fps : List Fp) → AreHeld fps → map fingerprint (map (held_bytes list) fps) ≡ fps
  back [] held = refl
  back (fp ∷ fps) held =
      let first = held fp (contains_here fp fps) in
      let more = back fps (λ q c. held q (contains_later fp fps q c)) in
      λ i. first i ∷ more i

  pub after_puts : (user : UserId) (parts : List (List Fp)) (v : View) → AreHeld (joined parts)
      → fold (view_after shape) v (map (λ (fps : List Fp). commands.Put user (map (held_bytes list) fps)) parts) ≡ record { own = v.own ++ joined parts; files = v.files }
  after_puts user [] v held = let e = append-nil v.own in λ i. record { own = sym e i; files = v.files }
  after_puts user (part ∷ parts) v held =
      let first = back part (λ q c. held q (Contains-append_left part (joined parts) q c)) in
      let grown : View = record { own = v.own ++ map fingerprint (map (held_bytes list) part); files = v.files } in
      let more = after_puts user parts grown (λ q c. held q (Contains-append_right part (joined parts) q c)) in
      let own : (v.own ++ map fingerprint (map (held_bytes list) part)) ++ joined parts ≡ v.own ++ (part ++ joined parts) =
      append_assoc v.own (map fingerprint (map (held_bytes list) part)) (joined parts) ∙ ap (λ l. v.own ++ (l ++ joined parts)) first in
      more ∙ (λ i. record { own = own i; files = v.files })

  abbrev entry_list : Option FileEntry → List FileEntry
  entry_list None = []
  entry_list (Some e) = e ∷ []

  abbrev entries_at : List FileEntry → List (Tag × Version) → List FileEntry
  entries_at files keys = flat_map (λ (key : Tag × Version). entry_list (entry_at files key)) keys

  abbrev pub commits_in : UserId → List FileEntry → List (Tag × Version) → List Command
  commits_in user files keys = flat_map (λ (key : Tag × Version). commit_at user (entry_at files key)) keys

  after_commits : (user : UserId) (files : List FileEntry) (keys : List (Tag × Version)) (v : View)
      → fold (view_after shape) v (commits_in user files keys) ≡ record { own = v.own; files = v.files ++ entries_at files keys }
  after_commits user files [] v = let e = append-nil v.files in λ i. record { own = v.own; files = sym e i }
  after_commits user files (key ∷ keys) v = by_found (entry_at files key) (λ w. after_commits user files keys w)
    where
      by_found : (found : Option FileEntry) → ((w : View) → fold (view_after shape) w (commits_in user files keys) ≡ record { own = w.own; files = w.files ++ entries_at files keys })
          → fold (view_after shape) v (commit_at user found ++ commits_in user files keys) ≡ record { own = v.own; files = v.files ++ (entry_list found ++ entries_at files keys) }
      by_found None more = more v
      by_found (Some e) more =
          let grown : View = record { own = v.own; files = v.files ++ e ∷ [] } in
          let all = append_assoc v.files (e ∷ []) (entries_at files keys) in
          more grown ∙ (λ i. record { own = v.own; files = all i })

  pub owned_held : (user : UserId) (fps : List Fp) → ((fp : Fp) → Contains fps fp → Contains (user_view shape list user).own fp) → AreHeld fps
  owned_held user fps own fp c =
      let h = owned_is_held shape list user fp (own fp c) in
      ap (λ o. fingerprint (unwrap_or o [])) h.1 ∙ h.2

  abbrev sorted_view : UserId → View
  sorted_view user =
      record {
        own = joined (in_parts (sorted_fps (user_view shape list user).own));
        files = entries_at (user_view shape list user).files (sorted_keys (map key_of (user_view shape list user).files));
      }

  pub compact_view : (user : UserId) → user_view shape (compact shape list) user ≡ sorted_view user
  compact_view user =
      let v = user_view shape list user in
      let parts = in_parts (sorted_fps v.own) in
      let keys = sorted_keys (map key_of v.files) in
      let held = owned_held user (joined parts) (λ fp c. fps_from v.own fp (subst (λ l. Contains l fp) (joined_parts (sorted_fps v.own)) c)) in
      ap (fold (view_after shape) no_view) (own_commands user)
      ∙ fold-append (view_after shape) no_view (puts_for shape list user.0) (commits_for shape list user.0)
      ∙ ap (λ w. fold (view_after shape) w (commits_for shape list user.0)) (after_puts user parts no_view held)
      ∙ after_commits user v.files keys (record { own = joined parts; files = [] })

  -- ---- the same view

  pub same_own : (user : UserId) (fp : Fp) → Contains (user_view shape (compact shape list) user).own fp ↔ Contains (user_view shape list user).own fp
  same_own user fp =
      let v = user_view shape list user in
      let own : (user_view shape (compact shape list) user).own ≡ sorted_fps v.own = ap (λ (w : View). w.own) (compact_view user) ∙ joined_parts (sorted_fps v.own) in
      (λ c. fps_from v.own fp (subst (λ l. Contains l fp) own c), λ c. subst (λ l. Contains l fp) (sym own) (fps_have v.own fp c))

  in_entry : (found : Option FileEntry) (e : FileEntry) → found ≡ Some e → Contains (entry_list found) e
  in_entry None e same = absurd (let no : None ≡ Some e = same in cc)
  in_entry (Some x) e same = let is : x ≡ e = cc in subst (λ y. Contains (x ∷ []) y) is (contains_here x [])

  from_entry : (found : Option FileEntry) (e : FileEntry) → Contains (entry_list found) e → found ≡ Some e
  from_entry None e c = absurd (contains_nothing e c)
  from_entry (Some x) e c = elim (contains_cases x [] e c) [ inl same ↦ ap Some same | inr later ↦ absurd (contains_nothing e later) ]

  in_map : (files : List FileEntry) (e : FileEntry) → Contains files e → Contains (map key_of files) (key_of e)
  in_map [] e c = absurd (contains_nothing e c)
  in_map (x ∷ files) e c =
      elim (contains_cases x files e c) [
        | inl same ↦ subst (λ y. Contains (map key_of (x ∷ files)) (key_of y)) same (contains_here (key_of x) (map key_of files))
        | inr later ↦ contains_later (key_of x) (map key_of files) (key_of e) (in_map files e later)
      ]

  -- an entry of those with a key is the one that the key has
  at_key : (files : List FileEntry) (keys : List (Tag × Version)) (key : Tag × Version) (y : FileEntry) → Contains (entries_at files keys) y → is_at key y ≡ true
      → entry_at files key ≡ Some y
  at_key files keys key y c e =
      let f = from_flat (λ (k : Tag × Version). entry_list (entry_at files k)) keys y c in
      let found = from_entry (entry_at files f.0) y f.2 in
      let same : f.0 ≡ key = sym (found_entry files f.0 y found).0 ∙ its_key y key e in
      ap (entry_at files) (sym same) ∙ found

  sorted_entry : (files : List FileEntry) (key : Tag × Version) (found : Option FileEntry) → entry_at files key ≡ found
      → entry_at (entries_at files (sorted_keys (map key_of files))) key ≡ found
  sorted_entry files key None e =
      find_none (is_at key) (entries_at files (sorted_keys (map key_of files)))
      (λ y c t. let no : None ≡ Some y = sym e ∙ at_key files (sorted_keys (map key_of files)) key y c t in cc)
  sorted_entry files key (Some x) e =
      let keys = sorted_keys (map key_of files) in
      let f = found_entry files key x e in
      let has : Contains keys key = subst (Contains keys) f.0 (keys_have (map key_of files) (key_of x) (in_map files x f.1)) in
      find_only (is_at key) (entries_at files keys) x
      (in_flat (λ (k : Tag × Version). entry_list (entry_at files k)) keys key x has (in_entry (entry_at files key) x e))
      (at_its_key x key f.0)
      (λ y c t. let same : Some y ≡ Some x = sym (at_key files keys key y c t) ∙ e in cc)

  pub same_entries : (user : UserId) (key : Tag × Version) → entry_at (user_view shape (compact shape list) user).files key ≡ entry_at (user_view shape list user).files key
  same_entries user key =
      ap (λ (w : View). entry_at w.files key) (compact_view user)
      ∙ sorted_entry (user_view shape list user).files key (entry_at (user_view shape list user).files key) refl

  -- ---- what is held

  in_mapped : {X Y : Type 0} (f : X → Y) (xs : List X) (x : X) → Contains xs x → Contains (map f xs) (f x)
  in_mapped f [] x c = absurd (contains_nothing x c)
  in_mapped f (z ∷ xs) x c =
      elim (contains_cases z xs x c) [
        | inl same ↦ subst (λ y. Contains (map f (z ∷ xs)) (f y)) same (contains_here (f z) (map f xs))
        | inr later ↦ contains_later (f z) (map f xs) (f x) (in_mapped f xs x later)
      ]

  pub from_mapped : {X Y : Type 0} (f : X → Y) (xs : List X) (y : Y) → Contains (map f xs) y → (x : X) × Contains xs x × (f x ≡ y)
  from_mapped f [] y c = absurd (contains_nothing y c)
  from_mapped f (z ∷ xs) y c =
      elim (contains_cases (f z) (map f xs) y c) [
        | inl same ↦ (z, contains_here z xs, same)
        | inr later ↦ let r = from_mapped f xs y later in (r.0, contains_later z xs r.0 r.1, r.2)
      ]

  in_part : (parts : List (List Fp)) (fp : Fp) → Contains (joined parts) fp → (part : List Fp) × Contains parts part × Contains part fp
  in_part [] fp c = absurd (contains_nothing fp c)
  in_part (part ∷ parts) fp c =
      elim (Contains-append_cases part (joined parts) fp c) [
        | inl here ↦ (part, contains_here part parts, here)
        | inr later ↦ let r = in_part parts fp later in (r.0, contains_later part parts r.0 r.1, r.2)
      ]

  from_part : (parts : List (List Fp)) (part : List Fp) (fp : Fp) → Contains parts part → Contains part fp → Contains (joined parts) fp
  from_part [] part fp c d = absurd (contains_nothing part c)
  from_part (first ∷ parts) part fp c d =
      elim (contains_cases first parts part c) [
        | inl same ↦ Contains-append_left first (joined parts) fp (subst (λ l. Contains l fp) (sym same) d)
        | inr later ↦ Contains-append_right first (joined parts) fp (from_part parts part fp later d)
      ]

  commit_strings : (user : UserId) (found : Option FileEntry) (c : Command) → Contains (commit_at user found) c → strings_of c ≡ []
  commit_strings user None c d = absurd (contains_nothing c d)
  commit_strings user (Some e) c d =
      elim (contains_cases (commands.Commit user e.tag e.version e.recipe) [] c d) [
        | inl same ↦ sym (ap strings_of same)
        | inr later ↦ absurd (contains_nothing c later)
      ]

  -- the string that is held under a fingerprint, whose own that is
  abbrev IsOwned : List ℕ → Type 0
  IsOwned s = (fp : Fp) × (s ≡ held_bytes list fp) × (fingerprint s ≡ fp)

  put_string : (c : Command) (s : List ℕ) → Contains (flat_map (puts_for shape list) (users_in list)) c → Contains (strings_of c) s → IsOwned s
  put_string c s put of_it =
      let g = from_flat (puts_for shape list) (users_in list) c put in
      let own = (view_at g.0).own in
      let parts = in_parts (sorted_fps own) in
      let m = from_mapped (λ (fps : List Fp). commands.Put (user_at g.0) (map (held_bytes list) fps)) parts c g.2 in
      let h = from_mapped (held_bytes list) m.0 s (subst (λ (d : Command). Contains (strings_of d) s) (sym m.2) of_it) in
      let owned = fps_from own h.0 (subst (λ l. Contains l h.0) (joined_parts (sorted_fps own)) (from_part parts m.0 h.0 m.1 h.1)) in
      let held = owned_is_held shape list (user_at g.0) h.0 owned in
      let bytes : held_bytes list h.0 ≡ held.0 = ap (λ o. unwrap_or o []) held.1 in
      (h.0, sym h.2, ap fingerprint (sym h.2 ∙ bytes) ∙ held.2)

  commit_string : (c : Command) (s : List ℕ) → Contains (flat_map (commits_for shape list) (users_in list)) c → Contains (strings_of c) s → IsOwned s
  commit_string c s commit of_it =
      let g = from_flat (commits_for shape list) (users_in list) c commit in
      let files = (view_at g.0).files in
      let k = from_flat (λ (key : Tag × Version). commit_at (user_at g.0) (entry_at files key)) (sorted_keys (map key_of files)) c g.2 in
      absurd (contains_nothing s (subst (λ l. Contains l s) (commit_strings (user_at g.0) (entry_at files k.0) c k.2) of_it))

  string_of : (s : List ℕ) → Contains (strings_in (compact shape list)) s → IsOwned s
  unfolding compact
  string_of s c =
      let f = from_flat strings_of (flat_map (puts_for shape list) (users_in list) ++ flat_map (commits_for shape list) (users_in list)) s c in
      elim (Contains-append_cases (flat_map (puts_for shape list) (users_in list)) (flat_map (commits_for shape list) (users_in list)) f.0 f.1) [
        | inl put ↦ put_string f.0 s put f.2
        | inr commit ↦ commit_string f.0 s commit f.2
      ]

  is_user : (user : UserId) (fp : Fp) → Contains (user_view shape list user).own fp → Contains (users_in list) user.0
  is_user user fp own =
      elim (member user.0 (users_in list)) [
        | inl here ↦ here
        | inr lacks ↦ absurd (contains_nothing fp (subst (λ (l : List Command). Contains (fold (view_after shape) no_view l).own fp) (no_commands list user lacks) own))
      ]

  brings : (user : UserId) (fp : Fp) → Contains (user_view shape list user).own fp → Contains (strings_in (compact shape list)) (held_bytes list fp)
  unfolding compact
  brings user fp own =
      let fps = sorted_fps (user_view shape list user).own in
      let put = λ (part : List Fp). commands.Put user (map (held_bytes list) part) in
      let p = in_part (in_parts fps) fp (subst (λ l. Contains l fp) (sym (joined_parts fps)) (fps_have (user_view shape list user).own fp own)) in
      let here = in_flat (puts_for shape list) (users_in list) user.0 (put p.0) (is_user user fp own) (in_mapped put (in_parts fps) p.0 p.1) in
      in_flat strings_of (flat_map (puts_for shape list) (users_in list) ++ flat_map (commits_for shape list) (users_in list)) (put p.0) (held_bytes list fp)
      (Contains-append_left (flat_map (puts_for shape list) (users_in list)) (flat_map (commits_for shape list) (users_in list)) (put p.0) here)
      (in_mapped (held_bytes list) p.0 fp p.2)

  pub same_held : (user : UserId) (fp : Fp) → Contains (user_view shape list user).own fp → held_string (compact shape list) fp ≡ held_string list fp
  same_held user fp own =
      let h = owned_is_held shape list user fp own in
      let bytes : held_bytes list fp ≡ h.0 = ap (λ o. unwrap_or o []) h.1 in
      find_only (has_fingerprint fp) (strings_in (compact shape list)) h.0
      (subst (Contains (strings_in (compact shape list))) bytes (brings user fp own))
      (is_held fp h.0 h.2)
      (λ y c t.
      let s = string_of y c in
      let same : s.0 ≡ fp = sym s.2 ∙ (fp_same (fingerprint y) fp).0 t in
      s.1 ∙ ap (held_bytes list) same ∙ bytes)
      ∙ sym h.1
