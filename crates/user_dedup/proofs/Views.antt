-- The views of users, and what is held.
use Rattle.std.proofs.Common.{◌≡◌, ◌≢◌, ℕ, Bool, true, false, cond, List, [], ◌∷◌, ◌++◌, map, Some, None, refl, sym, ap, ◌∙◌, subst, inl, inr, ◌⊎◌, eq-eqb}
use Rattle.std.specs.Prelude.{filter, find, fold, not, ◌||◌}
use Rattle.std.specs.List.{Contains}
use Rattle.std.specs.Option.{option_or}
use Rattle.std.proofs.lemmas.Bool.{ne_eqb}
use Rattle.std.proofs.lemmas.List.Folds.{find-append}
use Rattle.std.proofs.lemmas.List.Elements.{filter-append, Contains-append_left, Contains-append_right, Contains-append_cases}
use Rattle.std.proofs.lemmas.Grind.{flat_map-append, fold-append}
use Rattle.journal_start.specs.CdBase.ids.Fp.{Fp}
use Rattle.journal_start.specs.CdBase.ids.UserId.{UserId}
use Rattle.journal_start.specs.CdBase.shape.Shape.{Shape}
use Rattle.user_dedup.specs.declared.view.View.{View}
use Rattle.user_dedup.specs.Owning.{is_among}
use Rattle.user_dedup.specs.Pages.{entry_at}
use Rattle.user_dedup.proofs.Owned.{contains_here, contains_later, contains_nothing, contains_cases, fp_same}
use Rattle.user_dedup.specs.declared.command.Command.{Command}
use Rattle.user_dedup.specs.declared.command.Command.TheVariants as commands
use Rattle.user_dedup.specs.Cloud.{fingerprint, has_fingerprint, no_view, user_of, is_of, commands_of, view_after, user_view, strings_of, strings_in, held_string, named_by, named_in, without_key}
use Rattle.user_dedup.proofs.Filtered.{from_filter}

-- ---- views

pub view_more : (shape : Shape) (list more : List Command) (user : UserId)
    → user_view shape (list ++ more) user ≡ fold (view_after shape) (user_view shape list user) (commands_of user more)
view_more shape list more user =
    ap (fold (view_after shape) no_view) (filter-append (is_of user) list more)
    ∙ fold-append (view_after shape) no_view (commands_of user list) (commands_of user more)

one_more : (shape : Shape) (v : View) (command : Command) (b : Bool)
    → fold (view_after shape) v (cond b (command ∷ []) []) ≡ cond b (view_after shape v command) v
one_more shape v command true = refl
one_more shape v command false = refl

pub view_next : (shape : Shape) (list : List Command) (command : Command) (user : UserId)
    → user_view shape (list ++ command ∷ []) user ≡ cond (is_of user command) (view_after shape (user_view shape list user) command) (user_view shape list user)
view_next shape list command user =
    view_more shape list (command ∷ []) user ∙ one_more shape (user_view shape list user) command (is_of user command)

pub others_stay : (shape : Shape) (list : List Command) (command : Command) (user : UserId) → (user_of command).0 ≢ user.0
    → user_view shape (list ++ command ∷ []) user ≡ user_view shape list user
others_stay shape list command user other =
    view_next shape list command user
    ∙ ap (λ b. cond b (view_after shape (user_view shape list user) command) (user_view shape list user)) (ne_eqb (user_of command).0 user.0 other)

pub own_adds : (shape : Shape) (list : List Command) (command : Command) (user : UserId) → (user_of command).0 ≡ user.0
    → user_view shape (list ++ command ∷ []) user ≡ view_after shape (user_view shape list user) command
own_adds shape list command user same =
    view_next shape list command user
    ∙ ap (λ b. cond b (view_after shape (user_view shape list user) command) (user_view shape list user)) (eq-eqb (user_of command).0 user.0 same)

-- ---- what is held

-- where an element passes a test, one that passes it is found
pub found_from : (p : List ℕ → Bool) (xs : List (List ℕ)) (s : List ℕ) → Contains xs s → p s ≡ true → (t : List ℕ) × (find p xs ≡ Some t)
found_from p [] s c e = absurd (contains_nothing s c)
found_from p (x ∷ xs) s c e = by_test (p x) refl (found_from p xs s) (contains_cases x xs s c)
  where
    by_test : (b : Bool) → p x ≡ b → (Contains xs s → p s ≡ true → (t : List ℕ) × (find p xs ≡ Some t)) → (x ≡ s) ⊎ Contains xs s
        → (t : List ℕ) × (cond b (Some x) (find p xs) ≡ Some t)
    by_test true h rest cases = (x, refl)
    by_test false h rest (inl same) = absurd (let no : false ≡ true = sym h ∙ ap p same ∙ e in cc)
    by_test false h rest (inr later) = rest later e

-- what is found passes the test
pub found_passes : {A : Type 0} (p : A → Bool) (xs : List A) (t : A) → find p xs ≡ Some t → (p t ≡ true) × Contains xs t
found_passes p [] t e = absurd (let no : None ≡ Some t = e in cc)
found_passes {A} p (x ∷ xs) t e = by_test (p x) refl (found_passes p xs t) e
  where
    by_test : (b : Bool) → p x ≡ b → (find p xs ≡ Some t → (p t ≡ true) × Contains xs t) → cond b (Some x) (find p xs) ≡ Some t → (p t ≡ true) × Contains (x ∷ xs) t
    by_test true h rest found = let same : x ≡ t = (let f : Some x ≡ Some t = found in cc) in (ap p (sym same) ∙ h, subst (λ y. Contains (x ∷ xs) y) same (contains_here x xs))
    by_test false h rest found = let r = rest found in (r.0, contains_later x xs t r.1)

-- a string of these has the fingerprint
abbrev pub IsSent : List (List ℕ) → Fp → Type 0
IsSent strings fp = (s : List ℕ) × Contains strings s × (fingerprint s ≡ fp)

mapped_from : (xs : List (List ℕ)) (fp : Fp) → Contains (map fingerprint xs) fp → IsSent xs fp
mapped_from [] fp c = absurd (contains_nothing fp c)
mapped_from (x ∷ xs) fp c = by_cases (mapped_from xs fp) (contains_cases (fingerprint x) (map fingerprint xs) fp c)
  where
    by_cases : (Contains (map fingerprint xs) fp → IsSent xs fp) → (fingerprint x ≡ fp) ⊎ Contains (map fingerprint xs) fp → IsSent (x ∷ xs) fp
    by_cases rest (inl same) = (x, contains_here x xs, same)
    by_cases rest (inr later) = let r = rest later in (r.0, contains_later x xs r.0 r.1, r.2)

-- what a user owns was sent by the user
own_from : (shape : Shape) (v : View) (list : List Command) (fp : Fp) → Contains (fold (view_after shape) v list).own fp → Contains v.own fp ⊎ IsSent (strings_in list) fp
own_from shape v [] fp c = inl c
own_from shape v (commands.Put user shares ∷ list) fp c =
    elim (own_from shape (view_after shape v (commands.Put user shares)) list fp c) [
      | inl had ↦ elim (Contains-append_cases v.own (map fingerprint shares) fp had) [
        | inl old ↦ inl old
        | inr new ↦ let r = mapped_from shares fp new in inr (r.0, Contains-append_left shares (strings_in list) r.0 r.1, r.2)
      ]
      | inr later ↦ inr (later.0, Contains-append_right shares (strings_in list) later.0 later.1, later.2)
    ]
own_from shape v (commands.Commit user tag version recipe ∷ list) fp c = own_from shape (view_after shape v (commands.Commit user tag version recipe)) list fp c
own_from shape v (commands.Delete user tag version ∷ list) fp c =
    elim (own_from shape (view_after shape v (commands.Delete user tag version)) list fp c) [
      | inl left ↦ inl (from_filter (λ (other : Fp). not (is_among (named_by shape (entry_at v.files (tag, version))) other) || is_among (named_in shape (without_key (tag, version) v.files)) other) v.own fp left).0
      | inr later ↦ inr later
    ]

-- the strings of some of the commands are among those of all
pub strings_among : (q : Command → Bool) (list : List Command) (s : List ℕ) → Contains (strings_in (filter q list)) s → Contains (strings_in list) s
strings_among q [] s c = c
strings_among q (command ∷ list) s c = by_test (q command) (strings_among q list s) c
  where
    by_test : (b : Bool) → (Contains (strings_in (filter q list)) s → Contains (strings_in list) s)
        → Contains (strings_in (cond b (command ∷ filter q list) (filter q list))) s → Contains (strings_of command ++ strings_in list) s
    by_test false rest h = Contains-append_right (strings_of command) (strings_in list) s (rest h)
    by_test true rest h =
        elim (Contains-append_cases (strings_of command) (strings_in (filter q list)) s h) [
          | inl here ↦ Contains-append_left (strings_of command) (strings_in list) s here
          | inr later ↦ Contains-append_right (strings_of command) (strings_in list) s (rest later)
        ]

has_it : (fp : Fp) (s : List ℕ) → has_fingerprint fp s ≡ true → fingerprint s ≡ fp
has_it fp s e = (fp_same (fingerprint s) fp).0 e

pub is_held : (fp : Fp) (s : List ℕ) → fingerprint s ≡ fp → has_fingerprint fp s ≡ true
is_held fp s e = (fp_same (fingerprint s) fp).1 e

-- what is held has that fingerprint
pub held_is : (list : List Command) (fp : Fp) (s : List ℕ) → held_string list fp ≡ Some s → (fingerprint s ≡ fp) × Contains (strings_in list) s
held_is list fp s e = let f = found_passes (has_fingerprint fp) (strings_in list) s e in (has_it fp s f.0, f.1)

-- what was sent is held, or another string of its fingerprint
pub sent_is_held : (list : List Command) (fp : Fp) → IsSent (strings_in list) fp → (s : List ℕ) × (held_string list fp ≡ Some s) × (fingerprint s ≡ fp)
sent_is_held list fp sent =
    let found = found_from (has_fingerprint fp) (strings_in list) sent.0 sent.1 (is_held fp sent.0 sent.2) in
    (found.0, found.1, (held_is list fp found.0 found.1).0)

-- a fingerprint that a user owns is held
pub owned_is_held : (shape : Shape) (list : List Command) (user : UserId) (fp : Fp) → Contains (user_view shape list user).own fp
    → (s : List ℕ) × (held_string list fp ≡ Some s) × (fingerprint s ≡ fp)
owned_is_held shape list user fp c =
    elim (own_from shape no_view (commands_of user list) fp c) [
      | inl none ↦ absurd (contains_nothing fp none)
      | inr sent ↦ sent_is_held list fp (sent.0, strings_among (is_of user) list sent.0 sent.1, sent.2)
    ]

-- what is held stays held, whatever comes behind
pub held_more : (list more : List Command) (fp : Fp) (s : List ℕ) → held_string list fp ≡ Some s → held_string (list ++ more) fp ≡ Some s
held_more list more fp s h =
    ap (find (has_fingerprint fp)) (flat_map-append strings_of list more)
    ∙ find-append (has_fingerprint fp) (strings_in list) (strings_in more)
    ∙ ap (λ o. option_or o (find (has_fingerprint fp) (strings_in more))) h
