-- The number of commands of a compact list.
use Rattle.std.proofs.Common.{◌≡◌, ℕ, zero, suc, ◌+◌, ◌-◌, ◌≤◌, Bool, true, false, cond, List, [], ◌∷◌, ◌++◌, length, map, drop, Option, Some, None, refl, sym, ap, subst, ◌∙◌, arith, inl, inr, ◌⊎◌, length-drop, length-append}
use Rattle.std.proofs.lemmas.List.{length-map}
use Rattle.std.specs.Prelude.{slice_get}
use Rattle.std.specs.List.{Contains, flat_map, sum_by}
use Rattle.std.proofs.lemmas.Bool.{cases_eq}
use Rattle.std.proofs.lemmas.List.Concat.{length-flat_map}
use Rattle.std.proofs.lemmas.List.Elements.{Contains-append_cases}
use Rattle.user_dedup.specs.CdBase.ids.Fp.{Fp}
use Rattle.user_dedup.specs.CdBase.ids.UserId.{UserId}
use Rattle.user_dedup.specs.CdBase.shape.Shape.{Shape}
use Rattle.user_dedup.specs.Messages.request.Request.TheVariants as requests
use Rattle.user_dedup.specs.declared.file_list.FileEntry.{FileEntry}
use Rattle.user_dedup.specs.declared.view.View.{View}
use Rattle.user_dedup.specs.Strings.{fingerprint}
use Rattle.user_dedup.specs.Cloud.{user_of, user_view, view_after}
use Rattle.user_dedup.specs.Dedup.{answer_over, IsSound, Begun, Added}
use Rattle.user_dedup.specs.Owning.{new_strings, first_lacking}
use Rattle.user_dedup.specs.Pages.{key_of, entry_at, AreApart}
use Rattle.user_dedup.specs.Messages.request.Request.{Request}
use Rattle.user_dedup.specs.Requests.{fps_of, asker}
use Rattle.user_dedup.proofs.New.{are_new}
use Rattle.user_dedup.proofs.Owned.{contains_here, contains_later, contains_nothing, contains_cases}
use Rattle.user_dedup.proofs.Sound.{put_adds, commit_adds, deletes_from, keys_apart}
use Rattle.user_dedup.specs.declared.command.Command.{Command}
use Rattle.user_dedup.specs.declared.command.Command.TheVariants as commands
use Rattle.user_dedup.specs.Compact.{users_in, user_at, sorted_fps, parts_by, in_parts, puts_for, commit_at, commits_for, compact}
use Rattle.user_dedup.specs.Spending.{files_of}
use Rattle.user_dedup.proofs.Filtered.{from_filter}
use Rattle.user_dedup.proofs.Once.{Once}
use Rattle.user_dedup.proofs.Views.{own_adds, others_stay}
use Rattle.user_dedup.proofs.Pages.{Key}
use Rattle.compact_lists.specs.Live.{begun_in}
use Rattle.compact_lists.proofs.Sums.{sum_alike, sum_ones, sorted_fps_length, entries_sum}

-- ---- each fingerprint is owned once

at_contains : {X : Type 0} (xs : List X) (i : ℕ) (x : X) → slice_get xs i ≡ Some x → Contains xs x
at_contains [] i x e = absurd (let no : None ≡ Some x = e in cc)
at_contains (y ∷ xs) zero x e = let same : y ≡ x = cc in subst (Contains (y ∷ xs)) same (contains_here y xs)
at_contains (y ∷ xs) (suc i) x e = contains_later y xs x (at_contains xs i x e)

once_append : {X : Type 0} (xs ys : List X) → Once xs → Once ys → ((x : X) → Contains xs x → Contains ys x → ⊥) → Once (xs ++ ys)
once_append [] ys one two apart = two
once_append (x ∷ xs) ys one two apart = (
  λ c. elim (Contains-append_cases xs ys x c) [ inl here ↦ one.0 here | inr there ↦ apart x (contains_here x xs) there ],
  once_append xs ys one.1 two (λ y c d. apart y (contains_later x xs y c) d),
)

once_filter : {X : Type 0} (p : X → Bool) (xs : List X) → Once xs → Once (Rattle.std.specs.Prelude.filter p xs)
once_filter p [] one = tt
once_filter p (x ∷ xs) one = by_test (p x) (once_filter p xs one.1)
  where
    by_test : (b : Bool) → Once (Rattle.std.specs.Prelude.filter p xs) → Once (cond b (x ∷ Rattle.std.specs.Prelude.filter p xs) (Rattle.std.specs.Prelude.filter p xs))
    by_test true rest = (λ c. one.0 (from_filter p xs x c).0, rest)
    by_test false rest = rest

-- a list whose places have different elements
once_of : {X : Type 0} (xs : List X) → ((i j : ℕ) (x : X) → slice_get xs i ≡ Some x → slice_get xs j ≡ Some x → i ≡ j) → Once xs
once_of [] apart = tt
once_of (x ∷ xs) apart = (
  λ c. let p = at_place xs x c in let one = apart 0 (suc p.0) x refl p.1 in omega (arith, one),
  once_of xs (λ i j y at_i at_j. let one = apart (suc i) (suc j) y at_i at_j in omega (arith, one)),
)
  where
    at_place : {Y : Type 0} (ys : List Y) (y : Y) → Contains ys y → (i : ℕ) × (slice_get ys i ≡ Some y)
    at_place [] y c = absurd (contains_nothing y c)
    at_place (z ∷ ys) y c =
        elim (contains_cases z ys y c) [
          | inl same ↦ (0, ap Some same)
          | inr later ↦ let r = at_place ys y later in (suc r.0, r.1)
        ]

abbrev LawfulOwn : View → Command → Type 0
LawfulOwn v (commands.Put user shares) = (sent : List (List ℕ)) × (shares ≡ new_strings v.own sent)
LawfulOwn v (commands.Commit user tag version recipe) = Unit {0}
LawfulOwn v (commands.Delete user tag version) = Unit {0}

abbrev LawfulFor : Shape → List Command → UserId → Command → Type 0
LawfulFor shape list user command = LawfulOwn (user_view shape list (user_of command)) command

lawful : (shape : Shape) (cloud : ℕ) (list : List Command) (request : Request) (command : Command) → (answer_over shape cloud list request).adds ≡ Some command
    → LawfulFor shape list (asker request) command
lawful shape cloud list requests.Hello command e = absurd (let no : None ≡ Some command = e in cc)
lawful shape cloud list (requests.Query user fps) command e = absurd (let no : None ≡ Some command = e in cc)
lawful shape cloud list (requests.Put user shares) command e =
    subst (LawfulFor shape list user) (sym (put_adds user (new_strings (user_view shape list user).own shares) command e)) (shares, refl)
lawful shape cloud list (requests.Commit user tag version recipe) command e =
    let a = commit_adds (first_lacking (user_view shape list user).own (fps_of shape recipe)) (entry_at (user_view shape list user).files (tag, version)) (commands.Commit user tag version recipe) recipe command e in
    subst (LawfulFor shape list user) (sym a.2) tt
lawful shape cloud list (requests.GetRecipe user tag version) command e = absurd (let no : None ≡ Some command = e in cc)
lawful shape cloud list (requests.GetShares user fps) command e = absurd (let no : None ≡ Some command = e in cc)
lawful shape cloud list (requests.List user after) command e = absurd (let no : None ≡ Some command = e in cc)
lawful shape cloud list (requests.Delete user tag version) command e =
    let d = deletes_from (entry_at (user_view shape list user).files (tag, version)) (commands.Delete user tag version) command e in
    subst (LawfulFor shape list user) (sym d.1) tt

pub from_print : (ss : List (List ℕ)) (fp : Fp) → Contains (map fingerprint ss) fp → (s : List ℕ) × Contains ss s × (fingerprint s ≡ fp)
from_print [] fp c = absurd (contains_nothing fp c)
from_print (s ∷ ss) fp c =
    elim (contains_cases (fingerprint s) (map fingerprint ss) fp c) [
      | inl same ↦ (s, contains_here s ss, same)
      | inr later ↦ let r = from_print ss fp later in (r.0, contains_later s ss r.0 r.1, r.2)
    ]

once_step : (shape : Shape) (v : View) (command : Command) → LawfulOwn v command → Once v.own → Once (view_after shape v command).own
once_step shape v (commands.Put user shares) l one =
    let new = are_new v.own l.0 in
    once_append v.own (map fingerprint shares) one
    (subst (λ (ss : List (List ℕ)). Once (map fingerprint ss)) (sym l.1) (once_of (map fingerprint (new_strings v.own l.0)) new.apart))
    (λ fp c d.
    let s = from_print shares fp d in
    (new.among s.0 (subst (λ (ss : List (List ℕ)). Contains ss s.0) l.1 s.1)).1 (subst (Contains v.own) (sym s.2) c))
once_step shape v (commands.Commit user tag version recipe) l one = one
once_step shape v (commands.Delete user tag version) l one =
    once_filter _ v.own one

pub own_once : (shape : Shape) (cloud : ℕ) (list : List Command) → IsSound shape cloud list → (user : UserId) → Once (user_view shape list user).own
own_once shape cloud list Begun user = tt
own_once shape cloud list (Added before request command sound fits recipe adds) user =
    by_user (cases_eq (user_of command).0 user.0) (own_once shape cloud before sound user)
  where
    by_user : ((user_of command).0 ≡ user.0) ⊎ ((user_of command).0 ≡ user.0 → ⊥) → Once (user_view shape before user).own → Once (user_view shape (before ++ command ∷ []) user).own
    by_user (inl same) k =
        let user_is : user_of command ≡ user = λ i. record { 0 = same i } in
        subst (λ (w : View). Once w.own) (sym (own_adds shape before command user same))
        (once_step shape (user_view shape before user) command
        (subst (λ (u : UserId). LawfulOwn (user_view shape before u) command) user_is (lawful shape cloud before request command adds)) k)
    by_user (inr other) k = subst (λ (w : View). Once w.own) (sym (others_stay shape before command user other)) k

-- places of the same fingerprint are one
pub one_place : {X : Type 0} (xs : List X) → Once xs → (i j : ℕ) (x : X) → slice_get xs i ≡ Some x → slice_get xs j ≡ Some x → i ≡ j
one_place [] once i j x e f = absurd (let no : None ≡ Some x = e in cc)
one_place (y ∷ xs) once zero zero x e f = refl
one_place (y ∷ xs) once zero (suc j) x e f = let same : y ≡ x = cc in absurd (once.0 (subst (Contains xs) (sym same) (at_contains xs j x f)))
one_place (y ∷ xs) once (suc i) zero x e f = let same : y ≡ x = cc in absurd (once.0 (subst (Contains xs) (sym same) (at_contains xs i x e)))
one_place (y ∷ xs) once (suc i) (suc j) x e f = ap suc (one_place xs once.1 i j x e f)

-- ---- parts

one_more : (n : ℕ) → begun_in (suc n) ≡ suc (begun_in (suc n - 256))
one_more n = omega arith

parts_many : (steps : ℕ) (fps : List Fp) → length fps ≤ steps → length (parts_by steps fps) ≡ begun_in (length fps)
parts_many zero [] le = refl
parts_many zero (fp ∷ fps) le = absurd (omega (arith, le))
parts_many (suc steps) [] le = refl
parts_many (suc steps) (fp ∷ fps) le =
    let rest = parts_many steps (drop 256 (fp ∷ fps)) (omega (arith, le, length-drop 256 (fp ∷ fps))) in
    ap suc (rest ∙ ap begun_in (length-drop 256 (fp ∷ fps))) ∙ sym (one_more (length fps))

-- ---- a user's commands

module _ (shape : Shape) (cloud : ℕ) (list : List Command) (sound : IsSound shape cloud list) where
  puts_many : (n : ℕ) → length (puts_for shape list n) ≡ begun_in (length (user_view shape list (user_at n)).own)
  puts_many n =
      let own = (user_view shape list (user_at n)).own in
      length-map (in_parts (sorted_fps own)) _
      ∙ parts_many (length (sorted_fps own)) (sorted_fps own) (omega arith)
      ∙ ap begun_in (sorted_fps_length own (own_once shape cloud list sound (user_at n)))

  commit_one : (user : UserId) (e : FileEntry) → length (commit_at user (Some e)) ≡ 1
  commit_one user e = refl

  pub commits_many : (n : ℕ) → length (commits_for shape list n) ≡ files_of shape list (user_at n)
  commits_many n =
      let files = (user_view shape list (user_at n)).files in
      length-flat_map (λ (key : Key). commit_at (user_at n) (entry_at files key)) (Rattle.user_dedup.specs.Pages.sorted_keys (map key_of files))
      ∙ entries_sum (λ (o : Option FileEntry). length (commit_at (user_at n) o)) files (keys_apart shape cloud list (user_at n) sound)
      ∙ sum_alike (λ (e : FileEntry). length (commit_at (user_at n) (Some e))) (λ (e : FileEntry). 1) files (λ e c. refl)
      ∙ sum_ones files

  pub numbered : length (compact shape list)
      ≡ sum_by (λ (n : ℕ). begun_in (length (user_view shape list (user_at n)).own)) (users_in list)
      + sum_by (λ (n : ℕ). files_of shape list (user_at n)) (users_in list)
  unfolding compact
  numbered =
      let puts =
      length-flat_map (puts_for shape list) (users_in list)
      ∙ sum_alike (λ (n : ℕ). length (puts_for shape list n)) (λ (n : ℕ). begun_in (length (user_view shape list (user_at n)).own)) (users_in list) (λ n c. puts_many n) in
      let commits =
      length-flat_map (commits_for shape list) (users_in list)
      ∙ sum_alike (λ (n : ℕ). length (commits_for shape list n)) (λ (n : ℕ). files_of shape list (user_at n)) (users_in list) (λ n c. commits_many n) in
      length-append (flat_map (puts_for shape list) (users_in list)) (flat_map (commits_for shape list) (users_in list))
      ∙ (λ i. puts i + commits i)
