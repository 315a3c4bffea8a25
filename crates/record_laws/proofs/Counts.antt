-- How often names come in lists that have the same things in some order.
use Rattle.std.proofs.Common.{◌≡◌, ℕ, suc, ◌≤◌, Bool, true, false, cond, List, [], ◌∷◌, ◌++◌, map, Option, Some, None, refl, sym, ap, ◌∙◌, subst, arith, eqb-true}
use Rattle.std.specs.Prelude.{filter, ◌==◌}
use Rattle.std.specs.List.{Contains, flat_map, sum_by}
use Rattle.std.proofs.lemmas.List.Sums.{sum_by-cons, sum_by-append}
use Rattle.cd_edges.specs.CdBase.ids.Fp.{Fp}
use Rattle.cd_edges.specs.CdBase.ids.Tag.{Tag}
use Rattle.cd_edges.specs.CdBase.ids.UserId.{UserId}
use Rattle.cd_edges.specs.CdBase.ids.Version.{Version}
use Rattle.record_checks.specs.RecordBody.body.CommitBody.{CommitBody}
use Rattle.record_checks.specs.UserDedup.file_list.FileEntry.{FileEntry}
use Rattle.record_checks.specs.UserDedup.Pages as pages
use Rattle.record_checks.specs.UserDedup.Pages.{entry_at}
use Rattle.record_checks.proofs.UserDedup.Owned.{contains_here, contains_later}
use Rattle.record_checks.proofs.UserDedup.Sound.{found_entry, no_entry}
use Rattle.record_checks.proofs.UserDedup.Filtered.{from_filter}
use Rattle.record_checks.specs.CloudAreas.Checkpoints.{key_of}
use Rattle.record_checks.proofs.CloudAreas.Apart.{Apart, contains_get, one_by}
use Rattle.record_checks.proofs.CloudAreas.Counting.{split_at, beside}
use Rattle.record_checks.proofs.CloudAreas.Lists.{in_map, from_map}
use Rattle.record_checks.specs.CloudMemory.Memory.{times}
use Rattle.record_checks.proofs.MemoryProofs.Naming.{times-append}

-- ---- sums

-- what is among others, none of it twice, weighs no more than these
pub less_sum : {X : Type 0} (w : X → ℕ) (xs ys : List X) → Apart xs → ((x : X) → Contains xs x → Contains ys x) → sum_by w xs ≤ sum_by w ys
less_sum w [] ys apart among = omega arith
less_sum w (x ∷ xs) ys apart among =
    let s = split_at ys x (among x (contains_here x xs)) in
    let rest = less_sum w xs (s.before ++ s.after) apart.1
    (λ z c. beside s.before s.after x z (λ same. apart.0 (subst (Contains xs) (sym same) c)) (subst (λ l. Contains l z) s.is (among z (contains_later x xs z c)))) in
    let all = ap (sum_by w) s.is in
    omega (arith, rest, all, sum_by-cons w x xs, sum_by-append w s.before s.after, sum_by-append w s.before (x ∷ s.after), sum_by-cons w x s.after)

-- two lists of the same things, none of them twice
pub same_sum : {X : Type 0} (w : X → ℕ) (xs ys : List X) → Apart xs → Apart ys → ((x : X) → Contains xs x → Contains ys x) → ((x : X) → Contains ys x → Contains xs x)
    → sum_by w xs ≡ sum_by w ys
same_sum w xs ys a b one two = omega (arith, less_sum w xs ys a one, less_sum w ys xs b two)

-- the same weights by what things are mapped to
pub sums_match : {X Y : Type 0} (u : X → ℕ) (w : Y → ℕ) (g : X → Y) (xs : List X) → ((x : X) → Contains xs x → u x ≡ w (g x)) → sum_by u xs ≡ sum_by w (map g xs)
sums_match u w g [] same = refl
sums_match u w g (x ∷ xs) same =
    omega (arith, sum_by-cons u x xs, sum_by-cons w (g x) (map g xs), same x (contains_here x xs), sums_match u w g xs (λ y c. same y (contains_later x xs y c)))

pub times_flat : {X : Type 0} (h : X → List Fp) (xs : List X) (f : Fp) → times (flat_map h xs) f ≡ sum_by (λ x. times (h x) f) xs
times_flat h [] f = refl
times_flat h (x ∷ xs) f = omega (arith, times-append (h x) (flat_map h xs) f, sum_by-cons (λ y. times (h y) f) x xs, times_flat h xs f)

-- ---- entries

pub files_apart : (files : List FileEntry) → pages.AreApart files → Apart (map pages.key_of files)
files_apart [] apart = tt
files_apart (x ∷ files) apart = (
  λ c.
      let e = from_map pages.key_of files (pages.key_of x) c in
      let k = contains_get files e.0 e.1 in
      let wrong : 0 ≡ suc k.0 = apart 0 (suc k.0) x e.0 refl k.1 (sym e.2) in
      absurd (omega (arith, wrong)),
  files_apart files (λ i j a b at_i at_j same. let e = apart (suc i) (suc j) a b at_i at_j same in omega (arith, e)),
)

-- an entry is found by its key
pub entry_found : (files : List FileEntry) (e : FileEntry) → Apart (map pages.key_of files) → Contains files e → entry_at files (pages.key_of e) ≡ Some e
entry_found files e apart c = by_found (entry_at files (pages.key_of e)) refl
  where
    by_found : (o : Option FileEntry) → entry_at files (pages.key_of e) ≡ o → o ≡ Some e
    by_found None is = let k = contains_get files e c in absurd (no_entry files (pages.key_of e) is k.0 e k.1 refl)
    by_found (Some x) is = let f = found_entry files (pages.key_of e) x is in ap Some (one_by pages.key_of files x e apart f.1 c f.0)

-- ---- commits

abbrev pub is_by : UserId → CommitBody → Bool
is_by user c = c.user.0 == user.0

-- those of one user
abbrev pub commits_by : UserId → List CommitBody → List CommitBody
commits_by user commits = filter (is_by user) commits

abbrev pub version_of : CommitBody → Tag × Version
version_of c = (c.tag, c.version)

by_user : (user : UserId) (c : CommitBody) → is_by user c ≡ true → c.user ≡ user
by_user user c is = let same : c.user.0 ≡ user.0 = eqb-true c.user.0 user.0 is in λ i. record { 0 = same i }

pub from_user : (user : UserId) (commits : List CommitBody) (c : CommitBody) → Contains (commits_by user commits) c → Contains commits c × (c.user ≡ user)
from_user user commits c here = let f = from_filter (is_by user) commits c here in (f.0, by_user user c f.1)

pub versions_apart : (user : UserId) (commits : List CommitBody) → Apart (map key_of commits) → Apart (map version_of (commits_by user commits))
versions_apart user [] apart = tt
versions_apart user (c ∷ commits) apart = by_test (is_by user c) refl (versions_apart user commits apart.1)
  where
    by_test : (b : Bool) → is_by user c ≡ b → Apart (map version_of (commits_by user commits)) → Apart (map version_of (cond b (c ∷ commits_by user commits) (commits_by user commits)))
    by_test false is rest = rest
    by_test true is rest = (
      λ here.
          let d = from_map version_of (commits_by user commits) (version_of c) here in
          let f = from_user user commits d.0 d.1 in
          let users : d.0.user ≡ c.user = f.1 ∙ sym (by_user user c is) in
          let keys : ◌≡◌ {A = UserId × Tag × Version} (key_of d.0) (key_of c) = λ i. (users i, (d.2 i).0, (d.2 i).1) in
          apart.0 (subst (Contains (map key_of commits)) keys (in_map key_of commits d.0 f.0)),
      rest,
    )
