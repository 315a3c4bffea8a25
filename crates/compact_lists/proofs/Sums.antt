-- Sums over lists, sorted or not.
use Rattle.std.proofs.Common.{◌≡◌, ℕ, suc, ◌+◌, ◌≤◌, Bool, true, false, cond, List, [], ◌∷◌, length, map, Option, Some, refl, sym, ap, subst, ◌∙◌, arith, inl, inr, ◌⊎◌}
use Rattle.std.specs.Prelude.{filter, find, slice_get}
use Rattle.std.specs.List.{Contains, flat_map, sum_by}
use Rattle.std.specs.declared.cmp.Ordering.{Ordering}
use Rattle.std.specs.declared.cmp.Ordering.TheVariants.{Less, Equal, Greater}
use Rattle.std.specs.Ordering.{match_ordering}
use Rattle.std.proofs.lemmas.List.Sums.{sum_by-cons, sum_by-append}
use Rattle.user_dedup.specs.CdBase.ids.Fp.{Fp}
use Rattle.user_dedup.specs.MessageFields.Keys.{key_cmp}
use Rattle.user_dedup.specs.CdBase.Order.{fp_cmp}
use Rattle.user_dedup.specs.declared.file_list.FileEntry.{FileEntry}
use Rattle.user_dedup.specs.Pages.{key_of, is_at, entry_at, AreApart, with_key, sorted_keys}
use Rattle.user_dedup.proofs.Owned.{contains_here, contains_later, contains_nothing, contains_cases}
use Rattle.user_dedup.specs.Compact.{with_fp, sorted_fps}
use Rattle.user_dedup.proofs.EntryLists.{at_its_key, its_key}
use Rattle.user_dedup.proofs.Once.{Once}
use Rattle.user_dedup.proofs.Sorting.{fps_from, fp_is}
use Rattle.user_dedup.proofs.Pages.{Key, key_exact}

-- ---- any lists

module _ {X : Type 0} where
  pub sum_alike : (f g : X → ℕ) (xs : List X) → ((x : X) → Contains xs x → f x ≡ g x) → sum_by f xs ≡ sum_by g xs
  sum_alike f g [] same = refl
  sum_alike f g (x ∷ xs) same =
      omega (arith, sum_by-cons f x xs, sum_by-cons g x xs, same x (contains_here x xs), sum_alike f g xs (λ y c. same y (contains_later x xs y c)))

  pub sum_ones : (xs : List X) → sum_by (λ (x : X). 1) xs ≡ length xs
  sum_ones [] = refl
  sum_ones (x ∷ xs) = omega (arith, sum_by-cons (λ (y : X). 1) x xs, sum_ones xs)

  pub sum_filtered : (f : X → ℕ) (p : X → Bool) (xs : List X) → sum_by f (filter p xs) ≤ sum_by f xs
  sum_filtered f p [] = omega arith
  sum_filtered f p (x ∷ xs) = by_test (p x) (sum_filtered f p xs)
    where
      by_test : (b : Bool) → sum_by f (filter p xs) ≤ sum_by f xs → sum_by f (cond b (x ∷ filter p xs) (filter p xs)) ≤ sum_by f (x ∷ xs)
      by_test true le = omega (arith, sum_by-cons f x (filter p xs), sum_by-cons f x xs, le)
      by_test false le = omega (arith, sum_by-cons f x xs, le)

module _ {X Y : Type 0} where
  pub sum_mapped : (f : Y → ℕ) (g : X → Y) (xs : List X) → sum_by f (map g xs) ≡ sum_by (λ (x : X). f (g x)) xs
  sum_mapped f g [] = refl
  sum_mapped f g (x ∷ xs) = omega (arith, sum_by-cons f (g x) (map g xs), sum_by-cons (λ (y : X). f (g y)) x xs, sum_mapped f g xs)

  pub sum_flat : (f : Y → ℕ) (g : X → List Y) (xs : List X) → sum_by f (flat_map g xs) ≡ sum_by (λ (x : X). sum_by f (g x)) xs
  sum_flat f g [] = refl
  sum_flat f g (x ∷ xs) =
      omega (arith, sum_by-append f (g x) (flat_map g xs), sum_by-cons (λ (y : X). sum_by f (g y)) x xs, sum_flat f g xs)

-- ---- sorted fingerprints

with_fp_sum : (g : Fp → ℕ) (fp : Fp) (fps : List Fp) → (Contains fps fp → ⊥) → sum_by g (with_fp fp fps) ≡ g fp + sum_by g fps
with_fp_sum g fp [] lacks = sum_by-cons g fp []
with_fp_sum g fp (other ∷ fps) lacks = by_order (fp_cmp fp.0 other.0) refl (with_fp_sum g fp fps (λ c. lacks (contains_later other fps fp c)))
  where
    by_order : (o : Ordering) → fp_cmp fp.0 other.0 ≡ o → sum_by g (with_fp fp fps) ≡ g fp + sum_by g fps
        → sum_by g (match_ordering o (fp ∷ other ∷ fps) (other ∷ fps) (other ∷ with_fp fp fps)) ≡ g fp + sum_by g (other ∷ fps)
    by_order Less o rest = sum_by-cons g fp (other ∷ fps)
    by_order Equal o rest = absurd (lacks (subst (Contains (other ∷ fps)) (sym (fp_is fp other o)) (contains_here other fps)))
    by_order Greater o rest = omega (arith, sum_by-cons g other (with_fp fp fps), sum_by-cons g other fps, rest)

pub sorted_fps_sum : (g : Fp → ℕ) (fps : List Fp) → Once fps → sum_by g (sorted_fps fps) ≡ sum_by g fps
sorted_fps_sum g [] once = refl
sorted_fps_sum g (fp ∷ fps) once =
    with_fp_sum g fp (sorted_fps fps) (λ c. once.0 (fps_from fps fp c))
    ∙ ap (λ n. g fp + n) (sorted_fps_sum g fps once.1)
    ∙ sym (sum_by-cons g fp fps)

pub sorted_fps_length : (fps : List Fp) → Once fps → length (sorted_fps fps) ≡ length fps
sorted_fps_length fps once = sym (sum_ones (sorted_fps fps)) ∙ sorted_fps_sum (λ (fp : Fp). 1) fps once ∙ sum_ones fps

-- ---- sorted keys

with_cases : (key : Key) (keys : List Key) (k : Key) → Contains (with_key key keys) k → Contains (key ∷ keys) k
with_cases key [] k c = c
with_cases key (other ∷ keys) k c = by_order (key_cmp key other) (with_cases key keys k) c
  where
    by_order : (o : Ordering) → (Contains (with_key key keys) k → Contains (key ∷ keys) k)
        → Contains (match_ordering o (key ∷ other ∷ keys) (other ∷ keys) (other ∷ with_key key keys)) k → Contains (key ∷ other ∷ keys) k
    by_order Less rest c = c
    by_order Equal rest c = contains_later key (other ∷ keys) k c
    by_order Greater rest c =
        elim (contains_cases other (with_key key keys) k c) [
          | inl same ↦ contains_later key (other ∷ keys) k (subst (Contains (other ∷ keys)) same (contains_here other keys))
          | inr later ↦ elim (contains_cases key keys k (rest later)) [
            | inl same ↦ subst (Contains (key ∷ other ∷ keys)) same (contains_here key (other ∷ keys))
            | inr old ↦ contains_later key (other ∷ keys) k (contains_later other keys k old)
          ]
        ]

keys_from : (keys : List Key) (k : Key) → Contains (sorted_keys keys) k → Contains keys k
keys_from [] k c = c
keys_from (key ∷ keys) k c =
    elim (contains_cases key (sorted_keys keys) k (with_cases key (sorted_keys keys) k c)) [
      | inl same ↦ subst (Contains (key ∷ keys)) same (contains_here key keys)
      | inr old ↦ contains_later key keys k (keys_from keys k old)
    ]

with_key_sum : (g : Key → ℕ) (key : Key) (keys : List Key) → (Contains keys key → ⊥) → sum_by g (with_key key keys) ≡ g key + sum_by g keys
with_key_sum g key [] lacks = sum_by-cons g key []
with_key_sum g key (other ∷ keys) lacks = by_order (key_cmp key other) refl (with_key_sum g key keys (λ c. lacks (contains_later other keys key c)))
  where
    by_order : (o : Ordering) → key_cmp key other ≡ o → sum_by g (with_key key keys) ≡ g key + sum_by g keys
        → sum_by g (match_ordering o (key ∷ other ∷ keys) (other ∷ keys) (other ∷ with_key key keys)) ≡ g key + sum_by g (other ∷ keys)
    by_order Less o rest = sum_by-cons g key (other ∷ keys)
    by_order Equal o rest = absurd (lacks (subst (Contains (other ∷ keys)) (sym (key_exact key other o)) (contains_here other keys)))
    by_order Greater o rest = omega (arith, sum_by-cons g other (with_key key keys), sum_by-cons g other keys, rest)

pub sorted_keys_sum : (g : Key → ℕ) (keys : List Key) → Once keys → sum_by g (sorted_keys keys) ≡ sum_by g keys
sorted_keys_sum g [] once = refl
sorted_keys_sum g (key ∷ keys) once =
    with_key_sum g key (sorted_keys keys) (λ c. once.0 (keys_from keys key c))
    ∙ ap (λ n. g key + n) (sorted_keys_sum g keys once.1)
    ∙ sym (sum_by-cons g key keys)

-- ---- entries by their keys

-- the entries behind the first are apart too, and none of them has its key
apart_later : (e : FileEntry) (files : List FileEntry) → AreApart (e ∷ files) → AreApart files
apart_later e files apart i j a b at_i at_j same = let one = apart (suc i) (suc j) a b at_i at_j same in omega (arith, one)

at_place : (files : List FileEntry) (e : FileEntry) → Contains files e → (i : ℕ) × (slice_get files i ≡ Some e)
at_place [] e c = absurd (contains_nothing e c)
at_place (x ∷ files) e c =
    elim (contains_cases x files e c) [
      | inl same ↦ (0, ap Some same)
      | inr later ↦ let r = at_place files e later in (suc r.0, r.1)
    ]

key_among : (files : List FileEntry) (key : Key) → Contains (map key_of files) key → (e : FileEntry) × Contains files e × (key_of e ≡ key)
key_among [] key c = absurd (contains_nothing key c)
key_among (e ∷ files) key c =
    elim (contains_cases (key_of e) (map key_of files) key c) [
      | inl same ↦ (e, contains_here e files, same)
      | inr later ↦ let r = key_among files key later in (r.0, contains_later e files r.0 r.1, r.2)
    ]

pub keys_are_once : (files : List FileEntry) → AreApart files → Once (map key_of files)
keys_are_once [] apart = tt
keys_are_once (e ∷ files) apart = (
  λ c.
      let r = key_among files (key_of e) c in
      let p = at_place files r.0 r.1 in
      let one = apart 0 (suc p.0) e r.0 refl p.1 (sym r.2) in omega (arith, one),
  keys_are_once files (apart_later e files apart),
)

-- each entry is found at its key
found_at : (files : List FileEntry) → AreApart files → (e : FileEntry) → Contains files e → entry_at files (key_of e) ≡ Some e
found_at [] apart e c = absurd (contains_nothing e c)
found_at (x ∷ files) apart e c = by_test (is_at (key_of e) x) refl (found_at files (apart_later x files apart) e) (contains_cases x files e c)
  where
    by_test : (b : Bool) → is_at (key_of e) x ≡ b → (Contains files e → entry_at files (key_of e) ≡ Some e) → (x ≡ e) ⊎ Contains files e
        → cond b (Some x) (find (is_at (key_of e)) files) ≡ Some e
    by_test true h rest (inl same) = ap Some same
    by_test true h rest (inr later) =
        let p = at_place files e later in
        let one = apart 0 (suc p.0) x e refl p.1 (its_key x (key_of e) h) in absurd (omega (arith, one))
    by_test false h rest (inl same) = absurd (let no : false ≡ true = sym h ∙ at_its_key x (key_of e) (ap key_of same) in cc)
    by_test false h rest (inr later) = rest later

-- a sum over the sorted keys of entries, of something of the entry at each
pub entries_sum : (h : Option FileEntry → ℕ) (files : List FileEntry) → AreApart files
    → sum_by (λ (key : Key). h (entry_at files key)) (sorted_keys (map key_of files)) ≡ sum_by (λ (e : FileEntry). h (Some e)) files
entries_sum h files apart =
    sorted_keys_sum (λ (key : Key). h (entry_at files key)) (map key_of files) (keys_are_once files apart)
    ∙ sum_mapped (λ (key : Key). h (entry_at files key)) key_of files
    ∙ sum_alike (λ (e : FileEntry). h (entry_at files (key_of e))) (λ (e : FileEntry). h (Some e)) files (λ e c. ap h (found_at files apart e c))
