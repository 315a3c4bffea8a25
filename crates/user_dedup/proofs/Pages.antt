-- The page of a user's keys.
use Rattle.std.proofs.Common.{rules, ◌≡◌, ℕ, zero, suc, Bool, true, false, cond, List, [], ◌∷◌, length, map, take, Option, Some, None, refl, sym, ap, ◌∙◌, subst, arith, inl, inr, ◌⊎◌}
use Rattle.std.specs.Prelude.{filter, All}
use Rattle.std.specs.List.{Contains}
use Rattle.std.specs.declared.cmp.Ordering.{Ordering}
use Rattle.std.specs.declared.cmp.Ordering.TheVariants.{Less, Equal, Greater}
use Rattle.std.specs.Ordering.{nat_cmp, on, then_cmp, ordering_then, ordering_reverse, is_lt, match_ordering}
use Rattle.std.specs.Cmp.{IsTotalOrder}
use Rattle.std.specs.Cmp.Rules.{comparing}
use Rattle.std.specs.Cmp.Lexicographic.{slice_cmp}
use Rattle.std.specs.FinMap.{nat_cmp-IsAntisymmetric, slice_cmp-IsAntisymmetric}
use Rattle.std.proofs.lemmas.List.{length-take}
use Rattle.std.proofs.lemmas.List.Elements.{All-nil, All-cons}
use Rattle.journal_start.specs.CdBase.ids.Tag.{Tag}
use Rattle.journal_start.specs.CdBase.ids.Version.{Version}
use Rattle.journal_start.specs.MessageFields.Keys.{key_cmp, is_above, AreAbove, key_limit}
use Rattle.user_dedup.specs.declared.file_list.FileEntry.{FileEntry}
use Rattle.user_dedup.specs.Pages.{key_of, with_key, sorted_keys, page_of, IsPage}
use Rattle.user_dedup.proofs.Owned.{contains_here, contains_later, contains_nothing, contains_cases}

abbrev pub Key : Type 0
Key = Tag × Version

-- ---- the order

pub key_total : IsTotalOrder key_cmp
key_total = let t : IsTotalOrder (then_cmp (on (λ (k : Key). k.0.0) (slice_cmp nat_cmp)) (on (λ (k : Key). k.1.0) nat_cmp)) = search (comparing, rules) in t

pub both_equal : (a b : Ordering) → ordering_then a b ≡ Equal → (a ≡ Equal) × (b ≡ Equal)
both_equal Less b e = absurd (let f : Less ≡ Equal = e in cc)
both_equal Equal b e = (refl, e)
both_equal Greater b e = absurd (let f : Greater ≡ Equal = e in cc)

pub key_exact : (a b : Key) → key_cmp a b ≡ Equal → a ≡ b
key_exact a b e =
    let p = both_equal (slice_cmp nat_cmp a.0.0 b.0.0) (nat_cmp a.1.0 b.1.0) e in
    let tag = slice_cmp-IsAntisymmetric nat_cmp-IsAntisymmetric a.0.0 b.0.0 p.0 in
    let version = nat_cmp-IsAntisymmetric a.1.0 b.1.0 p.1 in
    λ i. (record { 0 = tag i }, record { 0 = version i })

pub less_from : (r : Ordering) → is_lt r ≡ true → r ≡ Less
less_from Less e = refl
less_from Equal e = absurd (let f : false ≡ true = e in cc)
less_from Greater e = absurd (let f : false ≡ true = e in cc)

pub above_trans : (last : Option Key) (x y : Key) → is_above last x ≡ true → is_above (Some x) y ≡ true → is_above last y ≡ true
above_trans None x y e f = refl
above_trans (Some z) x y e f = ap is_lt (key_total.trans z x y (less_from (key_cmp z x) e) (less_from (key_cmp x y) f))

pub turned : (a b : Key) → key_cmp a b ≡ Greater → is_above (Some b) a ≡ true
turned a b e = ap is_lt (key_total.antisymm b a ∙ ap ordering_reverse e)

-- ---- keys in order

with_above : (last : Option Key) (key : Key) (keys : List Key) → is_above last key ≡ true → AreAbove last keys → AreAbove last (with_key key keys)
with_above last key [] e a = (e, tt)
with_above last key (other ∷ keys) e a = by_order (key_cmp key other) refl (λ g. with_above (Some other) key keys g a.1)
  where
    by_order : (r : Ordering) → key_cmp key other ≡ r → (is_above (Some other) key ≡ true → AreAbove (Some other) (with_key key keys))
        → AreAbove last (match_ordering r (key ∷ other ∷ keys) (other ∷ keys) (other ∷ with_key key keys))
    by_order Less o rest = (e, (ap is_lt o, a.1))
    by_order Equal o rest = a
    by_order Greater o rest = (a.0, rest (turned key other o))

pub sorted_above : (keys : List Key) → AreAbove None (sorted_keys keys)
sorted_above [] = tt
sorted_above (key ∷ keys) = with_above None key (sorted_keys keys) refl (sorted_above keys)

with_cases : (key : Key) (keys : List Key) (k : Key) → Contains (with_key key keys) k → (key ≡ k) ⊎ Contains keys k
with_cases key [] k c = contains_cases key [] k c
with_cases key (other ∷ keys) k c = by_order (key_cmp key other) (with_cases key keys k) c
  where
    by_order : (r : Ordering) → (Contains (with_key key keys) k → (key ≡ k) ⊎ Contains keys k)
        → Contains (match_ordering r (key ∷ other ∷ keys) (other ∷ keys) (other ∷ with_key key keys)) k → (key ≡ k) ⊎ Contains (other ∷ keys) k
    by_order Less rest c = contains_cases key (other ∷ keys) k c
    by_order Equal rest c = inr c
    by_order Greater rest c =
        elim (contains_cases other (with_key key keys) k c) [
          | inl same ↦ inr (subst (λ y. Contains (other ∷ keys) y) same (contains_here other keys))
          | inr later ↦ elim (rest later) [ inl same ↦ inl same | inr old ↦ inr (contains_later other keys k old) ]
        ]

pub with_here : (key : Key) (keys : List Key) → Contains (with_key key keys) key
with_here key [] = contains_here key []
with_here key (other ∷ keys) = by_order (key_cmp key other) refl (with_here key keys)
  where
    by_order : (r : Ordering) → key_cmp key other ≡ r → Contains (with_key key keys) key
        → Contains (match_ordering r (key ∷ other ∷ keys) (other ∷ keys) (other ∷ with_key key keys)) key
    by_order Less o rest = contains_here key (other ∷ keys)
    by_order Equal o rest = subst (λ y. Contains (other ∷ keys) y) (sym (key_exact key other o)) (contains_here other keys)
    by_order Greater o rest = contains_later other (with_key key keys) key rest

pub with_later : (key : Key) (keys : List Key) (k : Key) → Contains keys k → Contains (with_key key keys) k
with_later key [] k c = absurd (contains_nothing k c)
with_later key (other ∷ keys) k c = by_order (key_cmp key other) (with_later key keys k)
  where
    by_order : (r : Ordering) → (Contains keys k → Contains (with_key key keys) k)
        → Contains (match_ordering r (key ∷ other ∷ keys) (other ∷ keys) (other ∷ with_key key keys)) k
    by_order Less rest = contains_later key (other ∷ keys) k c
    by_order Equal rest = c
    by_order Greater rest =
        elim (contains_cases other keys k c) [
          | inl same ↦ subst (λ y. Contains (other ∷ with_key key keys) y) same (contains_here other (with_key key keys))
          | inr later ↦ contains_later other (with_key key keys) k (rest later)
        ]

sorted_from : (keys : List Key) (k : Key) → Contains (sorted_keys keys) k → Contains keys k
sorted_from [] k c = c
sorted_from (key ∷ keys) k c =
    elim (with_cases key (sorted_keys keys) k c) [
      | inl same ↦ subst (λ y. Contains (key ∷ keys) y) same (contains_here key keys)
      | inr old ↦ contains_later key keys k (sorted_from keys k old)
    ]

pub sorted_has : (keys : List Key) (k : Key) → Contains keys k → Contains (sorted_keys keys) k
sorted_has [] k c = c
sorted_has (key ∷ keys) k c =
    elim (contains_cases key keys k c) [
      | inl same ↦ subst (λ y. Contains (with_key key (sorted_keys keys)) y) same (with_here key (sorted_keys keys))
      | inr later ↦ with_later key (sorted_keys keys) k (sorted_has keys k later)
    ]

-- ---- those above the last one

pub weaker : (last : Option Key) (x : Key) (keys : List Key) → is_above last x ≡ true → AreAbove (Some x) keys → AreAbove last keys
weaker last x [] e a = tt
weaker last x (key ∷ keys) e a = (above_trans last x key e a.0, a.1)

pub filter_above : (p : Key → Bool) (last : Option Key) (keys : List Key) → AreAbove last keys → AreAbove last (filter p keys)
filter_above p last [] a = tt
filter_above p last (key ∷ keys) a = by_test (p key) (filter_above p (Some key) keys a.1)
  where
    by_test : (b : Bool) → AreAbove (Some key) (filter p keys) → AreAbove last (cond b (key ∷ filter p keys) (filter p keys))
    by_test true rest = (a.0, rest)
    by_test false rest = weaker last key (filter p keys) a.0 rest

filter_has : (p : Key → Bool) (keys : List Key) (k : Key) → Contains keys k → p k ≡ true → Contains (filter p keys) k
filter_has p [] k c e = c
filter_has p (key ∷ keys) k c e = by_test (p key) refl (λ d. filter_has p keys k d e) (contains_cases key keys k c)
  where
    by_test : (b : Bool) → p key ≡ b → (Contains keys k → Contains (filter p keys) k) → (key ≡ k) ⊎ Contains keys k → Contains (cond b (key ∷ filter p keys) (filter p keys)) k
    by_test true h rest (inl same) = subst (λ y. Contains (key ∷ filter p keys) y) same (contains_here key (filter p keys))
    by_test true h rest (inr later) = contains_later key (filter p keys) k (rest later)
    by_test false h rest (inl same) = absurd (let f : false ≡ true = sym h ∙ ap p same ∙ e in cc)
    by_test false h rest (inr later) = rest later

filter_from : (p : Key → Bool) (keys : List Key) (k : Key) → Contains (filter p keys) k → Contains keys k × (p k ≡ true)
filter_from p [] k c = absurd (contains_nothing k c)
filter_from p (key ∷ keys) k c = by_test (p key) refl (filter_from p keys k) c
  where
    by_test : (b : Bool) → p key ≡ b → (Contains (filter p keys) k → Contains keys k × (p k ≡ true)) → Contains (cond b (key ∷ filter p keys) (filter p keys)) k
        → Contains (key ∷ keys) k × (p k ≡ true)
    by_test true h rest c =
        elim (contains_cases key (filter p keys) k c) [
          | inl same ↦ (subst (λ y. Contains (key ∷ keys) y) same (contains_here key keys), subst (λ y. p y ≡ true) same h)
          | inr later ↦ let r = rest later in (contains_later key keys k r.0, r.1)
        ]
    by_test false h rest c = let r = rest c in (contains_later key keys k r.0, r.1)

-- keys that rise and are all above it rise from it
from_last : (after : Option Key) (keys : List Key) → AreAbove None keys → ((k : Key) → Contains keys k → is_above after k ≡ true) → AreAbove after keys
from_last after [] a all = tt
from_last after (key ∷ keys) a all = (all key (contains_here key keys), a.1)

-- ---- a page

take_above : (n : ℕ) (last : Option Key) (keys : List Key) → AreAbove last keys → AreAbove last (take n keys)
take_above zero last keys a = tt
take_above (suc n) last [] a = tt
take_above (suc n) last (key ∷ keys) a = (a.0, take_above n (Some key) keys a.1)

take_from : (n : ℕ) (keys : List Key) (k : Key) → Contains (take n keys) k → Contains keys k
take_from zero keys k c = absurd (contains_nothing k c)
take_from (suc n) [] k c = c
take_from (suc n) (key ∷ keys) k c =
    elim (contains_cases key (take n keys) k c) [
      | inl same ↦ subst (λ y. Contains (key ∷ keys) y) same (contains_here key keys)
      | inr later ↦ contains_later key keys k (take_from n keys k later)
    ]

all_above : (last : Key) (keys : List Key) (k : Key) → AreAbove (Some last) keys → Contains keys k → is_above (Some last) k ≡ true
all_above last [] k a c = absurd (contains_nothing k c)
all_above last (key ∷ keys) k a c =
    elim (contains_cases key keys k c) [
      | inl same ↦ subst (λ y. is_above (Some last) y ≡ true) same a.0
      | inr later ↦ above_trans (Some last) key k a.0 (all_above key keys k a.1 later)
    ]

-- a key that the front of rising keys lacks is above all of the front, which is full
left_out : (n : ℕ) (last : Option Key) (keys : List Key) (k : Key) → AreAbove last keys → Contains keys k → (Contains (take n keys) k → ⊥)
    → (length (take n keys) ≡ n) × All (λ other. is_above (Some other) k ≡ true) (take n keys)
left_out zero last keys k a c lacks = (refl, All-nil (λ other. is_above (Some other) k ≡ true))
left_out (suc n) last [] k a c lacks = absurd (contains_nothing k c)
left_out (suc n) last (key ∷ keys) k a c lacks = by_cases (contains_cases key keys k c) (left_out n (Some key) keys k a.1)
  where
    by_cases : (key ≡ k) ⊎ Contains keys k
        → (Contains keys k → (Contains (take n keys) k → ⊥) → (length (take n keys) ≡ n) × All (λ other. is_above (Some other) k ≡ true) (take n keys))
        → (length (key ∷ take n keys) ≡ suc n) × All (λ other. is_above (Some other) k ≡ true) (key ∷ take n keys)
    by_cases (inl same) rest = absurd (lacks (subst (λ y. Contains (key ∷ take n keys) y) same (contains_here key (take n keys))))
    by_cases (inr later) rest =
        let r = rest later (λ d. lacks (contains_later key (take n keys) k d)) in
        (let e = r.0 in omega arith, All-cons (λ other. is_above (Some other) k ≡ true) key (take n keys) (all_above key keys k a.1 later) r.1)

pub is_page : (files : List FileEntry) (after : Option Key) → IsPage files after (page_of files after)
is_page files after =
    let keys = map key_of files in
    let kept = filter (is_above after) (sorted_keys keys) in
    let rising : AreAbove after kept = from_last after kept (filter_above (is_above after) None (sorted_keys keys) (sorted_above keys)) (λ k c. (filter_from (is_above after) (sorted_keys keys) k c).1) in
    record {
      rising = take_above key_limit after kept rising;
      few = omega (arith, length-take key_limit kept);
      among = λ k c. sorted_from keys k (filter_from (is_above after) (sorted_keys keys) k (take_from key_limit kept k c)).0;
      least = λ k c e lacks. left_out key_limit after kept k rising (filter_has (is_above after) (sorted_keys keys) k (sorted_has keys k c) e) lacks;
    }
