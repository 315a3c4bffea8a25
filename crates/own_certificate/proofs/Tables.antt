-- The slots of a map's keys, sorted by them, list the map's entries.
use Rattle.std.proofs.Common.{rules, ◌≡◌, ◌≢◌, ◌⊎◌, ℕ, ◌+◌, ◌<◌, ◌≤◌, zero, suc, Bool, true, false, cond, ◌&&◌, List, [], ◌∷◌, ◌++◌, length, map, Option, Some, None, refl, sym, ap, ◌∙◌, subst, arith, inl, inr, T, eqb, ltb, eqb-true, ne_eqb, eq-eqb, ltb-true, ltb-false, slice_index_or}
use Rattle.std.specs.Prelude.{is_some, unwrap_or, option_map}
use Rattle.std.specs.Ordering.{is_eq, is_lt, eq_by_cmp, ordering_reverse}
use Rattle.std.specs.declared.cmp.Ordering.{Ordering}
use Rattle.std.specs.declared.cmp.Ordering.TheVariants.{Less, Equal, Greater}
use Rattle.std.specs.Cmp.{IsTotalOrder, tied_itself}
use Rattle.std.specs.List.{Contains, count_by}
use Rattle.std.specs.List.Sorted.{IsPermutation, IsSortedByKey}
use Rattle.std.specs.FinMap.{FinMap, get, entries, find, is_sorted, from_sorted, entries-from_sorted, get-from_sorted, same_map}
use Rattle.std.specs.FinMap.Entries.{below_all}
use Rattle.std.proofs.lemmas.Bool.{cases_Bool}
use Rattle.std.proofs.lemmas.Option.{same_Some}
use Rattle.std.proofs.lemmas.List.Elements.{Contains-push, Contains-append_left, Contains-push_cases}
use Rattle.std.proofs.lemmas.List.Sorted.{sorted_far, ranks_by, Contains-permutation, IsPermutation-sym, sum_by-IsPermutation}
use Rattle.std.proofs.lemmas.List.Sums.{sum_by-cons, sum_by_push}
use Rattle.own_certificate.specs.Inner.{some_below}

-- ---- elements of lists

later : {X : Type 0} (y : X) (ys : List X) (x : X) → Contains ys x → Contains (y ∷ ys) x
later y ys x c = let low = c.1 in (suc c.0, omega (arith, low), c.2)

here : {X : Type 0} (y : X) (ys : List X) → Contains (y ∷ ys) y
here y ys = (0, omega arith, refl)

front_or_later : {X : Type 0} (y : X) (ys : List X) (x : X) → Contains (y ∷ ys) x → (y ≡ x) ⊎ Contains ys x
front_or_later y ys x (zero, low, is) = inl is
front_or_later y ys x (suc k, low, is) = inr (k, omega (arith, low), is)

none_in : {X : Type 0} (x : X) → Contains [] x → ⊥
none_in x c = let low = c.1 in omega (arith, low)

in_mapped : {X Y : Type 0} (f : X → Y) (xs : List X) (x : X) → Contains xs x → Contains (map f xs) (f x)
in_mapped f [] x c = absurd (none_in x c)
in_mapped f (y ∷ ys) x c =
    elim (front_or_later y ys x c) [
      | inl same ↦ subst (λ z. Contains (f y ∷ map f ys) (f z)) same (here (f y) (map f ys))
      | inr more ↦ later (f y) (map f ys) (f x) (in_mapped f ys x more)
    ]

from_mapped : {X Y : Type 0} (f : X → Y) (xs : List X) (y : Y) → Contains (map f xs) y → (x : X) × Contains xs x × (f x ≡ y)
from_mapped f [] y c = absurd (none_in y c)
from_mapped f (x ∷ xs) y c =
    elim (front_or_later (f x) (map f xs) y c) [
      | inl same ↦ (x, here x xs, same)
      | inr more ↦ let r = from_mapped f xs y more in (r.0, later x xs r.0 r.1, r.2)
    ]

-- how often a number is there
abbrev is : ℕ → ℕ → ℕ
is s x = cond (eqb s x) 1 0

abbrev times : ℕ → List ℕ → ℕ
times s xs = count_by (eqb s) xs

is_itself : (s : ℕ) → is s s ≡ 1
is_itself s = ap (λ (b : Bool). cond b 1 0) (eq-eqb s s refl)

is_other : (s x : ℕ) → (s ≡ x → ⊥) → is s x ≡ 0
is_other s x apart = ap (λ (b : Bool). cond b 1 0) (ne_eqb s x apart)

counted : (xs : List ℕ) (s : ℕ) → Contains xs s → 0 < times s xs
counted [] s c = absurd (none_in s c)
counted (x ∷ xs) s c =
    let all = sum_by-cons (is s) x xs in
    elim (front_or_later x xs s c) [
      | inl same ↦ let one = ap (λ y. is s y) same ∙ is_itself s in omega (arith, all, one)
      | inr more ↦ let some = counted xs s more in omega (arith, all, some)
    ]

-- ---- what is less

less : (o : Ordering) → T (is_lt o) → o ≡ Less
less Less p = refl
less Equal p = absurd p
less Greater p = absurd p

equal : (o : Ordering) → is_eq o ≡ true → o ≡ Equal
equal Less e = absurd cc
equal Equal e = refl
equal Greater e = absurd cc

both : (a b : Bool) → T a → T b → T (a && b)
both true b p q = q
both false b p q = p

first : (a b : Bool) → T (a && b) → T a
first true b p = tt
first false b p = p

second : (a b : Bool) → T (a && b) → T b
second true b p = p
second false b p = absurd p

-- what isn't less, and isn't equal
other_way : (o : Ordering) → is_lt o ≡ false → (o ≡ Equal → ⊥) → ordering_reverse o ≡ Less
other_way Less e apart = absurd cc
other_way Equal e apart = absurd (apart refl)
other_way Greater e apart = refl

some_is : {X : Type 0} (d : X) (o : Option X) → is_some o ≡ true → o ≡ Some (unwrap_or o d)
some_is d None e = absurd cc
some_is d (Some x) e = refl

-- ---- the slots that have something

module _ {X : Type 0} (at : ℕ → Option X) where
  pushed_in : (b : Bool) (xs : List ℕ) (n s : ℕ) → (s < n → Contains xs s) → (s ≡ n → b ≡ true) → s < suc n → Contains (cond b (xs ++ n ∷ []) xs) s
  pushed_in true xs n s old new low =
      elim (cases_Bool (ltb s n)) [
        | inl less ↦ Contains-append_left xs (n ∷ []) s (old (ltb-true s n less))
        | inr not ↦
            let more = ltb-false s n not in
            let same : n ≡ s = omega (arith, more, low) in
            subst (Contains (xs ++ n ∷ [])) same (Contains-push xs n)
      ]
  pushed_in false xs n s old new low =
      elim (cases_Bool (ltb s n)) [
        | inl less ↦ old (ltb-true s n less)
        | inr not ↦ let more = ltb-false s n not in let no : false ≡ true = new (omega (arith, more, low)) in absurd cc
      ]

  in_below : (n s : ℕ) → s < n → is_some (at s) ≡ true → Contains (some_below at n) s
  in_below zero s low some = absurd (omega (arith, low))
  in_below (suc n) s low some =
      pushed_in (is_some (at n)) (some_below at n) n s (λ less. in_below n s less some) (λ same. sym (ap (λ x. is_some (at x)) same) ∙ some) low

  pushed_of : (b : Bool) (xs : List ℕ) (n s : ℕ) → is_some (at n) ≡ b → (Contains xs s → (s < n) × (is_some (at s) ≡ true)) → Contains (cond b (xs ++ n ∷ []) xs) s → (s < suc n) × (is_some (at s) ≡ true)
  pushed_of true xs n s e old c =
      elim (Contains-push_cases xs n s c) [
        | inl more ↦ let r = old more in let low = r.0 in (omega (arith, low), r.1)
        | inr same ↦ (omega (arith, same), sym (ap (λ x. is_some (at x)) same) ∙ e)
      ]
  pushed_of false xs n s e old c = let r = old c in let low = r.0 in (omega (arith, low), r.1)

  of_below : (n s : ℕ) → Contains (some_below at n) s → (s < n) × (is_some (at s) ≡ true)
  of_below zero s c = absurd (none_in s c)
  of_below (suc n) s c = pushed_of (is_some (at n)) (some_below at n) n s refl (of_below n s) c

  pushed_times : (b : Bool) (xs : List ℕ) (n s : ℕ) → times s (cond b (xs ++ n ∷ []) xs) ≤ times s xs + is s n
  pushed_times true xs n s = let e = sum_by_push (is s) xs n in omega (arith, e)
  pushed_times false xs n s = omega arith

  never_below : (n s : ℕ) → n ≤ s → times s (some_below at n) ≡ 0
  never_below zero s high = refl
  never_below (suc n) s high =
      let more = pushed_times (is_some (at n)) (some_below at n) n s in
      let rest = never_below n s (omega (arith, high)) in
      let none = is_other s n (λ same. omega (arith, same, high)) in
      omega (arith, more, rest, none)

  once_below : (n s : ℕ) → times s (some_below at n) ≤ 1
  once_below zero s = omega arith
  once_below (suc n) s =
      let more = pushed_times (is_some (at n)) (some_below at n) n s in
      elim (cases_Bool (eqb s n)) [
        | inl same ↦
            let rest = never_below n s (let e = eqb-true s n same in omega (arith, e)) in
            let one : is s n ≡ 1 = ap (λ (b : Bool). cond b 1 0) same in
            omega (arith, more, rest, one)
        | inr not ↦
            let rest = once_below n s in
            let none : is s n ≡ 0 = ap (λ (b : Bool). cond b 1 0) not in
            omega (arith, more, rest, none)
      ]

-- ---- a table of slots

module _ {K V : Type 0} (R : K → K → Ordering) where
  all_below : (x : K) (es : List (K × V)) → T (below_all R x es) → (z : K × V) → Contains es z → R x z.0 ≡ Less
  all_below x [] h z c = absurd (none_in z c)
  all_below x (e ∷ es) h z c =
      elim (front_or_later e es z c) [
        | inl same ↦ subst (λ (y : K × V). R x y.0 ≡ Less) same (less _ (first _ _ h))
        | inr more ↦ all_below x es (second _ _ h) z more
      ]

  module _ (total : IsTotalOrder R) where
    find_first : (e : K × V) (es : List (K × V)) → find R e.0 (e ∷ es) ≡ Some e.1
    find_first e es = ap (λ r. cond (is_eq r) (Some e.1) (find R e.0 es)) (tied_itself total e.0)

    found : (es : List (K × V)) → T (is_sorted R es) → (z : K × V) → Contains es z → find R z.0 es ≡ Some z.1
    found [] h z c = absurd (none_in z c)
    found (e ∷ es) h z c =
        elim (front_or_later e es z c) [
          | inl same ↦ subst (λ (y : K × V). find R y.0 (e ∷ es) ≡ Some y.1) same (find_first e es)
          | inr more ↦
              let up : R e.0 z.0 ≡ Less = all_below e.0 es (first _ _ h) z more in
              let down : R z.0 e.0 ≡ Greater = total.antisymm z.0 e.0 ∙ ap ordering_reverse up in
              ap (λ r. cond (is_eq r) (Some e.1) (find R z.0 es)) down ∙ found es (second _ _ h) z more
        ]

  module _ (exact : (x y : K) → R x y ≡ Equal → x ≡ y) where
    found_in : (q : K) (es : List (K × V)) (v : V) → find R q es ≡ Some v → Contains es (q, v)
    found_in q [] v e = absurd cc
    found_in q (x ∷ es) v e =
        elim (cases_Bool (eq_by_cmp R q x.0)) [
          | inl tied ↦
              let key : q ≡ x.0 = exact q x.0 (equal (R q x.0) tied) in
              let value : x.1 ≡ v = same_Some x.1 v (rw tied at e) in
              let pair : ◌≡◌ {A = K × V} x (q, v) = λ i. (sym key i, value i) in
              subst (Contains (x ∷ es)) pair (here x es)
          | inr apart ↦ later x es (q, v) (found_in q es v (rw apart at e))
        ]

-- each key of the map stands with its value in just one slot below n, and no slot has anything else
pub record IsTable {K V : Type 0} {R : K → K → Ordering} (m : FinMap R V) (at : ℕ → Option (K × V)) (n : ℕ) : Type 0 where
  pub stands : (k : K) (v : V) → get m k ≡ Some v → (s : ℕ) × (s < n) × (at s ≡ Some (k, v))
  pub listed : (s : ℕ) (k : K) (v : V) → at s ≡ Some (k, v) → get m k ≡ Some v
  pub once : (i j : ℕ) (k : K) (v w : V) → at i ≡ Some (k, v) → at j ≡ Some (k, w) → i ≡ j

module _ {K V : Type 0} {R : K → K → Ordering} (total : IsTotalOrder R) (exact : (x y : K) → R x y ≡ Equal → x ≡ y) (at : ℕ → Option (K × V)) (d : K × V) where
  abbrev item : ℕ → K × V
  item s = unwrap_or (at s) d

  abbrev key : ℕ → K
  key s = (item s).0

  below : (x : K) (zs : List ℕ) → ((z : ℕ) → Contains zs z → R x (key z) ≡ Less) → T (below_all R x (map item zs))
  below x [] up = tt
  below x (z ∷ zs) up = both _ _ (subst (λ r. T (is_lt r)) (sym (up z (here z zs))) tt) (below x zs (λ y c. up y (later z zs y c)))

  module _ (m : FinMap R V) (n : ℕ) (table : IsTable m at n) where
    -- two slots of one key are one
    same_slot : (i j : ℕ) → is_some (at i) ≡ true → is_some (at j) ≡ true → key i ≡ key j → i ≡ j
    same_slot i j some_i some_j same =
        table.once i j (key i) (item i).1 (item j).1 (some_is d (at i) some_i) (some_is d (at j) some_j ∙ ap (λ k. Some (k, (item j).1)) (sym same))

    tail_sorted : (y : ℕ) (ys : List ℕ) → IsSortedByKey key R (y ∷ ys) → IsSortedByKey key R ys
    tail_sorted y ys up = λ k e low high.
        let next : suc k + 1 ≡ suc (k + 1) = omega arith in
        subst (λ (n : ℕ). is_lt (R (key (slice_index_or (y ∷ ys) n e)) (key (slice_index_or ys k e))) ≡ false) next
        (up (suc k) e (omega arith) (omega (arith, high)))

    head_less : (y : ℕ) (ys : List ℕ) → ((s : ℕ) → Contains (y ∷ ys) s → is_some (at s) ≡ true) → ((s : ℕ) → times s (y ∷ ys) ≤ 1) → IsSortedByKey key R (y ∷ ys) → (z : ℕ) → Contains ys z → R (key y) (key z) ≡ Less
    head_less y ys some one up z c =
        let far = sorted_far (λ a b. is_lt (R (key a) (key b))) (ranks_by total key) (y ∷ ys) up 0 (suc c.0) z (omega arith) (let low = c.1 in omega (arith, low)) in
        let not_below : is_lt (R (key z) (key y)) ≡ false = sym (ap (λ s. is_lt (R (key s) (key y))) c.2) ∙ far in
        total.antisymm (key y) (key z)
        ∙ other_way (R (key z) (key y)) not_below (λ tied.
        let same = same_slot z y (some z (later y ys z c)) (some y (here y ys)) (exact (key z) (key y) tied) in
        let two = sum_by-cons (is z) y ys in
        let first_one = sym (ap (is z) same) ∙ is_itself z in
        let more = counted ys z c in
        let most = one z in
        omega (arith, two, first_one, more, most))

    rises : (ys : List ℕ) → ((s : ℕ) → Contains ys s → is_some (at s) ≡ true) → ((s : ℕ) → times s ys ≤ 1) → IsSortedByKey key R ys → T (is_sorted R (map item ys))
    rises [] some one up = tt
    rises (y ∷ ys) some one up =
        both _ _ (below (key y) ys (head_less y ys some one up)) (rises ys
        (λ s c. some s (later y ys s c))
        (λ s. let all = sum_by-cons (is s) y ys in let most = one s in omega (arith, all, most))
        (tail_sorted y ys up))

    module _ (ys : List ℕ) (moved : IsPermutation (some_below at n) ys) (up : IsSortedByKey key R ys) where
      some_in : (s : ℕ) → Contains ys s → is_some (at s) ≡ true
      some_in s c = (of_below at n s (Contains-permutation ys (some_below at n) s (IsPermutation-sym (some_below at n) ys moved) c)).1

      sorted : T (is_sorted R (map item ys))
      sorted = rises ys some_in (λ s. let e = sum_by-IsPermutation (is s) (some_below at n) ys moved in let most = once_below at n s in omega (arith, e, most)) up

      missing : (q : K) (o p : Option V) → find R q (map item ys) ≡ o → get m q ≡ p → p ≡ None → o ≡ None
      missing q None p e f none = refl
      missing q (Some w) p e f none =
          let r = from_mapped item ys (q, w) (found_in R exact q (map item ys) w e) in
          let has : get m q ≡ Some w = table.listed r.0 q w (some_is d (at r.0) (some_in r.0 r.1) ∙ ap Some r.2) in
          absurd (let no : None ≡ Some w = sym none ∙ sym f ∙ has in cc)

      alike : (q : K) (p : Option V) → get m q ≡ p → find R q (map item ys) ≡ p
      alike q None e = missing q (find R q (map item ys)) None refl e refl
      alike q (Some v) e =
          let s = table.stands q v e in
          let among = Contains-permutation (some_below at n) ys s.0 moved (in_below at n s.0 s.1 (ap is_some s.2)) in
          let is_item : item s.0 ≡ (q, v) = ap (λ o. unwrap_or o d) s.2 in
          found R total (map item ys) sorted (q, v) (subst (Contains (map item ys)) is_item (in_mapped item ys s.0 among))

      pub all_listed : map item ys ≡ entries m
      all_listed =
          sym (entries-from_sorted R (map item ys) sorted)
          ∙ ap entries (same_map total exact (from_sorted (map item ys)) m (λ q. get-from_sorted R (map item ys) q sorted ∙ alike q (get m q) refl))
