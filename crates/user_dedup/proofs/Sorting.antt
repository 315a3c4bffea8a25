-- What the sorted lists of a compact list have.
use Rattle.std.proofs.Common.{◌≡◌, ℕ, zero, suc, ◌<◌, ◌≤◌, ◌==◌, nat_lt, Bool, true, false, cond, List, [], ◌∷◌, ◌++◌, length, take, drop, refl, sym, ap, subst, ◌∙◌, arith, inl, inr, ◌⊎◌, eq-eqb, length-drop, take-append-drop}
use Rattle.std.specs.List.{Contains}
use Rattle.std.specs.declared.cmp.Ordering.{Ordering}
use Rattle.std.specs.declared.cmp.Ordering.TheVariants.{Less, Equal, Greater}
use Rattle.std.specs.Ordering.{match_ordering}
use Rattle.std.proofs.lemmas.Bool.{eqb-true, cases_lt}
use Rattle.std.proofs.lemmas.Bool.Decides.{Decides-ltb}
use Rattle.journal_start.specs.CdBase.ids.Fp.{Fp}
use Rattle.journal_start.specs.MessageFields.Keys.{key_cmp}
use Rattle.journal_start.specs.CdBase.Order.{fp_cmp, fp_exact}
use Rattle.user_dedup.specs.Pages.{with_key, sorted_keys}
use Rattle.user_dedup.proofs.Owned.{contains_here, contains_later, contains_nothing, contains_cases}
use Rattle.user_dedup.proofs.Pages.{Key, key_exact}
use Rattle.user_dedup.specs.Compact.{with_number, with_fp, sorted_fps, parts_by, in_parts}

-- ---- keys

key_here : (key : Key) (keys : List Key) → Contains (with_key key keys) key
key_here key [] = contains_here key []
key_here key (other ∷ keys) = by_order (key_cmp key other) refl (key_here key keys)
  where
    by_order : (r : Ordering) → key_cmp key other ≡ r → Contains (with_key key keys) key
        → Contains (match_ordering r (key ∷ other ∷ keys) (other ∷ keys) (other ∷ with_key key keys)) key
    by_order Less o rest = contains_here key (other ∷ keys)
    by_order Equal o rest = subst (λ y. Contains (other ∷ keys) y) (sym (key_exact key other o)) (contains_here other keys)
    by_order Greater o rest = contains_later other (with_key key keys) key rest

key_later : (key : Key) (keys : List Key) (k : Key) → Contains keys k → Contains (with_key key keys) k
key_later key [] k c = absurd (contains_nothing k c)
key_later key (other ∷ keys) k c = by_order (key_cmp key other) (key_later key keys k)
  where
    by_order : (r : Ordering) → (Contains keys k → Contains (with_key key keys) k)
        → Contains (match_ordering r (key ∷ other ∷ keys) (other ∷ keys) (other ∷ with_key key keys)) k
    by_order Less rest = contains_later key (other ∷ keys) k c
    by_order Equal rest = c
    by_order Greater rest =
        elim (contains_cases other keys k c) [
          | inl same ↦ subst (λ y. Contains (other ∷ with_key key keys) y) same (contains_here other (with_key key keys))
          | inr later ↦ contains_later other (with_key key keys) k (rest later)
        ]

pub keys_have : (keys : List Key) (k : Key) → Contains keys k → Contains (sorted_keys keys) k
keys_have [] k c = c
keys_have (key ∷ keys) k c =
    elim (contains_cases key keys k c) [
      | inl same ↦ subst (λ y. Contains (with_key key (sorted_keys keys)) y) same (key_here key (sorted_keys keys))
      | inr later ↦ key_later key (sorted_keys keys) k (keys_have keys k later)
    ]

-- ---- fingerprints

pub fp_is : (a b : Fp) → fp_cmp a.0 b.0 ≡ Equal → a ≡ b
fp_is a b e = let same = fp_exact a.0 b.0 e in λ i. record { 0 = same i }

fp_here : (fp : Fp) (fps : List Fp) → Contains (with_fp fp fps) fp
fp_here fp [] = contains_here fp []
fp_here fp (other ∷ fps) = by_order (fp_cmp fp.0 other.0) refl (fp_here fp fps)
  where
    by_order : (r : Ordering) → fp_cmp fp.0 other.0 ≡ r → Contains (with_fp fp fps) fp
        → Contains (match_ordering r (fp ∷ other ∷ fps) (other ∷ fps) (other ∷ with_fp fp fps)) fp
    by_order Less o rest = contains_here fp (other ∷ fps)
    by_order Equal o rest = subst (λ y. Contains (other ∷ fps) y) (sym (fp_is fp other o)) (contains_here other fps)
    by_order Greater o rest = contains_later other (with_fp fp fps) fp rest

fp_later : (fp : Fp) (fps : List Fp) (k : Fp) → Contains fps k → Contains (with_fp fp fps) k
fp_later fp [] k c = absurd (contains_nothing k c)
fp_later fp (other ∷ fps) k c = by_order (fp_cmp fp.0 other.0) (fp_later fp fps k)
  where
    by_order : (r : Ordering) → (Contains fps k → Contains (with_fp fp fps) k)
        → Contains (match_ordering r (fp ∷ other ∷ fps) (other ∷ fps) (other ∷ with_fp fp fps)) k
    by_order Less rest = contains_later fp (other ∷ fps) k c
    by_order Equal rest = c
    by_order Greater rest =
        elim (contains_cases other fps k c) [
          | inl same ↦ subst (λ y. Contains (other ∷ with_fp fp fps) y) same (contains_here other (with_fp fp fps))
          | inr later ↦ contains_later other (with_fp fp fps) k (rest later)
        ]

pub fp_cases : (fp : Fp) (fps : List Fp) (k : Fp) → Contains (with_fp fp fps) k → (fp ≡ k) ⊎ Contains fps k
fp_cases fp [] k c = contains_cases fp [] k c
fp_cases fp (other ∷ fps) k c = by_order (fp_cmp fp.0 other.0) (fp_cases fp fps k) c
  where
    by_order : (r : Ordering) → (Contains (with_fp fp fps) k → (fp ≡ k) ⊎ Contains fps k)
        → Contains (match_ordering r (fp ∷ other ∷ fps) (other ∷ fps) (other ∷ with_fp fp fps)) k → (fp ≡ k) ⊎ Contains (other ∷ fps) k
    by_order Less rest c = contains_cases fp (other ∷ fps) k c
    by_order Equal rest c = inr c
    by_order Greater rest c =
        elim (contains_cases other (with_fp fp fps) k c) [
          | inl same ↦ inr (subst (λ y. Contains (other ∷ fps) y) same (contains_here other fps))
          | inr later ↦ elim (rest later) [ inl same ↦ inl same | inr old ↦ inr (contains_later other fps k old) ]
        ]

pub fps_have : (fps : List Fp) (k : Fp) → Contains fps k → Contains (sorted_fps fps) k
fps_have [] k c = c
fps_have (fp ∷ fps) k c =
    elim (contains_cases fp fps k c) [
      | inl same ↦ subst (λ y. Contains (with_fp fp (sorted_fps fps)) y) same (fp_here fp (sorted_fps fps))
      | inr later ↦ fp_later fp (sorted_fps fps) k (fps_have fps k later)
    ]

pub fps_from : (fps : List Fp) (k : Fp) → Contains (sorted_fps fps) k → Contains fps k
fps_from [] k c = c
fps_from (fp ∷ fps) k c =
    elim (fp_cases fp (sorted_fps fps) k c) [
      | inl same ↦ subst (λ y. Contains (fp ∷ fps) y) same (contains_here fp fps)
      | inr old ↦ contains_later fp fps k (fps_from fps k old)
    ]

-- ---- parts

abbrev pub joined : List (List Fp) → List Fp
joined [] = []
joined (part ∷ parts) = part ++ joined parts

parts_joined : (steps : ℕ) (fps : List Fp) → length fps ≤ steps → joined (parts_by steps fps) ≡ fps
parts_joined zero [] le = refl
parts_joined zero (fp ∷ fps) le = absurd (omega (arith, le))
parts_joined (suc steps) [] le = refl
parts_joined (suc steps) (fp ∷ fps) le =
    ap (λ l. take 256 (fp ∷ fps) ++ l) (parts_joined steps (drop 256 (fp ∷ fps)) (omega (arith, le, length-drop 256 (fp ∷ fps))))
    ∙ take-append-drop 256 (fp ∷ fps)

pub joined_parts : (fps : List Fp) → joined (in_parts fps) ≡ fps
joined_parts fps = parts_joined (length fps) fps (omega arith)

-- ---- numbers of users

pub has_number : (n : ℕ) (ms : List ℕ) → Contains (with_number n ms) n
has_number n [] = contains_here n []
has_number n (m ∷ ms) = by_tests (n == m) (eqb-true n m) (nat_lt n m) (has_number n ms)
  where
    by_tests : (same : Bool) → (same ≡ true → n ≡ m) → (less : Bool) → Contains (with_number n ms) n
        → Contains (cond same (m ∷ ms) (cond less (n ∷ m ∷ ms) (m ∷ with_number n ms))) n
    by_tests true is less rest = subst (Contains (m ∷ ms)) (sym (is refl)) (contains_here m ms)
    by_tests false is true rest = contains_here n (m ∷ ms)
    by_tests false is false rest = contains_later m (with_number n ms) n rest

pub number_later : (n : ℕ) (ms : List ℕ) (k : ℕ) → Contains ms k → Contains (with_number n ms) k
number_later n [] k c = absurd (contains_nothing k c)
number_later n (m ∷ ms) k c = by_tests (n == m) (nat_lt n m) (number_later n ms k)
  where
    by_tests : (same less : Bool) → (Contains ms k → Contains (with_number n ms) k)
        → Contains (cond same (m ∷ ms) (cond less (n ∷ m ∷ ms) (m ∷ with_number n ms))) k
    by_tests true less rest = c
    by_tests false true rest = contains_later n (m ∷ ms) k c
    by_tests false false rest =
        elim (contains_cases m ms k c) [
          | inl same ↦ subst (Contains (m ∷ with_number n ms)) same (contains_here m (with_number n ms))
          | inr later ↦ contains_later m (with_number n ms) k (rest later)
        ]

pub number_cases : (n : ℕ) (ms : List ℕ) (k : ℕ) → Contains (with_number n ms) k → (n ≡ k) ⊎ Contains ms k
number_cases n [] k c = contains_cases n [] k c
number_cases n (m ∷ ms) k c = by_tests (n == m) (nat_lt n m) (number_cases n ms k) c
  where
    by_tests : (same less : Bool) → (Contains (with_number n ms) k → (n ≡ k) ⊎ Contains ms k)
        → Contains (cond same (m ∷ ms) (cond less (n ∷ m ∷ ms) (m ∷ with_number n ms))) k → (n ≡ k) ⊎ Contains (m ∷ ms) k
    by_tests true less rest c = inr c
    by_tests false true rest c = contains_cases n (m ∷ ms) k c
    by_tests false false rest c =
        elim (contains_cases m (with_number n ms) k c) [
          | inl same ↦ inr (subst (Contains (m ∷ ms)) same (contains_here m ms))
          | inr later ↦ elim (rest later) [ inl same ↦ inl same | inr old ↦ inr (contains_later m ms k old) ]
        ]

-- each is less than all behind it
abbrev pub Rises : List ℕ → Type 0
Rises [] = Unit {0}
Rises (n ∷ ns) = ((m : ℕ) → Contains ns m → n < m) × Rises ns

pub number_rises : (n : ℕ) (ms : List ℕ) → Rises ms → Rises (with_number n ms)
number_rises n [] r = (λ m c. absurd (contains_nothing m c), tt)
number_rises n (m ∷ ms) r = by_tests (n == m) (eq-eqb n m) (nat_lt n m) (Decides-ltb n m).0 (Decides-ltb n m).1 (number_rises n ms r.1)
  where
    after : (n ≡ m → ⊥) → (n < m → ⊥) → m < n
    after apart above = elim (cases_lt m n) [ inl lt ↦ lt | inr le ↦ absurd (elim (cases_lt n m) [ inl lt ↦ above lt | inr ge ↦ apart (omega (arith, le, ge)) ]) ]

    by_tests : (same : Bool) → (n ≡ m → same ≡ true) → (less : Bool) → (less ≡ true → n < m) → (n < m → less ≡ true) → Rises (with_number n ms)
        → Rises (cond same (m ∷ ms) (cond less (n ∷ m ∷ ms) (m ∷ with_number n ms)))
    by_tests true is less below back rest = r
    by_tests false is true below back rest =
        (λ k c. elim (contains_cases m ms k c) [ inl same ↦ omega (arith, below refl, same) | inr later ↦ omega (arith, below refl, r.0 k later) ], r)
    by_tests false is false below back rest = (
      λ k c. elim (number_cases n ms k c) [
        | inl same ↦ subst (λ (j : ℕ). m < j) same (after (λ e. let t = is e in cc) (λ l. let t = back l in cc))
        | inr old ↦ r.0 k old
      ],
      rest,
    )
