-- Clouds that are judged, and not kept.
use Rattle.std.proofs.Common.{◌≡◌, ℕ, suc, ◌+◌, ◌-◌, ◌<◌, ◌≤◌, Bool, true, false, leb, List, [], ◌∷◌, ◌++◌, length}
use Rattle.std.proofs.Common.{get_or, drop, Option, Some, None, refl, sym, ap, ◌∙◌, arith, inl, inr, cond}
use Rattle.std.specs.Prelude.{is_some, nat_le}
use Rattle.std.specs.List.{position_or_len}
use Rattle.std.specs.List.Sorted.{IsStrictlyIncreasing}
use Rattle.std.proofs.lemmas.Bool.{cases_lt}
use Rattle.std.proofs.lemmas.List.{get_or_append_left, length-append}
use Rattle.session.specs.CdBase.shape.Shape.{Shape}
use Rattle.session.specs.Reading.{is_comma, listed, sources}
use Rattle.session.proofs.CloudTexts.{goes_by, are_so, front, full_by, no_number_by, no_rise_by, last_number_by, next_number_by}
use Rattle.session.specs.Grammar.Numerals.{number}
use Rattle.session.specs.Grammar.Words.{keep}
use Rattle.session.proofs.Grammar.WordLaws.{prepend}

-- So many clouds came, and rise; the next one may be this or more.
pub record SoFar (shape : Shape) (word rest : List ℕ) (count least : ℕ) : Type 0 where
  pub out : List ℕ
  pub rising : IsStrictlyIncreasing out
  pub many : length out ≡ count
  pub above : (k : ℕ) → k < length out → get_or out k 0 < least
  pub last : (0 < length out) → suc (get_or out (length out - 1) 0) ≡ least
  pub none : length out ≡ 0 → least ≡ 0
  pub few : count ≤ least
  pub within : least ≤ shape.n
  pub so_far : goes_by (nat_le shape.k) shape out rest ≡ sources shape word

prepended : {A : Type 0} (p : List A → Bool) (o : Option (List A)) → keep p (prepend [] o) ≡ keep p o
prepended p None = refl
prepended p (Some xs) = refl

pub starts_by : (shape : Shape) (word : List ℕ) → goes_by (nat_le shape.k) shape [] word ≡ sources shape word
unfolding sources
starts_by shape word = prepended (are_so (nat_le shape.k)) (listed shape word)

pub begins : (shape : Shape) (word : List ℕ) → SoFar shape word word 0 0
begins shape word = record {
  out = [];
  rising = λ k lt. absurd (omega arith);
  many = refl;
  above = λ k lt. absurd (omega arith);
  last = λ lt. absurd (omega arith);
  none = λ e. refl;
  few = omega arith;
  within = omega arith;
  so_far = starts_by shape word;
}

-- the last of a longer list
last_of : (xs : List ℕ) (c : ℕ) → get_or (xs ++ c ∷ []) (length xs) 0 ≡ c
last_of [] c = refl
last_of (x ∷ xs) c = last_of xs c

-- a cloud that isn't below the next one is above all
grows : (xs : List ℕ) (c least : ℕ) → IsStrictlyIncreasing xs → ((k : ℕ) → k < length xs → get_or xs k 0 < least)
    → least ≤ c → IsStrictlyIncreasing (xs ++ c ∷ [])
grows xs c least rising above le k lt =
    let len = length-append xs (c ∷ []) in
    let here = get_or_append_left xs (c ∷ []) 0 k (omega arith) in
    elim (cases_lt (k + 1) (length xs)) [
      | inl more ↦ let next = get_or_append_left xs (c ∷ []) 0 (k + 1) more in omega (arith, rising k more)
      | inr end ↦
          let at : k + 1 ≡ length xs = omega arith in
          let next : get_or (xs ++ c ∷ []) (k + 1) 0 ≡ c = ap (λ (i : ℕ). get_or (xs ++ c ∷ []) i 0) at
          ∙ last_of xs c in
          omega (arith, above k (omega arith))
    ]

-- a cloud below the next one doesn't rise
falls : (xs : List ℕ) (c least : ℕ) → ((0 < length xs) → suc (get_or xs (length xs - 1) 0) ≡ least)
    → (length xs ≡ 0 → least ≡ 0) → c < least → IsStrictlyIncreasing (xs ++ c ∷ []) → ⊥
falls xs c least last empty lt rising =
    elim (cases_lt 0 (length xs)) [
      | inl some ↦
          let len = length-append xs (c ∷ []) in
          let before : length xs - 1 + 1 ≡ length xs = omega arith in
          let h = rising (length xs - 1) (omega arith) in
          let here = get_or_append_left xs (c ∷ []) 0 (length xs - 1) (omega arith) in
          let next : get_or (xs ++ c ∷ []) (length xs - 1 + 1) 0 ≡ c =
          ap (λ (i : ℕ). get_or (xs ++ c ∷ []) i 0) before ∙ last_of xs c in
          omega (arith, last some)
      | inr none ↦ let z = empty (omega arith) in omega arith
    ]

none_is : {A : Type 0} (o : Option A) → None ≡ o → false ≡ is_some o
none_is None e = refl
none_is (Some x) e = absurd cc

by_count : (b : Bool) (out : List ℕ) (total : Option (List ℕ)) → cond b (Some out) None ≡ total → b ≡ is_some total
by_count true out total e = ap (λ (o : Option (List ℕ)). is_some o) e
by_count false out total e = ap (λ (o : Option (List ℕ)). is_some o) e

full_is : (k : ℕ) (out : List ℕ) (total : Option (List ℕ)) → full_by (nat_le k) out ≡ total
    → leb k (length out) ≡ is_some total
full_is k out total e = by_count (leb k (length out)) out total e

pub no_number_left : (shape : Shape) (word rest : List ℕ) (count least : ℕ) → SoFar shape word rest count least
    → None ≡ number 0 (shape.n - 1) (front rest) → false ≡ is_some (sources shape word)
no_number_left shape word rest count least s e = none_is (sources shape word)
    (no_number_by (nat_le shape.k) shape s.out rest (sources shape word) e s.so_far)

pub falls_short : (shape : Shape) (word rest : List ℕ) (count least c : ℕ) → SoFar shape word rest count least
    → Some c ≡ number 0 (shape.n - 1) (front rest) → c < least → false ≡ is_some (sources shape word)
falls_short shape word rest count least c s e lt =
    none_is (sources shape word) (no_rise_by (nat_le shape.k) shape s.out rest c (sources shape word) e
    (falls s.out c least s.last s.none lt) s.so_far)

pub ends : (shape : Shape) (word rest : List ℕ) (count least c : ℕ) → SoFar shape word rest count least
    → Some c ≡ number 0 (shape.n - 1) (front rest) → least ≤ c
    → length rest ≤ position_or_len is_comma rest → leb shape.k (count + 1) ≡ is_some (sources shape word)
ends shape word rest count least c s e le end =
    let len = length-append s.out (c ∷ []) in
    let many : length (s.out ++ c ∷ []) ≡ count + 1 = omega (arith, s.many) in
    ap (λ (n : ℕ). leb shape.k n) (sym many)
    ∙ full_is shape.k (s.out ++ c ∷ []) (sources shape word)
    (last_number_by (nat_le shape.k) shape s.out rest c (sources shape word) e (grows s.out c least s.rising s.above le) end s.so_far)

pub goes_further : (shape : Shape) (word rest : List ℕ) (count least c : ℕ) → SoFar shape word rest count least
    → Some c ≡ number 0 (shape.n - 1) (front rest) → least ≤ c → c < shape.n
    → position_or_len is_comma rest < length rest → SoFar shape word (drop (position_or_len is_comma rest + 1) rest)
    (count + 1) (c + 1)
goes_further shape word rest count least c s e le below more =
    let len = length-append s.out (c ∷ []) in
    let at : get_or (s.out ++ c ∷ []) (length s.out) 0 ≡ c = last_of s.out c in
    record {
      out = s.out ++ c ∷ [];
      rising = grows s.out c least s.rising s.above le;
      many = omega (arith, s.many);
      above = λ k lt. elim (cases_lt k (length s.out)) [
        | inl early ↦ let here = get_or_append_left s.out (c ∷ []) 0 k early in omega (arith, s.above k early)
        | inr late ↦ let same : k ≡ length s.out = omega arith in let here : get_or (s.out ++ c ∷ []) k 0 ≡ c =
            ap (λ (i : ℕ). get_or (s.out ++ c ∷ []) i 0) same ∙ at in omega arith
      ];
      last = λ some. let same : length (s.out ++ c ∷ []) - 1 ≡ length s.out = omega arith in
          let here : get_or (s.out ++ c ∷ []) (length (s.out ++ c ∷ []) - 1) 0 ≡ c =
          ap (λ (i : ℕ). get_or (s.out ++ c ∷ []) i 0) same ∙ at in omega arith;
      none = λ z. absurd (omega arith);
      few = omega (arith, s.few);
      within = omega arith;
      so_far = next_number_by (nat_le shape.k) shape s.out rest c (sources shape word) e more s.so_far;
    }
