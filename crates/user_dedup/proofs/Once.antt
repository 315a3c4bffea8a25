-- Sorted fingerprints and keys stand once each.
use Rattle.std.proofs.Common.{◌≡◌, true, false, List, [], ◌∷◌, ◌++◌, Option, Some, None, refl, sym, ap, subst, ◌∙◌, inl, inr, append-nil, append_assoc}
use Rattle.std.specs.List.{Contains}
use Rattle.std.specs.declared.cmp.Ordering.{Ordering}
use Rattle.std.specs.declared.cmp.Ordering.TheVariants.{Less, Equal, Greater}
use Rattle.std.specs.Ordering.{nat_cmp, on, then_cmp, ordering_reverse, is_lt, match_ordering}
use Rattle.std.specs.Cmp.{IsTotalOrder}
use Rattle.std.specs.Cmp.Lexicographic.{slice_cmp}
use Rattle.std.proofs.lemmas.Cmp.{nat_cmp_total, nat_list_cmp_total, on_total, then_total, tied_itself}
use Rattle.std.proofs.lemmas.List.Elements.{Contains-push_cases}
use Rattle.journal_start.specs.CdBase.ids.Fp.{Fp}
use Rattle.journal_start.specs.MessageFields.Keys.{key_cmp, AreAbove}
use Rattle.journal_start.specs.CdBase.Order.{fp_cmp}
use Rattle.user_dedup.specs.Pages.{sorted_keys}
use Rattle.user_dedup.proofs.Owned.{contains_here, contains_later, contains_nothing, contains_cases}
use Rattle.user_dedup.proofs.Pages.{sorted_above, Key}
use Rattle.user_dedup.specs.Compact.{with_fp, sorted_fps}
use Rattle.user_dedup.proofs.Sorting.{fp_cases}

-- none stands among those behind it
abbrev pub Once : {X : Type 0} → List X → Type 0
Once [] = Unit {0}
Once (x ∷ xs) = (Contains xs x → ⊥) × Once xs

never_less : (o : Ordering) → o ≡ Less → o ≡ Equal → ⊥
never_less o less equal = let no : Less ≡ Equal = sym less ∙ equal in cc

-- ---- fingerprints

fp_total : IsTotalOrder fp_cmp
fp_total = nat_list_cmp_total

-- each is less than all behind it
abbrev FpsRise : List Fp → Type 0
FpsRise [] = Unit {0}
FpsRise (fp ∷ fps) = ((m : Fp) → Contains fps m → fp_cmp fp.0 m.0 ≡ Less) × FpsRise fps

with_rise : (fp : Fp) (fps : List Fp) → FpsRise fps → FpsRise (with_fp fp fps)
with_rise fp [] r = (λ m c. absurd (contains_nothing m c), tt)
with_rise fp (other ∷ fps) r = by_order (fp_cmp fp.0 other.0) refl (with_rise fp fps r.1)
  where
    by_order : (o : Ordering) → fp_cmp fp.0 other.0 ≡ o → FpsRise (with_fp fp fps)
        → FpsRise (match_ordering o (fp ∷ other ∷ fps) (other ∷ fps) (other ∷ with_fp fp fps))
    by_order Less o rest = (
      λ m c. elim (contains_cases other fps m c) [
        | inl same ↦ subst (λ (x : Fp). fp_cmp fp.0 x.0 ≡ Less) same o
        | inr later ↦ fp_total.trans fp.0 other.0 m.0 o (r.0 m later)
      ],
      r,
    )
    by_order Equal o rest = r
    by_order Greater o rest = (
      λ m c. elim (fp_cases fp fps m c) [
        | inl same ↦ subst (λ (x : Fp). fp_cmp other.0 x.0 ≡ Less) same (fp_total.antisymm other.0 fp.0 ∙ ap ordering_reverse o)
        | inr old ↦ r.0 m old
      ],
      rest,
    )

fps_rise : (fps : List Fp) → FpsRise (sorted_fps fps)
fps_rise [] = tt
fps_rise (fp ∷ fps) = with_rise fp (sorted_fps fps) (fps_rise fps)

rising_once : (fps : List Fp) → FpsRise fps → Once fps
rising_once [] r = tt
rising_once (fp ∷ fps) r = (λ c. never_less (fp_cmp fp.0 fp.0) (r.0 fp c) (tied_itself fp_total fp.0), rising_once fps r.1)

pub fps_once : (fps : List Fp) → Once (sorted_fps fps)
fps_once fps = rising_once (sorted_fps fps) (fps_rise fps)

-- ---- keys

key_total : IsTotalOrder key_cmp
key_total =
    let t : IsTotalOrder (then_cmp (on (λ (k : Key). k.0.0) (slice_cmp nat_cmp)) (on (λ (k : Key). k.1.0) nat_cmp)) =
    then_total (on_total (λ (k : Key). k.0.0) nat_list_cmp_total) (on_total (λ (k : Key). k.1.0) nat_cmp_total) in
    t

less_from : (o : Ordering) → is_lt o ≡ true → o ≡ Less
less_from Less e = refl
less_from Equal e = absurd (let f : false ≡ true = e in cc)
less_from Greater e = absurd (let f : false ≡ true = e in cc)

above_all : (last : Key) (keys : List Key) → AreAbove (Some last) keys → (k : Key) → Contains keys k → key_cmp last k ≡ Less
above_all last [] a k c = absurd (contains_nothing k c)
above_all last (key ∷ keys) a k c =
    let first = less_from (key_cmp last key) a.0 in
    elim (contains_cases key keys k c) [
      | inl same ↦ subst (λ (x : Key). key_cmp last x ≡ Less) same first
      | inr later ↦ key_total.trans last key k first (above_all key keys a.1 k later)
    ]

above_once : (last : Option Key) (keys : List Key) → AreAbove last keys → Once keys
above_once last [] a = tt
above_once last (key ∷ keys) a =
    (λ c. never_less (key_cmp key key) (above_all key keys a.1 key c) (tied_itself key_total key), above_once (Some key) keys a.1)

pub keys_once : (keys : List Key) → Once (sorted_keys keys)
keys_once keys = above_once None (sorted_keys keys) (sorted_above keys)

-- ---- what is new to those owned

-- each isn't owned, nor among those before it
abbrev pub Fresh : List Fp → List Fp → Type 0
Fresh own [] = Unit {0}
Fresh own (fp ∷ fps) = (Contains own fp → ⊥) × Fresh (own ++ fp ∷ []) fps

pub fresh_of : (own fps : List Fp) → Once fps → ((fp : Fp) → Contains own fp → Contains fps fp → ⊥) → Fresh own fps
fresh_of own [] once apart = tt
fresh_of own (fp ∷ fps) once apart = (
  λ c. apart fp c (contains_here fp fps),
  fresh_of (own ++ fp ∷ []) fps once.1 (λ q c d. elim (Contains-push_cases own fp q c) [
    | inl old ↦ apart q old (contains_later fp fps q d)
    | inr same ↦ once.0 (subst (Contains fps) (sym same) d)
  ]),
)

pub fresh_cut : (own xs ys : List Fp) → Fresh own (xs ++ ys) → Fresh own xs × Fresh (own ++ xs) ys
fresh_cut own [] ys f = (tt, subst (λ o. Fresh o ys) (sym (append-nil own)) f)
fresh_cut own (x ∷ xs) ys f =
    let r = fresh_cut (own ++ x ∷ []) xs ys f.1 in
    ((f.0, r.0), subst (λ o. Fresh o ys) (append_assoc own (x ∷ []) xs) r.1)
