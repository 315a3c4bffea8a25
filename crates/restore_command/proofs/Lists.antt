-- Lists cut into batches, and logs by clouds.
use Rattle.std.proofs.Common.{◌≡◌, ◌≢◌, ℕ, suc, ◌+◌, ◌-◌, ◌<◌, ◌≤◌, ◌⊎◌, inl, inr, Bool, cond, List, [], ◌∷◌, ◌++◌, length, map, take, drop, refl, sym, ap, ◌∙◌, subst, arith, append_assoc, append-nil, length-append, length-take, length-drop, eq-eqb}
use Rattle.std.specs.Prelude.{◌==◌, min}
use Rattle.std.specs.List.{AllByRecursion}
use Rattle.std.specs.List.Sorted.{IsStrictlyIncreasing}
use Rattle.std.proofs.lemmas.Bool.{ne_eqb, cases_lt}
use Rattle.std.proofs.Math.Seq.{take-add}
use Rattle.std.proofs.lemmas.List.{take_all, take_at, drop_at, drop_all, take-map, drop-map}
use Rattle.std.proofs.lemmas.List.Elements.{filter-append}
use Rattle.ports_link.specs.CdBase.Numbers.{numbers_of}
use Rattle.ports_link.specs.CdBase.ids.CloudNo.{CloudNo}
use Rattle.ports_link.specs.CdBase.ids.Fp.{Fp}
use Rattle.subset_restore.specs.Recipe.items.Item.{Item}
use Rattle.ports_link.specs.UserDedup.Owning.{fps_in}
use Rattle.subset_restore.specs.RestoreJob.Brought.{in_a_row}
use Rattle.subset_restore.specs.RestoreJob.Exchanges.{CloudExchange, items_at}
use Rattle.restore_command.specs.Talks.{with_cloud}

-- ---- logs

pub with_here : (x : CloudExchange) (log : List CloudExchange) (cloud : ℕ) → x.cloud ≡ cloud → with_cloud (x ∷ log) cloud
    ≡ x ∷ with_cloud log cloud
with_here x log cloud e = ap (λ (b : Bool). cond b (x ∷ with_cloud log cloud) (with_cloud log cloud))
    (eq-eqb x.cloud cloud e)

pub with_other : (x : CloudExchange) (log : List CloudExchange) (cloud : ℕ) → x.cloud ≢ cloud → with_cloud (x ∷ log) cloud
    ≡ with_cloud log cloud
with_other x log cloud e = ap (λ (b : Bool). cond b (x ∷ with_cloud log cloud) (with_cloud log cloud))
    (ne_eqb x.cloud cloud e)

pub with_append : (one two : List CloudExchange) (cloud : ℕ) → with_cloud (one ++ two) cloud ≡ with_cloud one cloud ++
    with_cloud two cloud
with_append one two cloud = filter-append (λ (x : CloudExchange). x.cloud == cloud) one two

-- ---- clouds that differ

-- none of these is this one
abbrev pub NoneIs : ℕ → List CloudNo → Type 0
NoneIs cloud clouds = AllByRecursion (λ (other : CloudNo). cloud ≢ other.0) clouds

-- no two are the same
abbrev pub Apart : List CloudNo → Type 0
Apart [] = Unit {0}
Apart (cloud ∷ clouds) = NoneIs cloud.0 clouds × Apart clouds

tail_rises : (x : ℕ) (xs : List ℕ) → IsStrictlyIncreasing (x ∷ xs) → IsStrictlyIncreasing xs
tail_rises x xs rises k l = let one : suc k + 1 ≡ suc (k + 1) = omega arith in rw one at (rises (suc k) (omega arith))

above : (clouds : List CloudNo) (x : ℕ) → IsStrictlyIncreasing (x ∷ numbers_of clouds) → (below : ℕ) → below ≤ x
    → NoneIs below clouds
above [] x rises below l = tt
above (cloud ∷ clouds) x rises below l =
    let first : x < cloud.0 = rises 0 (omega arith) in
    let more : below < cloud.0 = omega arith in (
      λ same. let z : below ≡ cloud.0 = same in absurd (omega arith),
      above clouds cloud.0
          (tail_rises x (numbers_of (cloud ∷ clouds)) rises) below (omega arith),
    )

pub apart : (clouds : List CloudNo) → IsStrictlyIncreasing (numbers_of clouds) → Apart clouds
apart [] rises = tt
apart (cloud ∷ clouds) rises = (
  above clouds cloud.0 rises cloud.0 (omega arith),
  apart clouds
      (tail_rises cloud.0 (numbers_of clouds) rises),
)

-- ---- batches

-- the first batch of some of a list, and what is behind it
pub record Cut {A : Type 0} (all front rest : List A) : Type 0 where
  pub some : all ≢ []
  pub first : take 256 all ≡ front
  pub others : drop 256 all ≡ rest

pub not_empty : {A : Type 0} (xs : List A) → 0 < length xs → xs ≢ []
not_empty [] l e = absurd (omega arith)
not_empty (x ∷ xs) l e = cc

-- a batch is 256, or nothing is behind it
pub cut_of : {A : Type 0} (front rest : List A) → 0 < length front → length front ≤ 256 → (length front ≡ 256)
    ⊎ (rest ≡ []) → Cut (front ++ rest) front rest
cut_of front rest some few (inl whole) = record {
  some = not_empty (front ++ rest) (omega (arith, length-append front rest));
  first = take_at front rest 256 whole;
  others = drop_at front rest 256 whole;
}
cut_of front rest some few (inr none) = record {
  some = not_empty (front ++ rest) (omega (arith, length-append front rest));
  first = ap (λ l. take 256 (front ++ l)) none ∙ (ap (take 256) (append-nil front) ∙ take_all 256 front few);
  others = ap (λ l. drop 256 (front ++ l)) none ∙ (ap (drop 256) (append-nil front)
      ∙ (drop_all 256 front few ∙ sym none));
}

pub nothing : {A : Type 0} (xs : List A) → length xs ≡ 0 → xs ≡ []
nothing [] e = refl
nothing (x ∷ xs) e = absurd (omega arith)

-- so many from the front of a list, in batches
pub cut_at : {A : Type 0} (l : List A) (b n : ℕ) → b ≡ min 256 (length l) → 0 < length l → b + n ≤ length l
    → Cut (take (b + n) l) (take b l) (take n (drop b l))
cut_at {A} l b n size some within =
    subst (λ (all : List A). Cut all (take b l) (take n (drop b l))) (sym parts)
    (cut_of (take b l) (take n (drop b l)) (omega (arith, length-take b l)) (omega (arith, length-take b l))
    (go (cases_lt (length l) 256)))
  where
    parts : take (b + n) l ≡ take b l ++ take n (drop b l)
    parts = take-add b n l

    go : (length l < 256) ⊎ (256 ≤ length l) → (length (take b l) ≡ 256) ⊎ (take n (drop b l) ≡ [])
    go (inr large) = inl (omega (arith, length-take b l))
    go (inl small) = inr (nothing (take n (drop b l)) (omega (arith, length-take n (drop b l), length-drop b l)))

-- the fingerprints of a batch
pub fps_part : (place n : ℕ) (items : List Item) → fps_in (items_at place n items) ≡ take n (drop place (fps_in items))
fps_part place n items =
    let fp : Item → Fp = λ (item : Item). item.fp in
    let e : place + n - place ≡ n = omega arith in
    sym (take-map fp (place + n - place) (drop place items))
    ∙ (ap (λ (m : ℕ). take m (map fp (drop place items))) e ∙ ap (take n) (sym (drop-map fp place items)))

-- ---- strings in a row

pub in_a_row-append : (one two : List (List ℕ)) → in_a_row (one ++ two) ≡ in_a_row one ++ in_a_row two
in_a_row-append [] two = refl
in_a_row-append (s ∷ one) two = ap (λ (l : List ℕ). s ++ l) (in_a_row-append one two)
    ∙ sym (append_assoc s (in_a_row one) (in_a_row two))
