-- The Puts of a memory's records: each user's fingerprints once, with each share's place where it is listed first.
use Rattle.std.proofs.Common.{◌≡◌, ◌≢◌, ◌⊎◌, inl, inr, ℕ, zero, suc, ◌+◌, ◌<◌, ◌≤◌, Bool, true, false, cond, List, [], ◌∷◌, ◌++◌, map, Option, None, refl, sym, ap, ◌∙◌, subst, arith, eq-eqb, append-nil, append_assoc, add-one, true≢false}
use Rattle.std.specs.Prelude.{◌==◌, ◌↔◌, if◌then◌else◌, IsSome, All}
use Rattle.std.specs.FinMap.{FinMap, get}
use Rattle.std.specs.List.{flat_map}
use Rattle.std.proofs.lemmas.Bool.{cases_eq, ne_eqb}
use Rattle.std.proofs.lemmas.Grind.{flat_map-append}
use Rattle.std.proofs.lemmas.List.Elements.{filter-append, All-head, All-tail}
use Rattle.cloud_memory.specs.CdBase.ids.Fp.{Fp}
use Rattle.cloud_memory.specs.CdBase.ids.UserId.{UserId}
use Rattle.cloud_memory.specs.RecordBody.body.PutItem.{PutItem}
use Rattle.cloud_memory.specs.CdBase.place.Place.{Place}
use Rattle.cloud_memory.specs.CdBase.Order.{fp_cmp}
use Rattle.cloud_memory.specs.ShareIndex.Shares.{Shares}
use Rattle.cloud_memory.specs.UserDedup.Owning.{is_among}
use Rattle.cloud_disk.specs.CloudAreas.Checkpoints.{PutRecord, of_user, fps_of, items_in, AreFlagged}
use Rattle.checkpoints.specs.Picking.{batches}
use Rattle.checkpoints.specs.Records.{owned_in, listed_below, listed, items_of, put_of, items_from, puts_from}
use Rattle.checkpoints.proofs.FullBatches.{flat_batched}

-- ---- one user's

of_same : (user : UserId) (bs : List (List PutItem)) → of_user user (map (put_of user.0) bs) ≡ map (put_of user.0) bs
of_same user [] = refl
of_same user (b ∷ bs) =
    ap (λ t. cond t (put_of user.0 b ∷ of_user user (map (put_of user.0) bs)) (of_user user (map (put_of user.0) bs))) (eq-eqb user.0 user.0 refl)
    ∙ ap (λ ps. put_of user.0 b ∷ ps) (of_same user bs)

of_other : (user : UserId) (u : ℕ) (bs : List (List PutItem)) → u ≢ user.0 → of_user user (map (put_of u) bs) ≡ []
of_other user u [] ne = refl
of_other user u (b ∷ bs) ne =
    ap (λ t. cond t (put_of u b ∷ of_user user (map (put_of u) bs)) (of_user user (map (put_of u) bs))) (ne_eqb u user.0 ne) ∙ of_other user u bs ne

abbrev of_both : UserId → List PutRecord → List PutRecord → Type 0
of_both user xs ys = of_user user (xs ++ ys) ≡ of_user user xs ++ of_user user ys

of_append : (user : UserId) (xs ys : List PutRecord) → of_both user xs ys
of_append user xs ys = filter-append (λ (p : PutRecord). p.user.0 == user.0) xs ys

module _ (shares : Shares) (user : UserId) where
  -- no Put is the user's
  of_none : (left u : ℕ) → (user.0 < u) ⊎ (u + left ≤ user.0) → of_user user (puts_from shares left u 0) ≡ []
  of_none zero u apart = refl
  of_none (suc left) u apart =
      of_append user (map (put_of u) (batches (items_from shares u 0))) (puts_from shares left (u + 1) 0)
      ∙ (λ i. of_other user u (batches (items_from shares u 0)) (not_this apart) i ++ of_none left (u + 1) (still apart) i)
    where
      not_this : (user.0 < u) ⊎ (u + suc left ≤ user.0) → u ≢ user.0
      not_this (inl l) e = let same : u ≡ user.0 = e in omega (arith, l, same)
      not_this (inr r) e = let same : u ≡ user.0 = e in omega (arith, r, same)

      still : (user.0 < u) ⊎ (u + suc left ≤ user.0) → (user.0 < u + 1) ⊎ (u + 1 + left ≤ user.0)
      still (inl l) = inl (omega (arith, l))
      still (inr r) = inr (omega (arith, r))

  pub of_all : (left u : ℕ) → u ≤ user.0 → user.0 < u + left → of_user user (puts_from shares left u 0) ≡ map (put_of user.0) (batches (items_from shares user.0 0))
  of_all zero u l m = absurd (omega (arith, l, m))
  of_all (suc left) u l m =
      elim (cases_eq u user.0) [
        | inl e ↦
            let same : u ≡ user.0 = e in
            of_append user (map (put_of u) (batches (items_from shares u 0))) (puts_from shares left (u + 1) 0)
            ∙ (λ i. (ap (λ v. of_user user (map (put_of v) (batches (items_from shares v 0)))) e ∙ of_same user (batches (items_from shares user.0 0))) i
            ++ of_none left (u + 1) (inl (omega (arith, same))) i)
            ∙ append-nil (map (put_of user.0) (batches (items_from shares user.0 0)))
        | inr ne ↦
            of_append user (map (put_of u) (batches (items_from shares u 0))) (puts_from shares left (u + 1) 0)
            ∙ (λ i. of_other user u (batches (items_from shares u 0)) ne i ++ of_all left (u + 1) (below ne) (omega (arith, m)) i)
      ]
    where
      below : u ≢ user.0 → u + 1 ≤ user.0
      below ne = omega (arith, ne, l)

  pub of_nobody : (users : ℕ) → users ≤ user.0 → of_user user (puts_from shares users 0 0) ≡ []
  of_nobody users l = of_none users 0 (inr (omega (arith, l)))

-- ---- their items

items_of_batches : (u : ℕ) (bs : List (List PutItem)) → items_in (map (put_of u) bs) ≡ flat_map (λ (b : List PutItem). b) bs
items_of_batches u [] = refl
items_of_batches u (b ∷ bs) = both b (items_in (map (put_of u) bs)) (flat_map (λ (b : List PutItem). b) bs) (items_of_batches u bs)
  where
    both : (b x y : List PutItem) → x ≡ y → b ++ x ≡ b ++ y
    both b x y e = ap (λ z. b ++ z) e

pub items_are : (u : ℕ) (items : List PutItem) → items_in (map (put_of u) (batches items)) ≡ items
items_are u items = items_of_batches u (batches items) ∙ flat_batched [] items

pub fps_are : (places : FinMap fp_cmp Place) (before fps : List Fp) → fps_of (items_of places before fps) ≡ fps
fps_are places before [] = refl
fps_are places before (fp ∷ fps) = ap (λ xs. fp ∷ xs) (fps_are places (before ++ fp ∷ []) fps)

-- ---- places

flag_is : (b : Bool) (o : Option Place) → IsSome o → IsSome (if b then None else o) ↔ (b ≡ false)
flag_is true o some = (λ no. absurd (true≢false (sym no)), λ no. absurd (true≢false no))
flag_is false o some = (λ _. refl, λ _. some)

flagged : (places : FinMap fp_cmp Place) (before fps : List Fp) → All (λ (fp : Fp). IsSome (get places fp.0)) fps → AreFlagged before (items_of places before fps)
flagged places before [] all = tt
flagged places before (fp ∷ fps) all = (
  flag_is (is_among before fp) (get places fp.0) (All-head (λ (fp : Fp). IsSome (get places fp.0)) fp fps all),
  flagged places (before ++ fp ∷ []) fps (All-tail (λ (fp : Fp). IsSome (get places fp.0)) fp fps all),
)

flags_append : (before : List Fp) (xs ys : List PutItem) → AreFlagged before xs → AreFlagged (before ++ fps_of xs) ys → AreFlagged before (xs ++ ys)
flags_append before [] ys a b = subst (λ (fps : List Fp). AreFlagged fps ys) (append-nil before) b
flags_append before (x ∷ xs) ys a b =
    (a.0, flags_append (before ++ x.fp ∷ []) xs ys a.1 (subst (λ (fps : List Fp). AreFlagged fps ys) (sym (append_assoc before (x.fp ∷ []) (fps_of xs))) b))

pub items_together : (shares : Shares) (u : ℕ) (others : List PutRecord)
    → items_in (map (put_of u) (batches (items_from shares u 0)) ++ others) ≡ items_from shares u 0 ++ items_in others
items_together shares u others =
    flat_map-append (λ (p : PutRecord). p.items) (map (put_of u) (batches (items_from shares u 0))) others
    ∙ ap (λ xs. xs ++ items_in others) (items_are u (items_from shares u 0))

listed_behind : (shares : Shares) (u : ℕ) → listed shares.owner_slots u 0 ++ fps_of (items_from shares u 0) ≡ listed shares.owner_slots (u + 1) 0
listed_behind shares u =
    (λ i. append-nil (listed_below shares.owner_slots u) i ++ fps_are shares.places (listed shares.owner_slots u 0) (owned_in u shares.owner_slots) i)
    ∙ sym (append-nil (listed_below shares.owner_slots u ++ owned_in u shares.owner_slots))
    ∙ ap (λ n. listed shares.owner_slots n 0) (sym (add-one u))

module _ (shares : Shares) (placed : (u : ℕ) → All (λ (fp : Fp). IsSome (get shares.places fp.0)) (owned_in u shares.owner_slots)) where
  pub flags_of : (left u : ℕ) → AreFlagged (listed shares.owner_slots u 0) (items_in (puts_from shares left u 0))
  flags_of zero u = tt
  flags_of (suc left) u =
      let before = listed shares.owner_slots u 0 in
      let items = items_from shares u 0 in
      let others = puts_from shares left (u + 1) 0 in
      subst (AreFlagged before) (sym (items_together shares u others))
      (flags_append before items (items_in others) (flagged shares.places before (owned_in u shares.owner_slots) (placed u))
      (subst (λ (fps : List Fp). AreFlagged fps (items_in others)) (sym (listed_behind shares u)) (flags_of left (u + 1))))
