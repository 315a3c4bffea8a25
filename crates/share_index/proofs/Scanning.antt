-- Looking through all slots counts the owners of a fingerprint.
use Rattle.std.proofs.Common.{◌≡◌, ◌≢◌, ℕ, suc, ◌<◌, ◌≤◌, cond, eqb, List, [], ◌∷◌, length, Option, Some, None, get_or, refl, sym, ap, ◌∙◌, subst, arith, sum_by, count_by, eq-eqb, inl, inr, take}
use Rattle.std.specs.Prelude.{option_map}
use Rattle.std.proofs.lemmas.List.Sums.{sum_by-cons}
use Rattle.std.proofs.lemmas.Bool.{cases_eq, ne_eqb, false_from_ne_true}
use Rattle.std.specs.declared.cmp.Ordering.TheVariants.{Equal}
use Rattle.std.specs.Ordering.{eq_by_cmp, is_eq, nat_cmp}
use Rattle.std.specs.Cmp.{tied_itself, nat_cmp_total}
use Rattle.std.specs.Cmp.Lexicographic.{lists_ties, pointwise}
use Rattle.std.specs.FinMap.{find, from_entries, get, empty, entries, len-entries, len-empty, get-from_entries, nat_cmp-IsAntisymmetric}
use Rattle.pool_map.specs.SlotPool.Content.{Content}
use Rattle.pool_map.specs.SlotPool.Content.TheVariants.{Empty, Held}
use Rattle.pool_map.specs.SlotPool.Pool.{PoolContents}
use Rattle.pool_map.specs.declared.KeyedValue.{KeyedValue as Pair}
use Rattle.pool_map.specs.Table.{pairs, contents, pair_of}
use Rattle.pool_map.specs.MapSums.{sum_by-insert_new}
use Rattle.pool_map.specs.Shown.{shown, sum_by-shown}
use Rattle.pool_map.specs.Slots.{slot_of, IsListed, shown_slots, at-shown_slots, length-shown_slots}
use Rattle.pool_map.specs.Charges.{is_eq-at}
use Rattle.pool_map.proofs.Counts.{no_length}
use Rattle.share_index.specs.declared.key.Owner.{Owner}
use Rattle.share_index.specs.Order.{owner_cmp, owner_exact}
use Rattle.cd_base.specs.Order.{fp_cmp}
use Rattle.share_index.specs.Shares.{owners_of}
use Rattle.share_index.specs.Owning.{shows_fp}
use Rattle.share_index.proofs.Counting.{plain}
use Rattle.share_index.proofs.Owning.{owner_total}

abbrev Cells : Type 0
Cells = List (Content (Pair Owner ℕ))

abbrev itself : ℕ → ℕ
itself uses = uses

-- no owner stands in two of these slots
abbrev Apart : Cells → Type 0
Apart cells = (i j a b : ℕ) (e f : Pair Owner ℕ) → get_or cells i Empty ≡ Held a e → get_or cells j Empty ≡ Held b f → owner_cmp e.key f.key ≡ Equal → i ≡ j

rest-apart : (c : Content (Pair Owner ℕ)) (cells : Cells) → Apart (c ∷ cells) → Apart cells
rest-apart c cells apart i j a b e f ie jf tie = let same : suc i ≡ suc j = apart (suc i) (suc j) a b e f ie jf tie in omega arith

-- what ties with no slot is not found
missing : (q : Owner) (cells : Cells) → ((s a : ℕ) (e : Pair Owner ℕ) → get_or cells s Empty ≡ Held a e → owner_cmp q e.key ≢ Equal) → find owner_cmp q (pairs cells) ≡ None
missing q [] h = refl
missing q (Empty ∷ cells) h = missing q cells (λ s. h (suc s))
missing q (Held a e ∷ cells) h =
    ap (λ b. cond b (Some (a, e.value)) (find owner_cmp q (pairs cells))) (false_from_ne_true (eq_by_cmp owner_cmp q e.key) (λ t. h 0 a e refl (is_eq-at _ t)))
    ∙ missing q cells (λ s. h (suc s))

first-new : (a : ℕ) (e : Pair Owner ℕ) (cells : Cells) → Apart (Held a e ∷ cells) → get (from_entries {R = owner_cmp} (pairs cells)) e.key ≡ None
first-new a e cells apart =
    get-from_entries owner_total (pairs cells) e.key
    ∙ missing e.key cells (λ s b f at tie. let no : 0 ≡ suc s = apart 0 (suc s) a b e f refl at tie in omega arith)

some-slot : (cells : Cells) (i a : ℕ) (e : Pair Owner ℕ) → get_or cells i Empty ≡ Held a e → 0 < length cells
some-slot [] i a e at = absurd (let no : Empty ≡ Held a e = at in cc)
some-slot (c ∷ cells) i a e at = omega arith

shown-held : (cells : Cells) (i a : ℕ) (e : Pair Owner ℕ) → get_or cells i Empty ≡ Held a e → slot_of (shown_slots itself cells) i ≡ Some (e.key, e.value)
shown-held cells i a e at = at-shown_slots itself cells i ∙ ap (λ (c : Content (Pair Owner ℕ)). option_map (λ (x : Owner × ℕ). (x.0, itself x.1)) (pair_of c)) at

module _ (fp : List ℕ) where
  abbrev one : Owner × (ℕ × ℕ) → ℕ
  one e = cond (eq_by_cmp fp_cmp e.0.fp fp) 1 0

  abbrev show_one : Option (Owner × ℕ) → ℕ
  show_one o = cond (shows_fp fp o) 1 0

  scan : (cells : Cells) → Apart cells → count_by (shows_fp fp) (shown_slots itself cells) ≡ sum_by one (entries (from_entries {R = owner_cmp} (pairs cells)))
  scan [] apart = sym (ap (sum_by one) (no_length (entries (empty {X = ℕ × ℕ} {R = owner_cmp})) (sym (len-entries (empty {X = ℕ × ℕ} {R = owner_cmp})) ∙ len-empty owner_cmp (ℕ × ℕ))))
  scan (Empty ∷ cells) apart =
      let h = scan cells (rest-apart Empty cells apart) in
      omega (arith, sum_by-cons show_one None (shown_slots itself cells))
  scan (Held a e ∷ cells) apart =
      let h = scan cells (rest-apart (Held a e) cells apart) in
      let put = sum_by-insert_new owner_total one (from_entries {R = owner_cmp} (pairs cells)) e.key (a, e.value) (first-new a e cells apart) in
      omega (arith, sum_by-cons show_one (Some (e.key, e.value)) (shown_slots itself cells))

  -- where the slots list the owners, if there are slots
  pub scan-listed : (p : PoolContents (Pair Owner ℕ)) → (0 < length p.slots → IsListed (shown plain (contents owner_cmp p)) (shown_slots itself p.slots)) → count_by (shows_fp fp) (shown_slots itself p.slots) ≡ owners_of (shown plain (contents owner_cmp p)) fp
  scan-listed p each =
      scan p.slots (λ i j a b e f ie jf tie.
      let key : f.key ≡ e.key = sym (owner_exact e.key f.key tie) in
      let at_i = shown-held p.slots i a e ie in
      let at_j = shown-held p.slots j b f jf ∙ ap (λ k. Some (k, f.value)) key in
      (each (some-slot p.slots i a e ie)).once i j e.key e.value f.value at_i at_j)
      ∙ sym (sum_by-shown plain (λ (e : Owner × ℕ). cond (eq_by_cmp fp_cmp e.0.fp fp) 1 0) (contents owner_cmp p))

-- the test of two fingerprints is that of their order
number-ties : (x y : ℕ) → eqb x y ≡ eq_by_cmp nat_cmp x y
number-ties x y =
    elim (cases_eq x y) [
      | inl e ↦ eq-eqb x y e ∙ sym (ap (λ z. is_eq (nat_cmp x z)) (sym e) ∙ ap is_eq (tied_itself nat_cmp_total x))
      | inr n ↦ ne_eqb x y n ∙ sym (false_from_ne_true _ (λ t. n (nat_cmp-IsAntisymmetric x y (is_eq-at _ t))))
    ]

pub same-test : (xs ys : List ℕ) → pointwise eqb xs ys ≡ eq_by_cmp fp_cmp xs ys
same-test xs ys = lists_ties nat_cmp number-ties xs ys

pub take-all : {A : Type 0} (xs : List A) → take (length xs) xs ≡ xs
take-all [] = refl
take-all (x ∷ xs) = ap (λ l. x ∷ l) (take-all xs)

-- a slot that holds an owner shows it
pub shows-held : (cells : Cells) (s : ℕ) (fp : List ℕ) (owner : Owner) (uses : ℕ) → Some (owner, uses) ≡ pair_of (get_or cells s Empty) → eq_by_cmp fp_cmp owner.fp fp ≡ shows_fp fp (slot_of (shown_slots itself cells) s)
shows-held cells s fp owner uses e =
    ap (λ (o : Option (Owner × ℕ)). shows_fp fp (option_map (λ (x : Owner × ℕ). (x.0, itself x.1)) o)) e
    ∙ ap (shows_fp fp) (sym (at-shown_slots itself cells s))

-- and so does the loop over all slots
pub scanned : (p : PoolContents (Pair Owner ℕ)) (fp : List ℕ) (count slot end : ℕ) → count ≡ count_by (shows_fp fp) (take slot (shown_slots itself p.slots)) → (0 < slot → IsListed (shown plain (contents owner_cmp p)) (shown_slots itself p.slots)) → end ≡ length p.slots → slot ≤ end → end ≤ slot → count ≡ owners_of (shown plain (contents owner_cmp p)) fp
scanned p fp count slot end counted each ends a b =
    let all : slot ≡ length (shown_slots itself p.slots) = omega (arith, length-shown_slots itself p.slots) in
    let many : slot ≡ length p.slots = omega arith in
    counted ∙ ap (λ n. count_by (shows_fp fp) (take n (shown_slots itself p.slots))) all ∙ ap (count_by (shows_fp fp)) (take-all (shown_slots itself p.slots))
    ∙ scan-listed fp p (λ some. each (subst (λ n. 0 < n) (sym many) some))
