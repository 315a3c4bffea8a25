-- What the table of placed shares does at each step.
use Rattle.std.proofs.Common.{rules, ◌≡◌, ℕ, ◌+◌, ◌-◌, ◌<◌, ◌≤◌, ◌^◌, Bool, true, false, cond, List, [], ◌∷◌, Option, Some, None, refl, sym, ap, ◌∙◌, subst, arith, inl, inr, true≢false, eqb, eq-eqb}
use Rattle.std.specs.Prelude.{is_some, option_map, ◌==◌, ◌↔◌}
use Rattle.std.proofs.lemmas.List.Sums.{count_by-le-length}
use Rattle.std.specs.Ordering.{is_eq}
use Rattle.std.specs.Cmp.{IsTotalOrder, tied_itself}
use Rattle.std.specs.Cmp.Rules.{comparing}
use Rattle.std.proofs.lemmas.Bool.{cond-true, cases_eq, ne_eqb}
use Rattle.std.specs.FinMap.{FinMap, get, insert, remove, empty, entries, len, len-entries, len-empty, len-insert, get-remove}
use Rattle.pool_map.specs.SlotPool.Pool.{PoolContents, limit_of}
use Rattle.pool_map.specs.declared.KeyedValue.{KeyedValue as Pair}
use Rattle.pool_map.specs.Table.{contents, at_key, value_at, charged, with_value_at, rewritten}
use Rattle.pool_map.specs.MapSums.{sum_by-insert_new, sum_by-insert_over, sum_by-remove, insert-remove, insert-same}
use Rattle.pool_map.specs.Shown.{shown, get-shown, shown-insert, shown-remove, shown-empty}
use Rattle.pool_map.specs.declared.accounts.Accounts.TheVariants.{Shared}
use Rattle.pool_map.specs.Charges.{IsCharged, charged-use, charged-empty, charged-insert, charged-remove, charged-rewritten}
use Rattle.share_index.specs.declared.key.Kept.{Kept}
use Rattle.cd_base.specs.Order.{fp_cmp, fp_exact}
use Rattle.share_index.specs.Counting.{room_of}
use Rattle.share_index.specs.Placing.{zeros, IsPlacing}

pub fp_total : IsTotalOrder fp_cmp
fp_total = search (comparing, rules)

abbrev nobody : List ℕ → ℕ
nobody k = 0

abbrev pub kept_of : ℕ × Kept → Kept
kept_of x = x.1

abbrev zero_of : List ℕ × Kept → ℕ
zero_of e = cond (e.1.owners == 0) 1 0

zero-small : (k : Kept) → cond (k.owners == 0) 1 0 ≤ 1
zero-small k = small (k.owners == 0)
  where
    small : (b : Bool) → cond b 1 0 ≤ 1
    small true = omega arith
    small false = omega arith

zeros-le-len : (m : FinMap fp_cmp Kept) → zeros m ≤ len m
zeros-le-len m = omega (arith, count_by-le-length (λ (e : List ℕ × Kept). e.1.owners == 0) (entries m), len-entries m)

module _ (m : FinMap fp_cmp Kept) (fp : List ℕ) where
  pub zeros-added : (k : Kept) → get m fp ≡ None → zeros (insert m fp k) ≡ cond (k.owners == 0) 1 0 + zeros m
  zeros-added k none = sum_by-insert_new fp_total zero_of m fp k none

  pub zeros-over : (old k : Kept) → get m fp ≡ Some old → cond (old.owners == 0) 1 0 + zeros (insert m fp k) ≡ cond (k.owners == 0) 1 0 + zeros m
  zeros-over old k at = sum_by-insert_over fp_total fp_exact zero_of m fp old k at

  pub zeros-taken : (old : Kept) → get m fp ≡ Some old → cond (old.owners == 0) 1 0 + zeros (remove m fp) ≡ zeros m
  zeros-taken old at = sum_by-remove fp_total fp_exact zero_of m fp old at

  pub len-added : (k : Kept) → get m fp ≡ None → len (insert m fp k) ≡ len m + 1
  len-added k none = len-insert fp_total m fp k ∙ ap (λ o. cond (is_some o) (len m) (len m + 1)) none

  pub len-over : (old k : Kept) → get m fp ≡ Some old → len (insert m fp k) ≡ len m
  len-over old k at = len-insert fp_total m fp k ∙ ap (λ o. cond (is_some o) (len m) (len m + 1)) at

  pub len-taken : (old : Kept) → get m fp ≡ Some old → len (remove m fp) + 1 ≡ len m
  len-taken old at =
      let back = len-insert fp_total (remove m fp) fp old in
      let gone : get (remove m fp) fp ≡ None = get-remove fp_total m fp fp ∙ cond-true _ _ _ (ap is_eq (tied_itself fp_total fp)) in
      let same = ap len (sym (insert-remove fp_total fp_exact m fp old) ∙ insert-same fp_total fp_exact m fp old at) in
      let more : len (insert (remove m fp) fp old) ≡ len (remove m fp) + 1 = back ∙ ap (λ o. cond (is_some o) (len (remove m fp)) (len (remove m fp) + 1)) gone in
      omega arith

module _ (p : PoolContents (Pair (List ℕ) Kept)) (ownerless : ℕ) (is : IsPlacing p ownerless) where
  abbrev table : FinMap fp_cmp (ℕ × Kept)
  table = contents fp_cmp p

  abbrev kept : FinMap fp_cmp Kept
  kept = shown kept_of table

  pub absent : (fp : List ℕ) → get kept fp ≡ None → get table fp ≡ None
  absent fp e = none-mapped (get table fp) (sym (get-shown kept_of table fp) ∙ e)
    where
      none-mapped : (o : Option (ℕ × Kept)) → option_map kept_of o ≡ None → o ≡ None
      none-mapped None e = refl
      none-mapped (Some x) e = absurd (let gone : Some x.1 ≡ None = e in cc)

  pub present : (fp : List ℕ) → is_some (get kept fp) ≡ true → (x : ℕ × Kept) × (get table fp ≡ Some x) × (get kept fp ≡ Some x.1)
  present fp some = go (get table fp) refl (ap is_some (sym (get-shown kept_of table fp)) ∙ some)
    where
      go : (o : Option (ℕ × Kept)) → get table fp ≡ o → is_some (option_map kept_of (get table fp)) ≡ true → (x : ℕ × Kept) × (get table fp ≡ Some x) × (get kept fp ≡ Some x.1)
      go None at gone = absurd (true≢false (sym gone ∙ ap (λ o. is_some (option_map kept_of o)) at))
      go (Some x) at h = (x, at, get-shown kept_of table fp ∙ ap (option_map kept_of) at)

  -- what a look-up in the table says of a fingerprint
  pub kept-read : (fp : List ℕ) (k : Kept) → value_at fp_cmp p fp ≡ Some k → get kept fp ≡ Some k
  kept-read fp k read = get-shown kept_of table fp ∙ read

  pub lacks-read : (fp : List ℕ) → at_key fp_cmp p fp ≡ None → get kept fp ≡ None
  lacks-read fp none = get-shown kept_of table fp ∙ ap (option_map kept_of) none

  -- the value before is what was taken
  pub value-is : (fp : List ℕ) (x : ℕ × Kept) (old : Kept) → get table fp ≡ Some x → Some old ≡ option_map kept_of (get table fp) → old ≡ x.1
  value-is fp x old at e = let two : Some old ≡ Some x.1 = e ∙ ap (option_map kept_of) at in cc

  pub charge-is : charged table 0 ≡ len kept
  charge-is = charged-use fp_total fp_exact nobody kept_of (Shared (room_of p.limits)) table is.charged 0

  pub add-is : (q : PoolContents (Pair (List ℕ) Kept)) (fp : List ℕ) (k : Kept) → contents fp_cmp q ≡ insert table fp (0, k) → shown kept_of (contents fp_cmp q) ≡ insert kept fp k
  add-is q fp k to = ap (shown kept_of) to ∙ shown-insert kept_of fp_total fp_exact table fp (0, k)

  pub set-is : (q : PoolContents (Pair (List ℕ) Kept)) (fp : List ℕ) (k : Kept) (x : ℕ × Kept) → get table fp ≡ Some x → contents fp_cmp q ≡ with_value_at table fp k → shown kept_of (contents fp_cmp q) ≡ insert kept fp k
  set-is q fp k x at to = ap (shown kept_of) (to ∙ ap (rewritten table fp k) at) ∙ shown-insert kept_of fp_total fp_exact table fp (x.0, k)

  pub remove-is : (q : PoolContents (Pair (List ℕ) Kept)) (fp : List ℕ) → contents fp_cmp q ≡ remove table fp → shown kept_of (contents fp_cmp q) ≡ remove kept fp
  remove-is q fp to = ap (shown kept_of) to ∙ shown-remove kept_of fp_total fp_exact table fp

  placing : (q : PoolContents (Pair (List ℕ) Kept)) (ownerless' : ℕ) → q.limits ≡ p.limits → IsCharged (Shared (room_of p.limits)) nobody (contents fp_cmp q) → len (shown kept_of (contents fp_cmp q)) ≤ room_of p.limits → ownerless' ≡ zeros (shown kept_of (contents fp_cmp q)) → IsPlacing q ownerless'
  placing q ownerless' limits charges few counts = record {
    limits = limits ∙ is.limits ∙ ap (λ l. room_of l ∷ []) (sym limits);
    small = subst (λ l. room_of l < 2 ^ 32) (sym limits) is.small;
    charged = subst (λ l. IsCharged (Shared (room_of l)) nobody (contents fp_cmp q)) (sym limits) charges;
    few = subst (λ l. len (shown kept_of (contents fp_cmp q)) ≤ room_of l) (sym limits) few;
    counted = counts;
  }

  pub add-fits : (k : Kept) (z : ℕ) → len kept < room_of p.limits → z ≡ cond (k.owners == 0) 1 0 → ownerless + z < 2 ^ 32
  add-fits k z room e = let a = is.counted in let b = is.small in omega (arith, zeros-le-len kept, zero-small k)

  pub placing-add : (q : PoolContents (Pair (List ℕ) Kept)) (fp : List ℕ) (k : Kept) (z : ℕ) → q.limits ≡ p.limits → contents fp_cmp q ≡ insert table fp (0, k) → get kept fp ≡ None → len kept < room_of p.limits → z ≡ cond (k.owners == 0) 1 0 → IsPlacing q (ownerless + z)
  placing-add q fp k z limits to none room e =
      let after = add-is q fp k to in
      placing q (ownerless + z) limits
      (subst (IsCharged (Shared (room_of p.limits)) nobody) (sym to) (charged-insert fp_total fp_exact nobody (Shared (room_of p.limits)) table is.charged fp 0 k refl tt))
      (let many = ap len after in omega (arith, len-added kept fp k none))
      (let a = is.counted in let many = ap (λ (m : FinMap fp_cmp Kept). zeros m) after in omega (arith, zeros-added kept fp k none))

  pub set-sub-fits : (fp : List ℕ) (old : Kept) (z : ℕ) → get kept fp ≡ Some old → z ≡ cond (old.owners == 0) 1 0 → z ≤ ownerless
  set-sub-fits fp old z at e = let a = is.counted in omega (arith, zeros-taken kept fp old at)

  pub set-add-fits : (fp : List ℕ) (old k : Kept) (z y : ℕ) → get kept fp ≡ Some old → z ≡ cond (old.owners == 0) 1 0 → y ≡ cond (k.owners == 0) 1 0 → (ownerless - z) + y < 2 ^ 32
  set-add-fits fp old k z y at e f = let a = is.counted in let b = is.small in let c = is.few in omega (arith, zeros-over kept fp old k at, zeros-le-len (insert kept fp k), len-over kept fp old k at, set-sub-fits fp old z at e)

  pub placing-set : (q : PoolContents (Pair (List ℕ) Kept)) (fp : List ℕ) (old k : Kept) (x : ℕ × Kept) (z y : ℕ) → q.limits ≡ p.limits → contents fp_cmp q ≡ with_value_at table fp k → get table fp ≡ Some x → get kept fp ≡ Some old → z ≡ cond (old.owners == 0) 1 0 → y ≡ cond (k.owners == 0) 1 0 → IsPlacing q ((ownerless - z) + y)
  placing-set q fp old k x z y limits to at had e f =
      let after = set-is q fp k x at to in
      placing q ((ownerless - z) + y) limits
      (subst (IsCharged (Shared (room_of p.limits)) nobody) (sym to) (charged-rewritten fp_total fp_exact nobody (Shared (room_of p.limits)) table is.charged fp k x at))
      (let many = ap len after in let c = is.few in omega (arith, len-over kept fp old k had))
      (let a = is.counted in let many = ap (λ (m : FinMap fp_cmp Kept). zeros m) after in omega (arith, zeros-over kept fp old k had, set-sub-fits fp old z had e))

  pub placing-remove : (q : PoolContents (Pair (List ℕ) Kept)) (fp : List ℕ) (old : Kept) (z : ℕ) → q.limits ≡ p.limits → contents fp_cmp q ≡ remove table fp → get kept fp ≡ Some old → z ≡ cond (old.owners == 0) 1 0 → IsPlacing q (ownerless - z)
  placing-remove q fp old z limits to had e =
      let after = remove-is q fp to in
      placing q (ownerless - z) limits
      (subst (IsCharged (Shared (room_of p.limits)) nobody) (sym to) (charged-remove fp_total fp_exact nobody (Shared (room_of p.limits)) table is.charged fp))
      (let many = ap len after in let c = is.few in omega (arith, len-taken kept fp old had))
      (let a = is.counted in let many = ap (λ (m : FinMap fp_cmp Kept). zeros m) after in omega (arith, zeros-taken kept fp old had))

  pub spare-is : (n : ℕ) → n + charged table 0 ≡ limit_of p 0 → (n ≡ 0 → len kept ≡ room_of p.limits) × (len kept ≡ room_of p.limits → n ≡ 0) × (0 < n → len kept < room_of p.limits)
  spare-is n e = let c = charge-is in ((λ zero. omega arith), (λ full. omega arith), (λ some. omega arith))

module _ (p : PoolContents (Pair (List ℕ) Kept)) (ownerless : ℕ) (is : IsPlacing p ownerless) (n : ℕ) (spare : n + charged (contents fp_cmp p) 0 ≡ limit_of p 0) where
  pub full-is : (eqb n 0 ≡ true) ↔ (len (shown kept_of (contents fp_cmp p)) ≡ room_of p.limits)
  full-is =
      let all = spare-is p ownerless is n spare in
      elim (cases_eq n 0) [
        | inl z ↦ ((λ t. all.0 z), (λ full. eq-eqb n 0 z))
        | inr some ↦ ((λ t. absurd (true≢false (sym t ∙ ne_eqb n 0 some))), (λ full. absurd (some (all.1 full))))
      ]

  pub open-is : eqb n 0 ≡ false → len (shown kept_of (contents fp_cmp p)) < room_of p.limits
  open-is f =
      let all = spare-is p ownerless is n spare in
      elim (cases_eq n 0) [
        | inl z ↦ absurd (true≢false (sym (eq-eqb n 0 z) ∙ f))
        | inr some ↦ all.2 (omega arith)
      ]

pub placing-empty : (q : PoolContents (Pair (List ℕ) Kept)) → q.limits ≡ room_of q.limits ∷ [] → room_of q.limits < 2 ^ 32 → contents fp_cmp q ≡ empty → IsPlacing q 0
placing-empty q limits small none =
    let after : shown kept_of (contents fp_cmp q) ≡ empty = ap (shown kept_of) none ∙ shown-empty kept_of fp_total fp_exact in
    record {
      limits = limits;
      small = small;
      charged = subst (IsCharged (Shared (room_of q.limits)) nobody) (sym none) (charged-empty fp_total fp_exact nobody (Shared (room_of q.limits)));
      few = let many = ap len after in omega (arith, len-empty fp_cmp Kept);
      counted = let many = ap (λ (m : FinMap fp_cmp Kept). zeros m) after in omega (arith, zeros-le-len empty, len-empty fp_cmp Kept);
    }
