-- What another value at a present key does to a table.
use Rattle.std.proofs.Common.{◌≡◌, ℕ, ◌+◌, ◌<◌, true, cond, List, length, get_or, set, refl, sym, ap, ◌∙◌, subst, arith, Some, inl, inr, length-set, count_by}
use Rattle.std.proofs.lemmas.List.{get_or-set_same, get_or-set_other, get_or_past}
use Rattle.std.proofs.lemmas.List.Sums.{sum_by-set}
use Rattle.std.proofs.lemmas.Bool.{cases_eq, cases_lt, cases_Bool, cond-true, cond-false}
use Rattle.std.specs.declared.cmp.Ordering.{Ordering}
use Rattle.std.specs.Ordering.{eq_by_cmp}
use Rattle.std.specs.Cmp.{IsTotalOrder, tied_itself}
use Rattle.std.specs.FinMap.{from_entries, get, insert, get-from_entries, get-insert, same_map, IsAntisymmetric}
use Rattle.slot_pool.specs.declared.Content.{Content}
use Rattle.slot_pool.specs.declared.Content.TheVariants.{Empty, Held}
use Rattle.slot_pool.specs.Pool.{PoolContents, IsHeld, value_of, with_value, with_content}
use Rattle.pool_map.specs.declared.KeyedValue.{KeyedValue}
use Rattle.pool_map.specs.Table.{pairs, is_held, with_value_at, rewritten, Rewrites}
use Rattle.pool_map.specs.Chains.{IsHashed, HasKey, bucket}
use Rattle.pool_map.specs.Index.{IsOrdered, IsRing}
use Rattle.pool_map.proofs.Pairs.{ties, ties-held, find-some, find-set_other, is_eq-from, Equal-from}
use Rattle.pool_map.proofs.Order.{held-parts, same-account}
use Rattle.pool_map.proofs.Steps.{read-value}

module _ {K W : Type 0} where
  -- the content that the code writes
  pub new-content : (c : Content (KeyedValue K W)) (a : ℕ) (e f : KeyedValue K W) (v w : W) → c ≡ Held a e → value_of c ≡ Some f → v ≡ w → with_value c (record { key = f.key; value = v }) ≡ Held a (record { key = e.key; value = w })
  new-content c a e f v w is read given =
      let same : e ≡ f = read-value c a e f is read in
      let x : KeyedValue K W = record { key = f.key; value = v } in
      let write : K → W → Content (KeyedValue K W) = λ k y. Held a (record { key = k; value = y }) in
      ap (λ y. with_value y x) is ∙ ap (λ k. write k v) (ap (λ (y : KeyedValue K W). y.key) (sym same)) ∙ ap (write e.key) given

module _ {K W : Type 0} (R : K → K → Ordering) (total : IsTotalOrder R) (exact : IsAntisymmetric R) (word : K → ℕ) (cells : List (Content (KeyedValue K W))) (heads next : List ℕ) (hashed : IsHashed R word cells heads next) (key : K) (n : ℕ) (here : HasKey R cells key n) (v : W) where
  abbrev entry : KeyedValue K W
  entry = record { key = here.entry.key; value = v }

  abbrev new : Content (KeyedValue K W)
  new = Held here.account entry

  within : n < length cells
  within = elim (cases_lt n (length cells)) [ inl l ↦ l | inr g ↦ absurd (subst IsHeld (get_or_past cells n Empty g) (subst IsHeld (sym here.holds) tt)) ]

  same-key : key ≡ here.entry.key
  same-key = sym (exact here.entry.key key here.ties)

  written : get_or (set cells n new) n Empty ≡ new
  written = get_or-set_same cells n new Empty within

  -- each pair had its key and its account before
  before : (t b : ℕ) (f : KeyedValue K W) → get_or (set cells n new) t Empty ≡ Held b f → (g : KeyedValue K W) × (get_or cells t Empty ≡ Held b g) × (g.key ≡ f.key)
  before t b f at =
      elim (cases_eq t n) [
        | inl same ↦
            let two = same-account here.account b entry f (sym written ∙ ap (λ y. get_or (set cells n new) y Empty) (sym same) ∙ at) in
            (here.entry, ap (λ y. get_or cells y Empty) same ∙ here.holds ∙ ap (λ y. Held y here.entry) two.0, ap (λ (y : KeyedValue K W). y.key) two.1)
        | inr other ↦ (f, sym (get_or-set_other cells n t new Empty other) ∙ at, refl)
      ]

  pub rewrite-hashed : IsHashed R word (set cells n new) heads next
  rewrite-hashed = record {
    buckets = hashed.buckets;
    lengths = hashed.lengths ∙ sym (length-set cells n new);
    small = let x = hashed.small in let y = length-set cells n new in omega arith;
    chain = λ b l.
        let old = hashed.chain b l in
        record {
          slots = old.slots;
          path = old.path;
          once = old.once;
          members = λ t m.
              let x = old.members t m in
              elim (cases_eq t n) [
                | inl same ↦
                    let two = same-account here.account x.0 here.entry x.1 (sym here.holds ∙ ap (λ y. get_or cells y Empty) (sym same) ∙ x.2) in
                    (here.account, entry, ap (λ y. get_or (set cells n new) y Empty) same ∙ written, ap (λ (y : KeyedValue K W). bucket word (length heads) y.key) two.1 ∙ x.3)
                | inr other ↦ (x.0, x.1, get_or-set_other cells n t new Empty other ∙ x.2, x.3)
              ];
          complete = λ t b' f at in_b. let g = before t b' f at in old.complete t b' g.0 g.1 (ap (bucket word (length heads)) g.2 ∙ in_b);
        };
    apart = λ i j a b f g fi gj tie.
        let x = before i a f fi in
        let y = before j b g gj in
        hashed.apart i j a b x.0 y.0 x.1 y.1 (ap (λ k. R k y.0.key) x.2 ∙ ap (R f.key) y.2 ∙ tie);
  }

  pub rewrite-count : count_by is_held cells ≡ count_by is_held (set cells n new)
  rewrite-count =
      let counts = sum_by-set (λ (c : Content (KeyedValue K W)). cond (is_held c) 1 0) cells n new Empty within in
      let one : cond {A = ℕ} (is_held (get_or cells n Empty)) 1 0 ≡ 1 = ap (λ (c : Content (KeyedValue K W)). cond (is_held c) 1 0) here.holds in
      omega arith

  -- the order of the keys is as it was
  pub rewrite-ordered : (links : List ℕ) → IsOrdered R cells links → IsOrdered R (set cells n new) links
  rewrite-ordered links ordered =
      let o = ordered.order in
      let old = ordered.index in
      let same_length = length-set cells n new in
      record {
        order = o;
        index = record {
          live = λ i l. elim (cases_eq (get_or o i 0) n) [
            | inl same ↦ subst IsHeld (sym (ap (λ t. get_or (set cells n new) t Empty) same ∙ written)) tt
            | inr other ↦ subst IsHeld (sym (get_or-set_other cells n (get_or o i 0) new Empty other)) (old.live i l)
          ];
          complete = λ s held.
              let p = held-parts _ held in
              let x = before s p.0 p.1 p.2 in
              old.complete s (subst IsHeld (sym x.1) tt);
          rising = λ i j a b e f less lj at_i at_j.
              let x = before (get_or o i 0) a e at_i in
              let y = before (get_or o j 0) b f at_j in
              ap (λ k. R k f.key) (sym x.2) ∙ ap (R x.0.key) (sym y.2) ∙ old.rising i j a b x.0 y.0 less lj x.1 y.1;
          counted = old.counted ∙ rewrite-count;
          small = let x = old.small in omega arith;
        };
        lengths = ordered.lengths ∙ ap (λ m. m + 1) (sym same_length);
        ring = subst (λ m. IsRing m links o) (sym same_length) ordered.ring;
      }

  alone : (q : K) → q ≡ key → (t : ℕ) → ties R q (get_or (set cells n new) t Empty) ≡ true → t ≡ n
  alone q is t tie =
      let h = ties-held R q (get_or (set cells n new) t Empty) tie in
      let x = before t h.0 h.1 h.2 in
      let same : x.0.key ≡ here.entry.key = x.2 ∙ sym (exact q h.1.key h.3) ∙ is ∙ same-key in
      hashed.apart t n h.0 here.account x.0 here.entry x.1 here.holds (ap (λ k. R k here.entry.key) same ∙ tied_itself total here.entry.key)

  alone-before : (t : ℕ) → ties R key (get_or cells t Empty) ≡ true → t ≡ n
  alone-before t tie =
      let h = ties-held R key (get_or cells t Empty) tie in
      let same : h.1.key ≡ here.entry.key = sym (exact key h.1.key h.3) ∙ same-key in
      hashed.apart t n h.0 here.account h.1 here.entry h.2 here.holds (ap (λ k. R k here.entry.key) same ∙ tied_itself total here.entry.key)

  ties-key : (q : K) → eq_by_cmp R q here.entry.key ≡ eq_by_cmp R q key
  ties-key q = ap (eq_by_cmp R q) (sym same-key)

  found : get (from_entries {R = R} (pairs cells)) key ≡ Some (here.account, here.entry.value)
  found = get-from_entries total (pairs cells) key ∙ find-some R key cells n here.account here.entry within here.holds (is_eq-from _ (ap (R key) (sym same-key) ∙ tied_itself total key)) alone-before

  pub rewrite-contents : from_entries {R = R} (pairs (set cells n new)) ≡ with_value_at (from_entries (pairs cells)) key v
  rewrite-contents =
      same_map total exact _ (insert (from_entries (pairs cells)) key (here.account, v)) (λ q.
      let left = get-from_entries total (pairs (set cells n new)) q in
      let right = get-insert total (from_entries {R = R} (pairs cells)) key (here.account, v) q in
      let old = get-from_entries total (pairs cells) q in
      elim (cases_Bool (eq_by_cmp R q key)) [
        | inl t ↦ left ∙ find-some R q (set cells n new) n here.account entry (let y = length-set cells n new in let l = within in omega arith) written (ties-key q ∙ t) (alone q (exact q key (Equal-from _ t))) ∙ sym (right ∙ cond-true _ _ _ t)
        | inr f ↦ left ∙ find-set_other R q cells n new (ap (ties R q) here.holds ∙ ties-key q ∙ f) (ties-key q ∙ f) ∙ sym (right ∙ cond-false _ _ _ f ∙ old)
      ])
      ∙ ap (rewritten (from_entries (pairs cells)) key v) (sym found)

pub rewrites : {K W : Type 0} (R : K → K → Ordering) (p : PoolContents (KeyedValue K W)) (key : K) (n : ℕ) (here : HasKey R p.slots key n) (v : W) (c : Content (KeyedValue K W)) → c ≡ Held here.account (record { key = here.entry.key; value = v }) → Rewrites R p (with_content p n c) key v
rewrites R p key n here v c is = record {
  slot = n;
  account = here.account;
  entry = here.entry;
  was = here.holds;
  ties = here.ties;
  now_is = ap (with_content p n) is;
}
