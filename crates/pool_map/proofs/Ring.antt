-- The ring of a sorted table: how links follow the order, how a search goes along them, and how they change with the order.
use Rattle.std.proofs.Common.{◌≡◌, ◌≢◌, ℕ, zero, suc, ◌+◌, ◌<◌, ◌≤◌, ◌^◌, List, [], length, get_or, set, replicate, refl, sym, ap, ◌∙◌, subst, arith, Some, inl, inr, length-set, count_by}
use Rattle.std.specs.List.{insert, remove}
use Rattle.std.proofs.lemmas.List.{get_or-set_same, get_or-set_other, get_or_past, get_or_default, length-replicate}
use Rattle.std.proofs.lemmas.List.Sums.{count_by-le-length}
use Rattle.std.proofs.lemmas.List.Edits.{length-insert, get_or-insert_below, get_or-insert_at, get_or-insert_above, length-remove, get_or-remove_below, get_or-remove_above}
use Rattle.std.proofs.lemmas.Bool.{cases_eq, cases_lt, cases_order}
use Rattle.std.specs.declared.cmp.Ordering.{Ordering}
use Rattle.std.specs.declared.cmp.Ordering.TheVariants.{Less, Equal, Greater}
use Rattle.std.specs.Cmp.{IsTotalOrder}
use Rattle.slot_pool.specs.declared.Content.{Content}
use Rattle.slot_pool.specs.declared.Content.TheVariants.{Empty, Held}
use Rattle.slot_pool.specs.Pool.{IsHeld, value_of}
use Rattle.pool_map.specs.declared.KeyedValue.{KeyedValue}
use Rattle.pool_map.specs.Table.{is_held}
use Rattle.pool_map.specs.Chains.{HasKey}
use Rattle.pool_map.specs.Index.{IsIndex, IsRing, IsOrdered, IsStart, IsSeek, IsBeforeKey, IsBeforeGap, IsLeastAbove, HasNoneAbove, before, placed}
use Rattle.pool_map.proofs.Order.{held-parts, held-from, same-account, order-once, place-in-range, below-from, above-from, index-insert, index-remove}
use Rattle.pool_map.proofs.Steps.{Splits, gap-splits, place-splits, none-above, least-above, fresh-index}

-- the links with a slot put in after p
abbrev pub linked : List ℕ → ℕ → ℕ → List ℕ
linked next p s = set (set next s (get_or next p 0)) p s

at_zero : (i : ℕ) → i ≤ 0 → i ≡ 0
at_zero i l = omega arith

module _ {K W : Type 0} (R : K → K → Ordering) (total : IsTotalOrder R) (cells : List (Content (KeyedValue K W))) (order : List ℕ) (index : IsIndex R cells order) where
  -- a place's slot, whatever is read past the end
  pub order-below : (i d : ℕ) → i < length order → get_or order i d < length cells
  order-below i d l = subst (λ x. x < length cells) (get_or_default order i 0 d l) (place-in-range R total cells order index i l)

  -- what stands before a place is below the number of links
  pub before-below : (i : ℕ) → i ≤ length order → before (length cells) order i ≤ length cells
  before-below zero l = omega arith
  before-below (suc i) l = let b = order-below i (length cells) (omega arith) in omega arith

  once-past : (i j : ℕ) → i < j → j < length order → get_or order i (length cells) ≢ get_or order j (length cells)
  once-past i j ij lj same =
      order-once R total cells order index i j ij lj (get_or_default order i 0 (length cells) (omega arith) ∙ same ∙ get_or_default order j (length cells) 0 lj)

  -- nothing stands before two places
  pub before-apart : (i j : ℕ) → i ≤ length order → j ≤ length order → i ≢ j → before (length cells) order i ≢ before (length cells) order j
  before-apart zero zero li lj ne same = ne refl
  before-apart zero (suc j) li lj ne same = let b = order-below j (length cells) (omega arith) in let e : length cells ≡ get_or order j (length cells) = same in omega arith
  before-apart (suc i) zero li lj ne same = let b = order-below i (length cells) (omega arith) in let e : get_or order i (length cells) ≡ length cells = same in omega arith
  before-apart (suc i) (suc j) li lj ne same =
      elim (cases_order i j) [
        | inl e ↦ ne (ap suc e)
        | inr (inl l) ↦ once-past i j l (omega arith) same
        | inr (inr g) ↦ once-past j i g (omega arith) (sym same)
      ]

  -- the slots in the order are as many as the slots at most
  pub order-short : length order ≤ length cells
  order-short = let c = index.counted in let most = count_by-le-length is_held cells in omega arith

  module _ (next : List ℕ) (lengths : length next ≡ length cells + 1) (ring : IsRing (length cells) next order) where
    module _ (at s : ℕ) (in_range : at ≤ length order) (ls : s < length cells) (empty : get_or cells s Empty ≡ Empty) where
      not-new : (i : ℕ) → i ≤ length order → before (length cells) order i ≢ s
      not-new zero l same = let e : length cells ≡ s = same in omega arith
      not-new (suc i) l same =
          let same' : get_or order i 0 ≡ s = get_or_default order i 0 (length cells) (omega arith) ∙ same in
          subst IsHeld (ap (λ t. get_or cells t Empty) same' ∙ empty) (index.live i (omega arith))

      before-front : (i : ℕ) → i ≤ at → before (length cells) (insert order at s) i ≡ before (length cells) order i
      before-front zero l = refl
      before-front (suc i) l = get_or-insert_below order at s (length cells) i (omega arith) in_range

      before-new : (i : ℕ) → i ≡ at + 1 → before (length cells) (insert order at s) i ≡ s
      before-new zero e = absurd (omega arith)
      before-new (suc i) e = let e' : i ≡ at = omega arith in ap (λ k. get_or (insert order at s) k (length cells)) e' ∙ get_or-insert_at order at s (length cells) in_range

      before-back : (j : ℕ) → at < j → before (length cells) (insert order at s) (suc j) ≡ before (length cells) order j
      before-back zero l = absurd (omega arith)
      before-back (suc k) l =
          let e : suc k ≡ k + 1 = omega arith in
          ap (λ x. get_or (insert order at s) x (length cells)) e ∙ get_or-insert_above order at s (length cells) k (omega arith) in_range

      linked-other : (x : ℕ) → x ≢ before (length cells) order at → x ≢ s → get_or (linked next (before (length cells) order at) s) x 0 ≡ get_or next x 0
      linked-other x np ns = get_or-set_other (set next s (get_or next (before (length cells) order at) 0)) (before (length cells) order at) x s 0 np ∙ get_or-set_other next s x (get_or next (before (length cells) order at) 0) 0 ns

      linked-new : get_or (linked next (before (length cells) order at) s) s 0 ≡ get_or next (before (length cells) order at) 0
      linked-new =
          get_or-set_other (set next s (get_or next (before (length cells) order at) 0)) (before (length cells) order at) s s 0 (λ e. not-new at in_range (sym e))
          ∙ get_or-set_same next s (get_or next (before (length cells) order at) 0) 0 (omega arith)

      linked-before : get_or (linked next (before (length cells) order at) s) (before (length cells) order at) 0 ≡ s
      linked-before =
          let b = before-below at in_range in
          let n = length-set next s (get_or next (before (length cells) order at) 0) in
          get_or-set_same (set next s (get_or next (before (length cells) order at) 0)) (before (length cells) order at) s 0 (omega arith)

      pub ring-insert : IsRing (length cells) (linked next (before (length cells) order at) s) (insert order at s)
      ring-insert i li =
          let len : length (insert order at s) ≡ length order + 1 = length-insert order at s in_range in
          let new = linked next (before (length cells) order at) s in
          elim (cases_order i at) [
            | inl e ↦
                ap (λ x. get_or new x 0) (before-front i (omega arith) ∙ ap (before (length cells) order) e) ∙ linked-before
                ∙ sym (ap (λ k. get_or (insert order at s) k (length cells)) e ∙ get_or-insert_at order at s (length cells) in_range)
            | inr (inl l) ↦
                ap (λ x. get_or new x 0) (before-front i (omega arith))
                ∙ linked-other (before (length cells) order i) (before-apart i at (omega arith) in_range (λ e. omega arith)) (not-new i (omega arith))
                ∙ ring i (omega arith)
                ∙ sym (get_or-insert_below order at s (length cells) i l in_range)
            | inr (inr g) ↦ back i g (omega arith)
          ]
        where
          behind : (j : ℕ) → at ≤ j → get_or (insert order at s) (suc j) (length cells) ≡ get_or order j (length cells)
          behind j l =
              let e : suc j ≡ j + 1 = omega arith in
              ap (λ x. get_or (insert order at s) x (length cells)) e ∙ get_or-insert_above order at s (length cells) j l in_range

          back : (i : ℕ) → at < i → i ≤ length order + 1 → get_or (linked next (before (length cells) order at) s) (before (length cells) (insert order at s) i) 0 ≡ get_or (insert order at s) i (length cells)
          back zero g l = absurd (omega arith)
          back (suc j) g l =
              elim (cases_eq j at) [
                | inl e ↦
                    ap (λ x. get_or (linked next (before (length cells) order at) s) x 0) (before-new (suc j) (omega arith)) ∙ linked-new ∙ ring at in_range
                    ∙ sym (behind j (omega arith) ∙ ap (λ k. get_or order k (length cells)) e)
                | inr ne ↦
                    ap (λ x. get_or (linked next (before (length cells) order at) s) x 0) (before-back j (omega arith))
                    ∙ linked-other (before (length cells) order j) (before-apart j at (omega arith) in_range ne) (not-new j (omega arith))
                    ∙ ring j (omega arith)
                    ∙ sym (behind j (omega arith))
              ]

    module _ (at : ℕ) (la : at < length order) where
      -- the slot at the place comes after the one before it
      pub next-at : (d : ℕ) → get_or next (before (length cells) order at) 0 ≡ get_or order at d
      next-at d = ring at (omega arith) ∙ get_or_default order at (length cells) d la

      -- the links without the slot at the place
      abbrev unlinked : List ℕ
      unlinked = set next (before (length cells) order at) (get_or next (get_or order at (length cells)) 0)

      unlinked-other : (x : ℕ) → x ≢ before (length cells) order at → get_or unlinked x 0 ≡ get_or next x 0
      unlinked-other x ne = get_or-set_other next (before (length cells) order at) x (get_or next (get_or order at (length cells)) 0) 0 ne

      back-removed : (k : ℕ) → at ≤ k → get_or (remove order at) k (length cells) ≡ get_or order (suc k) (length cells)
      back-removed k l = let e : k + 1 ≡ suc k = omega arith in get_or-remove_above order at (length cells) k l la ∙ ap (λ x. get_or order x (length cells)) e

      front-before : (i : ℕ) → i ≤ at → before (length cells) (remove order at) i ≡ before (length cells) order i
      front-before zero l = refl
      front-before (suc i) l = get_or-remove_below order at (length cells) i (omega arith) la

      back-before : (i : ℕ) → at < i → before (length cells) (remove order at) i ≡ before (length cells) order (suc i)
      back-before zero l = absurd (omega arith)
      back-before (suc i) l = back-removed i (omega arith)

      pub ring-remove : IsRing (length cells) unlinked (remove order at)
      ring-remove i li =
          let len : length (remove order at) + 1 ≡ length order = length-remove order at la in
          elim (cases_order i at) [
            | inl e ↦
                let b = before-below at (omega arith) in
                ap (λ x. get_or unlinked x 0) (front-before i (omega arith) ∙ ap (before (length cells) order) e)
                ∙ get_or-set_same next (before (length cells) order at) (get_or next (get_or order at (length cells)) 0) 0 (omega arith)
                ∙ ring (suc at) (omega arith)
                ∙ sym (ap (λ k. get_or (remove order at) k (length cells)) e ∙ back-removed at (omega arith))
            | inr (inl l) ↦
                ap (λ x. get_or unlinked x 0) (front-before i (omega arith))
                ∙ unlinked-other (before (length cells) order i) (before-apart i at (omega arith) (omega arith) (λ e. omega arith))
                ∙ ring i (omega arith)
                ∙ sym (get_or-remove_below order at (length cells) i l la)
            | inr (inr g) ↦
                ap (λ x. get_or unlinked x 0) (back-before i g)
                ∙ unlinked-other (before (length cells) order (suc i)) (before-apart (suc i) at (omega arith) (omega arith) (λ e. omega arith))
                ∙ ring (suc i) (omega arith)
                ∙ sym (back-removed i (omega arith))
          ]

-- the slot is that of the least greater key, and the number of slots where there is none
pub record IsNext {K W : Type 0} (R : K → K → Ordering) (cells : List (Content (KeyedValue K W))) (key : K) (at : ℕ) : Type 0 where
  pub order : List ℕ
  pub index : IsIndex R cells order
  pub place : ℕ
  pub splits : Splits R cells order key place
  pub here : at ≡ get_or order place (length cells)

module _ {K W : Type 0} (R : K → K → Ordering) (total : IsTotalOrder R) where
  module _ (cells : List (Content (KeyedValue K W))) (next : List ℕ) (key : K) where
    pub start-seek : (start : ℕ) → IsOrdered R cells next → IsStart R cells key start → IsSeek R cells next key start 0
    start-seek start o (inl e) = record {
      ordered = o;
      place = 0;
      in_range = omega arith;
      here = e;
      smaller = λ i l. absurd (omega arith);
      steps = omega arith;
    }
    start-seek start o (inr h) =
        let found = o.index.complete start (held-from _ h.account h.entry h.holds) in
        let is : placed R cells o.order found.0 ≡ Held h.account h.entry = ap (λ t. get_or cells t Empty) found.2 ∙ h.holds in
        let l = found.1 in
        record {
          ordered = o;
          place = suc found.0;
          in_range = omega arith;
          here = sym found.2 ∙ get_or_default o.order found.0 0 (length cells) l;
          smaller = λ i li. below-from R total cells o.order o.index key found.0 i h.account h.entry l (omega arith) is h.smaller;
          steps = omega arith;
        }

    module _ (at step : ℕ) (seek : IsSeek R cells next key at step) where
      abbrev order : List ℕ
      order = seek.ordered.order

      -- a link to follow
      pub seek-below : at < length next
      seek-below = let b = before-below R total cells order seek.ordered.index seek.place seek.in_range in let n = seek.ordered.lengths in let h = seek.here in omega arith

      -- what comes next
      seek-next : get_or next at 0 ≡ get_or order seek.place (length cells)
      seek-next = ap (λ x. get_or next x 0) seek.here ∙ seek.ordered.ring seek.place seek.in_range

      last : seek.place ≡ length order → IsBeforeGap R cells next key at
      last e = record {
        ordered = seek.ordered;
        place = seek.place;
        here = seek.here;
        gap = record {
          in_range = seek.in_range;
          smaller = seek.smaller;
          greater = λ i l li. absurd (omega arith);
        };
      }

      pub seek-end : get_or next at 0 ≡ length cells → IsBeforeGap R cells next key at
      seek-end end =
          let h = seek.in_range in
          let after = seek-next in
          elim (cases_lt seek.place (length order)) [
            | inl l ↦ absurd (let b = order-below R total cells order seek.ordered.index seek.place (length cells) l in omega arith)
            | inr g ↦ last (omega arith)
          ]

      pub seek-out : length cells ≤ step → IsBeforeGap R cells next key at
      seek-out out = let short = order-short R total cells order seek.ordered.index in let s = seek.steps in let h = seek.in_range in last (omega arith)

      module _ (more : get_or next at 0 ≢ length cells) where
        pub seek-in : seek.place < length order
        seek-in = elim (cases_lt seek.place (length order)) [ inl l ↦ l | inr g ↦ absurd (more (seek-next ∙ get_or_past order seek.place (length cells) g)) ]

        pub seek-live : (a : ℕ) × (e : KeyedValue K W) × (get_or cells (get_or next at 0) Empty ≡ Held a e)
        seek-live =
            let is : get_or next at 0 ≡ get_or order seek.place 0 = seek-next ∙ get_or_default order seek.place (length cells) 0 seek-in in
            held-parts _ (subst (λ t. IsHeld (get_or cells t Empty)) (sym is) (seek.ordered.index.live seek.place seek-in))

        seek-placed : (a : ℕ) (e : KeyedValue K W) → get_or cells (get_or next at 0) Empty ≡ Held a e → placed R cells order seek.place ≡ Held a e
        seek-placed a e is = ap (λ t. get_or cells t Empty) (sym (seek-next ∙ get_or_default order seek.place (length cells) 0 seek-in)) ∙ is

        module _ (a : ℕ) (e : KeyedValue K W) (is : get_or cells (get_or next at 0) Empty ≡ Held a e) where
          pub seek-step : R e.key key ≡ Less → IsSeek R cells next key (get_or next at 0) (step + 1)
          seek-step less =
              let l = seek-in in
              let s = seek.steps in
              record {
                ordered = seek.ordered;
                place = suc seek.place;
                in_range = omega arith;
                here = seek-next;
                smaller = λ i li. below-from R total cells order seek.ordered.index key seek.place i a e l (omega arith) (seek-placed a e is) less;
                steps = omega arith;
              }

          pub seek-found : R e.key key ≡ Equal → IsBeforeKey R cells next key at
          seek-found equal = record {
            ordered = seek.ordered;
            place = seek.place;
            here = seek.here;
            found = record {
              in_range = seek-in;
              has_key = λ b f at_place. ap (λ (x : KeyedValue K W). R x.key key) (same-account b a f e (sym at_place ∙ seek-placed a e is)).1 ∙ equal;
            };
          }

          pub seek-gap : R e.key key ≡ Greater → IsBeforeGap R cells next key at
          seek-gap greater = record {
            ordered = seek.ordered;
            place = seek.place;
            here = seek.here;
            gap = record {
              in_range = seek.in_range;
              smaller = seek.smaller;
              greater = λ i l li. above-from R total cells order seek.ordered.index key seek.place i a e l li (seek-placed a e is) greater;
            };
          }

  module _ (cells : List (Content (KeyedValue K W))) (next : List ℕ) (key : K) (at : ℕ) where
    module _ (h : IsBeforeKey R cells next key at) where
      pub key-below : at < length next
      key-below =
          let l = h.found.in_range in
          let b = before-below R total cells h.ordered.order h.ordered.index h.place (omega arith) in
          let n = h.ordered.lengths in
          let e = h.here in
          omega arith

      -- the key's slot, whatever is read past the end
      pub key-slot : (d : ℕ) → get_or next at 0 ≡ get_or h.ordered.order h.place d
      key-slot d = ap (λ x. get_or next x 0) h.here ∙ next-at R total cells h.ordered.order h.ordered.index next h.ordered.lengths h.ordered.ring h.place h.found.in_range d

      pub key-cell : get_or next at 0 < length cells
      key-cell = subst (λ x. x < length cells) (sym (key-slot 0)) (place-in-range R total cells h.ordered.order h.ordered.index h.place h.found.in_range)

      -- what was read there is the key's slot
      pub key-read : (n : ℕ) → n ≡ get_or next at n → n ≡ get_or h.ordered.order h.place n
      key-read n read = read ∙ get_or_default next at n 0 key-below ∙ key-slot n

      pub key-number : (n : ℕ) → n ≡ get_or next at n → n < length cells
      key-number n read = subst (λ x. x < length cells) (sym (read ∙ get_or_default next at n 0 key-below)) key-cell

      pub key-live : (n : ℕ) → n ≡ get_or next at 0 → IsHeld (get_or cells n Empty)
      key-live n read = subst (λ t. IsHeld (get_or cells t Empty)) (sym (read ∙ key-slot 0)) (h.ordered.index.live h.place h.found.in_range)

      pub key-has : HasKey R cells key (get_or next at 0)
      key-has =
          let p = held-parts _ (h.ordered.index.live h.place h.found.in_range) in
          record {
            account = p.0;
            entry = p.1;
            holds = ap (λ t. get_or cells t Empty) (key-slot 0) ∙ p.2;
            ties = h.found.has_key p.0 p.1 p.2;
          }

      -- what comes after the key's slot
      pub key-after : get_or next (get_or next at 0) 0 ≡ get_or h.ordered.order (h.place + 1) (length cells)
      key-after =
          let l = h.found.in_range in
          let e : suc h.place ≡ h.place + 1 = omega arith in
          ap (λ x. get_or next x 0) (key-slot (length cells)) ∙ h.ordered.ring (suc h.place) (omega arith) ∙ ap (λ k. get_or h.ordered.order k (length cells)) e

      -- one slot less holds a pair
      pub count-remove : count_by is_held (set cells (get_or next at 0) Empty) + 1 ≡ count_by is_held cells
      count-remove =
          let o = h.ordered in
          let l = h.found.in_range in
          let index = index-remove R total cells o.order o.index h.place l in
          let now : length (remove o.order h.place) ≡ count_by is_held (set cells (get_or next at 0) Empty) = index.counted ∙ ap (λ s. count_by is_held (set cells s Empty)) (sym (key-slot 0)) in
          let was = o.index.counted in
          let n = length-remove o.order h.place l in
          omega arith

      -- what was read after the key's slot comes next
      pub key-next : (n m : ℕ) → n ≡ get_or next at n → m ≡ get_or next n m → IsNext R cells key m
      key-next n m first second =
          let o = h.ordered in
          let n' : n ≡ get_or next at 0 = first ∙ get_or_default next at n 0 key-below in
          let below : n < length next = let l = key-cell in let k = o.lengths in omega arith in
          record {
            order = o.order;
            index = o.index;
            place = h.place + 1;
            splits = place-splits R total cells o.order o.index key h.place h.found;
            here = second ∙ get_or_default next n m 0 below ∙ ap (λ x. get_or next x 0) n' ∙ key-after;
          }

      pub ordered-remove : IsOrdered R (set cells (get_or next at 0) Empty) (set next at (get_or next (get_or next at 0) 0))
      ordered-remove =
          let o = h.ordered in
          let l = h.found.in_range in
          let n = length-set cells (get_or next at 0) Empty in
          let m = length-set next at (get_or next (get_or next at 0) 0) in
          let was = o.lengths in
          record {
            order = remove o.order h.place;
            index = subst (λ s. IsIndex R (set cells s Empty) (remove o.order h.place)) (sym (key-slot 0)) (index-remove R total cells o.order o.index h.place l);
            lengths = omega arith;
            ring = subst (λ k. IsRing k (set next at (get_or next (get_or next at 0) 0)) (remove o.order h.place)) (sym n) (
                subst (λ s. IsRing (length cells) (set next at (get_or next s 0)) (remove o.order h.place)) (sym (key-slot (length cells))) (
                subst (λ p. IsRing (length cells) (set next p (get_or next (get_or o.order h.place (length cells)) 0)) (remove o.order h.place)) (sym h.here) (
                ring-remove R total cells o.order o.index next o.lengths o.ring h.place l)));
          }

    module _ (h : IsBeforeGap R cells next key at) where
      pub gap-below : at < length next
      gap-below =
          let b = before-below R total cells h.ordered.order h.ordered.index h.place h.gap.in_range in
          let n = h.ordered.lengths in
          let e = h.here in
          omega arith

      gap-after : get_or next at 0 ≡ get_or h.ordered.order h.place (length cells)
      gap-after = ap (λ x. get_or next x 0) h.here ∙ h.ordered.ring h.place h.gap.in_range

      -- what was read there comes next
      pub gap-next : (m : ℕ) → m ≡ get_or next at m → IsNext R cells key m
      gap-next m read = record {
        order = h.ordered.order;
        index = h.ordered.index;
        place = h.place;
        splits = gap-splits R total cells h.ordered.order h.ordered.index key h.place h.gap;
        here = read ∙ get_or_default next at m 0 gap-below ∙ gap-after;
      }

  module _ (cells : List (Content (KeyedValue K W))) (key : K) (at : ℕ) (h : IsNext R cells key at) where
    next-in : at < length cells → h.place < length h.order
    next-in l = elim (cases_lt h.place (length h.order)) [
      | inl i ↦ i
      | inr g ↦ absurd (let e : at ≡ length cells = h.here ∙ get_or_past h.order h.place (length cells) g in omega arith)
    ]

    pub next-held : at < length cells → IsHeld (get_or cells at Empty)
    next-held l = subst (λ t. IsHeld (get_or cells t Empty)) (sym (h.here ∙ get_or_default h.order h.place (length cells) 0 (next-in l))) (h.index.live h.place (next-in l))

    pub next-least : at < length cells → (f : KeyedValue K W) → value_of (get_or cells at Empty) ≡ Some f → IsLeastAbove R cells key f.key
    next-least l f value = least-above R total cells h.order h.index key h.place at f h.splits (next-in l) (h.here ∙ get_or_default h.order h.place (length cells) at (next-in l)) value

    pub next-none : length cells ≤ at → HasNoneAbove R cells key
    next-none g = none-above R total cells h.order h.index key h.place h.splits (elim (cases_lt h.place (length h.order)) [
      | inl l ↦ absurd (let b = order-below R total cells h.order h.index h.place (length cells) l in let e = h.here in omega arith)
      | inr past ↦ past
    ])

  -- a pair in an empty slot, linked where its key goes
  pub ordered-insert : (cells : List (Content (KeyedValue K W))) (next : List ℕ) (at s a : ℕ) (e : KeyedValue K W) → IsBeforeGap R cells next e.key at → s < length cells → get_or cells s Empty ≡ Empty → IsOrdered R (set cells s (Held a e)) (set (set next s (get_or next at 0)) at s)
  ordered-insert cells next at s a e h ls empty =
      let o = h.ordered in
      let n = length-set cells s (Held a e) in
      let m = length-set (set next s (get_or next at 0)) at s in
      let k = length-set next s (get_or next at 0) in
      let was = o.lengths in
      record {
        order = insert o.order h.place s;
        index = index-insert R total cells o.order o.index h.place s a e h.gap ls empty;
        lengths = omega arith;
        ring = subst (λ k. IsRing k (set (set next s (get_or next at 0)) at s) (insert o.order h.place s)) (sym n) (
            subst (λ p. IsRing (length cells) (set (set next s (get_or next p 0)) p s) (insert o.order h.place s)) (sym h.here) (
            ring-insert R total cells o.order o.index next o.lengths o.ring h.place s h.gap.in_range ls empty));
      }

-- empty slots, and a ring of none
pub fresh-ordered : {K W : Type 0} (R : K → K → Ordering) (n : ℕ) (next : List ℕ) → n < 2 ^ 32 → length next ≡ n + 1 → get_or next n 0 ≡ n → IsOrdered {K = K} {W = W} R (replicate n Empty) next
fresh-ordered {K} {W} R n next small len last =
    let cells : List (Content (KeyedValue K W)) = replicate n Empty in
    let count : length {A = Content (KeyedValue K W)} (replicate n Empty) ≡ n = length-replicate n Empty in
    record {
      order = [];
      index = fresh-index R n small;
      lengths = omega arith;
      ring = λ i l. only i (at_zero i l) count;
    }
  where
    only : (i : ℕ) → i ≡ 0 → length {A = Content (KeyedValue K W)} (replicate n Empty) ≡ n → get_or next (before (length {A = Content (KeyedValue K W)} (replicate n Empty)) [] i) 0 ≡ get_or [] i (length {A = Content (KeyedValue K W)} (replicate n Empty))
    only zero e count = ap (λ x. get_or next x 0) count ∙ last ∙ sym count
    only (suc i) e count = absurd (omega arith)
