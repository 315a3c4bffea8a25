-- The slots of a pool, of which only the first ones have cells.
use Rattle.std.proofs.Common.{◌≡◌, ◌≢◌, ℕ, zero, suc, ◌+◌, ◌-◌, ◌^◌, ◌<◌, ◌≤◌, List, [], ◌∷◌, ◌++◌, length, sum, count_by, get_or, set, refl, sym, ap, ◌∙◌, subst, arith, inl, inr, length-set, replicate, append_assoc, append-nil}
use Rattle.std.proofs.lemmas.List.{get_or_push, get_or_append_left, length_push, get_or_default, get_or-replicate, length-replicate, length-append, set-append_left, get_or_past}
use Rattle.std.proofs.Math.Seq.{get_or-append_right, set-append_seam}
use Rattle.std.proofs.lemmas.Bool.{cases_lt}
use Rattle.slot_pool.specs.declared.Content.{Content}
use Rattle.slot_pool.specs.declared.Content.TheVariants.{Empty, Held}
use Rattle.slot_pool.specs.Pool.{IsHeld, is_of, with_value}
use Rattle.slot_pool.specs.Sound.{IsPoolSound, IsLaid, all_slots, all_free, fresh_from}
use Rattle.slot_pool.proofs.Steps.{take-step, some-free-step, give-step, write-sound, fresh-sound, top-empty}

-- ---- numbers from one on, the last one first

fresh-length : (at n : ℕ) → length (fresh_from at n) ≡ n
fresh-length at zero = refl
fresh-length at (suc n) = let e = fresh-length at n in omega arith

fresh-last : (at n : ℕ) → fresh_from at (suc n) ≡ fresh_from (at + 1) n ++ at ∷ []
fresh-last at zero = let e : at + 0 ≡ at = omega arith in ap (λ x. x ∷ []) e
fresh-last at (suc n) = let e : at + suc n ≡ (at + 1) + n = omega arith in ap (λ x. x ∷ fresh_from at (suc n)) e ∙ ap (λ l. ((at + 1) + n) ∷ l) (fresh-last at n)

fresh-at : (at n k : ℕ) → k < n → get_or (fresh_from at n) k 0 + k + 1 ≡ at + n
fresh-at at zero k lt = absurd (omega (arith, lt))
fresh-at at (suc n) zero lt = omega arith
fresh-at at (suc n) (suc k) lt = let e = fresh-at at n k (omega (arith, lt)) in omega (arith, e)

pub none-free : (free : List ℕ) → (0 < length free → ⊥) → free ≡ []
none-free [] none = refl
none-free (x ∷ free) none = absurd (none (omega arith))

module _ {T : Type 0} where
  -- ---- what all slots hold

  pub all-length : (cells : List (Content T)) (count : ℕ) → length cells ≤ count → length (all_slots cells count) ≡ count
  all-length cells count few =
      let n : length {A = Content T} (replicate (count - length cells) Empty) ≡ count - length cells = length-replicate (count - length cells) Empty in
      omega (arith, few, n, length-append cells (replicate (count - length cells) Empty))

  pub all-at : (cells : List (Content T)) (count s : ℕ) (d : Content T) → s < length cells → get_or (all_slots cells count) s d ≡ get_or cells s d
  all-at cells count s d lt = get_or_append_left cells (replicate (count - length cells) Empty) d s lt

  pub all-behind : (cells : List (Content T)) (count s : ℕ) → length cells ≤ s → get_or (all_slots cells count) s Empty ≡ Empty
  all-behind cells count s le =
      get_or-append_right cells (replicate (count - length cells) Empty) s Empty le ∙ nothing (count - length cells) (s - length cells)
    where
      nothing : (n k : ℕ) → get_or {A = Content T} (replicate n Empty) k Empty ≡ Empty
      nothing n k = elim (cases_lt k n) [
        | inl lt ↦ get_or-replicate n k Empty Empty lt
        | inr ge ↦ get_or_past (replicate n Empty) k Empty (omega (arith, ge, length-replicate {A = Content T} n Empty))
      ]

  pub held-within : (cells : List (Content T)) (count s : ℕ) → IsHeld (get_or (all_slots cells count) s Empty) → s < length cells
  held-within cells count s held = elim (cases_lt s (length cells)) [
    | inl lt ↦ lt
    | inr ge ↦ absurd (subst IsHeld (all-behind cells count s ge) held)
  ]

  -- what a slot with a cell holds, as it is read
  pub read-cell : (cells : List (Content T)) (count s : ℕ) (found : Content T) → s < length cells → found ≡ get_or cells s found → found ≡ get_or (all_slots cells count) s Empty
  read-cell cells count s found lt read = read ∙ get_or_default cells s found Empty lt ∙ sym (all-at cells count s Empty lt)

  -- what any slot holds
  pub look-cell : (cells : List (Content T)) (count s : ℕ) (found : Content T) → s < length cells → found ≡ get_or cells s found → get_or (all_slots cells count) s Empty ≡ found
  look-cell cells count s found lt read = sym (read-cell cells count s found lt read)

  pub all-set : (cells : List (Content T)) (count s : ℕ) (c : Content T) → s < length cells → all_slots (set cells s c) count ≡ set (all_slots cells count) s c
  all-set cells count s c lt =
      ap (λ n. set cells s c ++ replicate (count - n) Empty) (length-set cells s c) ∙ sym (set-append_left cells (replicate (count - length cells) Empty) s c lt)

  pub all-push : (cells : List (Content T)) (count : ℕ) (c : Content T) → length cells < count → all_slots (cells ++ c ∷ []) count ≡ set (all_slots cells count) (length cells) c
  all-push cells count c lt =
      let d = count - (length cells + 1) in
      let one : count - length cells ≡ suc d = omega (arith, lt) in
      let now : count - length (cells ++ c ∷ []) ≡ d = let n = length_push cells c in omega (arith, n, lt) in
      ap (λ n. (cells ++ c ∷ []) ++ replicate n Empty) now ∙ append_assoc cells (c ∷ []) (replicate d Empty)
      ∙ sym (ap (λ n. set (cells ++ replicate n Empty) (length cells) c) one ∙ set-append_seam cells Empty (replicate d Empty) c)

  -- ---- steps

  -- a slot that was given back is taken again
  pub take-again : (cells : List (Content T)) (count : ℕ) (free rest used limits : List ℕ) (cr fr a s u l : ℕ) (v : T) → IsLaid cells count free used limits cr fr → free ≡ rest ++ s ∷ []
      → a < length limits → u ≡ get_or used a u → l ≡ get_or limits a l → u ≢ l → IsLaid (set cells s (Held a v)) count rest (set used a (u + 1)) limits cr fr
  take-again cells count free rest used limits cr fr a s u l v laid e la ru rl ne =
      let fresh = fresh_from (length cells) (count - length cells) in
      let n = length-set cells s (Held a v) in
      let lt = again-within cells count free rest used limits cr fr s laid e in
      let step = take-step (all_slots cells count) (fresh ++ free) (fresh ++ rest) used limits fr a s u l v laid.sound (ap (λ x. fresh ++ x) e ∙ sym (append_assoc fresh rest (s ∷ []))) la ru rl ne in
      record {
        sound = subst (λ m. IsPoolSound (all_slots (set cells s (Held a v)) count) (all_free m count rest) (set used a (u + 1)) limits fr) (sym n)
            (subst (λ x. IsPoolSound x (fresh ++ rest) (set used a (u + 1)) limits fr) (sym (all-set cells count s (Held a v) lt)) step);
        few = omega (arith, laid.few, n);
        fit = laid.fit;
        among = λ i li.
            let len : length free ≡ length rest + 1 = ap length e ∙ length_push rest s in
            let was = laid.among i (omega (arith, len, li)) in
            let same : get_or free i 0 ≡ get_or rest i 0 = ap (λ x. get_or x i 0) e ∙ get_or_append_left rest (s ∷ []) 0 i li in
            omega (arith, was, same, n);
      }
    where
      again-within : (cells : List (Content T)) (count : ℕ) (free rest used limits : List ℕ) (cr fr s : ℕ) → IsLaid cells count free used limits cr fr → free ≡ rest ++ s ∷ [] → s < length cells
      again-within cells count free rest used limits cr fr s laid e =
          let len : length free ≡ length rest + 1 = ap length e ∙ length_push rest s in
          let last : get_or free (length rest) 0 ≡ s = ap (λ x. get_or x (length rest) 0) e ∙ get_or_push rest s 0 (length rest) refl in
          subst (λ x. x < length cells) last (laid.among (length rest) (omega (arith, len)))

  -- that slot has a cell, and is empty
  pub free-top : (cells : List (Content T)) (count : ℕ) (free rest used limits : List ℕ) (cr fr s : ℕ) → IsLaid cells count free used limits cr fr → free ≡ rest ++ s ∷ []
      → (s < length cells) × (get_or (all_slots cells count) s Empty ≡ Empty) × (s < length (all_slots cells count))
  free-top cells count free rest used limits cr fr s laid e =
      let fresh = fresh_from (length cells) (count - length cells) in
      let len : length free ≡ length rest + 1 = ap length e ∙ length_push rest s in
      let last : get_or free (length rest) 0 ≡ s = ap (λ x. get_or x (length rest) 0) e ∙ get_or_push rest s 0 (length rest) refl in
      let top = top-empty (all_slots cells count) (fresh ++ free) (fresh ++ rest) used limits fr s laid.sound (ap (λ x. fresh ++ x) e ∙ sym (append_assoc fresh rest (s ∷ []))) in
      (subst (λ x. x < length cells) last (laid.among (length rest) (omega (arith, len))), top.1, top.0)

  -- where none was given back, one behind the cells is left
  pub fresh-left : (cells : List (Content T)) (count : ℕ) (free used limits : List ℕ) (cr fr a u l : ℕ) → IsLaid cells count free used limits cr fr → free ≡ []
      → a < length limits → u ≡ get_or used a u → l ≡ get_or limits a l → u ≢ l → length cells < count
  fresh-left cells count free used limits cr fr a u l laid none la ru rl ne =
      let fresh = fresh_from (length cells) (count - length cells) in
      let some : 0 < length (fresh ++ free) = some-free-step (all_slots cells count) (fresh ++ free) used limits fr a u l laid.sound la ru rl ne in
      let n = length-append fresh free in
      let m = fresh-length (length cells) (count - length cells) in
      let z : length free ≡ 0 = ap length none in
      omega (arith, some, n, m, z)

  -- and it is taken
  pub take-fresh : (cells : List (Content T)) (count : ℕ) (free used limits : List ℕ) (cr fr a u l : ℕ) (v : T) → IsLaid cells count free used limits cr fr → free ≡ []
      → a < length limits → u ≡ get_or used a u → l ≡ get_or limits a l → u ≢ l → IsLaid (cells ++ Held a v ∷ []) count free (set used a (u + 1)) limits cr fr
  take-fresh cells count free used limits cr fr a u l v laid none la ru rl ne =
      let c = length cells in
      let lt = fresh-left cells count free used limits cr fr a u l laid none la ru rl ne in
      let d = count - (c + 1) in
      let one : count - c ≡ suc d = omega (arith, lt) in
      let n : length (cells ++ Held a v ∷ []) ≡ c + 1 = length_push cells (Held a v) in
      let rest = all_free (c + 1) count free in
      let parts : fresh_from c (count - c) ++ free ≡ rest ++ c ∷ [] =
      ap (λ f. fresh_from c (count - c) ++ f) none ∙ append-nil (fresh_from c (count - c)) ∙ ap (fresh_from c) one ∙ fresh-last c d
      ∙ ap (λ f. f ++ c ∷ []) (sym (append-nil (fresh_from (c + 1) d)) ∙ ap (λ f. fresh_from (c + 1) d ++ f) (sym none)) in
      let step = take-step (all_slots cells count) (fresh_from c (count - c) ++ free) rest used limits fr a c u l v laid.sound parts la ru rl ne in
      record {
        sound = subst (λ m. IsPoolSound (all_slots (cells ++ Held a v ∷ []) count) (all_free m count free) (set used a (u + 1)) limits fr) (sym n)
            (subst (λ x. IsPoolSound x rest (set used a (u + 1)) limits fr) (sym (all-push cells count (Held a v) lt)) step);
        few = omega (arith, lt, n);
        fit = laid.fit;
        among = λ i li. let z : length free ≡ 0 = ap length none in absurd (omega (arith, li, z));
      }

  pub below-limit : (cells : List (Content T)) (count : ℕ) (free used limits : List ℕ) (cr fr a u l : ℕ) → IsLaid cells count free used limits cr fr → a < length limits → u ≡ get_or used a u → l ≡ get_or limits a l
      → u ≢ l → u + 1 ≤ l
  below-limit cells count free used limits cr fr a u l laid la ru rl ne =
      let within = laid.sound.within a la in
      let e = ru ∙ get_or_default used a u 0 (omega (arith, la, laid.sound.lengths)) in
      let f = rl ∙ get_or_default limits a l 0 la in
      omega (arith, within, e, f, ne)

  -- an account that may use more hasn't reached its limit
  pub not-full : (cells : List (Content T)) (count : ℕ) (free used limits : List ℕ) (cr fr a u l : ℕ) → IsLaid cells count free used limits cr fr → a < length limits → u ≡ get_or used a u → l ≡ get_or limits a l
      → u ≢ l → count_by (is_of a) (all_slots cells count) ≢ get_or limits a 0
  not-full cells count free used limits cr fr a u l laid la ru rl ne same =
      ne (ru ∙ get_or_default used a u 0 (omega (arith, la, laid.sound.lengths)) ∙ laid.sound.counted a la ∙ same ∙ sym (rl ∙ get_or_default limits a l 0 la))

  -- the account of what a slot holds is counted
  pub account-counted : (cells : List (Content T)) (count : ℕ) (free used limits : List ℕ) (cr fr a s : ℕ) (v : T) (old : Content T) → IsLaid cells count free used limits cr fr
      → IsHeld (get_or (all_slots cells count) s Empty) → old ≡ get_or cells s old → old ≡ Held a v → a < length used
  account-counted cells count free used limits cr fr a s v old laid held ro is =
      let la = laid.sound.known s a v (sym (read-cell cells count s old (held-within cells count s held) ro) ∙ is) in
      omega (arith, la, laid.sound.lengths)

  -- a slot is given back
  pub give-back : (cells : List (Content T)) (count : ℕ) (free used limits : List ℕ) (cr fr a s u : ℕ) (v : T) (old : Content T) → IsLaid cells count free used limits cr fr
      → IsHeld (get_or (all_slots cells count) s Empty) → old ≡ get_or cells s old → old ≡ Held a v → u ≡ get_or used a u
      → IsLaid (set cells s Empty) count (free ++ s ∷ []) (set used a (u - 1)) limits cr fr × (1 ≤ u) × (length free < fr)
  give-back cells count free used limits cr fr a s u v old laid held ro is ru =
      let fresh = fresh_from (length cells) (count - length cells) in
      let lt = held-within cells count s held in
      let n = length-set cells s Empty in
      let step = give-step (all_slots cells count) (fresh ++ free) used limits fr a s u v old laid.sound held (ro ∙ sym (all-at cells count s old lt)) is ru in
      let more = length-append fresh free in (
        record {
          sound = subst (λ m. IsPoolSound (all_slots (set cells s Empty) count) (all_free m count (free ++ s ∷ [])) (set used a (u - 1)) limits fr) (sym n)
              (subst (λ f. IsPoolSound (all_slots (set cells s Empty) count) f (set used a (u - 1)) limits fr) (append_assoc fresh free (s ∷ []))
              (subst (λ x. IsPoolSound x ((fresh ++ free) ++ s ∷ []) (set used a (u - 1)) limits fr) (sym (all-set cells count s Empty lt)) step.0));
          few = omega (arith, laid.few, n);
          fit = laid.fit;
          among = λ i li. elim (cases_lt i (length free)) [
            | inl l ↦ (let was = laid.among i l in let same = get_or_append_left free (s ∷ []) 0 i l in omega (arith, was, same, n))
            | inr g ↦ (let len = length_push free s in let at : i ≡ length free = omega (arith, g, li, len) in let same = get_or_push free s 0 i (sym at) in omega (arith, same, lt, n))
          ];
        },
        step.1,
        omega (arith, step.2, more),
      )

  -- a value is written over
  pub write-laid : (cells : List (Content T)) (count : ℕ) (free used limits : List ℕ) (cr fr s : ℕ) (v : T) → IsLaid cells count free used limits cr fr → s < length cells
      → IsLaid (set cells s (with_value (get_or cells s Empty) v)) count free used limits cr fr
  write-laid cells count free used limits cr fr s v laid lt =
      let new = with_value (get_or cells s Empty) v in
      let n = length-set cells s new in
      let len = all-length cells count laid.few in
      let step = write-sound (all_slots cells count) (all_free (length cells) count free) used limits fr s v laid.sound (omega (arith, lt, laid.few, len)) in
      let same = ap (λ c. with_value c v) (all-at cells count s Empty lt) in
      record {
        sound = subst (λ m. IsPoolSound (all_slots (set cells s new) count) (all_free m count free) used limits fr) (sym n)
            (subst (λ x. IsPoolSound x (all_free (length cells) count free) used limits fr) (ap (set (all_slots cells count) s) same ∙ sym (all-set cells count s new lt)) step);
        few = omega (arith, laid.few, n);
        fit = laid.fit;
        among = λ i li. let was = laid.among i li in omega (arith, was, n);
      }

  -- a pool of empty slots
  pub fresh-laid : (count : ℕ) (limits : List ℕ) (cr fr : ℕ) → sum limits ≤ count → count < 2 ^ 32 → count ≤ cr → count ≤ fr → IsLaid {T = T} [] count [] (replicate (length limits) 0) limits cr fr
  fresh-laid count limits cr fr covered small fit room = record {
    sound = let all : count - 0 ≡ count = omega arith in
        subst (λ n. IsPoolSound {T = T} (replicate n Empty) (fresh_from 0 n ++ []) (replicate (length limits) 0) limits fr) (sym all)
        (subst (λ f. IsPoolSound {T = T} (replicate count Empty) f (replicate (length limits) 0) limits fr) (sym (append-nil (fresh_from 0 count)))
        (fresh-sound count (fresh_from 0 count) limits fr covered small (fresh-length 0 count) room (λ k lk. let e = fresh-at 0 count k lk in omega (arith, e))));
    few = omega arith;
    fit = fit;
    among = λ i li. absurd (omega (arith, li));
  }
