-- A key that is taken out of a table, by the slots.
use Rattle.std.specs.Prelude.{◌≡◌, ◌≢◌, ℕ, List, [], ◌∷◌, length, map, Option, Some, None, option_map}
use Rattle.std.proofs.Common.{refl, sym, ap, ◌∙◌, zero, suc}
use Rattle.std.specs.declared.cmp.Ordering.{Ordering}
use Rattle.std.specs.Cmp.{IsTotalOrder, tied_itself}
use Rattle.std.specs.FinMap.{IsAntisymmetric}
use Rattle.pool_map.specs.SlotPool.Content.{Content}
use Rattle.pool_map.specs.SlotPool.Content.TheVariants.{Empty, Held}
use Rattle.pool_map.specs.SlotPool.Pool.{PoolContents, content}
use Rattle.pool_map.specs.declared.KeyedValue.{KeyedValue}
use Rattle.pool_map.specs.Table.{Drops}
use Rattle.pool_map.specs.Shown.{through}
use Rattle.pool_map.specs.Slots.{slot_of, show, shown_slots, at-shown_slots, length-shown_slots}

-- the slot of the key is emptied, and every other slot is as it was
pub record IsEmptied {K V : Type 0} (old new : List (Option (K × V))) (key : K) : Type 0 where
  pub emptied : (s : ℕ) (value : V) → slot_of old s ≡ Some (key, value) → slot_of new s ≡ None
  pub stays : (s : ℕ) → ((value : V) → slot_of old s ≢ Some (key, value)) → slot_of new s ≡ slot_of old s
  pub long : length new ≡ length old

module _ {K W V : Type 0} (f : W → V) where
  -- a slot that shows a key holds it
  held : (c : Content (KeyedValue K W)) (k : K) (v : V) → show f c ≡ Some (k, v) → (a : ℕ) × (e : KeyedValue K W) × (c ≡ Held a e) × (e.key ≡ k)
  held Empty k v is = absurd (let no : None ≡ Some (k, v) = is in cc)
  held (Held a e) k v is =
      let two : ◌≡◌ {A = Option (K × V)} (Some (e.key, f e.value)) (Some (k, v)) = is in
      let same : ◌≡◌ {A = K × V} (e.key, f e.value) (k, v) = cc in
      (a, e, refl, ap (λ (p : K × V). p.0) same)

  -- a key that is taken out of a table is seen no more, and every other where it was
  pub emptied-shown : {R : K → K → Ordering} → IsTotalOrder R → IsAntisymmetric R → (p q : PoolContents (KeyedValue K W)) (key : K) → Drops R p q key → IsEmptied (shown_slots f p.slots) (shown_slots f q.slots) key
  emptied-shown {R} total exact p q key is = record {
    emptied = λ s v at.
        let h = held (content p s) key v (sym (at-shown_slots f p.slots s) ∙ at) in
        at-shown_slots f q.slots s ∙ ap (show f) ((is.slots s).0 h.0 h.1 h.2 (ap (R key) h.3 ∙ tied_itself total key));
    stays = λ s others.
        at-shown_slots f q.slots s
        ∙ ap (show f) ((is.slots s).1 (λ a e at tied. others (f e.value) (at-shown_slots f p.slots s ∙ ap (show f) at ∙ ap (λ k. Some (k, f e.value)) (sym (exact key e.key tied)))))
        ∙ sym (at-shown_slots f p.slots s);
    long = length-shown_slots f q.slots ∙ is.length_kept ∙ sym (length-shown_slots f p.slots);
  }

-- a key that is taken out is seen no more through a function
pub emptied-through : {K V U : Type 0} (g : V → U) (old new : List (Option (K × V))) (key : K) → IsEmptied old new key → IsEmptied (map (option_map (through g)) old) (map (option_map (through g)) new) key
emptied-through {K} {V} {U} g old new key is = record {
  emptied = λ s value at.
      let h = was (slot_of old s) value (sym (at-mapped old s) ∙ at) in
      at-mapped new s ∙ ap (option_map (through {K = K} g)) (is.emptied s h.0 h.1);
  stays = λ s others.
      at-mapped new s
      ∙ ap (option_map (through {K = K} g)) (is.stays s (λ value at. others (g value) (at-mapped old s ∙ ap (option_map (through {K = K} g)) at)))
      ∙ sym (at-mapped old s);
  long = many new ∙ is.long ∙ sym (many old);
}
  where
    at-mapped : (slots : List (Option (K × V))) (s : ℕ) → slot_of (map (option_map (through g)) slots) s ≡ option_map (through g) (slot_of slots s)
    at-mapped [] s = refl
    at-mapped (x ∷ slots) zero = refl
    at-mapped (x ∷ slots) (suc s) = at-mapped slots s

    many : (slots : List (Option (K × V))) → length (map (option_map (through {K = K} g)) slots) ≡ length slots
    many [] = refl
    many (x ∷ slots) = ap suc (many slots)

    was : (o : Option (K × V)) (value : U) → option_map (through g) o ≡ Some (key, value) → (v : V) × (o ≡ Some (key, v))
    was None value at = absurd (let no : None ≡ Some (key, value) = at in cc)
    was (Some x) value at =
        let two : ◌≡◌ {A = Option (K × U)} (Some (x.0, g x.1)) (Some (key, value)) = at in
        let same : ◌≡◌ {A = K × U} (x.0, g x.1) (key, value) = cc in
        (x.1, ap (λ (k : K). Some (k, x.1)) (ap (λ (p : K × U). p.0) same))
