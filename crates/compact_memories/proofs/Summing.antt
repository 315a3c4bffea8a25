-- Sums over slots, slot by slot.
use Rattle.std.proofs.Common.{◌≡◌, ℕ, zero, suc, ◌+◌, ◌*◌, ◌<◌, ◌≤◌, Bool, cond, List, [], ◌∷◌, ◌++◌, length, take, Option, Some, None, get_or, refl, sym, ap, ◌∙◌, arith}
use Rattle.std.specs.Prelude.{◌==◌, option_map, nat_lt}
use Rattle.std.specs.List.{sum_by}
use Rattle.std.specs.FinMap.{FinMap}
use Rattle.std.proofs.lemmas.Bool.{ne_eqb, lt-ltb}
use Rattle.std.proofs.lemmas.List.{take_all, take_more}
use Rattle.std.proofs.lemmas.List.Sums.{sum_by-append}
use Rattle.compact_lists.specs.CdBase.ids.Fp.{Fp}
use Rattle.compact_lists.specs.CdBase.place.Place.{Place}
use Rattle.checkpoints.specs.PoolMap.Slots.{slot_of}
use Rattle.checkpoints.specs.ShareIndex.Order.{owner_cmp}
use Rattle.checkpoints.specs.ShareIndex.Shares.{Shares, owners_of, place_with}
use Rattle.checkpoints.specs.CloudMemory.Live as slots
use Rattle.checkpoints.specs.Picking.{onto, picked}
use Rattle.checkpoints.proofs.Picks.{picked-append}
use Rattle.compact_memories.specs.Kept.{live_at}

abbrev pub found : List ℕ × Place → Fp × Place
found e = (record { 0 = e.0 }, e.1)

pub owned : (owners : FinMap owner_cmp ℕ) (o : Option (List ℕ × Place)) → live_at owners o ≡ option_map found (slots.owned_only owners o)
owned owners None = refl
owned owners (Some e) = by_count (owners_of owners e.0)
  where
    by_count : (n : ℕ) → cond (n == 0) None (Some (found e)) ≡ option_map found (cond (nat_lt 0 n) (Some e) None)
    by_count zero = refl
    by_count (suc n) =
        ap (λ (b : Bool). cond b None (Some (found e))) (ne_eqb (suc n) 0 (λ no. let none : suc n ≡ 0 = no in omega (arith, none)))
        ∙ sym (ap (λ (b : Bool). option_map found (cond b (Some e) None)) (lt-ltb 0 (suc n) (omega arith)))

back : (r : Option (Fp × Place)) → option_map found (option_map place_with r) ≡ r
back None = refl
back (Some x) = refl

-- what a slot answers is what is alive there
pub live_is : (s : Shares) (slot : ℕ) (r : Option (Fp × Place)) → option_map place_with r ≡ slots.live_at s slot → live_at s.owners (slot_of s.place_slots slot) ≡ r
live_is s slot r is = owned s.owners (slot_of s.place_slots slot) ∙ ap (option_map found) (sym is) ∙ back r

-- a sum over the slots so far, with none so great that it couldn't be counted
module _ {E X : Type 0} (f : Option E → Option X) (len : X → ℕ) (slots : List (Option E)) where
  pub record SumsTo (slot sum : ℕ) : Type 0 where
    pub sum_is : sum ≡ sum_by len (picked f (take slot slots))
    pub small : sum ≤ slot * 4294967295

  up_to : (slot : ℕ) → slot < length slots → picked f (take (slot + 1) slots) ≡ picked f (take slot slots) ++ onto (f (get_or slots slot None)) []
  up_to slot below = ap (picked f) (take_more slots slot None below) ∙ picked-append f (take slot slots) (get_or slots slot None ∷ [])

  pub begins : SumsTo 0 0
  begins = record { sum_is = refl; small = omega arith }

  pub goes_on : (slot sum more : ℕ) → slot < length slots → SumsTo slot sum → more ≡ sum_by len (onto (f (get_or slots slot None)) []) → more < 4294967296 → SumsTo (slot + 1) (sum + more)
  goes_on slot sum more below s is few = record {
    sum_is =
        (λ i. s.sum_is i + is i)
        ∙ sym (sum_by-append len (picked f (take slot slots)) (onto (f (get_or slots slot None)) []))
        ∙ ap (sum_by len) (sym (up_to slot below));
    small = let least = s.small in omega (arith, least, few);
  }

  pub ends : (slot sum : ℕ) → length slots ≤ slot → SumsTo slot sum → sum ≡ sum_by len (picked f slots)
  ends slot sum past s = s.sum_is ∙ ap (λ (xs : List (Option E)). sum_by len (picked f xs)) (take_all slot slots past)
