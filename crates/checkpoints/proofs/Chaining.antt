-- Owners' slots in chains: none, one more, and what is passed along them.
use Rattle.std.proofs.Common.{◌≡◌, ◌≢◌, ℕ, zero, suc, ◌+◌, ◌<◌, ◌≤◌, min, Bool, true, false, cond, List, ◌++◌, length, Option, Some, None, get_or, set, replicate, refl, sym, ap, ◌∙◌, subst, inl, inr, arith, true≢false, eq-eqb, length-set}
use Rattle.std.specs.Prelude.{◌==◌, option_map, is_some, ◌-◌, take, drop}
use Rattle.std.proofs.lemmas.List.{get_or-set_same, get_or-set_other, get_or-replicate, get_or_past, drop_all, take_all, take_at}
use Rattle.std.proofs.lemmas.Bool.{cases_eq, cases_lt, eqb-true}
use Rattle.cloud_memory.specs.CdBase.ids.Fp.{Fp}
use Rattle.cloud_memory.specs.PoolMap.Slots.{slot_of}
use Rattle.cloud_memory.specs.ShareIndex.key.Owner.{Owner}
use Rattle.checkpoints.specs.Chained.{user_in, IsOwnSlot, AreOthers, IsNextOwn, AreChained}
use Rattle.checkpoints.specs.Picking.{picked}
use Rattle.checkpoints.specs.Records.{owned_at}
use Rattle.checkpoints.proofs.Marking.{slot_inside}
use Rattle.checkpoints.proofs.Picks.{Passed, passes}

-- ---- one slot

-- an empty slot is nobody's
nobody : (u : ℕ) (o : Option (Owner × ℕ)) → option_map user_in o ≡ None → owned_at u o ≡ None
nobody u None is = refl
nobody u (Some e) is = absurd (let no : Some (user_in e) ≡ None = is in cc)

-- the fingerprint of an entry, where it is the user's
abbrev own_if : Owner × ℕ → Bool → Option Fp
own_if e b = cond b (Some (record { 0 = e.0.fp })) None

-- a user's slot is its own
of_its_own : (user : ℕ) (o : Option (Owner × ℕ)) → option_map user_in o ≡ Some user → is_some (owned_at user o) ≡ true
of_its_own user None is = absurd (let no : None ≡ Some user = is in cc)
of_its_own user (Some e) is =
    let same : user_in e ≡ user = let two : Some (user_in e) ≡ Some user = is in cc in
    ap (λ b. is_some (own_if e b)) (eq-eqb e.0.user user same)

-- and no other's
of_one : (u user : ℕ) (o : Option (Owner × ℕ)) → option_map user_in o ≡ Some user → u ≢ user → owned_at u o ≡ None
of_one u user None is ne = refl
of_one u user (Some e) is ne = by_test (e.0.user == u) refl
  where
    same : user_in e ≡ user
    same = let two : Some (user_in e) ≡ Some user = is in cc

    by_test : (b : Bool) → (e.0.user == u) ≡ b → own_if e b ≡ None
    by_test true t = absurd (ne (sym (eqb-true e.0.user u t) ∙ same))
    by_test false t = refl

owned_not : (slots : List (Option (Owner × ℕ))) (u s : ℕ) → IsOwnSlot slots u s → owned_at u (slot_of slots s) ≡ None → ⊥
owned_not slots u s own none = true≢false (sym own ∙ ap is_some none)

-- a user's slot is one of the slots
pub owned_inside : (slots : List (Option (Owner × ℕ))) (u s : ℕ) → IsOwnSlot slots u s → s < length slots
owned_inside slots u s own = let e = owned_some (slot_of slots s) own in slot_inside slots s e.0 e.1
  where
    owned_some : (o : Option (Owner × ℕ)) → is_some (owned_at u o) ≡ true → (e : Owner × ℕ) × (o ≡ Some e)
    owned_some None own = absurd (true≢false (sym own))
    owned_some (Some e) own = (e, refl)

-- ---- one slot more

module _ (slots : List (Option (Owner × ℕ))) (firsts nexts : List ℕ) (count slot : ℕ) (few : slot + 1 ≤ count) (c : AreChained slots firsts nexts count (slot + 1)) where
  -- where this slot isn't the user's, the next one from behind it is the next one from it
  one_more : (u to : ℕ) → owned_at u (slot_of slots slot) ≡ None → IsNextOwn slots count u (slot + 1) to → IsNextOwn slots count u slot to
  one_more u to here n = record {
    ahead = let ahead = n.ahead in omega (arith, ahead);
    others = λ j le l.
        elim (cases_eq j slot) [
          | inl e ↦ ap (λ n. owned_at u (slot_of slots n)) e ∙ here
          | inr ne ↦ n.others j (let apart : j ≡ slot → ⊥ = ne in omega (arith, le, apart)) l
        ];
    own = n.own;
    within = n.within;
  }

  behind : (s : ℕ) → slot ≤ s → s ≢ slot → slot + 1 ≤ s
  behind s le ne = let apart : s ≡ slot → ⊥ = ne in omega (arith, le, apart)

  pub chained_none : option_map user_in (slot_of slots slot) ≡ None → AreChained slots firsts nexts count slot
  chained_none is = record {
    first = λ u has. one_more u (get_or firsts u 0) (nobody u (slot_of slots slot) is) (c.first u has);
    next = λ u s has le l own.
        elim (cases_eq s slot) [
          | inl e ↦ absurd (owned_not slots u s own (ap (λ n. owned_at u (slot_of slots n)) e ∙ nobody u (slot_of slots slot) is))
          | inr ne ↦ c.next u s has (behind s le ne) l own
        ];
  }

  module _ (user : ℕ) (is : option_map user_in (slot_of slots slot) ≡ Some user) where
    abbrev Firsts : List ℕ
    Firsts = set firsts user slot

    abbrev Nexts : List ℕ
    Nexts = set nexts slot (get_or firsts user 0)

    had : (u : ℕ) → u < length Firsts → u < length firsts
    had u has = omega (arith, has, length-set firsts user slot)

    -- the slot itself is the user's next one from it
    itself : IsNextOwn slots count user slot slot
    itself = record {
      ahead = omega arith;
      others = λ j le l. absurd (omega (arith, le, l));
      own = λ l. of_its_own user (slot_of slots slot) is;
      within = omega (arith, few);
    }

    first_of : (u : ℕ) → u < length Firsts → IsNextOwn slots count u slot (get_or Firsts u 0)
    first_of u has =
        elim (cases_eq u user) [
          | inl e ↦
              subst (λ n. IsNextOwn slots count n slot (get_or Firsts n 0)) (sym e)
              (subst (IsNextOwn slots count user slot) (sym (get_or-set_same firsts user slot 0 (subst (λ n. n < length firsts) e (had u has)))) itself)
          | inr ne ↦
              subst (IsNextOwn slots count u slot) (sym (get_or-set_other firsts user u slot 0 ne))
              (one_more u (get_or firsts u 0) (of_one u user (slot_of slots slot) is ne) (c.first u (had u has)))
        ]

    pub chained_one : slot < length nexts → AreChained slots Firsts Nexts count slot
    chained_one inside = record {
      first = first_of;
      next = λ u s has le l own.
          elim (cases_eq s slot) [
            | inl e ↦ at_slot u s e (had u has) own
            | inr ne ↦
                subst (IsNextOwn slots count u (s + 1)) (sym (get_or-set_other nexts slot s (get_or firsts user 0) 0 ne))
                (c.next u s (had u has) (behind s le ne) l own)
          ];
    }
      where
        at_slot : (u s : ℕ) → s ≡ slot → u < length firsts → IsOwnSlot slots u s → IsNextOwn slots count u (s + 1) (get_or Nexts s 0)
        at_slot u s e has own =
            elim (cases_eq u user) [
              | inl same ↦
                  subst (λ n. IsNextOwn slots count u (n + 1) (get_or Nexts n 0)) (sym e)
                  (subst (IsNextOwn slots count u (slot + 1)) (ap (λ n. get_or firsts n 0) same ∙ sym (get_or-set_same nexts slot (get_or firsts user 0) 0 inside)) (c.first u has))
              | inr ne ↦ absurd (owned_not slots u s own (ap (λ n. owned_at u (slot_of slots n)) e ∙ of_one u user (slot_of slots slot) is ne))
            ]

-- ---- no slot is chained yet

pub none_chained : (slots : List (Option (Owner × ℕ))) (firsts nexts : List ℕ) (n count : ℕ) → firsts ≡ replicate n count → n ≡ length firsts → AreChained slots firsts nexts count count
none_chained slots firsts nexts n count is long = record {
  first = λ u has.
      let here : get_or firsts u 0 ≡ count = ap (λ (xs : List ℕ). get_or xs u 0) is ∙ get_or-replicate n u count 0 (omega (arith, has, long)) in
      subst (IsNextOwn slots count u count) (sym here) (at_end u);
  next = λ u s has le l own. absurd (omega (arith, le, l));
}
  where
    at_end : (u : ℕ) → IsNextOwn slots count u count count
    at_end u = record {
      ahead = omega arith;
      others = λ j le l. absurd (omega (arith, le, l));
      own = λ l. absurd (omega (arith, l));
      within = omega arith;
    }

-- ---- what is passed along a chain

-- Between one of a user's slots and the next one by the chain none is the user's.
pub others_between : (slots : List (Option (Owner × ℕ))) (firsts nexts : List ℕ) → AreChained slots firsts nexts (min (length slots) (length nexts)) 0
    → (u s : ℕ) → u < length firsts → IsOwnSlot slots u s → AreOthers slots u (s + 1) (get_or nexts s 0)
others_between slots firsts nexts c u s has own j le l =
    elim (cases_lt s (length nexts)) [
      | inl inside ↦
          let here = owned_inside slots u s own in
          let one = c.next u s has (omega arith) (omega (arith, inside, here)) own in
          one.others j le l
      | inr past ↦ let none = get_or_past nexts s 0 past in absurd (omega (arith, none, le, l))
    ]

module _ (slots : List (Option (Owner × ℕ))) (user from : ℕ) where
  one_past : (s : ℕ) → Passed (owned_at user) slots from s → owned_at user (slot_of slots s) ≡ None → Passed (owned_at user) slots from (s + 1)
  one_past s p none =
      elim (cases_lt s (length slots)) [
        | inl l ↦ passes (owned_at user) slots from s None p l none
        | inr l ↦
            record {
              rest = p.rest ∙ ap (picked (owned_at user)) (drop_all s slots l ∙ sym (drop_all (s + 1) slots (omega (arith, l))));
              before = ap (picked (owned_at user)) (take_all (s + 1) slots (omega (arith, l)) ∙ sym (take_all s slots l)) ∙ p.before;
            }
      ]

  passed_by : (n : ℕ) → AreOthers slots user from (from + n) → Passed (owned_at user) slots from (from + n)
  passed_by zero others = subst (Passed (owned_at user) slots from) (omega arith) (record { rest = refl; before = refl })
  passed_by (suc n) others =
      subst (Passed (owned_at user) slots from) (omega arith)
      (one_past (from + n) (passed_by n (λ j le l. others j le (omega (arith, l)))) (others (from + n) (omega arith) (omega arith)))

  pub passed_to : (to : ℕ) → from ≤ to → AreOthers slots user from to → Passed (owned_at user) slots from to
  passed_to to le others =
      let there : from + (to - from) ≡ to = omega (arith, le) in
      subst (Passed (owned_at user) slots from) there (passed_by (to - from) (subst (AreOthers slots user from) (sym there) others))

-- ---- chains in vectors that were lent as slices

-- what was written to a whole vector's slice is what the vector has
back : (new old : List ℕ) (len : ℕ) → length new ≡ len → take len (new ++ drop (length new) old) ≡ new
back new old len e = take_at new (drop (length new) old) len e

pub chained_back : (slots : List (Option (Owner × ℕ))) (old_firsts old_nexts : List ℕ) (m n : ℕ) (firsts nexts : List ℕ) → length firsts ≡ m → length nexts ≡ n
    → AreChained slots firsts nexts (min (length slots) (length nexts)) 0
    → AreChained slots (take m (firsts ++ drop (length firsts) old_firsts)) (take n (nexts ++ drop (length nexts) old_nexts))
    (min (length slots) (length (take n (nexts ++ drop (length nexts) old_nexts)))) 0
chained_back slots old_firsts old_nexts m n firsts nexts users slots_are c =
    subst (λ (xs : List ℕ). AreChained slots xs (take n (nexts ++ drop (length nexts) old_nexts)) (min (length slots) (length (take n (nexts ++ drop (length nexts) old_nexts)))) 0)
    (sym (back firsts old_firsts m users))
    (subst (λ (xs : List ℕ). AreChained slots firsts xs (min (length slots) (length xs)) 0) (sym (back nexts old_nexts n slots_are)) c)
