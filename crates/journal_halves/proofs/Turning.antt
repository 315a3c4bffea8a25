-- What a crash leaves while the first gate of the other half is closed: the chain of the current half.
use Rattle.std.proofs.Common.{◌≡◌, inl, inr, ℕ, ◌+◌, ◌-◌, ◌*◌, ◌<◌, ◌≤◌, true, false, List, [], ◌∷◌, length, get_or, sym, ◌∙◌, ap, subst, arith, length-drop, get_or-drop}
use Rattle.std.proofs.lemmas.Bool.{cases_Bool, cases_lt}
use Rattle.std.proofs.lemmas.List.{ext_get_or}
use Rattle.cd_edges.specs.Disk.{Store, MayLeave}
use Rattle.cd_edges.specs.Shelf.{wrote}
use Rattle.journal_halves.specs.Records.{is_begun}
use Rattle.journal_halves.specs.Halves.{half_len, half_of, is_half_begun}
use Rattle.journal_halves.specs.Journals.{Where, HasChain, Stands, IsOpenAt}
use Rattle.journal_halves.proofs.Laying.{first_is}
use Rattle.journal_halves.proofs.OneByte.{IsOneByte}
use Rattle.journal_halves.proofs.OneByte as byte

two_places : (xs : List ℕ) → is_begun xs ≡ true → 2 ≤ length xs
two_places [] e = cc
two_places (x ∷ []) e = cc
two_places (x ∷ y ∷ xs) e = omega arith

module _ (store : Store) (w : Where) (half : ℕ) (other : half ≡ 1 - w.half) (is : Stands store w) (open_at : IsOpenAt store.read half) (image : List ℕ) (left : MayLeave (wrote store (half * half_len) (0 ∷ [])) image) where
  one : IsOneByte store w half 0 image
  one = record { synced = is.synced; other = other; chain_there = is.chain_there; sizes = is.sizes; within = is.within; left = left }

  -- where the half is begun still, it is what it was
  module _ (begun : is_half_begun half image ≡ true) where
    two : half * half_len + 2 ≤ length image
    two = omega (arith, two_places (half_of half image) begun, length-drop (half * half_len) image)

    same_len : length image ≡ length store.read
    same_len = omega (arith, two, byte.no_longer store w half 0 image one, byte.no_shorter store w half 0 image one)

    same_first : get_or image (half * half_len) 0 ≡ get_or store.read (half * half_len) 0
    same_first = ap (λ (n : ℕ). get_or image n 0) (omega arith) ∙ sym (get_or-drop (half * half_len) image 0 0) ∙ first_is (half_of half image) begun
        ∙ sym (open_at (omega (arith, two, same_len)))

    same_at : (place : ℕ) → place < length image → get_or image place 0 ≡ get_or store.read place 0
    same_at place lt = elim (cases_lt place (half * half_len)) [
      | inl below ↦ byte.same_place store w half 0 image one place (omega (arith, lt, same_len)) (inl below)
      | inr ge ↦ elim (cases_lt (half * half_len) place) [
        | inl above ↦ byte.same_place store w half 0 image one place (omega (arith, lt, same_len)) (inr (omega (arith, above)))
        | inr le ↦ subst (λ (n : ℕ). get_or image n 0 ≡ get_or store.read n 0) (omega (arith, ge, le)) same_first
      ]
    ]

    same : image ≡ store.read
    same = ext_get_or 0 image store.read same_len same_at

  -- the other half is begun as it was, or it isn't begun
  pub turning_stands : HasChain image w
  turning_stands = elim (cases_Bool (is_half_begun half image)) [
    | inl begun ↦ subst (λ (l : List ℕ). HasChain l w) (sym (same begun)) is.chain_there
    | inr shut ↦ record {
      current = record {
        is_half = is.chain_there.current.is_half;
        begun = byte.start_stays store w half 0 image one;
        other = inl (subst (λ (h : ℕ). is_half_begun h image ≡ false) other shut);
      };
      chain_is = byte.chain_stays store w half 0 image one;
    }
  ]
