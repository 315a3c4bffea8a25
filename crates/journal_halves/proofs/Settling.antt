-- What a crash leaves while the first gate of a laid checkpoint is opened: the old chain or the new one.
use Rattle.std.proofs.Common.{◌≡◌, inl, inr, ℕ, ◌+◌, ◌-◌, ◌*◌, ◌<◌, true, false, List, [], ◌∷◌, ◌++◌, length, take, drop, get_or, refl, sym, ◌∙◌, ap, subst, arith, append_assoc, length-drop, get_or-drop}
use Rattle.std.proofs.lemmas.Bool.{cases_Bool}
use Rattle.cd_edges.specs.Disk.{Store, MayLeave}
use Rattle.cd_edges.specs.Shelf.{wrote}
use Rattle.journal_halves.specs.Records.{chain}
use Rattle.journal_halves.specs.Frames.{IsRecordAhead}
use Rattle.journal_start.specs.Spelling.{start_bytes}
use Rattle.journal_halves.specs.Halves.{half_len, half_of, is_half_begun, HasStart}
use Rattle.journal_halves.specs.Journals.{Where, all_bodies, HasChain, IsLaidWhole, IsEither}
use Rattle.journal_halves.proofs.Laying.{front, split, starts, first_is}
use Rattle.journal_halves.proofs.OneByte.{IsOneByte}
use Rattle.journal_halves.proofs.OneByte as byte

module _ (store : Store) (w next : Where) (is : IsLaidWhole store w next) (image : List ℕ) (left : MayLeave (wrote store (next.half * half_len) (1 ∷ [])) image) where
  one : IsOneByte store w next.half 1 image
  one = record { synced = is.synced; other = is.follows.other; chain_there = is.chain_there; sizes = is.sizes; within = is.within; left = left }

  long : next.half * half_len < length store.read
  long = omega (arith, ap length is.half_is, length-drop (next.half * half_len) store.read)

  -- ---- the other half behind its first gate

  gate_of : (xs : List ℕ) → 0 < length xs → xs ≡ get_or xs 0 0 ∷ drop 1 xs
  gate_of [] lt = absurd (omega arith)
  gate_of (x ∷ xs) lt = refl

  other_long : 0 < length (half_of next.half image)
  other_long = omega (arith, long, byte.no_shorter store w next.half 1 image one, length-drop (next.half * half_len) image)

  tail_stays : take (length is.tail) (drop 1 (half_of next.half image)) ≡ is.tail
  tail_stays = front (half_of next.half store.read) (half_of next.half image) 1 is.tail []
      (ap (drop 1) is.half_is ∙ sym (nil is.tail))
      (omega (arith, byte.no_shorter store w next.half 1 image one, length-drop (next.half * half_len) store.read, length-drop (next.half * half_len) image))
      (λ place ge lt.
      let below : place < length (half_of next.half store.read) = omega (arith, lt, ap length is.half_is) in
      get_or-drop (next.half * half_len) image place 0
      ∙ byte.same_place store w next.half 1 image one (next.half * half_len + place) (omega (arith, below, length-drop (next.half * half_len) store.read)) (inr (omega (arith, ge)))
      ∙ sym (get_or-drop (next.half * half_len) store.read place 0))
    where
      nil : (xs : List ℕ) → xs ++ [] ≡ xs
      nil [] = refl
      nil (x ∷ xs) = ap (λ (l : List ℕ). x ∷ l) (nil xs)

  -- ---- the gate is open, or it isn't

  back : w.half ≡ 1 - next.half
  back = elim is.chain_there.current.is_half [ inl zero_is ↦ omega (arith, zero_is, is.follows.other) | inr one_is ↦ omega (arith, one_is, is.follows.other) ]

  abbrev rest : List ℕ
  rest = drop (length is.tail) (drop 1 (half_of next.half image))

  spelled_now : is_half_begun next.half image ≡ true → half_of next.half image ≡ chain (all_bodies next) ++ is.last ∷ (is.behind ++ rest)
  spelled_now begun =
      gate_of (half_of next.half image) other_long
      ∙ ap (λ (g : ℕ). g ∷ drop 1 (half_of next.half image)) (first_is (half_of next.half image) begun)
      ∙ ap (λ (l : List ℕ). 1 ∷ l) (split (length is.tail) (drop 1 (half_of next.half image)) ∙ ap (λ (l : List ℕ). l ++ rest) tail_stays)
      ∙ ap (λ (l : List ℕ). l ++ rest) is.laid
      ∙ append_assoc (chain (all_bodies next)) (is.last ∷ is.behind) rest

  pub opened : is_half_begun next.half image ≡ true → HasChain image next
  opened begun = record {
    current = record {
      is_half = elim is.chain_there.current.is_half [
        | inl zero_is ↦ inr (is.follows.other ∙ ap (λ (h : ℕ). 1 - h) zero_is)
        | inr one_is ↦ inl (is.follows.other ∙ ap (λ (h : ℕ). 1 - h) one_is)
      ];
      begun = record {
        is_start = is.follows.is_start;
        record_is = subst (λ (l : List ℕ). IsRecordAhead l (start_bytes next.start)) (sym (spelled_now begun))
            (starts (start_bytes next.start) next.bodies is.last (is.behind ++ rest) is.next_sizes.0);
      };
      other = inr (w.start, subst (λ (h : ℕ). HasStart image h w.start) back (byte.start_stays store w next.half 1 image one), is.follows.epoch);
    };
    chain_is = record { gate = is.last; behind = is.behind ++ rest; sizes = is.next_sizes; shut = is.shut; spelled = spelled_now begun };
  }

  shut_still : is_half_begun next.half image ≡ false → HasChain image w
  shut_still closed = record {
    current = record { is_half = is.chain_there.current.is_half; begun = byte.start_stays store w next.half 1 image one; other = inl (subst (λ (h : ℕ). is_half_begun h image ≡ false) is.follows.other closed) };
    chain_is = byte.chain_stays store w next.half 1 image one;
  }

  -- a crash leaves one of the two
  pub settles : IsEither w next image
  settles = elim (cases_Bool (is_half_begun next.half image)) [ inl t ↦ inr (opened t) | inr f ↦ inl (shut_still f) ]
