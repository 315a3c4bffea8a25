-- What a crash leaves while a checkpoint is laid: the chain of the current half.
use Rattle.std.proofs.Common.{◌≡◌, ◌≢◌, ◌⊎◌, inl, inr, ℕ, zero, suc, ◌+◌, ◌*◌, ◌<◌, ◌≤◌, true, false, List, [], ◌∷◌, ◌++◌, length, take, drop, get_or, refl, sym, ◌∙◌, ap, subst, arith, append_assoc, length-append, length-take, length-drop, get_or-take, get_or-drop}
use Rattle.std.proofs.lemmas.Bool.{cases_Bool, eqb-true}
use Rattle.std.proofs.lemmas.List.{ext_get_or}
use Rattle.std.proofs.lemmas.List.Elements.{All-head, All-tail}
use Rattle.cd_edges.specs.Disk.{Store, MayLeave, IsOutside}
use Rattle.journal_halves.specs.Records.{IsJournalBody, sized, chain, IsJournal, is_begun}
use Rattle.journal_halves.specs.Frames.{IsRecordAhead}
use Rattle.journal_start.specs.Spelling.{start_bytes}
use Rattle.journal_halves.specs.Halves.{half_len, half_of, is_half_begun, HasStart}
use Rattle.journal_halves.specs.Journals.{Where, all_bodies, HasChain, used_by, IsClosedAt, AreInHalf, IsHalfApart}

-- ---- which places weren't written

outside : (half place : ℕ) (ranges : List (ℕ × ℕ)) → AreInHalf half ranges → (place ≤ half * half_len) ⊎ (half * half_len + half_len ≤ place) → IsOutside ranges place
outside half place [] all away = tt
outside half place (r ∷ ranges) all away =
    let here = All-head (λ (r : ℕ × ℕ). (half * half_len + 1 ≤ r.0) × (r.1 ≤ half * half_len + half_len)) r ranges all in (
      elim away [ inl below ↦ inl (omega (arith, below, here.0)) | inr above ↦ inr (omega (arith, above, here.1)) ],
      outside half place ranges (All-tail (λ (r : ℕ × ℕ). (half * half_len + 1 ≤ r.0) × (r.1 ≤ half * half_len + half_len)) r ranges all) away,
    )

-- ---- a front of bytes that stays

pub split : (n : ℕ) (xs : List ℕ) → xs ≡ take n xs ++ drop n xs
split zero xs = refl
split (suc n) [] = refl
split (suc n) (x ∷ xs) = ap (λ (l : List ℕ). x ∷ l) (split n xs)

pub front : (old new : List ℕ) (from : ℕ) (bytes behind : List ℕ) → drop from old ≡ bytes ++ behind → length old ≤ length new
    → ((place : ℕ) → from ≤ place → place < from + length bytes → get_or new place 0 ≡ get_or old place 0) → take (length bytes) (drop from new) ≡ bytes
front old new from bytes behind is long same = ext_get_or 0 _ _
    (omega (arith, length-take (length bytes) (drop from new), length-drop from new, long, ap length is, length-drop from old, length-append bytes behind))
    (λ k lt.
    let below : k < length bytes = omega (arith, lt, length-take (length bytes) (drop from new)) in
    get_or-take (length bytes) (drop from new) k 0 below ∙ get_or-drop from new k 0 ∙ same (from + k) (omega arith) (omega (arith, below))
    ∙ sym (get_or-drop from old k 0) ∙ ap (λ (l : List ℕ). get_or l k 0) is ∙ in_front bytes behind k below)
  where
    in_front : (xs ys : List ℕ) (k : ℕ) → k < length xs → get_or (xs ++ ys) k 0 ≡ get_or xs k 0
    in_front [] ys k lt = absurd (omega (arith, lt))
    in_front (x ∷ xs) ys zero lt = refl
    in_front (x ∷ xs) ys (suc k) lt = in_front xs ys k (omega (arith, lt))

-- ---- a chain begins with its first record

pub starts : (body : List ℕ) (bodies : List (List ℕ)) (gate : ℕ) (behind : List ℕ) → IsJournalBody body → IsRecordAhead (chain (body ∷ bodies) ++ gate ∷ behind) body
starts body [] gate behind is = record { gate = gate; behind = behind; is_body = is; spelled = ap (λ (l : List ℕ). 1 ∷ l) (append_assoc (sized body) [] (gate ∷ behind)) }
starts body (next ∷ bodies) gate behind is = record {
  gate = 1;
  behind = (sized next ++ chain bodies) ++ gate ∷ behind;
  is_body = is;
  spelled = ap (λ (l : List ℕ). 1 ∷ l) (append_assoc (sized body) (1 ∷ sized next ++ chain bodies) (gate ∷ behind));
}

-- ---- a closed gate

pub first_is : (xs : List ℕ) → is_begun xs ≡ true → get_or xs 0 0 ≡ 1
first_is [] e = cc
first_is (x ∷ []) e = cc
first_is (x ∷ y ∷ xs) e = eqb-true x 1 e

pub still_closed : (half : ℕ) (bytes : List ℕ) → get_or bytes (half * half_len) 0 ≢ 1 → is_half_begun half bytes ≡ false
still_closed half bytes shut = elim (cases_Bool (is_half_begun half bytes)) [
  | inl t ↦ absurd (shut (ap (λ (n : ℕ). get_or bytes n 0) (omega arith) ∙ sym (get_or-drop (half * half_len) bytes 0 0) ∙ first_is (half_of half bytes) t))
  | inr f ↦ f
]

-- ---- the law

module _ (store : Store) (w : Where) (half : ℕ) (is : IsHalfApart store w half) (image : List ℕ) (left : MayLeave store image) where
  c : IsJournal (all_bodies w) (half_of w.half store.synced)
  c = is.chain_there.chain_is

  whole : List ℕ
  whole = chain (all_bodies w) ++ c.gate ∷ []

  same_place : (place : ℕ) → place < length store.synced → (place ≤ half * half_len) ⊎ (half * half_len + half_len ≤ place) → get_or image place 0 ≡ get_or store.synced place 0
  same_place place lt away = left.kept place lt (outside half place store.written is.ranges away)

  spelled : half_of w.half store.synced ≡ whole ++ c.behind
  unfolding whole
  spelled = c.spelled ∙ sym (append_assoc (chain (all_bodies w)) (c.gate ∷ []) c.behind)

  length-whole : length whole ≡ used_by w
  unfolding whole
  length-whole = omega (arith, length-append (chain (all_bodies w)) (c.gate ∷ []))

  away_from : (place : ℕ) → w.half * half_len ≤ place → place < w.half * half_len + used_by w → (place ≤ half * half_len) ⊎ (half * half_len + half_len ≤ place)
  away_from place ge lt = elim is.chain_there.current.is_half [
    | inl zero_is ↦ inl (omega (arith, zero_is, is.other, is.within, lt))
    | inr one_is ↦ inr (omega (arith, one_is, is.other, ge))
  ]

  kept : take (length whole) (drop (w.half * half_len) image) ≡ whole
  kept = front store.synced image (w.half * half_len) whole c.behind spelled left.no_shorter
      (λ place ge lt. same_place place
      (omega (arith, lt, ap length spelled, length-append whole c.behind, length-drop (w.half * half_len) store.synced))
      (away_from place ge (omega (arith, lt, length-whole))))

  chain_stays : IsJournal (all_bodies w) (half_of w.half image)
  unfolding whole
  chain_stays = record {
    gate = c.gate;
    behind = drop (length whole) (drop (w.half * half_len) image);
    sizes = c.sizes;
    shut = c.shut;
    spelled = split (length whole) (drop (w.half * half_len) image) ∙ ap (λ (l : List ℕ). l ++ drop (length whole) (drop (w.half * half_len) image)) kept
        ∙ append_assoc (chain (all_bodies w)) (c.gate ∷ []) (drop (length whole) (drop (w.half * half_len) image));
  }

  start_stays : HasStart image w.half w.start
  start_stays = record {
    is_start = is.chain_there.current.begun.is_start;
    record_is = subst (λ (l : List ℕ). IsRecordAhead l (start_bytes w.start)) (sym chain_stays.spelled)
        (starts (start_bytes w.start) w.bodies chain_stays.gate chain_stays.behind is.sizes.0);
  }

  -- whatever a crash leaves while a checkpoint is laid, the current half has its chain
  pub laying_stands : HasChain image w
  laying_stands = record {
    current = record {
      is_half = is.chain_there.current.is_half;
      begun = start_stays;
      other = inl (subst (λ (h : ℕ). is_half_begun h image ≡ false) is.other
          (still_closed half image (λ one. is.closed.closed (sym (same_place (half * half_len) is.closed.inside (inl (omega arith))) ∙ one))));
    };
    chain_is = chain_stays;
  }

  -- and the other half's first gate stays closed
  pub closed_stays : IsClosedAt image half
  closed_stays = record { inside = omega (arith, left.no_shorter, is.closed.inside); closed = λ one. is.closed.closed (sym (same_place (half * half_len) is.closed.inside (inl (omega arith))) ∙ one) }
