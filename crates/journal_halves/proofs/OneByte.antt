-- What stays of a journal while the first byte of its other half is written.
use Rattle.std.proofs.Common.{◌≡◌, ◌⊎◌, inl, inr, ℕ, ◌+◌, ◌-◌, ◌*◌, ◌<◌, ◌≤◌, max, List, [], ◌∷◌, ◌++◌, length, take, drop, get_or, sym, ◌∙◌, ap, subst, arith, append_assoc, length-append, length-drop}
use Rattle.cd_edges.specs.Disk.{Store, MayLeave, IsOutside, greatest_end}
use Rattle.cd_edges.specs.Shelf.{wrote, stable}
use Rattle.journal_halves.specs.Records.{chain, AreBodies, IsJournal}
use Rattle.journal_halves.specs.Frames.{IsRecordAhead}
use Rattle.journal_start.specs.Spelling.{start_bytes}
use Rattle.journal_halves.specs.Halves.{half_len, half_of, HasStart}
use Rattle.journal_halves.specs.Journals.{Where, all_bodies, HasChain, used_by}
use Rattle.journal_halves.proofs.Laying.{front, split, starts}

-- what is known of a journal of which one byte is written, the first of the other half
pub record IsOneByte (store : Store) (w : Where) (half byte : ℕ) (image : List ℕ) : Type 0 where
  pub synced : store ≡ stable store.read
  pub other : half ≡ 1 - w.half
  pub chain_there : HasChain store.read w
  pub sizes : AreBodies (all_bodies w)
  pub within : used_by w ≤ half_len
  pub left : MayLeave (wrote store (half * half_len) (byte ∷ [])) image

module _ (store : Store) (w : Where) (half byte : ℕ) (image : List ℕ) (is : IsOneByte store w half byte image) where
  c : IsJournal (all_bodies w) (half_of w.half store.read)
  c = is.chain_there.chain_is

  pub synced_is : store.synced ≡ store.read
  synced_is = ap (λ (s : Store). s.synced) is.synced

  unwritten : store.written ≡ []
  unwritten = ap (λ (s : Store). s.written) is.synced

  pub no_shorter : length store.read ≤ length image
  no_shorter = omega (arith, is.left.no_shorter, ap length synced_is)

  pub same_place : (place : ℕ) → place < length store.read → (place < half * half_len) ⊎ (half * half_len + 1 ≤ place) → get_or image place 0 ≡ get_or store.read place 0
  same_place place lt away =
      is.left.kept place (omega (arith, lt, ap length synced_is)) (away, subst (λ (r : List (ℕ × ℕ)). IsOutside r place) (sym unwritten) tt) ∙ ap (λ (l : List ℕ). get_or l place 0) synced_is

  pub no_longer : length image ≤ max (half * half_len + 1) (length store.read)
  no_longer = omega (arith, is.left.no_longer, ap length synced_is, ap (greatest_end (length store.synced)) unwritten)

  -- the chain of the current half stays
  whole : List ℕ
  whole = chain (all_bodies w) ++ c.gate ∷ []

  spelled : half_of w.half store.read ≡ whole ++ c.behind
  unfolding whole
  spelled = c.spelled ∙ sym (append_assoc (chain (all_bodies w)) (c.gate ∷ []) c.behind)

  length-whole : length whole ≡ used_by w
  unfolding whole
  length-whole = omega (arith, length-append (chain (all_bodies w)) (c.gate ∷ []))

  away_from : (place : ℕ) → w.half * half_len ≤ place → place < w.half * half_len + used_by w → (place < half * half_len) ⊎ (half * half_len + 1 ≤ place)
  away_from place ge lt = elim is.chain_there.current.is_half [
    | inl zero_is ↦ inl (omega (arith, zero_is, is.other, is.within, lt))
    | inr one_is ↦ inr (omega (arith, one_is, is.other, ge))
  ]

  kept : take (length whole) (drop (w.half * half_len) image) ≡ whole
  kept = front store.read image (w.half * half_len) whole c.behind spelled no_shorter
      (λ place ge lt. same_place place
      (omega (arith, lt, ap length spelled, length-append whole c.behind, length-drop (w.half * half_len) store.read))
      (away_from place ge (omega (arith, lt, length-whole))))

  pub chain_stays : IsJournal (all_bodies w) (half_of w.half image)
  unfolding whole
  chain_stays = record {
    gate = c.gate;
    behind = drop (length whole) (drop (w.half * half_len) image);
    sizes = c.sizes;
    shut = c.shut;
    spelled = split (length whole) (drop (w.half * half_len) image) ∙ ap (λ (l : List ℕ). l ++ drop (length whole) (drop (w.half * half_len) image)) kept
        ∙ append_assoc (chain (all_bodies w)) (c.gate ∷ []) (drop (length whole) (drop (w.half * half_len) image));
  }

  pub start_stays : HasStart image w.half w.start
  start_stays = record {
    is_start = is.chain_there.current.begun.is_start;
    record_is = subst (λ (l : List ℕ). IsRecordAhead l (start_bytes w.start)) (sym chain_stays.spelled)
        (starts (start_bytes w.start) w.bodies chain_stays.gate chain_stays.behind is.sizes.0);
  }
