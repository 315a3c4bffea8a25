-- How a checkpoint comes into its half, step by step.
use Rattle.std.proofs.Common.{◌≡◌, ◌≢◌, ◌⊎◌, inl, inr, ℕ, zero, suc, ◌+◌, ◌-◌, ◌*◌, ◌<◌, ◌≤◌, max, Bool, true, false, eqb, cond, List, [], ◌∷◌, ◌++◌, length, take, drop, get_or, Option, Some, None, refl, sym, ◌∙◌, ap, subst, arith, append_assoc, length-append, length-take, length-drop}
use Rattle.std.specs.Int.{w32, w64, to_be_bytes}
use Rattle.std.proofs.Math.Seq.{take-add}
use Rattle.std.proofs.lemmas.List.{append-nil, take_at, drop_at, drop_more}
use Rattle.std.proofs.lemmas.List.Elements.{All-nil, All-cons}
use Rattle.journal_halves.specs.CdEdges.Disk.{Store, MayLeave, overwritten}
use Rattle.journal_halves.specs.CdEdges.Shelf.{wrote, stable}
use Rattle.journal_halves.proofs.CdEdges.Overwritten.{length-overwritten, overwritten_inside}
use Rattle.journal_halves.proofs.CdEdges.Since.{image_of_stable}
use Rattle.journal_halves.specs.Records.{IsJournalBody, sized, chain, AreBodies, is_begun}
use Rattle.journal_halves.proofs.Chain.{chain-push, bodies_more, overwritten_within}
use Rattle.journal_halves.specs.JournalStart.start.Checkpoint.{Checkpoint}
use Rattle.journal_halves.specs.JournalStart.start.Start.{Start}
use Rattle.journal_halves.specs.JournalStart.Spelling.{rooms_bytes, front_bytes, header_bytes, behind_header, start_bytes}
use Rattle.journal_halves.specs.Halves.{half_len, half_of, is_half_begun}
use Rattle.journal_halves.specs.Journals.{Where, all_bodies, with_body, used_by, HasChain, Stands, MayFollow, IsClosedAt, AreInHalf, IsHalfApart, IsCheckpointLaid, IsLaidWhole}
use Rattle.journal_halves.proofs.Laying.{laying_stands, closed_stays}
use Rattle.journal_halves.proofs.Settling.{opened}
use Rattle.commit_journal.specs.Turning.{begun_with}

-- ---- a start is a body

abbrev shaped : Bool → Start → Option Checkpoint → List ℕ
shaped b s None = cond b (front_bytes s.header) (front_bytes s.header ++ rooms_bytes s.header.rooms) ++ []
shaped b s (Some c) =
    cond b (front_bytes s.header) (front_bytes s.header ++ rooms_bytes s.header.rooms)
    ++ (to_be_bytes w64 c.epoch ++ (to_be_bytes w64 c.commands ++ (to_be_bytes w32 c.records ++ cond b (to_be_bytes w64 c.recipes_end) (c.region ∷ []))))

as_shaped : (s : Start) (o : Option Checkpoint) → s.checkpoint ≡ o → start_bytes s ≡ shaped (eqb s.header.format 1) s o
as_shaped s None e = ap (λ (x : Option Checkpoint). header_bytes s.header ++ behind_header s.header.format x) e
as_shaped s (Some c) e = ap (λ (x : Option Checkpoint). header_bytes s.header ++ behind_header s.header.format x) e

small : (b : Bool) (s : Start) (o : Option Checkpoint) → IsJournalBody (shaped b s o)
small true s None = record { some = omega arith; few = omega arith }
small true s (Some c) = record { some = omega arith; few = omega arith }
small false s None = record { some = omega arith; few = omega arith }
small false s (Some c) = record { some = omega arith; few = omega arith }

pub start_is_body : (s : Start) → IsJournalBody (start_bytes s)
start_is_body s = subst IsJournalBody (sym (as_shaped s s.checkpoint refl)) (small (eqb s.header.format 1) s s.checkpoint)

-- ---- the beginning

pub stands_apart : (store : Store) (w : Where) (half : ℕ) → Stands store w → half ≡ 1 - w.half → IsClosedAt store.read half → IsHalfApart store w half
stands_apart store w half is other closed =
    let same : store.synced ≡ store.read = ap (λ (s : Store). s.synced) is.synced in
    let none : store.written ≡ [] = ap (λ (s : Store). s.written) is.synced in
    record {
      other = other;
      chain_there = subst (λ (l : List ℕ). HasChain l w) (sym same) is.chain_there;
      sizes = is.sizes;
      within = is.within;
      closed = subst (λ (l : List ℕ). IsClosedAt l half) (sym same) closed;
      ranges = subst (AreInHalf half) (sym none) (All-nil (λ (range : ℕ × ℕ). (half * half_len + 1 ≤ range.0) × (range.1 ≤ half * half_len + half_len)));
    }

pub begun : (store : Store) (w : Where) (half : ℕ) (start : Start) → Stands store w → IsClosedAt store.read half → MayFollow w half start → IsCheckpointLaid store w (begun_with half start) [] (sized (start_bytes start))
begun store w half start is closed follows = record {
  apart = stands_apart store w half is follows.other closed;
  follows = follows;
  next_sizes = (start_is_body start, tt);
  there = refl;
  laid = ap (λ (l : List ℕ). 1 ∷ l) (sym (append-nil (sized (start_bytes start))));
}

-- ---- one record more

push : (bodies : List (List ℕ)) (body : List ℕ) → chain (bodies ++ body ∷ []) ≡ chain bodies ++ 1 ∷ sized body
push bodies body = sym (append-nil (chain (bodies ++ body ∷ []))) ∙ chain-push bodies body [] ∙ ap (λ (l : List ℕ). chain bodies ++ 1 ∷ l) (append-nil (sized body))

pub with_record : (store : Store) (w next : Where) (written waiting body : List ℕ) → IsCheckpointLaid store w next written waiting → IsJournalBody body → IsCheckpointLaid store w (with_body next body) written (waiting ++ 1 ∷ sized body)
with_record store w next written waiting body is one = record {
  apart = is.apart;
  follows = is.follows;
  next_sizes = bodies_more (all_bodies next) body is.next_sizes one;
  there = is.there;
  laid = ap (λ (l : List ℕ). 1 ∷ l) (sym (append_assoc written waiting (1 ∷ sized body))) ∙ ap (λ (l : List ℕ). l ++ 1 ∷ sized body) is.laid ∙ sym (push (all_bodies next) body);
}

-- ---- a piece is written

pub apart_wrote : (store : Store) (w : Where) (half at : ℕ) (bytes : List ℕ) → IsHalfApart store w half → half * half_len + 1 ≤ at → at + length bytes ≤ half * half_len + half_len → IsHalfApart (wrote store at bytes) w half
apart_wrote store w half at bytes is from to = record {
  other = is.other;
  chain_there = is.chain_there;
  sizes = is.sizes;
  within = is.within;
  closed = is.closed;
  ranges = All-cons (λ (range : ℕ × ℕ). (half * half_len + 1 ≤ range.0) × (range.1 ≤ half * half_len + half_len)) (at, at + length bytes) store.written (from, to) is.ranges;
}

module _ (store : Store) (w next : Where) (written waiting : List ℕ) (is : IsCheckpointLaid store w next written waiting) (reads : MayLeave store store.read) (at : ℕ) (place : at ≡ next.half * half_len + 1 + length written) where
  -- the first place of the half, and what was written behind it, are there
  long : at ≤ length store.read
  long = omega (arith, place, ap length is.there, length-take (length written) (drop (next.half * half_len + 1) store.read), length-drop (next.half * half_len + 1) store.read, reads.no_shorter, is.apart.closed.inside)

  first : List ℕ
  first = take (next.half * half_len + 1) store.read

  length-first : length first ≡ next.half * half_len + 1
  unfolding first
  length-first = omega (arith, length-take (next.half * half_len + 1) store.read, reads.no_shorter, is.apart.closed.inside)

  up_to : take at store.read ≡ first ++ written
  unfolding first
  up_to = ap (λ (n : ℕ). take n store.read) place ∙ take-add (next.half * half_len + 1) (length written) store.read ∙ ap (λ (l : List ℕ). take (next.half * half_len + 1) store.read ++ l) is.there

  -- what stands behind the first gate then
  behind_then : (bytes : List ℕ) → drop (next.half * half_len + 1) (overwritten store.read at bytes) ≡ written ++ (bytes ++ drop (at + length bytes) store.read)
  behind_then bytes =
      ap (drop (next.half * half_len + 1)) (overwritten_within store.read at bytes long ∙ ap (λ (l : List ℕ). l ++ bytes ++ drop (at + length bytes) store.read) up_to
      ∙ append_assoc (first ++ written) bytes (drop (at + length bytes) store.read) ∙ append_assoc first written (bytes ++ drop (at + length bytes) store.read))
      ∙ drop_at first (written ++ (bytes ++ drop (at + length bytes) store.read)) (next.half * half_len + 1) length-first

  pub written_out : length written + length waiting + 2 ≤ half_len → IsCheckpointLaid (wrote store at waiting) w next (written ++ waiting) []
  written_out within =
      let rest = drop (at + length waiting) store.read in
      record {
        apart = apart_wrote store w next.half at waiting is.apart (omega (arith, place)) (omega (arith, place, within));
        follows = is.follows;
        next_sizes = is.next_sizes;
        there = ap (take (length (written ++ waiting))) (behind_then waiting ∙ sym (append_assoc written waiting rest)) ∙ take_at (written ++ waiting) rest (length (written ++ waiting)) refl;
        laid = ap (λ (l : List ℕ). 1 ∷ l) (append-nil (written ++ waiting)) ∙ is.laid;
      }

  -- with the closed gate the checkpoint is whole
  pub whole : (last : Store) → last ≡ stable (overwritten store.read at (waiting ++ 0 ∷ [])) → MayLeave (wrote store at (waiting ++ 0 ∷ [])) last.read → length written + length waiting + 2 ≤ half_len → IsLaidWhole last w next
  whole last is_last left within =
      let bytes = waiting ++ 0 ∷ [] in let b = next.half * half_len in let rest = drop (at + length bytes) store.read in
      let to : at + length bytes ≤ b + half_len = omega (arith, place, within, length-append waiting (0 ∷ [])) in
      let apart = apart_wrote store w next.half at bytes is.apart (omega (arith, place)) to in
      let read : last.read ≡ overwritten store.read at bytes = ap (λ (s : Store). s.read) is_last in
      let closed = closed_stays (wrote store at bytes) w next.half apart last.read left in
      let tail : drop (b + 1) last.read ≡ written ++ (bytes ++ rest) = ap (drop (b + 1)) read ∙ behind_then bytes in
      record {
        synced = is_last ∙ ap stable (sym read);
        follows = is.follows;
        chain_there = laying_stands (wrote store at bytes) w next.half apart last.read left;
        sizes = is.apart.sizes;
        within = is.apart.within;
        next_sizes = is.next_sizes;
        gate = get_or last.read b 0;
        tail = written ++ (bytes ++ rest);
        closed = closed.closed;
        last = 0;
        behind = rest;
        shut = omega arith;
        half_is = drop_more last.read b 0 closed.inside ∙ ap (λ (l : List ℕ). get_or last.read b 0 ∷ l) tail;
        laid = ap (λ (l : List ℕ). 1 ∷ written ++ l) (append_assoc waiting (0 ∷ []) rest) ∙ ap (λ (l : List ℕ). 1 ∷ l) (sym (append_assoc written waiting (0 ∷ rest))) ∙ ap (λ (l : List ℕ). l ++ 0 ∷ rest) is.laid;
      }

pub used_is : (store : Store) (w next : Where) (written waiting : List ℕ) → IsCheckpointLaid store w next written waiting → used_by next ≡ length written + length waiting + 2
used_is store w next written waiting is = omega (arith, ap length is.laid, length-append written waiting)

-- ---- the first gate is opened

begun_two : (gate : ℕ) (behind : List ℕ) → 1 ≤ length behind → gate ≡ 1 → is_begun (gate ∷ behind) ≡ true
begun_two gate [] some e = absurd (omega (arith, some))
begun_two gate (x ∷ xs) some e = rw e refl

pub settled : (store last : Store) (w next : Where) → IsLaidWhole store w next → MayLeave (wrote store (next.half * half_len) (1 ∷ [])) last.read → last ≡ stable (overwritten store.read (next.half * half_len) (1 ∷ [])) → used_by next ≤ half_len
    → Stands last next
settled store last w next is left is_last within =
    let b = next.half * half_len in
    let read : last.read ≡ overwritten store.read b (1 ∷ []) = ap (λ (s : Store). s.read) is_last in
    let long : b + 2 ≤ length store.read =
    omega (arith, ap length is.half_is, length-drop b store.read, ap length is.laid, length-append (chain (all_bodies next)) (is.last ∷ is.behind), length-append (start_bytes next.start) (chain next.bodies)) in
    let long_now : b + 2 ≤ length last.read = omega (arith, long, ap length read, length-overwritten store.read b (1 ∷ [])) in
    let gate : get_or last.read b 0 ≡ 1 = ap (λ (l : List ℕ). get_or l b 0) read ∙ ap (λ (n : ℕ). get_or (overwritten store.read b (1 ∷ [])) n 0) (omega arith) ∙ overwritten_inside store.read b (1 ∷ []) 0 (omega arith) in
    let open_now : is_half_begun next.half last.read ≡ true =
    ap is_begun (drop_more last.read b 0 (omega (arith, long_now))) ∙ begun_two (get_or last.read b 0) (drop (b + 1) last.read) (omega (arith, long_now, length-drop (b + 1) last.read)) gate in
    record { synced = is_last ∙ ap stable (sym read); chain_there = opened store w next is last.read left open_now; sizes = is.next_sizes; within = within }
