-- A chain stays where its half has it and the places of the other half stay.
use Rattle.std.proofs.Common.{◌≡◌, ◌⊎◌, inl, inr, ℕ, ◌+◌, ◌-◌, ◌*◌, ◌%◌, ◌≤◌, false, List, [], ◌∷◌, ◌++◌, length, take, sym, ◌∙◌, ap, subst, arith, append_assoc, length-append}
use Rattle.std.proofs.Math.Seq.{take-append-add}
use Rattle.journal_halves.specs.Records.{sized, is_begun}
use Rattle.journal_halves.specs.Frames.{IsRecordAhead}
use Rattle.journal_halves.specs.JournalStart.start.Start.{Start}
use Rattle.journal_halves.specs.JournalStart.Spelling.{start_bytes, epoch_of}
use Rattle.journal_halves.specs.Halves.{half_len, half_of, is_half_begun, HasStart, IsCurrent}
use Rattle.journal_halves.specs.Journals.{Where, all_bodies, with_body, HasChain, IsEither}
use Rattle.journal_halves.proofs.Laying.{starts}
use Rattle.journal_halves.specs.Findings.{part_of}
use Rattle.journal_halves.proofs.Looks.{begun_part, has_start}
use Rattle.journal_halves.specs.States.{IsHalfKept, IsAdded}

-- a half's first record lies in its places
pub record_off : (xs body : List ℕ) → IsRecordAhead xs body → IsRecordAhead (take half_len xs) body
record_off xs body r =
    let front = 1 ∷ (sized body ++ r.gate ∷ []) in
    let long : length front ≡ length body + 6 = omega (arith, length-append body (r.gate ∷ [])) in
    let m = half_len - length front in
    let sum : half_len ≡ length front + m = omega (arith, long, r.is_body.few) in
    let whole : xs ≡ front ++ r.behind = r.spelled ∙ ap (λ (l : List ℕ). 1 ∷ l) (sym (append_assoc (sized body) (r.gate ∷ []) r.behind)) in
    record {
      gate = r.gate;
      behind = take m r.behind;
      is_body = r.is_body;
      spelled = ap (take half_len) whole ∙ ap (λ (n : ℕ). take n (front ++ r.behind)) sum ∙ take-append-add front r.behind m
          ∙ ap (λ (l : List ℕ). 1 ∷ l) (append_assoc (sized body) (r.gate ∷ []) (take m r.behind));
    }

module _ (old image : List ℕ) (half : ℕ) (same : part_of half image ≡ part_of half old) where
  pub unbegun_stays : is_half_begun half old ≡ false → is_half_begun half image ≡ false
  unbegun_stays none = sym (begun_part half image) ∙ ap is_begun same ∙ begun_part half old ∙ none

  pub start_stays : (start : Start) → HasStart old half start → HasStart image half start
  start_stays start has = has_start half image start has.is_start (subst (λ (l : List ℕ). IsRecordAhead l (start_bytes start)) (sym same) (record_off (half_of half old) (start_bytes start) has.record_is))

-- the other half's places, which an added record leaves as they were
pub other_stays : (half : ℕ) (old : List ℕ) (bodies : List (List ℕ)) (body image : List ℕ) → IsAdded half old bodies body image → part_of (1 - half) image ≡ part_of (1 - half) old
other_stays half old bodies body image (inl k) = k.other
other_stays half old bodies body image (inr k) = k.other

pub kept_chain : (old image : List ℕ) (w : Where) → IsCurrent old w.half w.start → IsHalfKept w.half old (all_bodies w) image → HasChain image w
kept_chain old image w c k = record {
  current = record {
    is_half = c.is_half;
    begun = record {
      is_start = c.begun.is_start;
      record_is = subst (λ (l : List ℕ). IsRecordAhead l (start_bytes w.start)) (sym k.chain_is.spelled) (starts (start_bytes w.start) w.bodies k.chain_is.gate k.chain_is.behind k.chain_is.sizes.0);
    };
    other = elim c.other [
      | inl none ↦ inl (unbegun_stays old image (1 - w.half) k.other none)
      | inr before ↦ inr (before.0, start_stays old image (1 - w.half) k.other before.0 before.1, before.2)
    ];
  };
  chain_is = k.chain_is;
}

pub added_either : (old image : List ℕ) (w : Where) (body : List ℕ) → IsCurrent old w.half w.start → IsAdded w.half old (all_bodies w) body image → IsEither w (with_body w body) image
added_either old image w body c (inl k) = inl (kept_chain old image w c k)
added_either old image w body c (inr k) = inr (kept_chain old image (with_body w body) c k)
