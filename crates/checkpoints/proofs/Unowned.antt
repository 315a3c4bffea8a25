-- Shares that no user owns, one after another.
use Rattle.std.proofs.Common.{◌≡◌, ℕ, ◌+◌, ◌<◌, ◌≤◌, List, [], ◌∷◌, length, take, map, set, refl, sym, ap, ◌∙◌, subst, arith, length-set}
use Rattle.std.specs.Prelude.{All}
use Rattle.std.proofs.lemmas.List.{take_more_set, length-take-le}
use Rattle.std.proofs.lemmas.List.Elements.{All-append, All-cons, All-nil}
use Rattle.cloud_memory.specs.RecordBody.body.KeptItem.{KeptItem}
use Rattle.cloud_memory.specs.RecordBody.Spelling.{Kept, FitsKept, body_bytes}
use Rattle.cloud_memory.specs.ShareIndex.Shares.{Shares}
use Rattle.checkpoints.specs.Laying.{IsNextInBuffer}
use Rattle.checkpoints.specs.Picking.{IsPicked, batched, batches, with_batch}
use Rattle.checkpoints.specs.Records.{kept_at, kept_from}
use Rattle.checkpoints.specs.Steps.{AreKept}
use Rattle.checkpoints.proofs.Batching.{one_more, at_end, at_full, no_batches}

module _ (shares : Shares) where
  -- So many shares of the batch are taken.
  pub record Taking (from : ℕ) (items : List KeptItem) (at count : ℕ) : Type 0 where
    pub next : batches (kept_from shares from) ≡ batched (take count items) (kept_from shares at)
    pub fit : All FitsKept (take count items)
    pub room : length items ≡ 256

  module _ (from : ℕ) (items : List KeptItem) (at count : ℕ) (l : Taking from items at count) where
    pub one_taken : (behind : ℕ) (item : KeptItem) → IsPicked (kept_at shares.owners) shares.place_slots at item behind → FitsKept item → count < 256
        → Taking from (set items count item) behind (count + 1)
    one_taken behind item p fits few =
        let taken = take_more_set items count item (omega (arith, few, l.room)) in
        record {
          next =
              l.next
              ∙ ap (batched (take count items)) p.rest
              ∙ one_more (take count items) item (kept_from shares behind) (omega (arith, few, length-take-le count items (omega (arith, few, l.room))))
              ∙ ap (λ (xs : List KeptItem). batched xs (kept_from shares behind)) (sym taken);
          fit = subst (All FitsKept) (sym taken) (All-append FitsKept (take count items) (item ∷ []) l.fit (All-cons FitsKept item [] fits (All-nil FitsKept)));
          room = length-set items count item ∙ l.room;
        }

    pub ended : count ≤ 256 → kept_from shares at ≡ [] → AreKept shares from (take count items) at
    ended few none = record {
      next = l.next ∙ ap (batched (take count items)) none ∙ at_end (take count items) ∙ ap (λ (xs : List KeptItem). with_batch (take count items) (batches xs)) (sym none);
      ends = λ _. none;
      fit = l.fit;
      few = omega (arith, few, length-take-le count items (omega (arith, few, l.room)));
    }

    pub filled : count ≡ 256 → AreKept shares from (take count items) at
    filled full =
        let long : length (take count items) ≡ 256 = length-take-le count items (omega (arith, full, l.room)) ∙ full in
        record {
          next = l.next ∙ at_full (take count items) (kept_from shares at) long;
          ends = λ none. absurd (let no : 0 ≡ 256 = ap (λ (xs : List KeptItem). length xs) (sym none) ∙ long in omega (arith, no));
          fit = l.fit;
          few = omega (arith, long);
        }

  module _ (from : ℕ) (items : List KeptItem) (behind : ℕ) (b : AreKept shares from items behind) where
    -- nothing more is kept
    pub kept_ends : items ≡ [] → kept_from shares from ≡ []
    kept_ends none =
        no_batches (kept_from shares from) (b.next ∙ ap (λ (xs : List KeptItem). with_batch xs (batches (kept_from shares behind))) none ∙ ap (λ (xs : List KeptItem). batches xs) (b.ends none))

    pub kept_next : (bytes : List ℕ) → 0 < length items → bytes ≡ body_bytes (Kept items)
        → IsNextInBuffer (map Kept (batches (kept_from shares from))) (map Kept (batches (kept_from shares behind))) bytes
    kept_next bytes some is = record {
      body = Kept items;
      front = ap (map Kept) (b.next ∙ some_batch items (batches (kept_from shares behind)) some);
      is_body = record { fits = ((omega (arith, some), b.few), b.fit); spelled = is };
    }
      where
        some_batch : (xs : List KeptItem) (more : List (List KeptItem)) → 0 < length xs → with_batch xs more ≡ xs ∷ more
        some_batch [] more l = absurd (omega arith)
        some_batch (x ∷ xs) more l = refl
