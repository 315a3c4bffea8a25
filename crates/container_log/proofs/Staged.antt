-- A log with blobs staged.
use Rattle.std.proofs.Common.{◌≡◌, ◌≢◌, ℕ, ◌+◌, ◌-◌, ◌≤◌, List, [], ◌∷◌, ◌++◌, length, take, sym, ◌∙◌, ap, append_assoc, arith, length-append, length-take}
use Rattle.std.specs.Prelude.{replicate}
use Rattle.std.proofs.lemmas.List.{length-replicate, length-take-le}
use Rattle.std.proofs.lemmas.List.Elements.{All-append, All-cons, All-nil}
use Rattle.cd_edges.specs.declared.area.Area.{Area}
use Rattle.container_log.specs.Caches.{Kept, Cache, kept_over}
use Rattle.container_log.specs.Places.{container_len, place_of, end_of_laid}
use Rattle.container_log.specs.Laying.{lengths, laid}
use Rattle.container_log.specs.States.{State, HasStaged, staged_end, need_of, with_blob}
use Rattle.container_log.proofs.Least.{place_behind}
use Rattle.container_log.proofs.Laid.{end_laid, laid_more}

pub staged_end_of : (log : State) (blobs : List (List ℕ)) → HasStaged log blobs → staged_end log ≡ end_of_laid log.end (lengths blobs)
staged_end_of log blobs has = ap (λ (l : List ℕ). log.end + length l) has.bytes ∙ end_laid log.end blobs

pub staged_more : (log : State) (blobs : List (List ℕ)) (blob : List ℕ) → HasStaged log blobs → need_of log (length blob) ≤ 4194304 → HasStaged (with_blob log blob) (blobs ++ blob ∷ [])
staged_more log blobs blob has room =
    let P : List ℕ → Type 0 = λ b. length b ≤ container_len in
    let end = staged_end_of log blobs has in
    record {
      fit = All-append P blobs (blob ∷ []) has.fit (All-cons P blob [] (omega (arith, room, place_behind (staged_end log) (length blob))) (All-nil P));
      bytes = append_assoc log.staged _ blob
          ∙ ap (λ (l : List ℕ). l ++ (replicate (place_of (staged_end log) (length blob) - staged_end log) 0 ++ blob)) has.bytes
          ∙ ap (λ (n : ℕ). laid log.end blobs ++ (replicate (place_of n (length blob) - n) 0 ++ blob)) end
          ∙ sym (laid_more log.end blobs blob);
    }

-- the bytes of the buffer, once a blob is put behind what is staged
pub put_more : (area : Area) (limit end used gap keep : ℕ) (kept : List Kept) (old new blob : List ℕ) → used ≤ length old → end + used + gap ≡ place_of (end + used) (length blob)
    → take (used + gap + length blob) new ≡ take used old ++ replicate gap 0 ++ blob
    → with_blob (record { area = area; limit = limit; end = end; staged = take used old; keep = keep; kept = kept }) blob
    ≡ record { area = area; limit = limit; end = end; staged = take (used + gap + length blob) new; keep = keep; kept = kept }
put_more area limit end used gap keep kept old new blob within at put =
    let long : length (take used old) ≡ used = omega (arith, within, length-take used old) in
    ap (λ (l : List ℕ). let log : State = record { area = area; limit = limit; end = end; staged = l; keep = keep; kept = kept } in log)
    (ap (λ (n : ℕ). take used old ++ replicate (place_of (end + n) (length blob) - (end + n)) 0 ++ blob) long
    ∙ ap (λ (n : ℕ). take used old ++ replicate n 0 ++ blob) (omega (arith, at))
    ∙ sym put)

-- what a log is after a flush
pub flushed : (log : State) (area : Area) (limit end left : ℕ) (items : List ℕ) (cache : Cache) → area ≡ log.area → limit ≡ log.limit → end ≡ staged_end log → left ≡ 0
    → cache.keep ≡ log.keep → cache.kept ≡ kept_over log.end log.staged log.kept
    → record { area = area; limit = limit; end = end; staged = take left items; keep = cache.keep; kept = cache.kept }
    ≡ record log { end = staged_end log; staged = []; kept = kept_over log.end log.staged log.kept }
flushed log area limit end left items cache area_is limit_is end_is none keep_is kept_is =
    let S : Area → ℕ → ℕ → ℕ → ℕ → List Kept → State = λ a l e n k c. record { area = a; limit = l; end = e; staged = take n items; keep = k; kept = c } in
    ap (λ (a : Area). S a limit end left cache.keep cache.kept) area_is
    ∙ ap (λ (n : ℕ). S log.area n end left cache.keep cache.kept) limit_is
    ∙ ap (λ (n : ℕ). S log.area log.limit n left cache.keep cache.kept) end_is
    ∙ ap (λ (n : ℕ). S log.area log.limit (staged_end log) n cache.keep cache.kept) none
    ∙ ap (λ (n : ℕ). S log.area log.limit (staged_end log) 0 n cache.kept) keep_is
    ∙ ap (λ (c : List Kept). S log.area log.limit (staged_end log) 0 log.keep c) kept_is

pub some_used : (used inside : ℕ) → used ≡ inside → inside ≢ 0 → 1 ≤ used
some_used used inside same some = omega (arith, same, some)

pub long_staged : (inside used : ℕ) (staged items : List ℕ) → used ≡ inside → take inside items ≡ staged → inside ≤ length items → used ≡ length staged
long_staged inside used staged items same is within = omega (arith, same, ap length is, length-take inside items, within)

-- how long a buffer is behind whose front zeros and a blob were put
pub long_put : (front blob new : List ℕ) (used gap : ℕ) → used ≤ length front → new ≡ take used front ++ replicate gap 0 ++ blob → length new ≡ used + gap + length blob
long_put front blob new used gap within is =
    ap length is ∙ length-append (take used front ++ replicate gap 0) blob
    ∙ ap (λ (n : ℕ). n + length blob) (length-append (take used front) (replicate gap 0) ∙ (λ i. length-take-le used front within i + length-replicate {A = ℕ} gap 0 i))
