-- A piece whose fingerprints are found from its own bytes.
use Rattle.std.proofs.Common.{◌≡◌, ℕ, zero, suc, ◌+◌, ◌-◌, ◌%◌, ◌^◌, ◌<◌, ◌≤◌, List, [], ◌∷◌, ◌++◌, length, get_or, take, drop, refl, sym, ap, ◌∙◌, arith, Bool, true, false, ◌&&◌, ◌==◌, inl, inr, add-zero, add-suc, append_assoc, subst}
use Rattle.std.specs.Prelude.{nat_le, slice_range}
use Rattle.std.proofs.Math.Seq.{drop-cons, take-suc, drop-append-add}
use Rattle.std.proofs.lemmas.List.{length-append, length-take, length-drop, get_or-take, get_or-drop, append-nil}
use Rattle.std.proofs.lemmas.Bool.{cases_lt}
use Rattle.std.proofs.lemmas.Bool.Decides.{nat_tests}
use Rattle.rabin_chunker.specs.Cuts.{fingerprint_of, is_end, is_cut, start_at, ends_after}
use Rattle.rabin_chunker.specs.Rolling.{rolled_by}
use Rattle.rabin_chunker.specs.Window.{oldest_first, IsRecent}
use Rattle.rabin_chunker.specs.Walk.{Walked, Arrives}
use Rattle.rabin_chunker.specs.Lanes.{IsUnmarked}
use Rattle.rabin_chunker.proofs.Algebra.{Bytes, rolled, fingerprint_lt}
use Rattle.rabin_chunker.proofs.Steps.{start_at-cut, start_at-on, ends_after-cut, ends_after-on, bytes_take, bytes_drop, is_end-is_cut, recent_skipped}

-- ---- the window as a slice
slice_first : (piece : List ℕ) (i : ℕ) → i < length piece → take 48 (drop i piece) ≡ get_or piece i 0 ∷ take 47 (drop (suc i) piece)
slice_first piece i h = ap (λ (x : List ℕ). take 48 x) (drop-cons piece i 0 h)

slice_last : (piece : List ℕ) (i : ℕ) → suc i + 47 < length piece → take 48 (drop (suc i) piece) ≡ take 47 (drop (suc i) piece) ++ get_or piece (suc i + 47) 0 ∷ []
slice_last piece i h =
    take-suc (drop (suc i) piece) 47 0 (simp length-drop (omega arith))
    ∙ ap (λ (x : ℕ). take 47 (drop (suc i) piece) ++ x ∷ []) (get_or-drop (suc i) piece 47 0)

pub slice_lt : (piece : List ℕ) (at f : ℕ) → 48 ≤ at → at ≤ length piece → Bytes piece → f ≡ fingerprint_of (slice_range piece (at - 48) at) → f < 2 ^ 53
slice_lt piece at f ha hl hb hf =
    let n : at - (at - 48) ≡ 48 = omega arith in
    let k : length (slice_range piece (at - 48) at) ≡ 48 = simp (length-take, length-drop) (omega arith) in
    rw hf (fingerprint_lt (slice_range piece (at - 48) at) k (bytes_take (at - (at - 48)) (drop (at - 48) piece) (bytes_drop (at - 48) piece hb)))

-- the fingerprint of the 48 bytes before the next place
pub slice_rolled : (piece : List ℕ) (at f r : ℕ) → 48 ≤ at → at < length piece → Bytes piece → f ≡ fingerprint_of (slice_range piece (at - 48) at)
    → r ≡ rolled_by f (get_or piece (at - 48) 0) (get_or piece at 0) → r ≡ fingerprint_of (slice_range piece (at + 1 - 48) (at + 1))
slice_rolled piece at f r ha hl hb hf hr =
    let i : ℕ = at - 48 in
    let a : ℕ = get_or piece i 0 in
    let b : ℕ = get_or piece at 0 in
    let xs : List ℕ = take 47 (drop (suc i) piece) in
    let n : at - i ≡ 48 = omega arith in
    let n2 : at + 1 - (at + 1 - 48) ≡ 48 = omega arith in
    let s : at + 1 - 48 ≡ suc i = omega arith in
    let e : suc i + 47 ≡ at = omega arith in
    let long : length xs ≡ 47 = simp (length-take, length-drop) (omega arith) in
    let before : slice_range piece (at - 48) at ≡ a ∷ xs = ap (λ (k : ℕ). take k (drop i piece)) n ∙ slice_first piece i (omega arith) in
    let after : slice_range piece (at + 1 - 48) (at + 1) ≡ xs ++ b ∷ [] =
    (λ t. take (n2 t) (drop (s t) piece)) ∙ slice_last piece i (omega arith) ∙ ap (λ (k : ℕ). xs ++ get_or piece k 0 ∷ []) e in
    hr ∙ ap (λ (x : ℕ). rolled_by x a b) (hf ∙ ap (λ (x : List ℕ). fingerprint_of x) before)
    ∙ sym (rolled a b xs long (bytes_take 47 (drop (suc i) piece) (bytes_drop (suc i) piece hb)) (hb at))
    ∙ ap (λ (x : List ℕ). fingerprint_of x) (sym after)

pub unmarked_more : (piece : List ℕ) (from at f : ℕ) → IsUnmarked piece from at → f ≡ fingerprint_of (slice_range piece (at - 48) at)
    → (f % 2 ^ 13 == 8191) ≡ false → IsUnmarked piece from (at + 1)
unmarked_more piece from at f h hf off = λ q a b. elim (cases_lt q at) [
  | inl l ↦ h q a l
  | inr m ↦
      let e : q ≡ at = omega arith in
      ap (λ (k : ℕ). fingerprint_of (slice_range piece (k - 48) k) % 2 ^ 13 == 8191) e ∙ ap (λ (x : ℕ). x % 2 ^ 13 == 8191) (sym hf) ∙ off
]

-- two places on
pub slice_two : (piece : List ℕ) (at f one two : ℕ) → 48 ≤ at → at + 1 < length piece → Bytes piece → f ≡ fingerprint_of (slice_range piece (at - 48) at)
    → one ≡ rolled_by f (get_or piece (at - 48) 0) (get_or piece at 0)
    → two ≡ rolled_by (rolled_by f (get_or piece (at - 48) 0) (get_or piece at 0)) (get_or piece (at - 47) 0) (get_or piece (at + 1) 0)
    → two ≡ fingerprint_of (slice_range piece (at + 2 - 48) (at + 2))
slice_two piece at f one two ha hl hb hf h1 h2 =
    let first : one ≡ fingerprint_of (slice_range piece (at + 1 - 48) (at + 1)) = slice_rolled piece at f one ha (omega arith) hb hf h1 in
    let oldest : at - 47 ≡ at + 1 - 48 = omega arith in
    let e : at + 2 ≡ at + 1 + 1 = omega arith in
    rw e (slice_rolled piece (at + 1) one two (omega arith) hl hb first
    (h2 ∙ (λ t. rolled_by (sym h1 t) (get_or piece (oldest t) 0) (get_or piece (at + 1) 0))))

-- ---- no end on the way
and_off : (b : Bool) → (b && false) ≡ false
and_off true = refl
and_off false = refl

is_end-unmarked : (file : List ℕ) (s e : ℕ) → (fingerprint_of (slice_range file (e - 48) e) % 2 ^ 13 == 8191) ≡ false → e < s + 16384 → is_end file s e ≡ false
unfolding is_end
is_end-unmarked file s e h lt =
    let b : (e == s + 16384) ≡ false = grind (arith, nat_tests) in
    rw (h, b, and_off (nat_le (s + 2048) e)) refl

start_at-none_yet : (file : List ℕ) (s e n : ℕ) → start_at file e ≡ s → ((q : ℕ) → e < q → q ≤ e + n → is_end file s q ≡ false) → start_at file (e + n) ≡ s
start_at-none_yet file s e zero hs h = rw (add-zero e) hs
start_at-none_yet file s e (suc n) hs h =
    rw (add-suc e n) (start_at-on file s (e + n) (start_at-none_yet file s e n hs (λ q a b. h q a (omega arith))) (h (suc (e + n)) (omega arith) (omega arith)))

ends_after-none_yet : (file : List ℕ) (s from k n : ℕ) → start_at file (from + k) ≡ s → ((q : ℕ) → from + k < q → q ≤ from + k + n → is_end file s q ≡ false)
    → ends_after file from (k + n) ≡ ends_after file from k
ends_after-none_yet file s from k zero hs h = rw (add-zero k) refl
ends_after-none_yet file s from k (suc n) hs h =
    let at : from + k + n ≡ from + (k + n) = omega arith in
    let here : start_at file (from + (k + n)) ≡ s = rw at at (start_at-none_yet file s (from + k) n hs (λ q a b. h q a (omega arith))) in
    rw (add-suc k n) (ends_after-on file from (k + n) s here (h (suc (from + (k + n))) (omega arith) (omega arith))
    ∙ ends_after-none_yet file s from k n hs (λ q a b. h q a (omega arith)))

slice_in_file : (fed piece : List ℕ) (q : ℕ) → 48 ≤ q → slice_range (fed ++ piece) (length fed + q - 48) (length fed + q) ≡ slice_range piece (q - 48) q
slice_in_file fed piece q h =
    let n : length fed + q - (length fed + q - 48) ≡ q - (q - 48) = omega arith in
    let i : length fed + q - 48 ≡ length fed + (q - 48) = omega arith in
    (λ t. take (n t) (drop (i t) (fed ++ piece))) ∙ ap (λ (x : List ℕ). take (q - (q - 48)) x) (drop-append-add fed piece (q - 48))

slice_recent : (file : List ℕ) (e inside : ℕ) → 48 ≤ e → IsRecent file e inside (slice_range file (e - 48) e)
unfolding IsRecent
slice_recent file e inside he = λ j hj hk.
    let place : e - 48 + j ≡ e + j - 48 = omega arith in
    get_or-take (e - (e - 48)) (drop (e - 48) file) j 0 (omega arith) ∙ get_or-drop (e - 48) file j 0 ∙ ap (λ (i : ℕ). get_or file i 0) place

pub oldest_first-slice : (xs : List ℕ) → oldest_first 0 xs ≡ xs
unfolding oldest_first
oldest_first-slice xs = append-nil xs

-- a scan to a place, with no marked place on the way
module _ (fed piece : List ℕ) (k inside m next f : ℕ) (ring before now : List ℕ) (far : 48 ≤ k) (fits : k + (m + 1) ≤ length piece)
    (longest : inside + (m + 1) ≤ 16384) (unmarked : IsUnmarked piece k (k + (m + 1)))
    (kept : f ≡ fingerprint_of (slice_range piece (k + (m + 1) - 48) (k + (m + 1))))
    (w : Walked (fed ++ piece) (length fed) k inside next ring before now) where
  abbrev file : List ℕ
  file = fed ++ piece

  abbrev from : ℕ
  from = length fed

  abbrev s : ℕ
  s = start_at file (from + k)

  off_at : (q : ℕ) → from + k < q → q ≤ from + k + m → is_end file s q ≡ false
  off_at q a b =
      let r : ℕ = q - from in
      let e : from + r ≡ q = omega arith in
      let no_mark : (fingerprint_of (slice_range file (from + r - 48) (from + r)) % 2 ^ 13 == 8191) ≡ false =
      ap (λ (x : List ℕ). fingerprint_of x % 2 ^ 13 == 8191) (slice_in_file fed piece r (omega arith)) ∙ unmarked r (omega arith) (omega arith) in
      rw e at (is_end-unmarked file s (from + r) no_mark (omega (arith, w.reads.begun)))

  same_start : start_at file (from + (k + m)) ≡ s
  same_start = let at : from + k + m ≡ from + (k + m) = omega arith in rw at at (start_at-none_yet file s (from + k) m refl off_at)

  same_ends : ends_after file from (k + m) ≡ ends_after file from k
  same_ends = ends_after-none_yet file s from k m refl off_at

  there : from + (k + (m + 1)) ≡ suc (from + (k + m))
  there = omega arith

  slice : slice_range piece (k + (m + 1) - 48) (k + (m + 1)) ≡ slice_range file (from + (k + (m + 1)) - 48) (from + (k + (m + 1)))
  slice = sym (slice_in_file fed piece (k + (m + 1)) (omega arith))

  recent : IsRecent file (from + (k + (m + 1))) (inside + (m + 1)) (slice_range piece (k + (m + 1) - 48) (k + (m + 1)))
  recent = rw slice (slice_recent file (from + (k + (m + 1))) (inside + (m + 1)) (omega arith))

  told : is_end file s (from + (k + (m + 1))) ≡ is_cut (inside + (m + 1)) f
  told =
      let long : length (slice_range piece (k + (m + 1) - 48) (k + (m + 1))) ≡ 48 = simp (length-take, length-drop) (omega arith) in
      let within : from + (k + (m + 1)) ≤ length file = simp length-append (omega arith) in
      is_end-is_cut file s (from + (k + (m + 1))) (inside + (m + 1)) f (slice_range piece (k + (m + 1) - 48) (k + (m + 1))) long within (omega (arith, w.reads.begun)) recent kept

  goes_on : is_cut (inside + (m + 1)) f ≡ false → is_end file s (suc (from + (k + m))) ≡ false
  goes_on c = ap (is_end file s) (sym there) ∙ told ∙ c

  ends_there : is_cut (inside + (m + 1)) f ≡ true → is_end file s (suc (from + (k + m))) ≡ true
  ends_there c = ap (is_end file s) (sym there) ∙ told ∙ c

  pub arrives_scanned : Arrives file from k inside (m + 1) 0 f (slice_range piece (k + (m + 1) - 48) (k + (m + 1))) before now
  arrives_scanned = record {
    on = λ c.
        let start : start_at file (from + (k + (m + 1))) ≡ s = ap (start_at file) there ∙ start_at-on file s (from + (k + m)) same_start (goes_on c) in
        let count : k + (m + 1) ≡ suc (k + m) = omega arith in
        record {
          reads = record {
            begun = omega (arith, start, w.reads.begun);
            recent = rw (oldest_first-slice (slice_range piece (k + (m + 1) - 48) (k + (m + 1)))) recent;
          };
          ends = w.ends ∙ ap (λ (x : List ℕ). before ++ x)
              (sym (ap (ends_after file from) count ∙ ends_after-on file from (k + m) s same_start (goes_on c) ∙ same_ends));
        };
    cut = λ c.
        let start : start_at file (from + (k + (m + 1))) ≡ from + (k + (m + 1)) =
        ap (start_at file) there ∙ start_at-cut file s (from + (k + m)) same_start (ends_there c) ∙ sym there in
        let count : k + (m + 1) ≡ suc (k + m) = omega arith in
        let more : ends_after file from (k + (m + 1)) ≡ ends_after file from k ++ (from + (k + (m + 1))) ∷ [] =
        ap (ends_after file from) count ∙ ends_after-cut file from (k + m) s same_start (ends_there c)
        ∙ (λ t. same_ends t ++ sym there t ∷ []) in
        record {
          reads = record {
            begun = omega (arith, start);
            recent = recent_skipped file (from + (k + (m + 1))) 0 (oldest_first 0 (slice_range piece (k + (m + 1) - 48) (k + (m + 1)))) (omega arith);
          };
          ends = ap (λ (x : List ℕ). x ++ (from + (k + (m + 1))) ∷ []) w.ends
              ∙ append_assoc before (ends_after file from k) ((from + (k + (m + 1))) ∷ []) ∙ ap (λ (x : List ℕ). before ++ x) (sym more);
        };
  }

pub arrives_stop : (fed piece : List ℕ) (k inside stop next f : ℕ) (ring new before now : List ℕ) → 48 ≤ k → k < stop → stop ≤ length piece → inside + (stop - k) ≤ 16384
    → IsUnmarked piece k stop → f ≡ fingerprint_of (slice_range piece (stop - 48) stop) → new ≡ slice_range piece (stop - 48) stop
    → Walked (fed ++ piece) (length fed) k inside next ring before now
    → Arrives (fed ++ piece) (length fed) k inside (stop - k) 0 f new before now
arrives_stop fed piece k inside stop next f ring new before now far past fits longest unmarked kept copied w =
    let m : ℕ = stop - k - 1 in
    let e : stop ≡ k + (m + 1) = omega arith in
    let d : m + 1 ≡ stop - k = omega arith in
    let here : f ≡ fingerprint_of (slice_range piece (k + (m + 1) - 48) (k + (m + 1))) = kept ∙ ap (λ (x : ℕ). fingerprint_of (slice_range piece (x - 48) x)) e in
    let same : new ≡ slice_range piece (k + (m + 1) - 48) (k + (m + 1)) = copied ∙ ap (λ (x : ℕ). slice_range piece (x - 48) x) e in
    let all : Arrives (fed ++ piece) (length fed) k inside (m + 1) 0 f (slice_range piece (k + (m + 1) - 48) (k + (m + 1))) before now =
    arrives_scanned fed piece k inside m next f ring before now far (omega arith) (omega arith) (subst (λ (x : ℕ). IsUnmarked piece k x) e unmarked) here w in
    subst (λ (x : ℕ). Arrives (fed ++ piece) (length fed) k inside x 0 f new before now) d
    (subst (λ (x : List ℕ). Arrives (fed ++ piece) (length fed) k inside (m + 1) 0 f x before now) (sym same) all)
