-- The window as a ring moves on; where a file is cut as a place moves on.
use Rattle.std.proofs.Common.{◌≡◌, ℕ, zero, suc, ◌+◌, ◌-◌, ◌%◌, ◌^◌, ◌<◌, ◌≤◌, List, [], ◌∷◌, ◌++◌, length, get_or, take, drop, refl, sym, ap, ◌∙◌, append_assoc, arith, lit<, ltb, ltb-true, Bool, true, false, ◌&&◌, ◌||◌, ◌==◌, eqb, cond, inl, inr, add-zero, add-suc, add-one, min}
use Rattle.std.specs.Prelude.{nat_le, slice_range, if◌then◌else◌}
use Rattle.std.proofs.Math.ListN.{set, get_or-append}
use Rattle.std.proofs.Math.Seq.{drop-cons, take-suc-set, get_or-append_right}
use Rattle.std.proofs.lemmas.List.{drop-set-lt, get_or-set_same, get_or-set_other, length-append, length-take, length-drop, length-set, take_all, take-append-le, drop-append-le, ext_get_or, get_or_past, get_or-take, get_or-drop, append-nil, drop_all}
use Rattle.std.proofs.lemmas.Bool.{cases_lt, cases_eq, leb-true}
use Rattle.std.proofs.Math.Bool.{or-true}
use Rattle.std.specs.List.{list_all}
use Rattle.std.proofs.lemmas.Bool.Decides.{nat_tests}
use Rattle.rabin_chunker.specs.Cuts.{fingerprint_of, is_end, is_cut, start_at, ends_after, last_end}
use Rattle.rabin_chunker.specs.Window.{oldest_first, IsRecent, IsNear, IsReaderAt}
use Rattle.rabin_chunker.specs.Walk.{Walked, Arrives}
use Rattle.rabin_chunker.specs.Rolling.{rolled_by}
use Rattle.rabin_chunker.proofs.Algebra.{Bytes, fingerprint_lt, rolled}

-- ---- the ring
-- all but the oldest
abbrev pub younger : ℕ → List ℕ → List ℕ
younger next w = drop (suc next) w ++ take next w

pub oldest_first-cons : (next : ℕ) (w : List ℕ) → next < length w → oldest_first next w ≡ get_or w next 0 ∷ younger next w
unfolding oldest_first
oldest_first-cons next w h = ap (λ (x : List ℕ). x ++ take next w) (drop-cons w next 0 h)

pub length-younger : (next : ℕ) (w : List ℕ) → next < length w → suc (length (younger next w)) ≡ length w
length-younger next w h = simp (length-append, length-drop, length-take) (omega arith)

moved_within : (next b : ℕ) (w : List ℕ) → next < length w → oldest_first (suc next) (set w next b) ≡ younger next w ++ b ∷ []
unfolding oldest_first
moved_within next b w h =
    rw (take-suc-set w next b h, drop-set-lt (suc next) w next b (omega arith)) (sym (append_assoc (drop (suc next) w) (take next w) (b ∷ [])))

moved_round : (next b : ℕ) (w : List ℕ) → suc next ≡ length w → oldest_first 0 (set w next b) ≡ younger next w ++ b ∷ []
unfolding oldest_first
moved_round next b w h =
    let inside : next < length w = omega arith in
    let e : drop (suc next) w ≡ [] = drop_all (suc next) w (omega arith) in
    let f : take (suc next) (set w next b) ≡ set w next b = take_all (suc next) (set w next b) (omega (arith, length-set w next b)) in
    rw e (append-nil (set w next b) ∙ sym f ∙ take-suc-set w next b inside)

-- the place after `next` on a ring of 48
pub oldest_first-moved : (next next' b : ℕ) (w : List ℕ) → length w ≡ 48 → next < 48 → next' ≡ cond (eqb next 47) 0 (next + 1)
    → oldest_first next' (set w next b) ≡ younger next w ++ b ∷ []
oldest_first-moved next next' b w hl h e = elim (cases_lt next 47) [
  | inl l ↦
      let n : next' ≡ suc next = grind (arith, nat_tests) in
      rw n (moved_within next b w (omega arith))
  | inr m ↦
      let n : next' ≡ 0 = grind (arith, nat_tests) in
      rw n (moved_round next b w (omega arith))
]

bytes_append : (xs ys : List ℕ) → Bytes xs → Bytes ys → Bytes (xs ++ ys)
bytes_append xs ys hx hy = λ i. elim (cases_lt i (length xs)) [
  | inl l ↦ rw (get_or-append xs ys 0 i l) (hx i)
  | inr m ↦ rw (get_or-append_right xs ys i 0 m) (hy (i - length xs))
]

pub bytes_drop : (n : ℕ) (xs : List ℕ) → Bytes xs → Bytes (drop n xs)
bytes_drop n xs h = λ i. rw (get_or-drop n xs i 0) (h (n + i))

pub bytes_take : (n : ℕ) (xs : List ℕ) → Bytes xs → Bytes (take n xs)
bytes_take n xs h = λ i. elim (cases_lt i n) [
  | inl l ↦ rw (get_or-take n xs i 0 l) (h i)
  | inr m ↦ rw (get_or_past (take n xs) i 0 (simp length-take (omega arith))) (lit< tt)
]

pub bytes_younger : (next : ℕ) (w : List ℕ) → Bytes w → Bytes (younger next w)
bytes_younger next w h = bytes_append (drop (suc next) w) (take next w) (bytes_drop (suc next) w h) (bytes_take next w h)

bytes_oldest_first : (next : ℕ) (w : List ℕ) → Bytes w → Bytes (oldest_first next w)
unfolding oldest_first
bytes_oldest_first next w h = bytes_append (drop next w) (take next w) (bytes_drop next w h) (bytes_take next w h)

pub length-oldest_first : (next : ℕ) (w : List ℕ) → next < length w → length (oldest_first next w) ≡ length w
unfolding oldest_first
length-oldest_first next w h = simp (length-append, length-drop, length-take) (omega arith)

pub ring_lt : (fingerprint next : ℕ) (w : List ℕ) → length w ≡ 48 → next < 48 → Bytes w → fingerprint ≡ fingerprint_of (oldest_first next w) → fingerprint < 2 ^ 53
ring_lt fingerprint next w hl h hb hf = rw hf (fingerprint_lt (oldest_first next w) (length-oldest_first next w (omega arith) ∙ hl) (bytes_oldest_first next w hb))

-- ---- a window that holds the newest bytes
pub recent_moved : (file : List ℕ) (e inside a b : ℕ) (xs : List ℕ) → length xs ≡ 47 → get_or file e 0 ≡ b → inside ≤ e
    → IsRecent file e inside (a ∷ xs) → IsRecent file (e + 1) (inside + 1) (xs ++ b ∷ [])
unfolding IsRecent
recent_moved file e inside a b xs hl hb hi h = λ j hj hk. elim (cases_lt j 47) [
  | inl l ↦
      let old : get_or xs j 0 ≡ get_or file (e + suc j - 48) 0 = h (suc j) (omega arith) (omega arith) in
      let at : e + suc j - 48 ≡ e + 1 + j - 48 = omega arith in
      get_or-append xs (b ∷ []) 0 j (omega arith) ∙ old ∙ ap (λ (i : ℕ). get_or file i 0) at
  | inr m ↦
      let last : j - length xs ≡ 0 = omega arith in
      let at : e ≡ e + 1 + j - 48 = omega arith in
      get_or-append_right xs (b ∷ []) j 0 (omega arith) ∙ ap (λ (i : ℕ). get_or (b ∷ []) i 0) last ∙ sym hb ∙ ap (λ (i : ℕ). get_or file i 0) at
]

pub recent_skipped : (file : List ℕ) (e inside : ℕ) (xs : List ℕ) → inside ≤ 2000 → IsRecent file e inside xs
unfolding IsRecent
recent_skipped file e inside xs h = λ j hj hk. absurd (omega arith)

pub recent_whole : (file : List ℕ) (e inside : ℕ) (xs : List ℕ) → length xs ≡ 48 → e ≤ length file → 2048 ≤ inside → inside ≤ e
    → IsRecent file e inside xs → xs ≡ slice_range file (e - 48) e
unfolding IsRecent
recent_whole file e inside xs hl he h hi recent =
    let n : e - (e - 48) ≡ 48 = omega arith in
    let k : length (slice_range file (e - 48) e) ≡ 48 = simp (length-take, length-drop) (omega arith) in
    ext_get_or 0 xs (slice_range file (e - 48) e) (hl ∙ sym k) (λ j hj.
    let at : e - 48 + j ≡ e + j - 48 = omega arith in
    recent j (omega arith) (omega arith)
    ∙ sym (get_or-take (e - (e - 48)) (drop (e - 48) file) j 0 (omega arith) ∙ get_or-drop (e - 48) file j 0 ∙ ap (λ (i : ℕ). get_or file i 0) at))

pub recent_longer : (file more : List ℕ) (e inside : ℕ) (xs : List ℕ) → e ≤ length file → inside ≤ e → IsRecent file e inside xs → IsRecent (file ++ more) e inside xs
unfolding IsRecent
recent_longer file more e inside xs he hi h = λ j hj hk. h j hj hk ∙ sym (get_or-append file more 0 (e + j - 48) (omega arith))

-- ---- where the file is cut
le_moved : (s k e : ℕ) → s + k ≡ e → nat_le (s + 2048) e ≡ nat_le 2048 k
le_moved s k e h = grind (arith, nat_tests)

eq_moved : (s k e : ℕ) → s + k ≡ e → (e == s + 16384) ≡ (k == 16384)
eq_moved s k e h = grind (arith, nat_tests)

pub is_end-early : (file : List ℕ) (s e : ℕ) → e < s + 2048 → is_end file s e ≡ false
unfolding is_end
is_end-early file s e h =
    let a : nat_le (s + 2048) e ≡ false = grind (arith, nat_tests) in
    let b : (e == s + 16384) ≡ false = grind (arith, nat_tests) in
    rw (a, b) refl

pub is_end-longest : (file : List ℕ) (s : ℕ) → is_end file s (s + 16384) ≡ true
unfolding is_end
is_end-longest file s =
    let b : (s + 16384 == s + 16384) ≡ true = grind (arith, nat_tests) in
    rw b (or-true (nat_le (s + 2048) (s + 16384) && (fingerprint_of (slice_range file (s + 16384 - 48) (s + 16384)) % 2 ^ 13 == 8191)))

and_same : (a b c : Bool) → (a ≡ true → b ≡ c) → (a && b) ≡ (a && c)
and_same true b c h = h refl
and_same false b c h = refl

pub is_end-is_cut : (file : List ℕ) (s e inside fingerprint : ℕ) (xs : List ℕ) → length xs ≡ 48 → e ≤ length file → s + inside ≡ e
    → IsRecent file e inside xs → fingerprint ≡ fingerprint_of xs → is_end file s e ≡ is_cut inside fingerprint
unfolding is_end
is_end-is_cut file s e inside fingerprint xs hl he hs recent hf =
    rw (le_moved s inside e hs, eq_moved s inside e hs) (ap (λ (x : Bool). x || (inside == 16384))
    (and_same (nat_le 2048 inside) (fingerprint_of (slice_range file (e - 48) e) % 2 ^ 13 == 8191) (fingerprint % 2 ^ 13 == 8191)
    (λ t. ap (λ (x : ℕ). x % 2 ^ 13 == 8191) (sym (hf ∙ ap (λ (x : List ℕ). fingerprint_of x) (recent_whole file e inside xs hl he (leb-true _ _ t) (omega arith) recent))))))

pub start_at-cut : (file : List ℕ) (s e : ℕ) → start_at file e ≡ s → is_end file s (suc e) ≡ true → start_at file (suc e) ≡ suc e
unfolding start_at
start_at-cut file s e hs h = rw (hs, h) refl

pub start_at-on : (file : List ℕ) (s e : ℕ) → start_at file e ≡ s → is_end file s (suc e) ≡ false → start_at file (suc e) ≡ s
unfolding start_at
start_at-on file s e hs h = rw (hs, h) refl

pub ends_after-cut : (file : List ℕ) (from n s : ℕ) → start_at file (from + n) ≡ s → is_end file s (suc (from + n)) ≡ true
    → ends_after file from (suc n) ≡ ends_after file from n ++ suc (from + n) ∷ []
unfolding ends_after
ends_after-cut file from n s hs h = rw (hs, h) refl

pub ends_after-on : (file : List ℕ) (from n s : ℕ) → start_at file (from + n) ≡ s → is_end file s (suc (from + n)) ≡ false
    → ends_after file from (suc n) ≡ ends_after file from n
unfolding ends_after
ends_after-on file from n s hs h = rw (hs, h) (append-nil (ends_after file from n))

-- no secret ends among its first 2047 places
pub start_at-skip : (file : List ℕ) (s e n : ℕ) → start_at file e ≡ s → e + n < s + 2048 → start_at file (e + n) ≡ s
start_at-skip file s e zero hs h = rw (add-zero e) hs
start_at-skip file s e (suc n) hs h =
    rw (add-suc e n) (start_at-on file s (e + n) (start_at-skip file s e n hs (omega arith)) (is_end-early file s (suc (e + n)) (omega arith)))

pub ends_after-skip : (file : List ℕ) (s from k n : ℕ) → start_at file (from + k) ≡ s → from + k + n < s + 2048 → ends_after file from (k + n) ≡ ends_after file from k
ends_after-skip file s from k zero hs h = rw (add-zero k) refl
ends_after-skip file s from k (suc n) hs h =
    let at : from + k + n ≡ from + (k + n) = omega arith in
    let here : start_at file (from + (k + n)) ≡ s = rw at at (start_at-skip file s (from + k) n hs (omega arith)) in
    rw (add-suc k n) (ends_after-on file from (k + n) s here (is_end-early file s (suc (from + (k + n))) (omega arith)) ∙ ends_after-skip file s from k n hs (omega arith))

-- ---- what follows a place changes nothing up to it
is_end-longer : (file more : List ℕ) (s e : ℕ) → e ≤ length file → is_end (file ++ more) s e ≡ is_end file s e
unfolding is_end
is_end-longer file more s e h =
    rw (drop-append-le (e - 48) file more (omega arith), take-append-le (e - (e - 48)) (drop (e - 48) file) more (simp length-drop (omega arith))) refl

pub start_at-longer : (file more : List ℕ) (e : ℕ) → e ≤ length file → start_at (file ++ more) e ≡ start_at file e
unfolding start_at
start_at-longer file more zero h = refl
start_at-longer file more (suc e) h =
    rw (start_at-longer file more e (omega arith), is_end-longer file more (start_at file e) (suc e) h) refl

pub ends_after-longer : (file more : List ℕ) (from n : ℕ) → from + n ≤ length file → ends_after (file ++ more) from n ≡ ends_after file from n
unfolding ends_after
ends_after-longer file more from zero h = refl
ends_after-longer file more from (suc n) h =
    rw (ends_after-longer file more from n (omega arith), start_at-longer file more (from + n) (omega arith), is_end-longer file more (start_at file (from + n)) (suc (from + n)) (omega arith)) refl

pub ends_after-none : (file : List ℕ) (from : ℕ) → ends_after file from 0 ≡ []
unfolding ends_after
ends_after-none file from = refl

-- the end at the place after e, if there is one
one_end : List ℕ → ℕ → List ℕ
one_end file e = if is_end file (start_at file e) (suc e) then suc e ∷ [] else []

ends_after-next : (file : List ℕ) (from n : ℕ) → ends_after file from (suc n) ≡ ends_after file from n ++ one_end file (from + n)
unfolding ends_after one_end
ends_after-next file from n = refl

-- the ends at m and n places in a row
pub ends_after-add : (file : List ℕ) (from m n : ℕ) → ends_after file from (m + n) ≡ ends_after file from m ++ ends_after file (from + m) n
ends_after-add file from m zero = rw (add-zero m, ends_after-none file (from + m)) (sym (append-nil (ends_after file from m)))
ends_after-add file from m (suc n) =
    let at : from + (m + n) ≡ from + m + n = omega arith in
    rw (add-suc m n, ends_after-next file from (m + n), ends_after-next file (from + m) n, at, ends_after-add file from m n)
    (append_assoc (ends_after file from m) (ends_after file (from + m) n) (one_end file (from + m + n)))

-- ---- a reader
pub reads_longer : (file more : List ℕ) (inside next : ℕ) (ring : List ℕ) → IsReaderAt file (length file) inside next ring → IsReaderAt (file ++ more) (length file) inside next ring
reads_longer file more inside next ring h = record {
  begun = ap (λ (s : ℕ). s + inside) (start_at-longer file more (length file) (omega arith)) ∙ h.begun;
  recent = recent_longer file more (length file) inside (oldest_first next ring) (omega arith) (omega (arith, h.begun)) h.recent;
}

pub reads_skipped : (file : List ℕ) (e n inside next : ℕ) (ring : List ℕ) → inside + n ≤ 2000 → IsReaderAt file e inside next ring → IsReaderAt file (e + n) (inside + n) next ring
reads_skipped file e n inside next ring h r =
    let same : start_at file (e + n) ≡ start_at file e = start_at-skip file (start_at file e) e n refl (omega (arith, r.begun)) in
    record {
      begun = omega (arith, same, r.begun);
      recent = recent_skipped file (e + n) (inside + n) (oldest_first next ring) h;
    }

pub walked_start : (file more : List ℕ) (inside next : ℕ) (ring before : List ℕ) → IsReaderAt file (length file) inside next ring
    → Walked (file ++ more) (length file) 0 inside next ring before before
walked_start file more inside next ring before h = record {
  reads = rw (add-zero (length file)) (reads_longer file more inside next ring h);
  ends = rw (ends_after-none (file ++ more) (length file)) (sym (append-nil before));
}

pub walked_skipped : (file : List ℕ) (from k n inside next : ℕ) (ring before now : List ℕ) → inside + n ≤ 2000
    → Walked file from k inside next ring before now → Walked file from (k + n) (inside + n) next ring before now
walked_skipped file from k n inside next ring before now h w =
    let at : from + (k + n) ≡ from + k + n = omega arith in
    record {
      reads = rw at (reads_skipped file (from + k) n inside next ring h w.reads);
      ends = w.ends ∙ ap (λ (x : List ℕ). before ++ x) (sym (ends_after-skip file (start_at file (from + k)) from k n refl (omega (arith, w.reads.begun))));
    }

ring_recent : (file : List ℕ) (e inside next next' b : ℕ) (ring : List ℕ) → length ring ≡ 48 → next < 48 → next' ≡ cond (eqb next 47) 0 (next + 1)
    → get_or file e 0 ≡ b → IsReaderAt file e inside next ring → IsRecent file (e + 1) (inside + 1) (oldest_first next' (set ring next b))
ring_recent file e inside next next' b ring hl hn hm hb r =
    let within : next < length ring = omega arith in
    let first : IsRecent file e inside (get_or ring next 0 ∷ younger next ring) = rw (oldest_first-cons next ring within) at r.recent in
    rw (oldest_first-moved next next' b ring hl hn hm)
    (recent_moved file e inside (get_or ring next 0) b (younger next ring) (omega (arith, length-younger next ring within)) hb (omega (arith, r.begun)) first)

-- whether the secret ends after one more byte
one_more : (file : List ℕ) (from k inside next next' b fingerprint : ℕ) (ring before now : List ℕ) → length ring ≡ 48 → next < 48 → next' ≡ cond (eqb next 47) 0 (next + 1)
    → get_or file (from + k) 0 ≡ b → from + k < length file → fingerprint ≡ fingerprint_of (oldest_first next' (set ring next b)) → next' < 48
    → Walked file from k inside next ring before now → is_end file (start_at file (from + k)) (suc (from + k)) ≡ is_cut (inside + 1) fingerprint
one_more file from k inside next next' b fingerprint ring before now hl hn hm hb he hf hx w =
    let recent : IsRecent file (from + k + 1) (inside + 1) (oldest_first next' (set ring next b)) = ring_recent file (from + k) inside next next' b ring hl hn hm hb w.reads in
    let recent2 : IsRecent file (suc (from + k)) (inside + 1) (oldest_first next' (set ring next b)) = rw (add-one (from + k)) at recent in
    let long : length (set ring next b) ≡ 48 = length-set ring next b ∙ hl in
    let whole : length (oldest_first next' (set ring next b)) ≡ 48 = length-oldest_first next' (set ring next b) (omega arith) ∙ long in
    is_end-is_cut file (start_at file (from + k)) (suc (from + k)) (inside + 1) fingerprint (oldest_first next' (set ring next b)) whole (omega arith) (omega (arith, w.reads.begun)) recent2 hf

pub walked_on : (file : List ℕ) (from k inside next next' b fingerprint : ℕ) (ring before now : List ℕ) → length ring ≡ 48 → next < 48 → next' ≡ cond (eqb next 47) 0 (next + 1)
    → get_or file (from + k) 0 ≡ b → from + k < length file → fingerprint ≡ fingerprint_of (oldest_first next' (set ring next b)) → next' < 48
    → is_cut (inside + 1) fingerprint ≡ false
    → Walked file from k inside next ring before now → Walked file from (k + 1) (inside + 1) next' (set ring next b) before now
walked_on file from k inside next next' b fingerprint ring before now hl hn hm hb he hf hx hc w =
    let no : is_end file (start_at file (from + k)) (suc (from + k)) ≡ false = one_more file from k inside next next' b fingerprint ring before now hl hn hm hb he hf hx w ∙ hc in
    let at : from + (k + 1) ≡ suc (from + k) = omega arith in
    let at2 : from + (k + 1) ≡ from + k + 1 = omega arith in
    let same : start_at file (from + (k + 1)) ≡ start_at file (from + k) = ap (λ (x : ℕ). start_at file x) at ∙ start_at-on file (start_at file (from + k)) (from + k) refl no in
    record {
      reads = record {
        begun = omega (arith, same, w.reads.begun);
        recent = rw at2 (ring_recent file (from + k) inside next next' b ring hl hn hm hb w.reads);
      };
      ends = rw (add-one k, ends_after-on file from k (start_at file (from + k)) refl no) w.ends;
    }

pub walked_cut : (file : List ℕ) (from k inside next next' b fingerprint : ℕ) (ring before now : List ℕ) → length ring ≡ 48 → next < 48 → next' ≡ cond (eqb next 47) 0 (next + 1)
    → get_or file (from + k) 0 ≡ b → from + k < length file → fingerprint ≡ fingerprint_of (oldest_first next' (set ring next b)) → next' < 48
    → is_cut (inside + 1) fingerprint ≡ true
    → Walked file from k inside next ring before now → Walked file from (k + 1) 0 next' (set ring next b) before (now ++ (from + (k + 1)) ∷ [])
walked_cut file from k inside next next' b fingerprint ring before now hl hn hm hb he hf hx hc w =
    let yes : is_end file (start_at file (from + k)) (suc (from + k)) ≡ true = one_more file from k inside next next' b fingerprint ring before now hl hn hm hb he hf hx w ∙ hc in
    let at : from + (k + 1) ≡ suc (from + k) = omega arith in
    let new : start_at file (from + (k + 1)) ≡ suc (from + k) = ap (λ (x : ℕ). start_at file x) at ∙ start_at-cut file (start_at file (from + k)) (from + k) refl yes in
    record {
      reads = record {
        begun = omega (arith, new);
        recent = recent_skipped file (from + (k + 1)) 0 (oldest_first next' (set ring next b)) (omega arith);
      };
      ends = rw (at, add-one k, ends_after-cut file from k (start_at file (from + k)) refl yes)
          (ap (λ (x : List ℕ). x ++ suc (from + k) ∷ []) w.ends ∙ append_assoc before (ends_after file from k) (suc (from + k) ∷ []));
    }

-- ---- what the loop keeps
pub bytes_set : (next b : ℕ) (w : List ℕ) → next < length w → b < 256 → Bytes w → Bytes (set w next b)
bytes_set next b w hn h hb = λ i. elim (cases_eq i next) [
  | inl e ↦ rw (e, get_or-set_same w next b 0 hn) h
  | inr n ↦ rw (get_or-set_other w next i b 0 n) (hb i)
]

pub kept_moved : (fingerprint next next' b : ℕ) (w : List ℕ) → length w ≡ 48 → next < 48 → next' ≡ cond (eqb next 47) 0 (next + 1)
    → fingerprint ≡ fingerprint_of (younger next w ++ b ∷ []) → fingerprint ≡ fingerprint_of (oldest_first next' (set w next b))
kept_moved fingerprint next next' b w hl hn hm h = h ∙ ap (λ (x : List ℕ). fingerprint_of x) (sym (oldest_first-moved next next' b w hl hn hm))

pub kept_cons : (fingerprint next : ℕ) (w : List ℕ) → length w ≡ 48 → next < 48 → fingerprint ≡ fingerprint_of (oldest_first next w)
    → fingerprint ≡ fingerprint_of (get_or w next 0 ∷ younger next w)
kept_cons fingerprint next w hl hn h = h ∙ ap (λ (x : List ℕ). fingerprint_of x) (oldest_first-cons next w (omega arith))

-- the fingerprint of a ring that moves on by a byte
pub kept_rolled : (f r next next' b : ℕ) (w : List ℕ) → length w ≡ 48 → next < 48 → Bytes w → b < 256 → f ≡ fingerprint_of (oldest_first next w)
    → next' ≡ cond (eqb next 47) 0 (next + 1) → r ≡ rolled_by f (get_or w next 0) b → r ≡ fingerprint_of (oldest_first next' (set w next b))
kept_rolled f r next next' b w hl hn hw hb hf hm hr =
    kept_moved r next next' b w hl hn hm
    (hr ∙ ap (λ (x : ℕ). rolled_by x (get_or w next 0) b) (kept_cons f next w hl hn hf)
    ∙ sym (rolled (get_or w next 0) b (younger next w) (omega (arith, hl, length-younger next w (omega arith))) (bytes_younger next w hw) hb))

pub get_or-in_piece : (fed piece : List ℕ) (k : ℕ) → get_or (fed ++ piece) (length fed + k) 0 ≡ get_or piece k 0
get_or-in_piece fed piece k =
    let at : length fed + k - length fed ≡ k = omega arith in
    get_or-append_right fed piece (length fed + k) 0 (omega arith) ∙ ap (λ (i : ℕ). get_or piece i 0) at

pub within_piece : (fed piece : List ℕ) (k : ℕ) → k < length piece → length fed + k < length (fed ++ piece)
within_piece fed piece k h = simp length-append (omega arith)

-- below the longest a secret goes on
pub unended : (inside fingerprint : ℕ) → inside ≤ 16384 → is_cut inside fingerprint ≡ false → inside < 16384
unended inside fingerprint h e = elim (cases_lt inside 16384) [
  | inl l ↦ l
  | inr m ↦
      let at : inside ≡ 16384 = omega arith in
      let t : is_cut inside fingerprint ≡ true = rw at (or-true (nat_le 2048 16384 && (fingerprint % 2 ^ 13 == 8191))) in
      cc
]

pub take_before : (n : ℕ) (before now more : List ℕ) → n ≡ length before → take n now ≡ before → take n (now ++ more) ≡ before
take_before n before now more hn h =
    let l : min n (length now) ≡ n = sym (length-take n now) ∙ ap (λ (x : List ℕ). length x) h ∙ sym hn in
    take-append-le n now more (omega arith) ∙ h

-- a step of one byte
pub arrives_one : (fed piece : List ℕ) (k inside next next' fingerprint : ℕ) (ring before now : List ℕ) → length ring ≡ 48 → next < 48 → k < length piece → next' < 48
    → next' ≡ cond (eqb next 47) 0 (next + 1) → fingerprint ≡ fingerprint_of (oldest_first next' (set ring next (get_or piece k 0)))
    → Walked (fed ++ piece) (length fed) k inside next ring before now
    → Arrives (fed ++ piece) (length fed) k inside 1 next' fingerprint (set ring next (get_or piece k 0)) before now
arrives_one fed piece k inside next next' fingerprint ring before now hl hn hk hx n hf w =
    let b : ℕ = get_or piece k 0 in
    record {
      on = λ c. walked_on (fed ++ piece) (length fed) k inside next next' b fingerprint ring before now hl hn n (get_or-in_piece fed piece k) (within_piece fed piece k hk) hf hx c w;
      cut = λ c. walked_cut (fed ++ piece) (length fed) k inside next next' b fingerprint ring before now hl hn n (get_or-in_piece fed piece k) (within_piece fed piece k hk) hf hx c w;
    }

-- ---- the newest bytes of a piece
pub near_start : (piece : List ℕ) (inside : ℕ) (xs : List ℕ) → IsNear piece 0 inside xs
unfolding IsNear
near_start piece inside xs = λ j hj hk hn. absurd (omega arith)

pub near_skipped : (piece : List ℕ) (at inside : ℕ) (xs : List ℕ) → inside ≤ 2000 → IsNear piece at inside xs
unfolding IsNear
near_skipped piece at inside xs h = λ j hj hk hn. absurd (omega arith)

near_moved : (piece : List ℕ) (at inside a : ℕ) (xs : List ℕ) → length xs ≡ 47 → IsNear piece at inside (a ∷ xs)
    → IsNear piece (at + 1) (inside + 1) (xs ++ get_or piece at 0 ∷ [])
unfolding IsNear
near_moved piece at inside a xs hl h = λ j hj hk hn. elim (cases_lt j 47) [
  | inl l ↦
      let old : get_or xs j 0 ≡ get_or piece (at + suc j - 48) 0 = h (suc j) (omega arith) (omega arith) (omega arith) in
      let place : at + suc j - 48 ≡ at + 1 + j - 48 = omega arith in
      get_or-append xs (get_or piece at 0 ∷ []) 0 j (omega arith) ∙ old ∙ ap (λ (i : ℕ). get_or piece i 0) place
  | inr m ↦
      let last : j - length xs ≡ 0 = omega arith in
      let place : at ≡ at + 1 + j - 48 = omega arith in
      get_or-append_right xs (get_or piece at 0 ∷ []) j 0 (omega arith) ∙ ap (λ (i : ℕ). get_or (get_or piece at 0 ∷ []) i 0) last ∙ ap (λ (i : ℕ). get_or piece i 0) place
]

pub near_one : (piece : List ℕ) (at inside next next' : ℕ) (ring : List ℕ) → length ring ≡ 48 → next < 48 → next' ≡ cond (eqb next 47) 0 (next + 1)
    → IsNear piece at inside (oldest_first next ring) → IsNear piece (at + 1) (inside + 1) (oldest_first next' (set ring next (get_or piece at 0)))
near_one piece at inside next next' ring hl hn hm h =
    let within : next < length ring = omega arith in
    let first : IsNear piece at inside (get_or ring next 0 ∷ younger next ring) = rw (oldest_first-cons next ring within) at h in
    rw (oldest_first-moved next next' (get_or piece at 0) ring hl hn hm)
    (near_moved piece at inside (get_or ring next 0) (younger next ring) (omega (arith, length-younger next ring within)) first)

pub near_whole : (piece : List ℕ) (at inside : ℕ) (xs : List ℕ) → length xs ≡ 48 → at ≤ length piece → 2048 ≤ inside → 48 ≤ at
    → IsNear piece at inside xs → xs ≡ slice_range piece (at - 48) at
unfolding IsNear
near_whole piece at inside xs hl he h ha near =
    let n : at - (at - 48) ≡ 48 = omega arith in
    let k : length (slice_range piece (at - 48) at) ≡ 48 = simp (length-take, length-drop) (omega arith) in
    ext_get_or 0 xs (slice_range piece (at - 48) at) (hl ∙ sym k) (λ j hj.
    let place : at - 48 + j ≡ at + j - 48 = omega arith in
    near j (omega arith) (omega arith) (omega arith)
    ∙ sym (get_or-take (at - (at - 48)) (drop (at - 48) piece) j 0 (omega arith) ∙ get_or-drop (at - 48) piece j 0 ∙ ap (λ (i : ℕ). get_or piece i 0) place))

pub near_slice : (piece : List ℕ) (at inside : ℕ) → at ≤ length piece → 48 ≤ at → IsNear piece at inside (slice_range piece (at - 48) at)
unfolding IsNear
near_slice piece at inside he ha = λ j hj hk hn.
    let place : at - 48 + j ≡ at + j - 48 = omega arith in
    get_or-take (at - (at - 48)) (drop (at - 48) piece) j 0 (omega arith) ∙ get_or-drop (at - 48) piece j 0 ∙ ap (λ (i : ℕ). get_or piece i 0) place

-- ---- the end of the file
pub last_end-none : (file : List ℕ) (inside : ℕ) → start_at file (length file) + inside ≡ length file → inside ≡ 0 → last_end file ≡ []
unfolding last_end
last_end-none file inside h z =
    let t : (start_at file (length file) == length file) ≡ true = grind (arith, nat_tests) in
    rw t refl

pub last_end-some : (file : List ℕ) (inside : ℕ) → start_at file (length file) + inside ≡ length file → 0 < inside → last_end file ≡ length file ∷ []
unfolding last_end
last_end-some file inside h z =
    let t : (start_at file (length file) == length file) ≡ false = grind (arith, nat_tests) in
    rw t refl

and_left : (p q : Bool) → (p && q) ≡ true → p ≡ true
and_left true q h = refl
and_left false q h = cc

and_right : (p q : Bool) → (p && q) ≡ true → q ≡ true
and_right true q h = h
and_right false q h = cc

bytes_cons : (x : ℕ) (xs : List ℕ) → x < 256 → Bytes xs → (i : ℕ) → get_or (x ∷ xs) i 0 < 256
bytes_cons x xs hx h zero = hx
bytes_cons x xs hx h (suc i) = h i

pub bytes_from_test : (xs : List ℕ) → list_all (λ x. ltb x 256) xs ≡ true → Bytes xs
bytes_from_test [] h = λ i. lit< tt
bytes_from_test (x ∷ xs) h = λ i. bytes_cons x xs (ltb-true _ _ (and_left (ltb x 256) (list_all (λ x. ltb x 256) xs) h)) (bytes_from_test xs (and_right (ltb x 256) (list_all (λ x. ltb x 256) xs) h)) i
