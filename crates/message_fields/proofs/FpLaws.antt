-- Fingerprints cut from bytes.
use Rattle.std.proofs.Common.{◌≡◌, ℕ, zero, suc, ◌+◌, ◌*◌, ◌^◌, ◌<◌, ◌≤◌, leb, ltb, true, List, [], ◌∷◌, ◌++◌, length, take, drop, get_or, Some, None, Ok, Err, refl, sym, ap, ◌∙◌, arith}
use Rattle.std.specs.Prelude.{All, IsTrue, slice_get}
use Rattle.std.specs.List.{flat_map}
use Rattle.std.proofs.lemmas.Bool.{and_parts, leb-true, le-leb, le-ltb}
use Rattle.std.proofs.lemmas.List.{take_at, drop_at, take-append-drop, length-append, length-take, length-drop, drop-drop}
use Rattle.std.proofs.lemmas.List.Concat.{flat_map-cons}
use Rattle.std.proofs.lemmas.List.Elements.{All-nil, All-cons, All-head, All-tail}
use Rattle.std.proofs.lemmas.Option.{slice_get-get_or, slice_get_past}
use Rattle.grammar.specs.CdBase.ids.Fp.{Fp}
use Rattle.grammar.proofs.FieldLaws.{LawfulBytes, lawful_bytes, guard_ok}
use Rattle.grammar.specs.Fields.{bytes_at}
use Rattle.message_fields.specs.Parts.{made}
use Rattle.message_fields.specs.Fingerprints.{is_batch, fps_in, fps_at, fps_bytes, AreFps}
use Rattle.message_fields.proofs.PartLaws.{lawful_made, lawful_counted}

-- ---- the numbers of a batch

pub batch_from : (n : ℕ) → IsTrue (is_batch n) → (1 ≤ n) × (n ≤ 256)
batch_from n e = let p = and_parts (leb 1 n) _ e in (leb-true _ _ p.0, leb-true _ _ p.1)

pub batch_to : (n : ℕ) → 1 ≤ n → n ≤ 256 → IsTrue (is_batch n)
batch_to n low high = rw (le-leb 1 n low, le-leb n 256 high) refl

pub small_batch : (n : ℕ) → is_batch n ≡ true → n < 2 ^ 16
small_batch n e = let p = batch_from n e in omega arith

-- ---- fingerprints

pub length-fps_in : (n : ℕ) (bytes : List ℕ) → length (fps_in n bytes) ≡ n
unfolding fps_in
length-fps_in zero bytes = refl
length-fps_in (suc n) bytes = ap suc (length-fps_in n (drop 32 bytes))

get_or-fps_in : (n i : ℕ) (bytes : List ℕ) (d : Fp) → i < n → get_or (fps_in n bytes) i d ≡ record { 0 = take 32 (drop (i * 32) bytes) }
unfolding fps_in
get_or-fps_in zero i bytes d lt = absurd (omega arith)
get_or-fps_in (suc n) zero bytes d lt = refl
get_or-fps_in (suc n) (suc i) bytes d lt =
    let next = get_or-fps_in n i (drop 32 bytes) d (omega arith) in
    let at : 32 + i * 32 ≡ suc i * 32 = omega arith in
    let moved : drop (i * 32) (drop 32 bytes) ≡ drop (suc i * 32) bytes = drop-drop (i * 32) 32 bytes ∙ ap (λ (m : ℕ). drop m bytes) at in
    next ∙ ap (λ (x : List ℕ). record { 0 = take 32 x }) moved

pub fp_at_place : (n i : ℕ) (bytes : List ℕ) → i < n → slice_get (fps_in n bytes) i ≡ Some (record { 0 = take 32 (drop (i * 32) bytes) })
fp_at_place n i bytes lt =
    let d : Fp = record { 0 = [] } in
    slice_get-get_or (fps_in n bytes) i d (omega (arith, length-fps_in n bytes)) ∙ ap (λ (x : Fp). Some x) (get_or-fps_in n i bytes d lt)

-- a fingerprint that was read at its place
pub fp_read : (n i : ℕ) (bytes rest x after : List ℕ) → i < n → rest ≡ drop (i * 32) bytes → bytes_at 32 rest ≡ Ok (x, after) → Some (record { 0 = x }) ≡ slice_get (fps_in n bytes) i
fp_read n i bytes rest x after lt at e =
    let g = guard_ok (ltb (length rest) 32) 0 (take 32 rest, drop 32 rest) (x, after) e in
    let front : x ≡ take 32 (drop (i * 32) bytes) = sym (ap (λ (p : List ℕ × List ℕ). p.0) g.1) ∙ ap (take 32) at in
    ap (λ (y : List ℕ). Some (record { 0 = y })) front ∙ sym (fp_at_place n i bytes lt)

-- there is one at each place
pub fp_there : (rest : List ℕ) (left : ℕ) → 32 ≤ length rest → bytes_at 32 rest ≡ Err left → ⊥
fp_there rest left long e = let no = rw (le-ltb (length rest) 32 long) at e in cc

pub fp_past : (n i : ℕ) (bytes : List ℕ) → n ≤ i → None ≡ slice_get (fps_in n bytes) i
fp_past n i bytes le = sym (slice_get_past (fps_in n bytes) i (omega (arith, length-fps_in n bytes)))

abbrev joined : List Fp → List ℕ
joined fps = flat_map (λ fp. fp.0) fps

abbrev IsFp : Fp → Type 0
IsFp fp = length fp.0 ≡ 32

cut_all : (n : ℕ) (bytes : List ℕ) → length bytes ≡ n * 32 → (joined (fps_in n bytes) ≡ bytes) × All IsFp (fps_in n bytes)
unfolding fps_in
cut_all zero [] len = (refl, All-nil IsFp)
cut_all zero (b ∷ bytes) len = absurd (omega arith)
cut_all (suc n) bytes len =
    let rest = cut_all n (drop 32 bytes) (omega (arith, length-drop 32 bytes)) in
    let first : Fp = record { 0 = take 32 bytes } in (
      flat_map-cons (λ fp. fp.0) first (fps_in n (drop 32 bytes)) ∙ ap (λ (x : List ℕ). take 32 bytes ++ x) rest.0 ∙ take-append-drop 32 bytes,
      All-cons IsFp first (fps_in n (drop 32 bytes)) (omega (arith, length-take 32 bytes)) rest.1,
    )

join_all : (fps : List Fp) → All IsFp fps → (length (joined fps) ≡ length fps * 32) × (fps_in (length fps) (joined fps) ≡ fps)
unfolding fps_in
join_all [] all = (refl, refl)
join_all (fp ∷ fps) all =
    let rest = join_all fps (All-tail IsFp fp fps all) in
    let first : length fp.0 ≡ 32 = All-head IsFp fp fps all in
    let parts = flat_map-cons (λ fp. fp.0) fp fps in (
      omega (arith, ap length parts, length-append fp.0 (joined fps)),
      ap (fps_in (suc (length fps))) parts ∙ rw (take_at fp.0 (joined fps) 32 first, drop_at fp.0 (joined fps) 32 first, rest.1) refl,
    )

lawful_cut : (n : ℕ) → LawfulBytes (made (fps_in n) (bytes_at (n * 32))) joined (λ fps. (length fps ≡ n) × All IsFp fps)
lawful_cut n =
    lawful_made (lawful_bytes (n * 32)) (fps_in n) joined (λ fps. (length fps ≡ n) × All IsFp fps)
    (λ bytes len. let c = cut_all n bytes len in (c.0, (length-fps_in n bytes, c.1)))
    (λ fps fits. let j = join_all fps fits.1 in (j.0 ∙ ap (λ (m : ℕ). m * 32) fits.0, ap (λ (m : ℕ). fps_in m (joined fps)) (sym fits.0) ∙ j.1))

pub lawful_fps : LawfulBytes fps_at fps_bytes AreFps
unfolding fps_at
lawful_fps =
    lawful_counted is_batch small_batch lawful_cut
    (λ fps ok all. let b = batch_from (length fps) ok in ((b.0, b.1), all))
    (λ fps are. (batch_to (length fps) are.0.0 are.0.1, are.1))
