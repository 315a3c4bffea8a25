use Rattle.std.proofs.Common.{◌≡◌, ◌<◌, ◌∙◌, sym, slice_index, ap, ℕ, List, bit_xor, arith, length, take}
use Rattle.std.proofs.lemmas.Simd.{put_chunk_whole, length-zip2, get_or-zip2}
use lib.Lanes.{zip2, put_chunk}
use Rattle.gf256.proofs.Lanes.{chunk_whole}
use Rattle.gf256.proofs.multiple.xor_sixteen.Goals as goal

whole : (t s : List ℕ) (i : ℕ) → length t ≡ 16 → length s ≡ 16 → i < 16
    → slice_index (put_chunk 0 t (zip2 bit_xor (take 16 t) (take 16 s))) i ≡ bit_xor (slice_index t i) (slice_index s i)
whole t s i lt ls h =
    let sums : List ℕ = zip2 bit_xor (take 16 t) (take 16 s) in
    let et : take 16 t ≡ t = chunk_whole t lt in
    let es : take 16 s ≡ s = chunk_whole s ls in
    let same : sums ≡ zip2 bit_xor t s = ap (λ (z : List ℕ). zip2 bit_xor z (take 16 s)) et ∙ ap (λ (z : List ℕ). zip2 bit_xor t z) es in
    let long : length sums ≡ 16 = ap (λ (z : List ℕ). length z) same ∙ length-zip2 bit_xor t s (lt ∙ sym ls) ∙ lt in
    ap (λ (z : List ℕ). slice_index z i) (put_chunk_whole t sums (lt ∙ sym long) ∙ same)
    ∙ get_or-zip2 bit_xor t s i 0 0 0 (omega arith) (omega arith)

pub returns : goal.returns
returns c = λ i h. whole c.args.target.now c.args.source.now i c.requires.into c.requires.from h
