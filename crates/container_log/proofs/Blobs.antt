-- Blobs at their places in an area.
use Rattle.std.proofs.Common.{◌≡◌, ℕ, ◌+◌, ◌-◌, ◌<◌, ◌≤◌, List, ◌++◌, length, take, drop, get_or, sym, ◌∙◌, ap, subst, arith, length-append, length-take, length-drop, get_or-take, get_or-drop}
use Rattle.std.specs.Prelude.{replicate, All, slice_index_or}
use Rattle.std.proofs.lemmas.List.{ext_get_or, length-replicate, take_all}
use Rattle.cd_edges.specs.Disk.{overwritten}
use Rattle.cd_edges.specs.Shelf.{stable, ReadsFrom}
use Rattle.cd_edges.proofs.Overwritten.{length-overwritten, overwritten_before}
use Rattle.container_log.specs.Kept.{KeepsBelow}
use Rattle.container_log.specs.Laying.{Placed, laid, placed, IsAt}
use Rattle.container_log.proofs.Laid.{laid_from, whole_laid}

-- A blob that lies in these bytes lies in each that have the same ones at its place.
pub same_at : (one two : List ℕ) (b : Placed) → IsAt one b → length b.blob ≤ length two - b.place → ((k : ℕ) → k < length b.blob → get_or two (b.place + k) 0 ≡ get_or one (b.place + k) 0) → IsAt two b
same_at one two b at long same = ext_get_or 0 _ _ (omega (arith, long, length-take (length b.blob) (drop b.place two), length-drop b.place two)) (λ k lt.
    let below : k < length b.blob = omega (arith, lt, length-take (length b.blob) (drop b.place two)) in
    get_or-take (length b.blob) (drop b.place two) k 0 below ∙ get_or-drop b.place two k 0 ∙ same k below
    ∙ sym (get_or-drop b.place one k 0) ∙ sym (get_or-take (length b.blob) (drop b.place one) k 0 below) ∙ ap (λ (l : List ℕ). get_or l k 0) at)

pub within : (bytes : List ℕ) (b : Placed) → IsAt bytes b → length b.blob ≤ length bytes - b.place
within bytes b at = omega (arith, ap length at, length-take (length b.blob) (drop b.place bytes), length-drop b.place bytes)

-- A blob is what is read at its place.
pub read_at : (bytes : List ℕ) (b : Placed) (place count : ℕ) (out : List ℕ) → IsAt bytes b → length out ≡ length b.blob → b.place ≡ place → ReadsFrom bytes place count out → out ≡ b.blob
read_at bytes b place count out at long here reads =
    let all : count ≡ length b.blob = omega (arith, reads.lesser, long, here, within bytes b at) in
    sym (take_all count out (omega (arith, all, long))) ∙ reads.bytes ∙ ap (λ (n : ℕ). take n (drop place bytes)) all ∙ ap (λ (p : ℕ). take (length b.blob) (drop p bytes)) (sym here) ∙ at

pub later_at : (old : List ℕ) (end : ℕ) (bytes : List ℕ) (b : Placed) → b.place + length b.blob ≤ end → IsAt old b → IsAt (overwritten old end bytes) b
later_at old end bytes b below at = same_at old (overwritten old end bytes) b at
    (omega (arith, within old b at, length-overwritten old end bytes))
    (λ k lt. overwritten_before old end bytes (b.place + k) (omega (arith, below, lt)))

pub crashed_at : (old image : List ℕ) (end : ℕ) (b : Placed) → b.place + length b.blob ≤ end → IsAt old b → KeepsBelow end (stable old) image → IsAt image b
crashed_at old image end b below at keeps = same_at old image b at
    (omega (arith, within old b at, keeps.no_shorter))
    (λ k lt. keeps.kept (b.place + k) (omega (arith, below, lt)) (omega (arith, within old b at, lt)) tt)

-- What was written lies at its places.
pub laid_at : (old : List ℕ) (end : ℕ) (blobs : List (List ℕ)) → All (IsAt (overwritten old end (laid end blobs))) (placed end blobs)
laid_at old end blobs k d lt =
    let b : Placed = slice_index_or (placed end blobs) k d in
    let here = laid_from 0 end (take end (old ++ replicate (end - length old) 0)) blobs (drop (end + length (laid end blobs)) old)
    (omega (arith, length-take end (old ++ replicate (end - length old) 0), length-append old (replicate (end - length old) 0), length-replicate {A = ℕ} (end - length old) 0)) k d lt in
    subst (λ (n : ℕ). take (length b.blob) (drop n (overwritten old end (laid end blobs))) ≡ b.blob) (omega arith) here

-- Where no byte was laid, there are only empty blobs, which lie anywhere.
pub none_at : (bytes : List ℕ) (end : ℕ) (blobs : List (List ℕ)) → length (laid end blobs) ≡ 0 → All (IsAt bytes) (placed end blobs)
none_at bytes end blobs none k d lt =
    let b : Placed = slice_index_or (placed end blobs) k d in
    let whole = ap length (whole_laid end blobs k d lt) in
    let empty : length b.blob ≡ 0 = omega (arith, none, whole, length-take (length b.blob) (drop (b.place - end) (laid end blobs)), length-drop (b.place - end) (laid end blobs)) in
    ext_get_or 0 _ _ (omega (arith, empty, length-take (length b.blob) (drop b.place bytes))) (λ j j_lt. absurd (omega (arith, j_lt, empty, length-take (length b.blob) (drop b.place bytes))))
