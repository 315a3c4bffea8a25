-- Blobs laid one behind another.
use Rattle.std.proofs.Common.{◌≡◌, ⊎_elim, ℕ, ◌+◌, ◌-◌, ◌<◌, ◌≤◌, List, [], ◌∷◌, ◌++◌, length, take, drop, get_or, refl, sym, ◌∙◌, ap, subst, append_assoc, arith, length-append}
use Rattle.std.specs.Prelude.{replicate, All, AllPairs}
use Rattle.std.proofs.lemmas.List.{append-nil, drop_at, take_at, get_or_append_left, get_or-append_right, get_or-replicate, length-replicate, nil_from_length}
use Rattle.std.proofs.lemmas.List.Elements.{All-nil, All-cons, All-head, All-tail}
use Rattle.std.proofs.lemmas.List.Kept.{AllPairs-cons}
use Rattle.cd_edges.specs.Disk.{IsOutside}
use Rattle.container_log.specs.Places.{container_len, place_of, end_after, end_of_laid}
use Rattle.container_log.specs.Laying.{Placed, Fit, lengths, laid, placed, ranges, IsFrom, AreLeast}
use Rattle.container_log.proofs.Least.{place_behind, least_place}

-- the zeros before a blob, and the blob
abbrev front : ℕ → List ℕ → List ℕ
front end blob = replicate (place_of end (length blob) - end) 0 ++ blob

length-front : (end : ℕ) (blob : List ℕ) → end + length (front end blob) ≡ end_after end (length blob)
length-front end blob = omega (arith, place_behind end (length blob), length-append (replicate (place_of end (length blob) - end) 0) blob, length-replicate {A = ℕ} (place_of end (length blob) - end) 0)

pub end_laid : (end : ℕ) (blobs : List (List ℕ)) → end + length (laid end blobs) ≡ end_of_laid end (lengths blobs)
end_laid end [] = omega arith
end_laid end (blob ∷ blobs) = omega (arith, length-append (front end blob) (laid (end_after end (length blob)) blobs), length-front end blob, end_laid (end_after end (length blob)) blobs)

pub least_laid : (end : ℕ) (blobs : List (List ℕ)) → Fit blobs → AreLeast end (placed end blobs)
least_laid end [] fit = tt
least_laid end (blob ∷ blobs) fit = (least_place end (length blob) (All-head (λ (b : List ℕ). length b ≤ container_len) blob blobs fit), least_laid (end_after end (length blob)) blobs (All-tail (λ (b : List ℕ). length b ≤ container_len) blob blobs fit))

-- one blob more
pub laid_more : (end : ℕ) (blobs : List (List ℕ)) (blob : List ℕ) → laid end (blobs ++ blob ∷ []) ≡ laid end blobs ++ (replicate (place_of (end_of_laid end (lengths blobs)) (length blob) - end_of_laid end (lengths blobs)) 0 ++ blob)
laid_more end [] blob = append-nil _
laid_more end (first ∷ blobs) blob = ap (λ (l : List ℕ). front end first ++ l) (laid_more (end_after end (length first)) blobs blob) ∙ sym (append_assoc (front end first) _ _)

-- Each blob lies at its place, whatever stands before the blobs and behind them.
pub laid_from : (start end : ℕ) (before : List ℕ) (blobs : List (List ℕ)) (behind : List ℕ) → start + length before ≡ end → All (IsFrom start (before ++ laid end blobs ++ behind)) (placed end blobs)
laid_from start end before [] behind at = All-nil _
laid_from start end before (blob ∷ blobs) behind at =
    let zeros : List ℕ = replicate (place_of end (length blob) - end) 0 in
    let rest = laid (end_after end (length blob)) blobs in
    let gap : length (before ++ zeros) ≡ place_of end (length blob) - start = omega (arith, at, place_behind end (length blob), length-append before zeros, length-replicate {A = ℕ} (place_of end (length blob) - end) 0) in
    let regroup : before ++ (zeros ++ blob ++ rest) ++ behind ≡ (before ++ zeros) ++ (blob ++ (rest ++ behind)) = simp append_assoc in
    let regroup_2 : before ++ (zeros ++ blob ++ rest) ++ behind ≡ (before ++ zeros ++ blob) ++ rest ++ behind = simp append_assoc in
    let at_2 : start + length (before ++ zeros ++ blob) ≡ end_after end (length blob) = omega (arith, at, gap, place_behind end (length blob), length-append (before ++ zeros) blob) in
    All-cons (IsFrom start (before ++ laid end (blob ∷ blobs) ++ behind)) (record { place = place_of end (length blob); blob = blob }) (placed (end_after end (length blob)) blobs)
    (ap (λ (l : List ℕ). take (length blob) (drop (place_of end (length blob) - start) l)) regroup
    ∙ ap (take (length blob)) (drop_at (before ++ zeros) (blob ++ (rest ++ behind)) (place_of end (length blob) - start) gap)
    ∙ take_at blob (rest ++ behind) (length blob) refl)
    (subst (λ (l : List ℕ). All (IsFrom start l) (placed (end_after end (length blob)) blobs)) (sym regroup_2) (laid_from start (end_after end (length blob)) (before ++ zeros ++ blob) blobs behind at_2))

pub whole_laid : (end : ℕ) (blobs : List (List ℕ)) → All (IsFrom end (laid end blobs)) (placed end blobs)
whole_laid end blobs = subst (λ (l : List ℕ). All (IsFrom end l) (placed end blobs)) (append-nil (laid end blobs)) (laid_from end end [] blobs [] (omega arith))

-- No blob takes the place, so a zero lies there.
pub zeros_laid : (end : ℕ) (blobs : List (List ℕ)) (k : ℕ) → IsOutside (ranges (placed end blobs)) (end + k) → get_or (laid end blobs) k 0 ≡ 0
zeros_laid end [] k outside = refl
zeros_laid end (blob ∷ blobs) k outside =
    let n : ℕ = place_of end (length blob) - end in
    let zeros : List ℕ = replicate n 0 in
    let rest = laid (end_after end (length blob)) blobs in
    let long : length zeros ≡ n = length-replicate {A = ℕ} n 0 in
    let longer = length-front end blob in
    let behind = place_behind end (length blob) in
    ⊎_elim
    (λ below.
    let in_gap : k < n = omega (arith, below, behind) in
    get_or_append_left (zeros ++ blob) rest 0 k (omega (arith, in_gap, long, length-append zeros blob))
    ∙ get_or_append_left zeros blob 0 k (omega (arith, in_gap, long))
    ∙ get_or-replicate n k 0 0 in_gap)
    (λ above.
    let past : length (zeros ++ blob) ≤ k = omega (arith, above, longer, behind) in
    get_or-append_right (zeros ++ blob) rest (length (zeros ++ blob)) k 0 refl past
    ∙ zeros_laid (end_after end (length blob)) blobs (k - length (zeros ++ blob)) (subst (λ (m : ℕ). IsOutside (ranges (placed (end_after end (length blob)) blobs)) m) (omega (arith, longer, past)) outside.1))
    outside.0

-- Each of the blobs lies behind the end.
behind_all : (end : ℕ) (blobs : List (List ℕ)) → (early : ℕ) → early ≤ end → All (λ (b : Placed). early ≤ b.place) (placed end blobs)
behind_all end [] early le = All-nil _
behind_all end (blob ∷ blobs) early le =
    let P : Placed → Type 0 = λ b. early ≤ b.place in
    All-cons P (record { place = place_of end (length blob); blob = blob }) (placed (end_after end (length blob)) blobs)
    (omega (arith, le, place_behind end (length blob)))
    (behind_all (end_after end (length blob)) blobs early (omega (arith, le, place_behind end (length blob))))

pub apart : (end : ℕ) (blobs : List (List ℕ)) → AllPairs (λ (b later : Placed). b.place + length b.blob ≤ later.place) (placed end blobs)
apart end [] = λ i j d i_lt j_lt. absurd (omega (arith, j_lt))
apart end (blob ∷ blobs) =
    AllPairs-cons (λ (b later : Placed). b.place + length b.blob ≤ later.place) (record { place = place_of end (length blob); blob = blob }) (placed (end_after end (length blob)) blobs)
    (behind_all (end_after end (length blob)) blobs (end_after end (length blob)) (omega arith))
    (apart (end_after end (length blob)) blobs)

pub placed_more : (end : ℕ) (blobs : List (List ℕ)) (blob : List ℕ) → placed end (blobs ++ blob ∷ []) ≡ placed end blobs ++ record { place = place_of (end_of_laid end (lengths blobs)) (length blob); blob = blob } ∷ []
placed_more end [] blob = refl
placed_more end (first ∷ blobs) blob = ap (λ (l : List Placed). record { place = place_of end (length first); blob = first } ∷ l) (placed_more (end_after end (length first)) blobs blob)

-- Where no byte is laid, there are only empty blobs.
pub none_laid : (end : ℕ) (blobs : List (List ℕ)) → laid end blobs ≡ [] → All (λ (b : List ℕ). b ≡ []) blobs
none_laid end [] none = All-nil _
none_laid end (blob ∷ blobs) none =
    let rest = laid (end_after end (length blob)) blobs in
    let parts = length-append (front end blob) rest in
    let zeros = length-append (replicate (place_of end (length blob) - end) 0) blob in
    All-cons (λ (b : List ℕ). b ≡ []) blob blobs
    (nil_from_length blob (omega (arith, ap length none, parts, zeros)))
    (none_laid (end_after end (length blob)) blobs (nil_from_length rest (omega (arith, ap length none, parts))))
