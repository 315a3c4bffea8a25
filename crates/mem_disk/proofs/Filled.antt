-- Bytes that a crash fills.
use Rattle.std.proofs.Common.{◌≡◌, ◌⊎◌, inl, inr, ⊎_elim, ℕ, zero, suc, ◌+◌, ◌-◌, ◌<◌, ◌≤◌, min, Bool, true, false, cond, IsTrue, List, [], ◌∷◌, ◌++◌, length, take, drop, get_or, refl, ◌∙◌, sym, ap, arith, length-take, length-drop, get_or-take}
use Rattle.std.specs.Prelude.{replicate, nat_le, nat_lt, vec_len}
use Rattle.std.proofs.lemmas.Bool.Decides.{nat_tests}
use Rattle.std.proofs.lemmas.List.{length-replicate, take-append-drop}
use Rattle.cd_edges.specs.Disk.{Store, MayLeave, IsOutside}
use Rattle.mem_disk.specs.declared.area.MemArea.{MemArea}
use Rattle.mem_disk.specs.Areas.{joined, held}
use Rattle.mem_disk.specs.Crashed.{is_in, filled_from, refilled, crashed}

pub length-filled : (place fill : ℕ) (ranges : List (ℕ × ℕ)) (bytes : List ℕ) → length (filled_from place fill ranges bytes) ≡ length bytes
length-filled place fill ranges [] = refl
length-filled place fill ranges (byte ∷ bytes) = ap suc (length-filled (suc place) fill ranges bytes)

pub filled_none : (place fill : ℕ) (bytes : List ℕ) → filled_from place fill [] bytes ≡ bytes
filled_none place fill [] = refl
filled_none place fill (byte ∷ bytes) = ap (λ (l : List ℕ). byte ∷ l) (filled_none (suc place) fill bytes)

-- the bytes at two places, by ranges that have the same ones
pub filled_same : (place other fill : ℕ) (ranges others : List (ℕ × ℕ)) (bytes : List ℕ) → ((k : ℕ) → is_in ranges (place + k) ≡ is_in others (other + k)) → filled_from place fill ranges bytes ≡ filled_from other fill others bytes
filled_same place other fill ranges others [] same = refl
filled_same place other fill ranges others (byte ∷ bytes) same =
    ap (λ (b : Bool). cond b fill byte ∷ filled_from (suc place) fill ranges bytes) (ap (λ (n : ℕ). is_in ranges n) (omega arith) ∙ same 0 ∙ ap (λ (n : ℕ). is_in others n) (omega arith))
    ∙ ap (λ (l : List ℕ). cond (is_in others other) fill byte ∷ l) (filled_same (suc place) (suc other) fill ranges others bytes
    (λ k. ap (λ (n : ℕ). is_in ranges n) (omega arith) ∙ same (suc k) ∙ ap (λ (n : ℕ). is_in others n) (omega arith)))

once_more : (here rest : Bool) (fill byte : ℕ) → cond (cond here true rest) fill byte ≡ cond rest fill (cond (cond here true false) fill byte)
once_more true true fill byte = refl
once_more true false fill byte = refl
once_more false true fill byte = refl
once_more false false fill byte = refl

-- one range, and then the others
pub filled_more : (place fill : ℕ) (range : ℕ × ℕ) (ranges : List (ℕ × ℕ)) (bytes : List ℕ) → filled_from place fill (range ∷ ranges) bytes ≡ filled_from place fill ranges (filled_from place fill (range ∷ []) bytes)
filled_more place fill range ranges [] = refl
filled_more place fill range ranges (byte ∷ bytes) =
    ap (λ (n : ℕ). n ∷ filled_from (suc place) fill (range ∷ ranges) bytes) (once_more (cond (nat_le range.0 place) (nat_lt place range.1) false) (is_in ranges place) fill byte)
    ∙ ap (λ (l : List ℕ). cond (is_in ranges place) fill (cond (is_in (range ∷ []) place) fill byte) ∷ l) (filled_more (suc place) fill range ranges bytes)

filled-append : (place fill : ℕ) (ranges : List (ℕ × ℕ)) (xs ys : List ℕ) → filled_from place fill ranges (xs ++ ys) ≡ filled_from place fill ranges xs ++ filled_from (place + length xs) fill ranges ys
filled-append place fill ranges [] ys = ap (λ (n : ℕ). filled_from n fill ranges ys) (omega arith)
filled-append place fill ranges (x ∷ xs) ys =
    ap (λ (l : List ℕ). cond (is_in ranges place) fill x ∷ l) (filled-append (suc place) fill ranges xs ys ∙ ap (λ (n : ℕ). filled_from (suc place) fill ranges xs ++ filled_from n fill ranges ys) (omega arith))

is_false : (b : Bool) → ¬ IsTrue b → b ≡ false
is_false true none = absurd (none refl)
is_false false none = refl

filled_outside : (place fill : ℕ) (ranges : List (ℕ × ℕ)) (bytes : List ℕ) → ((k : ℕ) → place ≤ k → k < place + length bytes → ¬ IsTrue (is_in ranges k)) → filled_from place fill ranges bytes ≡ bytes
filled_outside place fill ranges [] none = refl
filled_outside place fill ranges (byte ∷ bytes) none =
    ap (λ (b : Bool). cond b fill byte ∷ filled_from (suc place) fill ranges bytes) (is_false (is_in ranges place) (none place (omega arith) (omega arith)))
    ∙ ap (λ (l : List ℕ). byte ∷ l) (filled_outside (suc place) fill ranges bytes (λ k from below. none k (omega (arith, from)) (omega (arith, below))))

filled_at : (place fill : ℕ) (ranges : List (ℕ × ℕ)) (bytes : List ℕ) (k : ℕ) → k < length bytes → get_or (filled_from place fill ranges bytes) k 0 ≡ cond (is_in ranges (place + k)) fill (get_or bytes k 0)
filled_at place fill ranges [] k below = absurd (omega (arith, below))
filled_at place fill ranges (byte ∷ bytes) zero below = ap (λ (n : ℕ). cond (is_in ranges n) fill byte) (omega arith)
filled_at place fill ranges (byte ∷ bytes) (suc k) below = filled_at (suc place) fill ranges bytes k (omega (arith, below)) ∙ ap (λ (n : ℕ). cond (is_in ranges n) fill (get_or bytes k 0)) (omega arith)

filled_inside : (place fill : ℕ) (ranges : List (ℕ × ℕ)) (bytes : List ℕ) → ((k : ℕ) → place ≤ k → k < place + length bytes → IsTrue (is_in ranges k)) → filled_from place fill ranges bytes ≡ replicate (length bytes) fill
filled_inside place fill ranges [] all = refl
filled_inside place fill ranges (byte ∷ bytes) all =
    ap (λ (b : Bool). cond b fill byte ∷ filled_from (suc place) fill ranges bytes) (all place (omega arith) (omega arith))
    ∙ ap (λ (l : List ℕ). fill ∷ l) (filled_inside (suc place) fill ranges bytes (λ k from below. all k (omega (arith, from)) (omega (arith, below))))

in_one : (first end k : ℕ) → first ≤ k → k < end → IsTrue (is_in ((first, end) ∷ []) k)
in_one first end k from below = grind (arith, nat_tests)

of_one : (first end k : ℕ) → IsTrue (is_in ((first, end) ∷ []) k) → (first ≤ k) × (k < end)
of_one first end k inside = (grind (arith, nat_tests), grind (arith, nat_tests))

-- the bytes of one range, as far as they are there
pub filled_mid : (bytes : List ℕ) (at len fill from count : ℕ) → from ≡ min at (length bytes) → count ≡ min len (length bytes - from)
    → take from bytes ++ (replicate count fill ++ drop count (drop from bytes)) ≡ filled_from 0 fill ((at, at + len) ∷ []) bytes
filled_mid bytes at len fill from count from_is count_is =
    let range : List (ℕ × ℕ) = (at, at + len) ∷ [] in
    let front : List ℕ = take from bytes in let mid : List ℕ = take count (drop from bytes) in let back : List ℕ = drop count (drop from bytes) in
    let front_len : length front ≡ from = omega (arith, from_is, length-take from bytes) in
    let mid_len : length mid ≡ count = omega (arith, count_is, length-take count (drop from bytes), length-drop from bytes) in
    let back_len : length back ≡ length bytes - from - count = omega (arith, length-drop count (drop from bytes), length-drop from bytes) in
    let whole : bytes ≡ front ++ (mid ++ back) = sym (ap (λ (l : List ℕ). front ++ l) (take-append-drop count (drop from bytes)) ∙ take-append-drop from bytes) in
    let one : filled_from 0 fill range front ≡ front = filled_outside 0 fill range front (λ k above below inside. omega (arith, below, front_len, from_is, (of_one at (at + len) k inside).0)) in
    let two : filled_from (length front) fill range mid ≡ replicate count fill =
    filled_inside (length front) fill range mid (λ k above below. in_one at (at + len) k (omega (arith, above, below, front_len, from_is, mid_len, count_is)) (omega (arith, above, below, front_len, from_is, mid_len, count_is)))
    ∙ ap (λ (n : ℕ). replicate n fill) mid_len in
    let three : filled_from (length front + length mid) fill range back ≡ back =
    filled_outside (length front + length mid) fill range back (λ k above below inside. omega (arith, above, below, back_len, front_len, from_is, mid_len, count_is, (of_one at (at + len) k inside).1)) in
    sym (ap (λ (l : List ℕ). filled_from 0 fill range l) whole
    ∙ filled-append 0 fill range front (mid ++ back)
    ∙ ap (λ (l : List ℕ). l ++ filled_from (0 + length front) fill range (mid ++ back)) one
    ∙ ap (λ (n : ℕ). front ++ filled_from n fill range (mid ++ back)) (omega arith)
    ∙ ap (λ (l : List ℕ). front ++ l) (filled-append (length front) fill range mid back
    ∙ ap (λ (l : List ℕ). l ++ filled_from (length front + length mid) fill range back) two
    ∙ ap (λ (l : List ℕ). replicate count fill ++ l) three))

-- a range as the second list has it
pub filled_shifted : (second at len fill : ℕ) (bytes : List ℕ) → filled_from 0 fill ((at - second, at - second + (len - (second - at))) ∷ []) bytes ≡ filled_from second fill ((at, at + len) ∷ []) bytes
filled_shifted second at len fill bytes = filled_same 0 second fill _ _ bytes (λ k. grind (arith, nat_tests))

-- two ranges of an area
pub filled_joined : (fill : ℕ) (ranges : List (ℕ × ℕ)) (first : List ℕ) (second : ℕ) (high : List ℕ) → length first ≤ second → ((k : ℕ) → IsTrue (is_in ranges k) → (k < length first) ⊎ (second ≤ k))
    → joined (filled_from 0 fill ranges first) second (filled_from second fill ranges high) ≡ filled_from 0 fill ranges (joined first second high)
filled_joined fill ranges first second [] apart covered = refl
filled_joined fill ranges first second (x ∷ xs) apart covered =
    let zeros : List ℕ = replicate (second - length first) 0 in
    let zeros_len : length zeros ≡ second - length first = length-replicate {A = ℕ} (second - length first) 0 in
    let new : List ℕ = filled_from 0 fill ranges first in
    let behind : List ℕ = filled_from second fill ranges (x ∷ xs) in
    let still : filled_from (length first) fill ranges zeros ≡ zeros = filled_outside (length first) fill ranges zeros
    (λ k above below inside. ⊎_elim (λ within. omega (arith, within, above)) (λ past. omega (arith, past, below, zeros_len)) (covered k inside)) in
    ap (λ (n : ℕ). new ++ (replicate (second - n) 0 ++ behind)) (length-filled 0 fill ranges first)
    ∙ sym (filled-append 0 fill ranges first (zeros ++ x ∷ xs)
    ∙ ap (λ (n : ℕ). new ++ filled_from n fill ranges (zeros ++ x ∷ xs)) (omega arith)
    ∙ ap (λ (l : List ℕ). new ++ l) (filled-append (length first) fill ranges zeros (x ∷ xs)
    ∙ ap (λ (l : List ℕ). l ++ filled_from (length first + length zeros) fill ranges (x ∷ xs)) still
    ∙ ap (λ (n : ℕ). zeros ++ filled_from n fill ranges (x ∷ xs)) (omega (arith, apart, zeros_len))))

-- an area whose ranges are filled
pub filled_held : (old new : MemArea) (fill : ℕ) (ranges : List (ℕ × ℕ)) → new.bytes.items ≡ filled_from 0 fill ranges old.bytes.items → new.second ≡ old.second → new.high.items ≡ filled_from old.second fill ranges old.high.items
    → ((k : ℕ) → IsTrue (is_in ranges k) → (k < vec_len old.bytes) ⊎ (old.second ≤ k)) → held new ≡ filled_from 0 fill ranges (held old)
filled_held old new fill ranges first second high covered =
    ap (λ (l : List ℕ). joined l new.second new.high.items) first
    ∙ ap (λ (n : ℕ). joined (filled_from 0 fill ranges old.bytes.items) n new.high.items) second
    ∙ ap (λ (l : List ℕ). joined (filled_from 0 fill ranges old.bytes.items) old.second l) high
    ∙ filled_joined fill ranges old.bytes.items old.second old.high.items (omega (arith, old.apart, old.bytes.ok.0))
    (λ k inside. ⊎_elim (λ below. inl (omega (arith, below, old.bytes.ok.0))) (λ above. inr above) (covered k inside))

outside_is : (ranges : List (ℕ × ℕ)) (place : ℕ) → IsOutside ranges place → is_in ranges place ≡ false
outside_is [] place outside = refl
outside_is (range ∷ ranges) place outside = ap (λ (b : Bool). cond b true (is_in ranges place)) (not_here outside.0) ∙ outside_is ranges place outside.1
  where
    not_here : (place < range.0) ⊎ (range.1 ≤ place) → cond (nat_le range.0 place) (nat_lt place range.1) false ≡ false
    not_here (inl before) = grind (arith, nat_tests)
    not_here (inr behind) = grind (arith, nat_tests)

refilled_image : (fill : ℕ) (store : Store) → MayLeave store store.read → MayLeave store (refilled fill store)
refilled_image fill store old = record {
  no_shorter = omega (arith, old.no_shorter, length-filled 0 fill store.written store.read);
  no_longer = omega (arith, old.no_longer, length-filled 0 fill store.written store.read);
  kept = λ k within outside. filled_at 0 fill store.written store.read k (omega (arith, within, old.no_shorter))
      ∙ ap (λ (b : Bool). cond b fill (get_or store.read k 0)) (ap (λ (n : ℕ). is_in store.written n) (omega arith) ∙ outside_is store.written k outside) ∙ old.kept k within outside;
}

-- what a crash leaves of an area is one of its images
pub crashed_image : (fill : ℕ) (whole : Bool) (store : Store) → MayLeave store store.read → MayLeave store (crashed fill whole store)
crashed_image fill true store old = refilled_image fill store old
crashed_image fill false store old =
    let all = refilled_image fill store old in
    record {
      no_shorter = omega (arith, all.no_shorter, length-take (length store.synced) (refilled fill store));
      no_longer = omega (arith, all.no_longer, length-take (length store.synced) (refilled fill store));
      kept = λ k within outside. get_or-take (length store.synced) (refilled fill store) k 0 within ∙ all.kept k within outside;
    }
