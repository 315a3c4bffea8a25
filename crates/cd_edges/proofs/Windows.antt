-- What a window holds after a line was taken, and after a read.
use Rattle.std.proofs.Common.{◌≡◌, ℕ, ◌+◌, ◌-◌, ◌<◌, ◌≤◌, List, ◌++◌, length, take, drop, Option, Some, None, refl, sym, ap, ◌∙◌, append_assoc, arith}
use Rattle.std.specs.Io.KnownBytes.{Consumes, Keeps}
use Rattle.std.proofs.lemmas.List.{drop-take, drop-append-le, length-take, take-append-drop, take-append-le, drop-drop, take_all}
use Rattle.std.proofs.lemmas.Option.{same_Some}
use Rattle.std.proofs.Math.Seq.{take-add, take-append_seam}
use Rattle.cd_edges.specs.Held.{Held, Follows}

-- a part of the bytes, and the first bytes of it
part_is : (xs : List ℕ) (from filled : ℕ) → from ≤ filled → take (filled - from) (drop from xs) ≡ drop from (take filled xs)
part_is xs from filled le =
    let e : from + (filled - from) ≡ filled = omega arith in
    sym (drop-take from (filled - from) xs) ∙ ap (λ (n : ℕ). drop from (take n xs)) e

-- the same bytes where what is behind them was cut off
pub cut_part : (xs cut ahead : List ℕ) (from filled : ℕ) → from ≤ filled → cut ≡ take filled xs → take (filled - from) (drop from xs) ≡ ahead → take (filled - from) (drop from cut) ≡ ahead
cut_part xs cut ahead from filled le cut_is e =
    ap (λ (x : List ℕ). take (filled - from) (drop from x)) cut_is ∙ ap (take (filled - from)) (sym (part_is xs from filled le))
    ∙ take_all (filled - from) (take (filled - from) (drop from xs)) (omega (arith, length-take (filled - from) (drop from xs))) ∙ e

-- the bytes ahead after a read
pub read_ahead : (old new : List ℕ) (from filled n : ℕ) → take filled new ≡ take filled old → from ≤ filled → filled ≤ length old → filled ≤ length new
    → take (filled + n - from) (drop from new) ≡ take (filled - from) (drop from old) ++ take n (drop filled new)
read_ahead old new from filled n kept le long long-new =
    let more = take-add filled n new in
    let fits : from ≤ length (take filled new) = omega (arith, length-take filled new) in
    part_is new from (filled + n) (omega arith) ∙ ap (drop from) (take-add filled n new) ∙ drop-append-le from (take filled new) (take n (drop filled new)) fits
    ∙ ap (λ (x : List ℕ). drop from x ++ take n (drop filled new)) kept ∙ ap (λ (x : List ℕ). x ++ take n (drop filled new)) (sym (part_is old from filled le))

-- and where none came
pub kept_ahead : (old new : List ℕ) (from filled : ℕ) → take filled new ≡ take filled old → from ≤ filled → take (filled - from) (drop from new) ≡ take (filled - from) (drop from old)
kept_ahead old new from filled kept le = part_is new from filled le ∙ ap (drop from) kept ∙ sym (part_is old from filled le)

pub follows_read : (before got now : List ℕ) (o p : Option (List ℕ)) → Consumes o p got → now ≡ before ++ got → Follows before o now p
follows_read before got now None p h e all le = absurd cc
follows_read before got now (Some xs) None h e all le = absurd h
follows_read before got now (Some xs) (Some ys) h e all le =
    (ys, refl, ap (λ (x : List ℕ). x ++ ys) e ∙ append_assoc before got ys ∙ ap (λ (x : List ℕ). before ++ x) (sym h ∙ same_Some xs all le))

pub follows_none : (before now : List ℕ) (o p : Option (List ℕ)) → Keeps o p → now ≡ before → Follows before o now p
follows_none before now None p h e all le = absurd cc
follows_none before now (Some xs) None h e all le = absurd h
follows_none before now (Some xs) (Some ys) h e all le =
    (ys, refl, ap (λ (x : List ℕ). x ++ ys) e ∙ ap (λ (x : List ℕ). before ++ x) (h ∙ same_Some xs all le))

-- what is ahead begins with what was ahead
pub begins_read : (before got now : List ℕ) → now ≡ before ++ got → take (length before) now ≡ before
begins_read before got now e = ap (take (length before)) e ∙ take-append_seam before got

take_front : (n m : ℕ) (xs : List ℕ) → n ≤ length (take m xs) → take n (take m xs) ≡ take n xs
take_front n m xs le = sym (ap (take n) (sym (take-append-drop m xs)) ∙ take-append-le n (take m xs) (drop m xs) le)

-- the line that was taken, and what is ahead of it
pub line_taken : (xs : List ℕ) (from filled n : ℕ) → n < length (take (filled - from) (drop from xs)) → take (from + n - from) (drop from xs) ≡ take n (take (filled - from) (drop from xs))
line_taken xs from filled n lt =
    let e : from + n - from ≡ n = omega arith in
    ap (λ (k : ℕ). take k (drop from xs)) e ∙ sym (take_front n (filled - from) (drop from xs) (omega arith))

pub rest_taken : (xs : List ℕ) (from filled n : ℕ) → n < length (take (filled - from) (drop from xs)) → take (filled - (from + (n + 1))) (drop (from + (n + 1)) xs) ≡ drop (n + 1) (take (filled - from) (drop from xs))
rest_taken xs from filled n lt =
    let short = length-take (filled - from) (drop from xs) in
    let e : filled - (from + (n + 1)) ≡ filled - from - (n + 1) = omega arith in
    let f : (n + 1) + (filled - from - (n + 1)) ≡ filled - from = omega arith in
    ap (λ (k : ℕ). take k (drop (from + (n + 1)) xs)) e ∙ ap (take (filled - from - (n + 1))) (sym (drop-drop (n + 1) from xs))
    ∙ sym (drop-take (n + 1) (filled - from - (n + 1)) (drop from xs)) ∙ ap (λ (k : ℕ). drop (n + 1) (take k (drop from xs))) f

-- what is ahead behind bytes that were dropped
pub skipped : (xs ahead : List ℕ) (from filled n : ℕ) → take (filled - from) (drop from xs) ≡ ahead → n ≤ length ahead → take (filled - (from + n)) (drop (from + n) xs) ≡ drop n ahead
skipped xs ahead from filled n e le =
    let short = length-take (filled - from) (drop from xs) in
    let long = ap length e in
    let a : filled - (from + n) ≡ filled - from - n = omega arith in
    let b : n + (filled - from - n) ≡ filled - from = omega arith in
    ap (λ (k : ℕ). take k (drop (from + n) xs)) a ∙ ap (take (filled - from - n)) (sym (drop-drop n from xs))
    ∙ sym (drop-take n (filled - from - n) (drop from xs)) ∙ ap (λ (k : ℕ). drop n (take k (drop from xs))) b ∙ ap (drop n) e

-- ---- the whole of a read, where the slice was given back as it was written

pub given_back : (new items : List ℕ) (len : ℕ) → length new ≡ length items → len ≡ length items → take len (new ++ drop (length new) items) ≡ new
given_back new items len same e =
    ap (λ (n : ℕ). take n (new ++ drop (length new) items)) (omega arith) ∙ take-append_seam new (drop (length new) items)

-- what a window and its slice are before and after a read
pub record Slices (items new back ahead : List ℕ) (from filled : ℕ) : Type 0 where
  pub back_is : back ≡ new
  pub ahead_is : ahead ≡ take (filled - from) (drop from items)
  pub kept : take filled new ≡ take filled items
  pub order : from ≤ filled
  pub within : filled ≤ length items
  pub same : length new ≡ length items

ahead_now : (items new back ahead : List ℕ) (from filled n : ℕ) → Slices items new back ahead from filled → take (filled + n - from) (drop from back) ≡ ahead ++ take n (drop filled new)
ahead_now items new back ahead from filled n s =
    let a = s.within in let b = s.same in
    ap (λ (x : List ℕ). take (filled + n - from) (drop from x)) s.back_is ∙ read_ahead items new from filled n s.kept s.order s.within (omega arith)
    ∙ ap (λ (x : List ℕ). x ++ take n (drop filled new)) (sym s.ahead_is)

ahead_same : (items new back ahead : List ℕ) (from filled : ℕ) → Slices items new back ahead from filled → take (filled - from) (drop from back) ≡ ahead
ahead_same items new back ahead from filled s =
    ap (λ (x : List ℕ). take (filled - from) (drop from x)) s.back_is ∙ kept_ahead items new from filled s.kept s.order ∙ sym s.ahead_is

pub read_follows : (items new back ahead : List ℕ) (from filled n : ℕ) (o p : Option (List ℕ)) → Slices items new back ahead from filled → Consumes o p (take n (drop filled new)) → Follows ahead o (take (filled + n - from) (drop from back)) p
read_follows items new back ahead from filled n o p s h = follows_read ahead (take n (drop filled new)) _ o p h (ahead_now items new back ahead from filled n s)

pub read_begins : (items new back ahead : List ℕ) (from filled n : ℕ) → Slices items new back ahead from filled → take (length ahead) (take (filled + n - from) (drop from back)) ≡ ahead
read_begins items new back ahead from filled n s = begins_read ahead (take n (drop filled new)) _ (ahead_now items new back ahead from filled n s)

pub none_follows : (items new back ahead : List ℕ) (from filled : ℕ) (o p : Option (List ℕ)) → Slices items new back ahead from filled → Keeps o p → Follows ahead o (take (filled - from) (drop from back)) p
none_follows items new back ahead from filled o p s h = follows_none ahead _ o p h (ahead_same items new back ahead from filled s)

pub none_begins : (items new back ahead : List ℕ) (from filled : ℕ) → Slices items new back ahead from filled → take (length ahead) (take (filled - from) (drop from back)) ≡ ahead
none_begins items new back ahead from filled s = let e = ahead_same items new back ahead from filled s in ap (take (length ahead)) e ∙ take_all (length ahead) ahead (omega arith)

abbrev held : List ℕ → List ℕ → ℕ → Held
held line ahead room = record { line = line; ahead = ahead; room = room }

-- a window that took a line
pub held_taken : (xs : List ℕ) (from filled n : ℕ) (old : Held) (line : List ℕ) → record { line = line; ahead = take (filled - from) (drop from xs); room = length xs - filled } ≡ old → n < length old.ahead
    → held (take (from + n - from) (drop from xs)) (take (filled - (from + (n + 1))) (drop (from + (n + 1)) xs)) (length xs - filled) ≡ held (take n old.ahead) (drop (n + 1) old.ahead) old.room
held_taken xs from filled n old line e lt =
    let ahead : take (filled - from) (drop from xs) ≡ old.ahead = ap (λ (h : Held). h.ahead) e in
    let room : length xs - filled ≡ old.room = ap (λ (h : Held). h.room) e in
    let some : n < length (take (filled - from) (drop from xs)) = omega (arith, ap length ahead) in
    let a = line_taken xs from filled n some ∙ ap (take n) ahead in
    let b = rest_taken xs from filled n some ∙ ap (drop (n + 1)) ahead in
    cc (a, b, room)
