-- Containers that are kept, and what an area has there.
use Rattle.std.proofs.Common.{◌≡◌, ◌⊎◌, ⊎_elim, inl, inr, ℕ, ◌+◌, ◌-◌, ◌*◌, ◌/◌, ◌%◌, ◌<◌, ◌≤◌, min, Bool, true, false, cond, List, [], ◌∷◌, length, take, drop, get_or, Option, Some, None, refl, sym, ap, ◌∙◌, subst, arith, length-take, length-drop, get_or-take, get_or-drop}
use Rattle.std.specs.Prelude.{All, nat_eq, nat_le, nat_lt, ◌&&◌, ◌||◌}
use Rattle.std.specs.List.{filter}
use Rattle.std.specs.Map.{lookup, lookup_entry, remove_entry}
use Rattle.std.specs.Option.{option_map_or}
use Rattle.std.proofs.lemmas.Bool.{cases_lt}
use Rattle.std.proofs.lemmas.Bool.Decides.{nat_tests}
use Rattle.std.proofs.lemmas.List.{ext_get_or, take_all}
use Rattle.std.proofs.lemmas.List.Elements.{All-nil, All-cons, All-head, All-tail, All-take}
use Rattle.cd_edges.specs.Disk.{overwritten}
use Rattle.cd_edges.specs.Shelf.{ReadsFrom}
use Rattle.cd_edges.proofs.Overwritten.{length-overwritten, overwritten_before, overwritten_after}
use Rattle.container_log.specs.Caches.{Kept, Cache, AreContainersOf, container_of, kept_of, in_front, with_room, with_container, is_left, kept_over, IsKeptOr, IsReadOf}

-- ---- a part of a list. No lemma here names how many bytes a container has, so that nothing has a list of that length to compute

whole_part : (at out : List ℕ) (size count : ℕ) → count ≡ min size (length at) → take count at ≡ take size at
whole_part at out size count is = ⊎_elim
    (λ short. take_all count at (omega (arith, is, short)) ∙ sym (take_all size at (omega (arith, short))))
    (λ full. let same : count ≡ size = omega (arith, is, full) in ap (λ (n : ℕ). take n at) same)
    (cases_lt (length at) size)

read_part : (held out : List ℕ) (size start count : ℕ) → length out ≡ size → ReadsFrom held start count out → take count out ≡ take size (drop start held)
read_part held out size start count long reads =
    reads.bytes ∙ whole_part (drop start held) out size count (omega (arith, reads.lesser, length-drop start held, long))

part_read : (held out : List ℕ) (size start from place count : ℕ) → place ≡ start + from → from + length out ≤ size → ReadsFrom (take size (drop start held)) from count out → ReadsFrom held place count out
part_read held out size start from place count at few reads =
    let cut : List ℕ = take size (drop start held) in
    let long : length cut ≡ min size (length held - start) = omega (arith, length-take size (drop start held), length-drop start held) in
    record {
      lesser = omega (arith, reads.lesser, long, at, few);
      bytes = reads.bytes ∙ ext_get_or 0 (take count (drop from cut)) (take count (drop place held))
          (omega (arith, length-take count (drop from cut), length-drop from cut, length-take count (drop place held), length-drop place held, reads.lesser, long, at, few))
          (λ k lt.
          let below : k < count = omega (arith, lt, length-take count (drop from cut)) in
          get_or-take count (drop from cut) k 0 below ∙ get_or-drop from cut k 0 ∙ get_or-take size (drop start held) (from + k) 0 (omega (arith, below, reads.lesser, few)) ∙ get_or-drop start held (from + k) 0
          ∙ ap (λ (n : ℕ). get_or held n 0) (omega (arith, at)) ∙ sym (get_or-drop place held k 0) ∙ sym (get_or-take count (drop place held) k 0 below));
    }

long_part : (size start : ℕ) (xs held : List ℕ) → xs ≡ take size (drop start held) → size ≤ length xs → size ≤ length held - start
long_part size start xs held is long = omega (arith, ap length is, long, length-take size (drop start held), length-drop start held)

same_part : (old new : List ℕ) (size start : ℕ) → size ≤ length old - start → size ≤ length new - start → ((j : ℕ) → j < size → get_or old (start + j) 0 ≡ get_or new (start + j) 0)
    → take size (drop start old) ≡ take size (drop start new)
same_part old new size start in_old in_new same = ext_get_or 0 (take size (drop start old)) (take size (drop start new))
    (omega (arith, length-take size (drop start old), length-drop start old, length-take size (drop start new), length-drop start new, in_old, in_new))
    (λ j lt.
    let below : j < size = omega (arith, lt, length-take size (drop start old)) in
    get_or-take size (drop start old) j 0 below ∙ get_or-drop start old j 0 ∙ same j below
    ∙ sym (get_or-drop start new j 0) ∙ sym (get_or-take size (drop start new) j 0 below))

longer_part : (old : List ℕ) (end : ℕ) (bytes : List ℕ) (size start : ℕ) → size ≤ length old - start → size ≤ length (overwritten old end bytes) - start
longer_part old end bytes size start in_old = omega (arith, in_old, length-overwritten old end bytes)

-- ---- reading

-- A container that was read whole is what the area has there.
pub whole_read : (held out : List ℕ) (number count : ℕ) → length out ≡ 4194304 → ReadsFrom held (number * 4194304) count out → take count out ≡ container_of held number
whole_read held out number count long reads = read_part held out 4194304 (number * 4194304) count long reads

-- What is read of the container is what the area has from the place on.
pub read_within : (held bytes out : List ℕ) (number from place count : ℕ) → bytes ≡ container_of held number → place ≡ number * 4194304 + from → from + length out ≤ 4194304
    → ReadsFrom bytes from count out → ReadsFrom held place count out
read_within held bytes out number from place count is at few reads =
    part_read held out 4194304 (number * 4194304) from place count at few (subst (λ (l : List ℕ). ReadsFrom l from count out) is reads)

-- ---- what is kept

module _ (P : Kept → Type 0) (t : ℕ → Bool) where
  removed_by : (b : Bool) (x : Kept) (xs rest : List Kept) → P x → All P xs → All P rest → All P (cond b xs (x ∷ rest))
  removed_by true x xs rest one all left = all
  removed_by false x xs rest one all left = All-cons P x rest one left

  removed : (xs : List Kept) → All P xs → All P (remove_entry t xs)
  removed [] all = all
  removed (x ∷ xs) all = removed_by (t x.0) x xs (remove_entry t xs) (All-head P x xs all) (All-tail P x xs all) (removed xs (All-tail P x xs all))

  entered_by : (b : Bool) (x k : Kept) (o : Option Kept) → P x → (o ≡ Some k → P k) → cond b (Some x) o ≡ Some k → P k
  entered_by true x k o one rest e = let same : x ≡ k = cc in subst P same one
  entered_by false x k o one rest e = rest e

  entered : (xs : List Kept) (k : Kept) → All P xs → lookup_entry t xs ≡ Some k → P k
  entered [] k all e = absurd (let no : None ≡ Some k = e in cc)
  entered (x ∷ xs) k all e = entered_by (t x.0) x k (lookup_entry t xs) (All-head P x xs all) (entered xs k (All-tail P x xs all)) e

  fronted : (xs : List Kept) (o : Option Kept) → lookup_entry t xs ≡ o → All P xs → All P (option_map_or (λ (k : Kept). k ∷ remove_entry t xs) o xs)
  fronted xs None e all = all
  fronted xs (Some k) e all = All-cons P k (remove_entry t xs) (entered xs k all e) (removed xs all)

  -- a container of which these bytes are kept
  abbrev Valued : List ℕ → Type 0
  Valued bytes = (n : ℕ) × (t n ≡ true) × P (n, bytes)

  valued_by : (b : Bool) (x : Kept) (o : Option (List ℕ)) (bytes : List ℕ) → t x.0 ≡ b → P x → (o ≡ Some bytes → Valued bytes) → cond b (Some x.1) o ≡ Some bytes → Valued bytes
  valued_by true x o bytes is one rest e = let same : x.1 ≡ bytes = cc in (x.0, is, subst (λ (l : List ℕ). P (x.0, l)) same one)
  valued_by false x o bytes is one rest e = rest e

  valued : (xs : List Kept) (bytes : List ℕ) → All P xs → lookup t xs ≡ Some bytes → Valued bytes
  valued [] bytes all e = absurd (let no : None ≡ Some bytes = e in cc)
  valued (x ∷ xs) bytes all e = valued_by (t x.0) x (lookup t xs) bytes refl (All-head P x xs all) (valued xs bytes (All-tail P x xs all)) e

abbrev Is : List ℕ → Kept → Type 0
Is bytes k = k.1 ≡ container_of bytes k.0

pub agrees_front : (bytes : List ℕ) (number : ℕ) (kept : List Kept) → AreContainersOf bytes kept → AreContainersOf bytes (in_front number kept)
agrees_front bytes number kept all = fronted (Is bytes) (nat_eq number) kept (lookup_entry (nat_eq number) kept) refl all

pub agrees_with : (bytes new : List ℕ) (number keep : ℕ) (kept : List Kept) → new ≡ container_of bytes number → AreContainersOf bytes kept → AreContainersOf bytes (with_container number new keep kept)
agrees_with bytes new number keep kept is all = All-cons (Is bytes) (number, new) (take (keep - 1) kept) is (All-take (Is bytes) (keep - 1) kept all)

pub agrees_room : (bytes : List ℕ) (keep : ℕ) (kept : List Kept) → AreContainersOf bytes kept → AreContainersOf bytes (with_room keep kept)
agrees_room bytes keep kept all = All-take (Is bytes) (keep - 1) kept all

pub agrees_found : (bytes found : List ℕ) (number : ℕ) (kept : List Kept) → AreContainersOf bytes kept → kept_of kept number ≡ Some found → found ≡ container_of bytes number
agrees_found bytes found number kept all e =
    let v = valued (Is bytes) (nat_eq number) kept found all e in
    let same : number ≡ v.0 = nat_same number v.0 v.1 in
    v.2 ∙ ap (container_of bytes) (sym same)
  where
    nat_same : (a b : ℕ) → nat_eq a b ≡ true → a ≡ b
    nat_same a b e = grind (arith, nat_tests)

-- ---- writing

left_cases : (first last number len : ℕ) → (nat_le 4194304 len && (nat_lt number first || nat_lt last number)) ≡ true → (4194304 ≤ len) × ((number < first) ⊎ (last < number))
left_cases first last number len e = grind (arith, nat_tests)

before_end : (end number first j : ℕ) → first ≡ end / 4194304 → number < first → j < 4194304 → number * 4194304 + j < end
before_end end number first j is lt below = omega (arith, is, lt, below)

behind_end : (end len number last j : ℕ) → last ≡ (end + (len - 1)) / 4194304 → 1 ≤ len → last < number → end + len ≤ number * 4194304 + j
behind_end end len number last j is some lt = omega (arith, is, some, lt)

module _ (old : List ℕ) (end : ℕ) (bytes : List ℕ) (first last : ℕ) (some : 1 ≤ length bytes) (first_is : first ≡ end / 4194304) (last_is : last ≡ (end + (length bytes - 1)) / 4194304) where
  left : (k : Kept) → is_left first last k ≡ true → Is old k → Is (overwritten old end bytes) k
  left k e is =
      let c = left_cases first last k.0 (length k.1) e in
      let whole = long_part 4194304 (k.0 * 4194304) k.1 old is c.0 in
      is ∙ same_part old (overwritten old end bytes) 4194304 (k.0 * 4194304) whole (longer_part old end bytes 4194304 (k.0 * 4194304) whole)
      (λ j below. ⊎_elim
      (λ before. sym (overwritten_before old end bytes (k.0 * 4194304 + j) (before_end end k.0 first j first_is before below)))
      (λ behind. sym (overwritten_after old end bytes (k.0 * 4194304 + j) (behind_end end (length bytes) k.0 last j last_is some behind)))
      c.1)

  filtered_by : (t : Bool) (k : Kept) (rest : List Kept) → is_left first last k ≡ t → Is old k → All (Is (overwritten old end bytes)) rest → All (Is (overwritten old end bytes)) (cond t (k ∷ rest) rest)
  filtered_by true k rest e is all = All-cons (Is (overwritten old end bytes)) k rest (left k e is) all
  filtered_by false k rest e is all = all

  filtered : (kept : List Kept) → AreContainersOf old kept → All (Is (overwritten old end bytes)) (filter (is_left first last) kept)
  filtered [] all = All-nil (Is (overwritten old end bytes))
  filtered (k ∷ kept) all = filtered_by (is_left first last k) k (filter (is_left first last) kept) refl (All-head (Is old) k kept all) (filtered kept (All-tail (Is old) k kept all))

pub agrees_over : (old : List ℕ) (end : ℕ) (bytes : List ℕ) (kept : List Kept) → 1 ≤ length bytes → AreContainersOf old kept
    → AreContainersOf (overwritten old end bytes) (filter (is_left (end / 4194304) ((end + (length bytes - 1)) / 4194304)) kept)
agrees_over old end bytes kept some all = filtered old end bytes (end / 4194304) ((end + (length bytes - 1)) / 4194304) some refl refl kept all

pub kept_over_some : (end : ℕ) (bytes : List ℕ) (kept : List Kept) → 1 ≤ length bytes
    → kept_over end bytes kept ≡ filter (is_left (end / 4194304) ((end + (length bytes - 1)) / 4194304)) kept
kept_over_some end [] kept some = absurd (omega (arith, some))
kept_over_some end (byte ∷ bytes) kept some = ap (λ (n : ℕ). filter (is_left (end / 4194304) ((end + n) / 4194304)) kept) (omega arith)

-- ---- a read

-- After a read that found the container, or that put it in front, what is kept is still the area's.
pub agrees_read : (bytes : List ℕ) (number : ℕ) (old new : Cache) → AreContainersOf bytes old.kept → new ≡ record old { kept = in_front number old.kept } → AreContainersOf bytes new.kept
agrees_read bytes number old new all is = subst (λ (c : Cache). AreContainersOf bytes c.kept) (sym is) (agrees_front bytes number old.kept all)

room_twice : (keep : ℕ) (kept : List Kept) → with_room keep (with_room keep kept) ≡ with_room keep kept
room_twice keep kept = take_all (keep - 1) (take (keep - 1) kept) (omega (arith, length-take (keep - 1) kept))

-- After room was made and the container was put in front, or wasn't.
pub read_anew : (number : ℕ) (bytes : List ℕ) (old room new : Cache) → kept_of old.kept number ≡ None → room ≡ record old { kept = with_room old.keep old.kept } → IsKeptOr number bytes room new
    → IsReadOf old number new
read_anew number bytes old room new none room_is kept = inr (inr (
  none,
  ⊎_elim
      (λ same. inl (same ∙ room_is))
      (λ more. inr (
        bytes,
        more ∙ ap (λ (c : Cache). record c { kept = with_container number bytes c.keep c.kept }) room_is
            ∙ ap (λ (l : List Kept). record old { kept = (number, bytes) ∷ l }) (room_twice old.keep old.kept),
      ))
      kept,
))

all_anew : (P : Kept → Type 0) (number : ℕ) (bytes : List ℕ) (old room new : Cache) → P (number, bytes) → All P old.kept → room ≡ record old { kept = with_room old.keep old.kept }
    → IsKeptOr number bytes room new → All P new.kept
all_anew P number bytes old room new one all room_is kept =
    let left : All P room.kept = subst (λ (c : Cache). All P c.kept) (sym room_is) (All-take P (old.keep - 1) old.kept all) in ⊎_elim {C = All P new.kept}
    (λ same. subst (λ (c : Cache). All P c.kept) (sym same) left)
    (λ more. subst (λ (c : Cache). All P c.kept) (sym more) (All-cons P (number, bytes) (take (room.keep - 1) room.kept) one (All-take P (room.keep - 1) room.kept left)))
    kept

-- What is kept then is still the area's.
pub agrees_anew : (held bytes : List ℕ) (number : ℕ) (old room new : Cache) → bytes ≡ container_of held number → AreContainersOf held old.kept → room ≡ record old { kept = with_room old.keep old.kept }
    → IsKeptOr number bytes room new → AreContainersOf held new.kept
agrees_anew held bytes number old room new is all room_is kept = all_anew (Is held) number bytes old room new is all room_is kept

-- a place in its container
pub place_parts : (place : ℕ) → place ≡ place / 4194304 * 4194304 + place % 4194304
place_parts place = omega arith

pub few_of : (place len long : ℕ) → long ≡ len → place % 4194304 + len ≤ 4194304 → place % 4194304 + long ≤ 4194304
few_of place len long same few = omega (arith, same, few)

pub agrees_flushed : (old now : List ℕ) (end used : ℕ) (staged : List ℕ) (kept left : List Kept) → 1 ≤ used → used ≡ length staged
    → left ≡ filter (is_left (end / 4194304) ((end + (used - 1)) / 4194304)) kept → now ≡ overwritten old end staged → AreContainersOf old kept → AreContainersOf now left
agrees_flushed old now end used staged kept left_kept some same left_is now_is all =
    subst (λ (l : List ℕ). AreContainersOf l left_kept) (sym now_is)
    (subst (λ (l : List Kept). AreContainersOf (overwritten old end staged) l) (sym (left_is ∙ ap (λ (n : ℕ). filter (is_left (end / 4194304) ((end + (n - 1)) / 4194304)) kept) same))
    (agrees_over old end staged kept (subst (λ (n : ℕ). 1 ≤ n) same some) all))

pub kept_flushed : (end used : ℕ) (staged : List ℕ) (kept left : List Kept) → 1 ≤ used → used ≡ length staged
    → left ≡ filter (is_left (end / 4194304) ((end + (used - 1)) / 4194304)) kept → left ≡ kept_over end staged kept
kept_flushed end used staged kept left_kept some same left_is =
    left_is ∙ ap (λ (n : ℕ). filter (is_left (end / 4194304) ((end + (n - 1)) / 4194304)) kept) same ∙ sym (kept_over_some end staged kept (subst (λ (n : ℕ). 1 ≤ n) same some))
