-- What a Put lays: each string that has no place yet, as it is, from the log's end on.
use Rattle.std.proofs.Common.{◌≡◌, ℕ, ◌+◌, ◌≤◌, max, Bool, true, false, cond, List, [], ◌∷◌, ◌++◌, length, map, Option, Some, None, refl, sym, ap, ◌∙◌, arith, append_assoc}
use Rattle.std.specs.Prelude.{◌↔◌, find, is_some, IsSome, unwrap_or, bytes_eq}
use Rattle.std.specs.List.{Contains}
use Rattle.std.proofs.lemmas.Bool.{false≢true}
use Rattle.std.specs.Option.{option_or}
use Rattle.std.specs.FinMap.{FinMap, get}
use Rattle.recipe.specs.CdBase.ids.Fp.{Fp}
use Rattle.recipe.specs.CdBase.ids.UserId.{UserId}
use Rattle.recipe.specs.CdBase.place.Place.{Place}
use Rattle.recipe.specs.CdBase.Order.{fp_cmp}
use Rattle.checkpoints.specs.ContainerLog.Laying.{Placed, placed, lengths}
use Rattle.checkpoints.specs.ContainerLog.Places.{place_of, end_after}
use Rattle.checkpoints.specs.ContainerLog.States.{HasStaged}
use Rattle.checkpoints.specs.CdEdges.Disk.{Cloud}
use Rattle.checkpoints.specs.RecordBody.body.PutItem.{PutItem}
use Rattle.checkpoints.specs.RecordBody.Spelling as bodies
use Rattle.checkpoints.specs.UserDedup.Cloud.{fingerprint, has_fingerprint, strings_in}
use Rattle.checkpoints.specs.UserDedup.command.Command.{Command}
use Rattle.checkpoints.specs.UserDedup.command.Command.TheVariants as asked
use Rattle.checkpoints.specs.UserDedup.Dedup.{IsSound}
use Rattle.checkpoints.proofs.UserDedup.Owned.{fp_same, among_contains}
use Rattle.checkpoints.specs.CloudAreas.Placing.{end_of, places_given}
use Rattle.checkpoints.specs.CloudAreas.Standing.{Chain}
use Rattle.checkpoints.specs.CloudDisk.Disk.{Stages, shares_laid}
use Rattle.checkpoints.specs.CloudMemory.rooms.New.{New}
use Rattle.checkpoints.specs.CloudMemory.Memory.{Memory}
use Rattle.checkpoints.specs.CloudMemory.News.{AreOf, AreFingerprintsApart, AreNewTo}
use Rattle.checkpoints.specs.CloudMemory.Steps.{with_item, part_in, parts_of}
use Rattle.checkpoints.proofs.MemoryProofs.Adding.{Others, others, rest_apart}
use Rattle.checkpoints.specs.CloudMemory.Rooms.{memory_of}
use Rattle.checkpoints.proofs.MemoryProofs.Lists.{strings_more, among_found}
use Rattle.checkpoints.proofs.MemoryProofs.Puts.{place_for, placed_more}
use Rattle.cloud_store.specs.declared.store.CloudStore.{CloudStore}
use Rattle.cloud_store.specs.Store.{Serves}
use Rattle.cloud_store.specs.Adding.{IsPut, share_at, unplaced}
use Rattle.cloud_store.proofs.Stepping.{place_after}
use Rattle.cloud_store.proofs.Fields.{first_or}

-- ---- strings that are found

behind : (p : List ℕ → Bool) (xs ys : List (List ℕ)) → find p xs ≡ None → find p (xs ++ ys) ≡ find p ys
behind p [] ys e = refl
behind p (x ∷ xs) ys e = by_test (p x) (behind p xs ys) e
  where
    by_test : (b : Bool) → (find p xs ≡ None → find p (xs ++ ys) ≡ find p ys) → cond b (Some x) (find p xs) ≡ None → cond b (Some x) (find p (xs ++ ys)) ≡ find p ys
    by_test true rest e = absurd (let no : Some x ≡ None = e in cc)
    by_test false rest e = rest e

first : (p : List ℕ → Bool) (x : List ℕ) (ys : List (List ℕ)) → p x ≡ true → find p (x ∷ ys) ≡ Some x
first p x ys e = ap (λ (b : Bool). cond b (Some x) (find p ys)) e

skipped : (p : List ℕ → Bool) (x : List ℕ) → p x ≡ false → find p (x ∷ []) ≡ None
skipped p x e = ap (λ (b : Bool). cond b (Some x) None) e

-- nothing that has no place is among these
abbrev HasNone : Memory → List (List ℕ) → Type 0
HasNone m before = (fp : Fp) → get m.places fp.0 ≡ None → find (has_fingerprint fp) before ≡ None

neither : {A : Type 0} (o : Option A) (b : Bool) (x : A) → option_or o (cond b (Some x) None) ≡ None → (o ≡ None) × (b ≡ false)
neither None true x e = absurd (let no : Some x ≡ None = e in cc)
neither None false x e = (refl, refl)
neither (Some y) b x e = absurd (let no : Some y ≡ None = e in cc)

none_next : (m : Memory) (user : UserId) (n : New) (s : List ℕ) (before : List (List ℕ)) → n.fp ≡ fingerprint s → HasNone m before
    → HasNone (with_item user m (part_in m n)) (before ++ s ∷ [])
none_next m user n s before is none fp e =
    let both = neither (get m.places fp.0) (bytes_eq n.fp.0 fp.0) (place_for m n) (sym (placed_more m user n fp) ∙ e) in
    behind (has_fingerprint fp) before (s ∷ []) (none fp both.0)
    ∙ skipped (has_fingerprint fp) s (ap (λ (f : Fp). bytes_eq f.0 fp.0) (sym is) ∙ both.1)

-- ---- what is laid

-- those of the strings that get a place, each with those before it taken
abbrev fresh : UserId → Memory → List New → List (List ℕ) → List (List ℕ)
fresh user m [] strings = []
fresh user m (n ∷ news) [] = []
fresh user m (n ∷ news) (s ∷ strings) =
    cond (is_some (get m.places n.fp.0)) (fresh user (with_item user m (part_in m n)) news strings) (s ∷ fresh user (with_item user m (part_in m n)) news strings)

abbrev blob_of : List (List ℕ) → Fp × Place → Placed
blob_of all x = record { place = x.1.at; blob = unwrap_or (find (has_fingerprint x.0) all) [] }

abbrev pub rest_fps : List Fp → List Fp
rest_fps [] = []
rest_fps (fp ∷ fps) = fps

abbrev pub first_len : List ℕ → ℕ
first_len [] = 0
first_len (n ∷ ns) = n

abbrev pub rest_lens : List ℕ → List ℕ
rest_lens [] = []
rest_lens (n ∷ ns) = ns

module _ (user : UserId) (all : List (List ℕ)) where
  -- one share more
  one_laid : (m : Memory) (n : New) (s : List ℕ) (news : List New) (strings before : List (List ℕ)) (o : Option Place) → get m.places n.fp.0 ≡ o
      → n.fp ≡ fingerprint s → n.len ≡ length s → all ≡ before ++ s ∷ strings → HasNone m before
      → map (blob_of all) (places_given (parts_of user (with_item user m (part_in m n)) news)) ≡ placed (with_item user m (part_in m n)).shares_end (fresh user (with_item user m (part_in m n)) news strings)
      → map (blob_of all) (places_given (parts_of user m (n ∷ news))) ≡ placed m.shares_end (fresh user m (n ∷ news) (s ∷ strings))
  one_laid m n s news strings before (Some p) is fp_is len_is all_is none rest =
      let test : is_some (get m.places n.fp.0) ≡ true = ap (λ (o : Option Place). is_some o) is in
      let item_is : part_in m n ≡ record { fp = n.fp; place = None } = ap (λ (b : Bool). record { fp = n.fp; place = cond b None (Some (place_for m n)) }) test in
      let next = with_item user m (part_in m n) in
      let given : places_given (parts_of user m (n ∷ news)) ≡ places_given (parts_of user next news) =
      ap (λ (item : PutItem). places_given (item ∷ parts_of user next news)) item_is in
      let end : next.shares_end ≡ m.shares_end = ap (λ (item : PutItem). (with_item user m item).shares_end) item_is in
      ap (map (blob_of all)) given ∙ rest ∙ ap (λ (e : ℕ). placed e (fresh user next news strings)) end
      ∙ sym (ap (λ (b : Bool). placed m.shares_end (cond b (fresh user next news strings) (s ∷ fresh user next news strings))) test)
  one_laid m n s news strings before None is fp_is len_is all_is none rest =
      let test : is_some (get m.places n.fp.0) ≡ false = ap (λ (o : Option Place). is_some o) is in
      let item_is : part_in m n ≡ record { fp = n.fp; place = Some (place_for m n) } = ap (λ (b : Bool). record { fp = n.fp; place = cond b None (Some (place_for m n)) }) test in
      let next = with_item user m (part_in m n) in
      let given : places_given (parts_of user m (n ∷ news)) ≡ (n.fp, place_for m n) ∷ places_given (parts_of user next news) =
      ap (λ (item : PutItem). places_given (item ∷ parts_of user next news)) item_is in
      let further = place_after m.shares_end n.len in
      let end : next.shares_end ≡ end_after m.shares_end (length s) =
      ap (λ (item : PutItem). (with_item user m item).shares_end) item_is ∙ (let e : max m.shares_end (place_of m.shares_end n.len + n.len) ≡ place_of m.shares_end n.len + n.len = omega (arith, further) in e)
      ∙ ap (end_after m.shares_end) len_is in
      let own : has_fingerprint n.fp s ≡ true = ap (λ (f : Fp). bytes_eq f.0 n.fp.0) (sym fp_is) ∙ (fp_same n.fp n.fp).1 refl in
      let found : find (has_fingerprint n.fp) all ≡ Some s =
      ap (find (has_fingerprint n.fp)) all_is ∙ behind (has_fingerprint n.fp) before (s ∷ strings) (none n.fp is) ∙ first (has_fingerprint n.fp) s strings own in
      let here : blob_of all (n.fp, place_for m n) ≡ record { place = place_of m.shares_end (length s); blob = s } =
      (λ i. record { place = place_of m.shares_end (len_is i); blob = unwrap_or (found i) [] }) in
      ap (map (blob_of all)) given ∙ (λ i. here i ∷ rest i) ∙ ap (λ (e : ℕ). record { place = place_of m.shares_end (length s); blob = s } ∷ placed e (fresh user next news strings)) end
      ∙ sym (ap (λ (b : Bool). placed m.shares_end (cond b (fresh user next news strings) (s ∷ fresh user next news strings))) test)

  all_laid : (m : Memory) (news : List New) (strings before : List (List ℕ)) → map (λ (n : New). n.fp) news ≡ map fingerprint strings → map (λ (n : New). n.len) news ≡ lengths strings
      → all ≡ before ++ strings → HasNone m before
      → map (blob_of all) (places_given (parts_of user m news)) ≡ placed m.shares_end (fresh user m news strings)
  all_laid m [] strings before fps lens all_is none = refl
  all_laid m (n ∷ news) [] before fps lens all_is none = absurd (let no : n.fp ∷ map (λ (k : New). k.fp) news ≡ [] = fps in cc)
  all_laid m (n ∷ news) (s ∷ strings) before fps lens all_is none =
      let fp_is : n.fp ≡ fingerprint s = ap (first_or n.fp) fps in
      let len_is : n.len ≡ length s = ap first_len lens in
      one_laid m n s news strings before (get m.places n.fp.0) refl fp_is len_is all_is none
      (all_laid (with_item user m (part_in m n)) news strings (before ++ s ∷ []) (ap rest_fps fps) (ap rest_lens lens) (all_is ∙ sym (append_assoc before (s ∷ []) strings)) (none_next m user n s before fp_is none))

-- ---- those that had no place before the Put

pub same_test : (m : Memory) (user : UserId) (n : New) (x : Fp) → bytes_eq n.fp.0 x.0 ≡ false → get (with_item user m (part_in m n)).places x.0 ≡ get m.places x.0
same_test m user n x other =
    placed_more m user n x ∙ ap (λ (b : Bool). option_or (get m.places x.0) (cond b (Some (place_for m n)) None)) other ∙ or_none (get m.places x.0)
  where
    or_none : (o : Option Place) → option_or o None ≡ o
    or_none None = refl
    or_none (Some p) = refl

-- the others are tested as before
pub same_rest : (m : Memory) (user : UserId) (n : New) (news : List New) (strings : List (List ℕ)) → map (λ (k : New). k.fp) news ≡ map fingerprint strings → Others n news
    → unplaced (with_item user m (part_in m n)).places strings ≡ unplaced m.places strings
same_rest m user n news [] fps other = refl
same_rest m user n [] (s ∷ strings) fps other = absurd (let no : [] ≡ fingerprint s ∷ map fingerprint strings = fps in cc)
same_rest m user n (k ∷ news) (s ∷ strings) fps other =
    let fp_is : k.fp ≡ fingerprint s = ap (first_or k.fp) fps in
    let mid = with_item user m (part_in m n) in
    let test : is_some (get mid.places (fingerprint s).0) ≡ is_some (get m.places (fingerprint s).0) =
    ap (λ (o : Option Place). is_some o) (same_test m user n (fingerprint s) (ap (λ (f : Fp). bytes_eq n.fp.0 f.0) (sym fp_is) ∙ other.0)) in
    let rest = same_rest m user n news strings (ap rest_fps fps) other.1 in
    λ i. cond (test i) (rest i) (s ∷ rest i)

fresh_are : (m : Memory) (user : UserId) (news : List New) (strings : List (List ℕ)) → map (λ (k : New). k.fp) news ≡ map fingerprint strings → AreFingerprintsApart news
    → fresh user m news strings ≡ unplaced m.places strings
fresh_are m user [] [] fps apart = refl
fresh_are m user [] (s ∷ strings) fps apart = absurd (let no : [] ≡ fingerprint s ∷ map fingerprint strings = fps in cc)
fresh_are m user (n ∷ news) [] fps apart = refl
fresh_are m user (n ∷ news) (s ∷ strings) fps apart =
    let fp_is : n.fp ≡ fingerprint s = ap (first_or n.fp) fps in
    let mid = with_item user m (part_in m n) in
    let rest = fresh_are mid user news strings (ap rest_fps fps) (rest_apart n news apart) ∙ same_rest m user n news strings (ap rest_fps fps) (others n news apart) in
    λ i. cond (is_some (get m.places (fp_is i).0)) (rest i) (s ∷ rest i)

-- what a Put lays
pub put_lays : (list : List Command) (user : UserId) (news : List New) (strings : List (List ℕ)) (m : Memory) → AreOf news strings → AreFingerprintsApart news
    → ((fp : Fp) → get m.places fp.0 ≡ None → find (has_fingerprint fp) (strings_in list) ≡ None)
    → shares_laid list (asked.Put user strings) (bodies.Put user (parts_of user m news)) ≡ placed m.shares_end (unplaced m.places strings)
put_lays list user news strings m of apart none =
    all_laid user (strings_in (list ++ asked.Put user strings ∷ [])) m news strings (strings_in list) of.fps of.lens (strings_more list (asked.Put user strings)) none
    ∙ ap (placed m.shares_end) (fresh_are m user news strings of.fps apart)

-- its record gives each of these strings that has no place yet the place where it is laid
pub shares_given : (user : UserId) (news : List New) (strings : List (List ℕ)) (m : Memory) → AreOf news strings → AreFingerprintsApart news
    → map (share_at strings) (places_given (parts_of user m news)) ≡ placed m.shares_end (unplaced m.places strings)
shares_given user news strings m of apart =
    all_laid user strings m news strings [] of.fps of.lens refl (λ fp free. refl) ∙ ap (placed m.shares_end) (fresh_are m user news strings of.fps apart)

-- what has no place isn't held
pub none_held : (list : List Command) (m : Memory) → ((fp : Fp) → IsSome (get m.places fp.0) ↔ Contains (map fingerprint (strings_in list)) fp)
    → (fp : Fp) → get m.places fp.0 ≡ None → find (has_fingerprint fp) (strings_in list) ≡ None
none_held list m placed fp free = by_found (find (has_fingerprint fp) (strings_in list)) refl
  where
    by_found : (o : Option (List ℕ)) → find (has_fingerprint fp) (strings_in list) ≡ o → o ≡ None
    by_found None is = refl
    by_found (Some s) is =
        let among = among_found (strings_in list) fp ∙ ap (λ (o : Option (List ℕ)). is_some o) is in
        let there = (placed fp).1 (among_contains (map fingerprint (strings_in list)) fp among) in
        absurd (false≢true (sym (ap (λ (o : Option Place). is_some o) free) ∙ there))

-- the Put of strings of which those are staged that have no place
pub is_put : (list : List Command) (c : Chain) (s : CloudStore) (cloud : Cloud) (user : UserId) (news : List New) (strings : List (List ℕ)) → Serves list c s cloud
    → AreOf news strings → AreNewTo (memory_of s.memory) user news → IsSound s.header.shape s.header.cloud.0 (list ++ asked.Put user strings ∷ [])
    → HasStaged s.disk.shares (unplaced (memory_of s.memory).places strings) → HasStaged s.disk.recipes [] → IsPut list c s user news strings cloud
is_put list c s cloud user news strings serves of new sound staged none = record {
  serves = serves;
  sound = sound;
  are_of = of;
  shares = record {
    strings = unplaced (memory_of s.memory).places strings;
    staged = staged;
    places =
        put_lays list user news strings (memory_of s.memory) of new.apart (none_held list (memory_of s.memory) serves.known.remembers.placed)
        ∙ ap (λ (e : ℕ). placed e (unplaced (memory_of s.memory).places strings)) (sym serves.shares_end);
  };
  recipes = record { strings = []; staged = none; places = refl };
}

-- a recipe is staged for the log's end
pub recipe_staged : (list : List Command) (c : Chain) (s : CloudStore) (cloud : Cloud) (recipe : List ℕ) (len : ℕ) → Serves list c s cloud → length recipe ≡ len
    → HasStaged s.disk.recipes (recipe ∷ []) → Stages s.disk.recipes (record { place = place_of s.memory.recipes_end len; blob = recipe } ∷ [])
recipe_staged list c s cloud recipe len serves len_is staged = record {
  strings = recipe ∷ [];
  staged = staged;
  places = λ i. record { place = place_of (sym serves.recipes_end i) (sym len_is i); blob = recipe } ∷ [];
}
