-- How long the records of a memory are whose fingerprints and tags have 32 bytes.
use Rattle.std.proofs.Common.{◌≡◌, ℕ, zero, suc, ◌+◌, ◌*◌, ◌<◌, ◌≤◌, Bool, true, false, cond, List, [], ◌∷◌, ◌++◌, length, map, get_or, Option, Some, None, refl, sym, ap, ◌∙◌, subst, arith, inl, inr, eq-eqb, length-append, add-one}
use Rattle.std.specs.Prelude.{◌==◌}
use Rattle.std.specs.Int.{w32, w64, to_be_bytes}
use Rattle.std.specs.List.{flat_map, Contains}
use Rattle.std.proofs.lemmas.Bool.{cases_lt, eqb-true}
use Rattle.std.proofs.lemmas.List.{map-append}
use Rattle.std.proofs.lemmas.List.Concat.{flat_map-cons}
use Rattle.std.proofs.lemmas.List.Elements.{Contains-append_left, Contains-append_right}
use native.Mathlib.Nat.{mul-add}
use Rattle.record_body.specs.CdBase.ids.Fp.{Fp}
use Rattle.record_body.specs.CdBase.place.Place.{Place}
use Rattle.compact_memories.specs.FileIndex.key.Entry.{Entry}
use Rattle.compact_memories.specs.FileIndex.key.FileKey.{FileKey}
use Rattle.compact_memories.specs.ShareIndex.key.Owner.{Owner}
use Rattle.compact_memories.specs.ShareIndex.Shares.{Shares}
use Rattle.compact_memories.specs.SpentTable.Spent.{Spent as Row}
use Rattle.compact_memories.specs.SpentTable.Spending as rows
use Rattle.record_body.specs.declared.body.PutItem.{PutItem}
use Rattle.record_body.specs.declared.body.CommitBody.{CommitBody}
use Rattle.record_body.specs.FirstSpelling.{placed_bytes, item_bytes}
use Rattle.record_body.specs.declared.body.SpentBody.{SpentBody}
use Rattle.record_body.specs.Spelling as bodies
use Rattle.compact_memories.proofs.UserDedup.Owned.{contains_here, contains_later}
use Rattle.compact_memories.specs.CloudAreas.Checkpoints.{put_body}
use Rattle.compact_memories.specs.Checkpoints.Laying.{record_len, records_len}
use Rattle.compact_memories.specs.Checkpoints.Picking.{onto, picked, batched, batches}
use Rattle.record_body.specs.MessageFields.Fingerprints.{batch_limit}
use Rattle.compact_memories.specs.Checkpoints.Records.{owned_in, listed, items_from, put_of, puts_from, commit_at, spent_at, spents_of}
use Rattle.compact_memories.proofs.Checkpoints.FullBatches.{flat_batched}
use Rattle.compact_memories.proofs.Checkpoints.Owns.{fps_are}
use Rattle.compact_memories.proofs.CloudAreas.Lists.{in_map}
use Rattle.compact_memories.proofs.Checkpoints.RoomLaw.{together, items_len}
use Rattle.compact_memories.specs.Passes.{entries_of}

-- ---- sums over users

-- the sum of a number for each of so many users, from this one on
abbrev pub total : (ℕ → ℕ) → ℕ → ℕ → ℕ
total f zero u = 0
total f (suc left) u = f u + total f left (u + 1)

-- each has no more than the limit, and those past the last user have nothing
pub total_within : (f : ℕ → ℕ) (limit users : ℕ) → ((u : ℕ) → f u ≤ limit) → ((u : ℕ) → users ≤ u → f u ≡ 0)
    → (left u k : ℕ) → users ≤ u + k → total f left u ≤ limit * k
total_within f limit users few none zero u k le = omega arith
total_within f limit users few none (suc left) u zero le =
    let rest = total_within f limit users few none left (u + 1) 0 (omega (arith, le)) in
    let here = none u (omega (arith, le)) in
    omega (arith, rest, here)
total_within f limit users few none (suc left) u (suc k) le =
    let rest = total_within f limit users few none left (u + 1) k (omega (arith, le)) in
    let here = few u in
    let more : limit * suc k ≡ limit * (k + 1) = ap (λ (n : ℕ). limit * n) (sym (add-one k)) in
    omega (arith, rest, here, more, mul-add limit k 1)

pub total_more : (f g : ℕ → ℕ) (x : ℕ) → ((u : ℕ) → g u ≤ f u) → g x + 1 ≤ f x → (left u : ℕ) → u ≤ x → x < u + left → total g left u + 1 ≤ total f left u
total_more f g x each here zero u le lt = absurd (omega (arith, le, lt))
total_more f g x each here (suc left) u le lt =
    elim (cases_lt u x) [
      | inl below ↦
          let rest = total_more f g x each here left (u + 1) (omega (arith, below)) (omega (arith, lt)) in
          let first = each u in
          omega (arith, rest, first)
      | inr past ↦
          let same : u ≡ x = omega (arith, le, past) in
          let first : g u + 1 ≤ f u = subst (λ (n : ℕ). g n + 1 ≤ f n) (sym same) here in
          let rest = total_each left (u + 1) in
          omega (arith, first, rest)
    ]
  where
    total_each : (left u : ℕ) → total g left u ≤ total f left u
    total_each zero u = omega arith
    total_each (suc left) u = let rest = total_each left (u + 1) in let first = each u in omega (arith, rest, first)

-- ---- Puts

abbrev pub own_of : List (Option (Owner × ℕ)) → ℕ → ℕ
own_of slots u = length (owned_in u slots)

placed_short : (o : Option Place) → length (placed_bytes o) ≤ 13
placed_short None = omega arith
placed_short (Some place) = let long : length (placed_bytes (Some place)) ≡ 13 = refl in omega (arith, long)

abbrev Sized : List PutItem → Type 0
Sized items = (item : PutItem) → Contains items item → length item.fp.0 ≡ 32

items_short : (items : List PutItem) → Sized items → length (flat_map item_bytes items) ≤ 45 * length items
items_short [] sized = omega arith
items_short (item ∷ items) sized =
    let rest = items_short items (λ i c. sized i (contains_later item items i c)) in
    let here = sized item (contains_here item items) in
    omega (arith, ap length (flat_map-cons item_bytes item items), length-append (item_bytes item) (flat_map item_bytes items), length-append item.fp.0 (placed_bytes item.place), placed_short item.place, here, rest)

put_short : (u : ℕ) (items : List PutItem) → Sized items → record_len (put_body (put_of u items)) ≤ 12 + 45 * length items
put_short u items sized = omega (arith, items_short items sized)

batched_few : {X : Type 0} (some xs : List X) → length (batched some xs) ≤ length some + length xs
batched_few [] [] = omega arith
batched_few (y ∷ some) [] = omega arith
batched_few {X} some (x ∷ xs) = by_test (length some == batch_limit) refl (batched_few (x ∷ []) xs) (batched_few (some ++ x ∷ []) xs)
  where
    by_test : (b : Bool) → (length some == batch_limit) ≡ b → length (batched (x ∷ []) xs) ≤ 1 + length xs → length (batched (some ++ x ∷ []) xs) ≤ length (some ++ x ∷ []) + length xs
        → length (cond b (some ∷ batched (x ∷ []) xs) (batched (some ++ x ∷ []) xs)) ≤ length some + length (x ∷ xs)
    by_test true is one more = let full = eqb-true (length some) 256 is in omega (arith, one, full)
    by_test false is one more = omega (arith, more, length-append some (x ∷ []))

abbrev itself : List PutItem → List PutItem
itself items = items

user_short : (u : ℕ) (bs : List (List PutItem)) → Sized (flat_map itself bs) → records_len (map put_body (map (put_of u) bs)) ≤ 12 * length bs + 45 * length (flat_map itself bs)
user_short u [] sized = omega arith
user_short u (b ∷ bs) sized =
    let cons = flat_map-cons itself b bs in
    let all : Sized (b ++ flat_map itself bs) = subst Sized cons sized in
    let here = put_short u b (λ i c. all i (Contains-append_left b (flat_map itself bs) i c)) in
    let rest = user_short u bs (λ i c. all i (Contains-append_right b (flat_map itself bs) i c)) in
    omega (arith, here, rest, ap length cons, length-append b (flat_map itself bs))

module _ (shares : Shares) (sized : (u : ℕ) (fp : Fp) → Contains (owned_in u shares.owner_slots) fp → length fp.0 ≡ 32) where
  items_sized : (u : ℕ) → Sized (items_from shares u 0)
  items_sized u item c =
      let items = items_from shares u 0 in
      let fps = fps_are shares.places (listed shares.owner_slots u 0) (owned_in u shares.owner_slots) in
      sized u item.fp (subst (λ (xs : List Fp). Contains xs item.fp) fps (in_map (λ (i : PutItem). i.fp) items item c))

  -- each Put has an item, and no item has more than 45 bytes
  pub puts_short : (left u : ℕ) → records_len (map put_body (puts_from shares left u 0)) ≤ 57 * total (own_of shares.owner_slots) left u
  puts_short zero u = omega arith
  puts_short (suc left) u =
      let items = items_from shares u 0 in
      let own = map (put_of u) (batches items) in
      let others = puts_from shares left (u + 1) 0 in
      let flat : flat_map itself (batches items) ≡ items = flat_batched [] items in
      let rest = puts_short left (u + 1) in
      let here = user_short u (batches items) (subst Sized (sym flat) (items_sized u)) in
      omega (
        arith,
        ap records_len (map-append put_body own others),
        together (map put_body own) (map put_body others),
        here,
        ap length flat,
        batched_few [] items,
        items_len shares.places (listed shares.owner_slots u 0) (owned_in u shares.owner_slots),
        rest,
      )

-- ---- Commits

abbrev pub has_of : List (Option (FileKey × Entry)) → ℕ → ℕ
has_of slots u = length (entries_of u slots)

abbrev EntriesSized : List (Option (FileKey × Entry)) → Type 0
EntriesSized slots = (s : ℕ) (k : FileKey) (e : Entry) → get_or slots s None ≡ Some (k, e) → (length k.tag ≡ 32) × (length e.fp.0 ≡ 32)

commit_len : (c : CommitBody) → length c.tag.0 ≡ 32 → length c.fp.0 ≡ 32 → record_len (bodies.Commit c) ≡ 94
commit_len c tag fp =
    let tail : List ℕ = to_be_bytes w64 c.version.0 ++ (to_be_bytes w64 c.at ++ (to_be_bytes w32 c.len ++ c.fp.0)) in
    omega (arith, length-append c.tag.0 tail, tag, fp)

-- each user's entries are among them, and no other
pub commits_short : (slots : List (Option (FileKey × Entry))) (users : ℕ) → EntriesSized slots → ((u : ℕ) → users ≤ u → has_of slots u ≡ 0)
    → records_len (map bodies.Commit (picked commit_at slots)) ≤ 94 * total (has_of slots) users 0
commits_short [] users sized none = omega arith
commits_short (None ∷ slots) users sized none = commits_short slots users (λ s k e at. sized (suc s) k e at) none
commits_short (Some x ∷ slots) users sized none =
    elim (cases_lt x.0.user users) [
      | inl below ↦
          let rest = commits_short slots users (λ s k e at. sized (suc s) k e at) (λ u le. let all = none u le in let less = grows u in omega (arith, all, less)) in
          let more = total_more (has_of (Some x ∷ slots)) (has_of slots) x.0.user grows (omega (arith, here)) users 0 (omega arith) (omega (arith, below)) in
          let lens = sized 0 x.0 x.1 refl in
          let one = commit_len (record { user = record { 0 = x.0.user }; tag = record { 0 = x.0.tag }; version = record { 0 = x.0.version }; at = x.1.at; len = x.1.len; fp = x.1.fp }) lens.0 lens.1 in
          omega (arith, rest, more, one)
      | inr past ↦ absurd (let no = none x.0.user past in omega (arith, no, here))
    ]
  where
    grows : (u : ℕ) → has_of slots u ≤ has_of (Some x ∷ slots) u
    grows u = by_test (x.0.user == u)
      where
        by_test : (b : Bool) → length (entries_of u slots) ≤ length (onto (cond b (Some x) None) (entries_of u slots))
        by_test true = omega arith
        by_test false = omega arith

    here : has_of (Some x ∷ slots) x.0.user ≡ has_of slots x.0.user + 1
    here =
        ap (λ (b : Bool). length (onto (cond b (Some x) None) (entries_of x.0.user slots))) (eq-eqb x.0.user x.0.user refl)
        ∙ sym (add-one (has_of slots x.0.user))

-- ---- Spents

-- no more than there are users, where the others have spent nothing
pub spents_few : (table : List Row) (users u k : ℕ) → users ≤ u + k → ((i : ℕ) → users ≤ u + i → get_or table i rows.nothing ≡ rows.nothing) → length (spents_of u table) ≤ k
spents_few [] users u k le none = omega arith
spents_few (row ∷ table) users u zero le none =
    let rest = spents_few table users (u + 1) 0 (omega (arith, le)) (λ i past. none (suc i) (omega (arith, past))) in
    let first : spent_at u row ≡ None = ap (spent_at u) (none 0 (omega (arith, le))) in
    let same = ap (λ (o : Option SpentBody). length (onto o (spents_of (u + 1) table))) first in
    omega (arith, rest, same)
spents_few (row ∷ table) users u (suc k) le none =
    by_first (spent_at u row) (spents_few table users (u + 1) k (omega (arith, le)) (λ i past. none (suc i) (omega (arith, past))))
  where
    by_first : (o : Option SpentBody) → length (spents_of (u + 1) table) ≤ k → length (onto o (spents_of (u + 1) table)) ≤ suc k
    by_first None few = omega (arith, few)
    by_first (Some s) few = omega (arith, few)
