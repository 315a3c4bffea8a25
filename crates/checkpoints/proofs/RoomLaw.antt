-- The records of a memory with rooms are short enough for a half, whatever list the memory is of.
use Rattle.std.proofs.Common.{◌≡◌, inl, inr, ℕ, zero, suc, ◌+◌, ◌*◌, ◌<◌, ◌≤◌, Bool, true, false, cond, List, [], ◌∷◌, ◌++◌, length, map, Option, Some, None, refl, sym, ap, ◌∙◌, subst, arith, length-append}
use Rattle.std.specs.Prelude.{All, is_some, IsSome, ◌==◌, if◌then◌else◌}
use Rattle.std.specs.FinMap.{FinMap, get}
use Rattle.std.specs.List.{flat_map, Contains, count_by}
use Rattle.std.proofs.lemmas.Bool.{eqb-true, ne_eqb}
use Rattle.std.proofs.lemmas.List.{length-map, map-append}
use Rattle.std.proofs.lemmas.List.Elements.{All-head, All-tail, All-contains, Contains-append_left, Contains-append_right, Contains-append_cases}
use Rattle.std.proofs.lemmas.List.Sums.{sum_by-cons, sum_by-append}
use native.Mathlib.Nat.{mul-add, mul_left_comm, mul_comm}
use Rattle.cloud_memory.specs.CdBase.ids.Fp.{Fp}
use Rattle.cloud_memory.specs.CdBase.place.Place.{Place}
use Rattle.cloud_memory.specs.CdBase.Order.{fp_cmp}
use Rattle.cloud_disk.specs.JournalHalves.Halves.{half_limit}
use Rattle.cloud_disk.specs.JournalStart.rooms.UserRooms.{UserRooms}
use Rattle.cloud_memory.specs.RecordBody.body.PutItem.{PutItem}
use Rattle.cloud_memory.specs.RecordBody.body.CommitBody.{CommitBody}
use Rattle.cloud_memory.proofs.RecordBody.FirstSpelled.{has_place, length-put, length-commit}
use Rattle.cloud_memory.specs.RecordBody.body.KeptItem.{KeptItem}
use Rattle.cloud_memory.specs.RecordBody.body.SpentBody.{SpentBody}
use Rattle.cloud_memory.specs.RecordBody.Spelling as bodies
use Rattle.cloud_memory.specs.RecordBody.Spelling.{Body, FitsBody}
use Rattle.cloud_memory.proofs.RecordBody.Spelled.{length-kept, longest}
use Rattle.cloud_memory.specs.ShareIndex.key.Owner.{Owner}
use Rattle.cloud_memory.specs.ShareIndex.Order.{owner_cmp, owner_of}
use Rattle.cloud_memory.specs.ShareIndex.Placed.{AreAllPlaced}
use Rattle.cloud_memory.specs.ShareIndex.Shares.{Shares, owners_of}
use Rattle.cloud_memory.proofs.ShareIndexLaws.Owning.{value-of}
use Rattle.cloud_memory.specs.SpentTable.Spent.{Spent as Row}
use Rattle.cloud_memory.proofs.UserDedup.Owned.{contains_nothing}
use Rattle.cloud_disk.specs.CloudAreas.Checkpoints.{PutRecord, put_body, fps_of, items_in}
use Rattle.cloud_disk.specs.CloudAreas.Placing.{places_given, fps_placed}
use Rattle.cloud_disk.proofs.CloudAreas.Counting.{fewer}
use Rattle.cloud_disk.proofs.CloudAreas.Placed.{given_is_listed}
use Rattle.cloud_disk.proofs.CloudAreas.Lists.{from_map}
use Rattle.cloud_disk.proofs.CloudAreas.Once.{flagged_once}
use Rattle.cloud_memory.specs.declared.cloud.CloudMemory.{CloudMemory}
use Rattle.cloud_memory.specs.Fitting.{FitsRecords}
use Rattle.cloud_memory.specs.Rooms.{memory_of, HasRooms}
use Rattle.checkpoints.specs.Laying.{record_len, records_len, longest_record}
use Rattle.checkpoints.specs.Picking.{onto, picked, batches}
use Rattle.checkpoints.specs.Records.{owned_at, owned_in, listed, items_of, items_from, puts_from, kept_at, kept_from, commit_at, commits_from, spent_at, spents_of, spents_from, records_of}
use Rattle.checkpoints.specs.Known.{AreListed}
use Rattle.checkpoints.proofs.Apartness.{contained}
use Rattle.checkpoints.proofs.FullBatches.{flat_batched}
use Rattle.checkpoints.proofs.Holders.{owners_some}
use Rattle.checkpoints.proofs.KeptLaw.{item_in}
use Rattle.checkpoints.proofs.OwnLaw.{owned_gives}
use Rattle.checkpoints.proofs.Owns.{fps_are, items_together, flags_of}
use Rattle.checkpoints.proofs.Sought.{from_picked, in_picked}

-- ---- how long records are

pub together : (xs ys : List Body) → records_len (xs ++ ys) ≡ records_len xs + records_len ys
together [] ys = omega arith
together (x ∷ xs) ys = omega (arith, together xs ys)

all_left : (xs ys : List Body) → All FitsBody (xs ++ ys) → All FitsBody xs
all_left xs ys all = contained FitsBody xs (λ x c. All-contains FitsBody (xs ++ ys) x all (Contains-append_left xs ys x c))

all_right : (xs ys : List Body) → All FitsBody (xs ++ ys) → All FitsBody ys
all_right xs ys all = contained FitsBody ys (λ x c. All-contains FitsBody (xs ++ ys) x all (Contains-append_right xs ys x c))

pub puts_len : (puts : List PutRecord) → All FitsBody (map put_body puts)
    → records_len (map put_body puts) ≤ 45 * length (items_in puts) + 12 * count_by has_place (items_in puts)
puts_len [] fit = omega arith
puts_len (p ∷ ps) fit =
    let fits = All-head FitsBody (put_body p) (map put_body ps) fit in
    omega (
      arith,
      length-put p.user p.items fits.1.1,
      fits.1.0.0,
      puts_len ps (All-tail FitsBody (put_body p) (map put_body ps) fit),
      length-append p.items (items_in ps),
      sum_by-append (λ (i : PutItem). cond (has_place i) 1 0) p.items (items_in ps),
    )

abbrev pub all_kept : List (List KeptItem) → List KeptItem
all_kept ks = flat_map (λ (k : List KeptItem). k) ks

pub kept_len : (ks : List (List KeptItem)) → All FitsBody (map bodies.Kept ks) → records_len (map bodies.Kept ks) ≤ 52 * length (all_kept ks)
kept_len [] fit = omega arith
kept_len (k ∷ ks) fit =
    let fits = All-head FitsBody (bodies.Kept k) (map bodies.Kept ks) fit in
    omega (
      arith,
      length-kept k fits.1,
      fits.0.0,
      kept_len ks (All-tail FitsBody (bodies.Kept k) (map bodies.Kept ks) fit),
      length-append k (all_kept ks),
    )

pub commits_len : (cs : List CommitBody) → All FitsBody (map bodies.Commit cs) → records_len (map bodies.Commit cs) ≡ 94 * length cs
commits_len [] fit = refl
commits_len (c ∷ cs) fit =
    omega (
      arith,
      length-commit c (All-head FitsBody (bodies.Commit c) (map bodies.Commit cs) fit),
      commits_len cs (All-tail FitsBody (bodies.Commit c) (map bodies.Commit cs) fit),
    )

pub spents_len : (ss : List SpentBody) → records_len (map bodies.Spent ss) ≡ 30 * length ss
spents_len [] = refl
spents_len (s ∷ ss) = omega (arith, spents_len ss)

-- ---- how many there are of each

module _ {S X : Type 0} (f : S → Option X) where
  pub picked_few : (slots : List S) → length (picked f slots) ≤ length slots
  picked_few [] = omega arith
  picked_few (s ∷ slots) = by_first (f s) (picked_few slots)
    where
      by_first : (o : Option X) → length (picked f slots) ≤ length slots → length (onto o (picked f slots)) ≤ length (s ∷ slots)
      by_first None few = omega (arith, few)
      by_first (Some x) few = omega (arith, few)

pub spents_few : (user : ℕ) (rows : List Row) → length (spents_of user rows) ≤ length rows
spents_few user [] = omega arith
spents_few user (row ∷ rows) = by_first (spent_at user row) (spents_few (user + 1) rows)
  where
    by_first : (o : Option SpentBody) → length (spents_of (user + 1) rows) ≤ length rows → length (onto o (spents_of (user + 1) rows)) ≤ length (row ∷ rows)
    by_first None few = omega (arith, few)
    by_first (Some s) few = omega (arith, few)

-- how many fingerprints so many users have in these slots, from this one on
abbrev owned_sum : List (Option (Owner × ℕ)) → ℕ → ℕ → ℕ
owned_sum slots zero u = 0
owned_sum slots (suc left) u = length (owned_in u slots) + owned_sum slots left (u + 1)

no_slots : (left u : ℕ) → owned_sum [] left u ≡ 0
no_slots zero u = refl
no_slots (suc left) u = omega (arith, no_slots left (u + 1))

empty_slot : (slots : List (Option (Owner × ℕ))) (left u : ℕ) → owned_sum (None ∷ slots) left u ≡ owned_sum slots left u
empty_slot slots zero u = refl
empty_slot slots (suc left) u = ap (λ (n : ℕ). length (owned_in u slots) + n) (empty_slot slots left (u + 1))

module _ (e : Owner × ℕ) (slots : List (Option (Owner × ℕ))) where
  abbrev its_fp : Fp
  its_fp = record { 0 = e.0.fp }

  -- the slot is nobody's from a later user on
  passed : (left u : ℕ) → e.0.user < u → owned_sum (Some e ∷ slots) left u ≡ owned_sum slots left u
  passed zero u lt = refl
  passed (suc left) u lt =
      let rest = passed left (u + 1) (omega (arith, lt)) in
      let here : length (owned_in u (Some e ∷ slots)) ≡ length (owned_in u slots) =
      ap (λ (b : Bool). length (onto (cond b (Some its_fp) None) (owned_in u slots))) (ne_eqb e.0.user u (λ is. let same : e.0.user ≡ u = is in omega (arith, lt, same))) in
      omega (arith, here, rest)

  one_more : (left u : ℕ) → owned_sum (Some e ∷ slots) left u ≤ owned_sum slots left u + 1
  one_more zero u = omega arith
  one_more (suc left) u = by_test (e.0.user == u) refl (one_more left (u + 1))
    where
      by_test : (b : Bool) → (e.0.user == u) ≡ b → owned_sum (Some e ∷ slots) left (u + 1) ≤ owned_sum slots left (u + 1) + 1
          → length (onto (cond b (Some its_fp) None) (owned_in u slots)) + owned_sum (Some e ∷ slots) left (u + 1) ≤ length (owned_in u slots) + owned_sum slots left (u + 1) + 1
      by_test true is rest = let at = eqb-true e.0.user u is in let same = passed left (u + 1) (omega (arith, at)) in omega (arith, same)
      by_test false is rest = omega (arith, rest)

owned_few : (slots : List (Option (Owner × ℕ))) (left u : ℕ) → owned_sum slots left u ≤ length slots
owned_few [] left u = omega (arith, no_slots left u)
owned_few (None ∷ slots) left u = omega (arith, empty_slot slots left u, owned_few slots left u)
owned_few (Some e ∷ slots) left u = omega (arith, one_more e slots left u, owned_few slots left u)

pub items_len : (places : FinMap fp_cmp Place) (before fps : List Fp) → length (items_of places before fps) ≡ length fps
items_len places before [] = refl
items_len places before (fp ∷ fps) = omega (arith, items_len places (before ++ fp ∷ []) fps)

listed_len : (shares : Shares) (left u : ℕ) → length (items_in (puts_from shares left u 0)) ≡ owned_sum shares.owner_slots left u
listed_len shares zero u = refl
listed_len shares (suc left) u =
    let others = puts_from shares left (u + 1) 0 in
    omega (
      arith,
      ap length (items_together shares u others),
      length-append (items_from shares u 0) (items_in others),
      items_len shares.places (listed shares.owner_slots u 0) (owned_in u shares.owner_slots),
      listed_len shares left (u + 1),
    )

-- what is listed is some user's
listed_owner : (shares : Shares) (left u : ℕ) (fp : Fp) → Contains (fps_of (items_in (puts_from shares left u 0))) fp → (v : ℕ) × Contains (owned_in v shares.owner_slots) fp
listed_owner shares zero u fp c = absurd (contains_nothing fp c)
listed_owner shares (suc left) u fp c =
    let others = puts_from shares left (u + 1) 0 in
    let both : Contains (fps_of (items_from shares u 0) ++ fps_of (items_in others)) fp =
    subst (λ (xs : List Fp). Contains xs fp) (ap fps_of (items_together shares u others) ∙ map-append (λ (i : PutItem). i.fp) (items_from shares u 0) (items_in others)) c in
    elim (Contains-append_cases (fps_of (items_from shares u 0)) (fps_of (items_in others)) fp both) [
      | inl own ↦ (u, subst (λ (xs : List Fp). Contains xs fp) (fps_are shares.places (listed shares.owner_slots u 0) (owned_in u shares.owner_slots)) own)
      | inr more ↦ listed_owner shares left (u + 1) fp more
    ]

-- ---- what has a place

given_len : (items : List PutItem) → length (places_given items) ≡ count_by has_place items
given_len [] = refl
given_len (item ∷ items) = by_place item.place (given_len items)
  where
    by_place : (o : Option Place) → length (places_given items) ≡ count_by has_place items
        → length (places_given (record { fp = item.fp; place = o } ∷ items)) ≡ count_by has_place (record { fp = item.fp; place = o } ∷ items)
    by_place None same = omega (arith, same, sum_by-cons (λ (i : PutItem). cond (has_place i) 1 0) (record { fp = item.fp; place = None }) items)
    by_place (Some place) same = omega (arith, same, sum_by-cons (λ (i : PutItem). cond (has_place i) 1 0) (record { fp = item.fp; place = Some place }) items)

-- the fingerprint of a slot for a place, where some user owns it
abbrev owned_place : FinMap owner_cmp ℕ → Option (List ℕ × Place) → Option Fp
owned_place owners None = None
owned_place owners (Some e) = if owners_of owners e.0 == 0 then None else Some (record { 0 = e.0 })

owned_as : (owners : FinMap owner_cmp ℕ) (fp : Fp) (place : Place) → 0 < owners_of owners fp.0 → owned_place owners (Some (fp.0, place)) ≡ Some fp
owned_as owners fp place some =
    ap (λ (b : Bool). cond b None (Some fp)) (ne_eqb (owners_of owners fp.0) 0 (λ is. let none : owners_of owners fp.0 ≡ 0 = is in omega (arith, none, some)))

both_few : (owners : FinMap owner_cmp ℕ) (slots : List (Option (List ℕ × Place)))
    → length (picked (kept_at owners) slots) + length (picked (owned_place owners) slots) ≤ length slots
both_few owners [] = omega arith
both_few owners (None ∷ slots) = omega (arith, both_few owners slots)
both_few owners (Some e ∷ slots) = by_test (owners_of owners e.0 == 0) (both_few owners slots)
  where
    by_test : (b : Bool) → length (picked (kept_at owners) slots) + length (picked (owned_place owners) slots) ≤ length slots
        → length (onto (cond b (Some (item_in e)) None) (picked (kept_at owners) slots)) + length (onto (cond b None (Some (record { 0 = e.0 }))) (picked (owned_place owners) slots))
        ≤ length (Some e ∷ slots)
    by_test true few = omega (arith, few)
    by_test false few = omega (arith, few)

module _ (memory : CloudMemory) (l : AreListed memory) (placed : AreAllPlaced memory.shares.places memory.shares.owners) where
  abbrev items : List PutItem
  items = items_in (puts_from memory.shares (length memory.spent) 0 0)

  abbrev owned_places : List Fp
  owned_places = picked (owned_place memory.shares.owners) memory.shares.place_slots

  owner_at : (u : ℕ) (fp : Fp) → Contains (owned_in u memory.shares.owner_slots) fp → (uses : ℕ) × (get memory.shares.owners (owner_of u fp.0) ≡ Some uses)
  owner_at u fp c =
      let s = from_picked (owned_at u) refl memory.shares.owner_slots fp c in
      let g = owned_gives u s.entry fp s.picks in
      let key : s.entry.0 ≡ owner_of u fp.0 = λ i. record { user = g.0 i; fp = g.1 i } in
      (s.entry.1, ap (get memory.shares.owners) (sym key) ∙ l.owners.listed s.slot s.entry.0 s.entry.1 s.here)

  all_placed : (u : ℕ) → All (λ (fp : Fp). IsSome (get memory.shares.places fp.0)) (owned_in u memory.shares.owner_slots)
  all_placed u =
      contained (λ (fp : Fp). IsSome (get memory.shares.places fp.0)) (owned_in u memory.shares.owner_slots)
      (λ fp c. let o = owner_at u fp c in placed u fp.0 (ap is_some o.1))

  given_there : (fp : Fp) → Contains (fps_placed (places_given items)) fp → Contains owned_places fp
  given_there fp c =
      let x = from_map (λ (y : Fp × Place). y.0) (places_given items) fp c in
      let here = subst (Contains (fps_of items)) x.2 (given_is_listed items x.0 x.1) in
      let user = listed_owner memory.shares (length memory.spent) 0 fp here in
      let uses = owner_at user.0 fp user.1 in
      let place = value-of (get memory.shares.places fp.0) (placed user.0 fp.0 (ap is_some uses.1)) in
      let s = l.places.stands fp.0 place.0 place.1 in
      in_picked (owned_place memory.shares.owners) refl memory.shares.place_slots s.0 (fp.0, place.0) fp s.2
      (owned_as memory.shares.owners fp place.0 (owners_some memory.shares.owners user.0 fp.0 uses.0 uses.1))

  placed_few : count_by has_place items + length (kept_from memory.shares 0) ≤ length memory.shares.place_slots
  placed_few =
      let flags = flags_of memory.shares all_placed (length memory.spent) 0 in
      let few = fewer (fps_placed (places_given items)) owned_places (flagged_once [] items flags).once given_there in
      omega (
        arith,
        few,
        both_few memory.shares.owners memory.shares.place_slots,
        given_len items,
        length-map (places_given items) (λ (y : Fp × Place). y.0),
      )

-- ---- all of them: behind them there is room for the longest record

pub spread : (rooms : UserRooms) → half_limit rooms ≡ 11595 + (97 * (rooms.users * rooms.owners) + 94 * (rooms.users * rooms.files) + 30 * rooms.users)
spread rooms =
    let a = mul-add rooms.users (97 * rooms.owners + 94 * rooms.files) 30 in
    let b = mul-add rooms.users (97 * rooms.owners) (94 * rooms.files) in
    omega (arith, a, b, mul_left_comm rooms.users 97 rooms.owners, mul_left_comm rooms.users 94 rooms.files, mul_comm rooms.users 30)

pub records_short : (rooms : UserRooms) (memory : CloudMemory) → HasRooms rooms memory → FitsRecords (memory_of memory) → AreListed memory → All FitsBody (records_of memory)
    → 63 + records_len (records_of memory) + longest_record ≤ half_limit rooms
records_short rooms memory has fits l fit =
    let puts = map put_body (puts_from memory.shares (length memory.spent) 0 0) in
    let kept = map bodies.Kept (batches (kept_from memory.shares 0)) in
    let commits = map bodies.Commit (commits_from memory.files 0) in
    let spents = map bodies.Spent (spents_from memory.spent 0) in
    let behind = all_right puts (kept ++ (commits ++ spents)) fit in
    omega (
      arith,
      together puts (kept ++ (commits ++ spents)),
      together kept (commits ++ spents),
      together commits spents,
      puts_len (puts_from memory.shares (length memory.spent) 0 0) (all_left puts (kept ++ (commits ++ spents)) fit),
      kept_len (batches (kept_from memory.shares 0)) (all_left kept (commits ++ spents) behind),
      ap length (flat_batched [] (kept_from memory.shares 0)),
      commits_len (commits_from memory.files 0) (all_left commits spents (all_right kept (commits ++ spents) behind)),
      spents_len (spents_from memory.spent 0),
      spread rooms,
      listed_len memory.shares (length memory.spent) 0,
      owned_few memory.shares.owner_slots (length memory.spent) 0,
      placed_few memory l fits.placed,
      picked_few commit_at memory.files.slots,
      spents_few 0 memory.spent,
      has.owned,
      has.slots,
      has.entries,
      has.users,
    )

pub longest_is : (body : Body) → FitsBody body → record_len body ≤ longest_record
longest_is body fits = omega (arith, longest body fits)
