-- Records that are counted and measured without being written.
use Rattle.std.proofs.Common.{◌≡◌, inl, inr, ℕ, zero, suc, ◌+◌, ◌-◌, ◌*◌, ◌<◌, ◌≤◌, Bool, true, false, cond, List, [], ◌∷◌, ◌++◌, length, drop, map, Option, Some, None, get_or, refl, sym, ap, ◌∙◌, subst, arith, length-append}
use Rattle.std.specs.Prelude.{All, IfSome, ◌==◌, if◌then◌else◌}
use Rattle.std.specs.FinMap.{FinMap, get}
use Rattle.std.proofs.lemmas.Bool.{cases_eq, eqb-true}
use Rattle.std.proofs.Common.{eq-eqb}
use Rattle.std.proofs.lemmas.Grind.{flat_map-append}
use Rattle.std.proofs.lemmas.List.{length-map, map-append, nil_from_length}
use Rattle.std.proofs.lemmas.List.Elements.{All-nil, All-cons, All-head, All-tail, All-append}
use Rattle.std.proofs.lemmas.List.Sums.{count_by-le-length}
use Rattle.cloud_memory.specs.CdBase.ids.Fp.{Fp}
use Rattle.cloud_memory.specs.CdBase.place.Place.{Place}
use Rattle.cloud_memory.specs.CdBase.Order.{fp_cmp, fp_exact}
use Rattle.cloud_memory.specs.MessageFields.Fingerprints.{batch_limit, IsBatch}
use Rattle.cloud_memory.specs.PoolMap.MapSums.{sum_by-remove}
use Rattle.cloud_memory.specs.PoolMap.Slots.{slot_of, IsListed}
use Rattle.cloud_memory.specs.RecordBody.body.PutItem.{PutItem}
use Rattle.cloud_memory.specs.RecordBody.body.CommitBody.{CommitBody}
use Rattle.cloud_memory.specs.RecordBody.FirstSpelling.{FitsItem, FitsPlaced, FitsCommit}
use Rattle.cloud_memory.proofs.RecordBody.FirstSpelled.{has_place}
use Rattle.cloud_memory.specs.RecordBody.body.KeptItem.{KeptItem}
use Rattle.cloud_memory.specs.RecordBody.body.SpentBody.{SpentBody}
use Rattle.cloud_memory.specs.RecordBody.Spelling as bodies
use Rattle.cloud_memory.specs.RecordBody.Spelling.{Body, FitsBody, FitsKept, FitsSpent}
use Rattle.cloud_memory.specs.ShareIndex.Shares.{Shares, owners_of, ownerless_in}
use Rattle.cloud_memory.proofs.ShareIndexLaws.Placing.{fp_total}
use Rattle.cloud_memory.specs.UserDedup.Owning.{is_among}
use Rattle.cloud_disk.specs.CloudAreas.Checkpoints.{PutRecord, put_body, items_in}
use Rattle.cloud_memory.specs.Fitting.{AreSharePlaces}
use Rattle.checkpoints.specs.Laying.{records_len}
use Rattle.checkpoints.specs.Picking.{onto, picked, batched, batches}
use Rattle.checkpoints.specs.Records.{owned_in, listed, items_of, put_of, items_from, puts_from, kept_at}
use Rattle.checkpoints.specs.Tallies.{ArePlaces, IsTallied}
use Rattle.checkpoints.proofs.FullBatches.{flat_batched}
use Rattle.checkpoints.proofs.KeptLaw.{item_in}
use Rattle.checkpoints.proofs.Owns.{items_are}
use Rattle.checkpoints.proofs.RoomLaw.{together, puts_len, kept_len, commits_len, spents_len, items_len}
use Rattle.checkpoints.proofs.Shares.{puts_some}

-- ---- one after another

-- So many were counted; they are fit, if the others are.
pub record Tally {X : Type 0} (P : X → Type 0) (all rest : List X) (count : ℕ) : Type 0 where
  pub number : length all ≡ count + length rest
  pub fit : All P rest → All P all

pub no_tally : {X : Type 0} (P : X → Type 0) (all : List X) → Tally P all all 0
no_tally P all = record { number = omega arith; fit = λ f. f }

pub one_tally : {X : Type 0} (P : X → Type 0) (all rest left : List X) (count : ℕ) (x : X) → Tally P all rest count → rest ≡ x ∷ left → P x → Tally P all left (count + 1)
one_tally P all rest left count x t is fits = record {
  number = let n = t.number in let more = ap length is in omega (arith, n, more);
  fit = λ f. t.fit (subst (All P) (sym is) (All-cons P x left fits f));
}

module _ {X : Type 0} (P : X → Type 0) (all rest : List X) (count : ℕ) (t : Tally P all rest count) where
  pub tally_number : rest ≡ [] → count ≡ length all
  tally_number none = let n = t.number in let no = ap length none in omega (arith, n, no)

  pub tally_fit : rest ≡ [] → All P all
  tally_fit none = t.fit (subst (All P) (sym none) (All-nil P))

  pub tally_full : length all ≤ count → rest ≡ []
  tally_full few = nil_from_length rest (let n = t.number in omega (arith, n, few))

-- ---- places

abbrev PlaceSlots : Type 0
PlaceSlots = List (Option (List ℕ × Place))

-- The places in so many slots were read.
pub record PlacesSeen (slots : PlaceSlots) (count : ℕ) : Type 0 where
  pub seen : (s : ℕ) (fp : List ℕ) (place : Place) → s < count → slot_of slots s ≡ Some (fp, place) → place.at < 18446744073709551616

pub none_seen : (slots : PlaceSlots) → PlacesSeen slots 0
none_seen slots = record { seen = λ s fp place l is. absurd (omega (arith, l)) }

pub one_seen : (slots : PlaceSlots) (count : ℕ) → PlacesSeen slots count → ((fp : List ℕ) (place : Place) → slot_of slots count ≡ Some (fp, place) → place.at < 18446744073709551616)
    → PlacesSeen slots (count + 1)
one_seen slots count p here = record {
  seen = λ s fp place l is.
      elim (cases_eq s count) [
        | inl e ↦ here fp place (ap (λ n. slot_of slots n) (sym e) ∙ is)
        | inr ne ↦ p.seen s fp place (let apart : s ≡ count → ⊥ = ne in omega (arith, l, apart)) is
      ];
}

pub all_seen : (shares : Shares) (count : ℕ) → AreSharePlaces shares.places → IsListed shares.places shares.place_slots → PlacesSeen shares.place_slots count → length shares.place_slots ≤ count
    → ArePlaces shares.places
all_seen shares count fit each p all fp place is =
    let s = each.stands fp place is in let inside = s.1 in (p.seen s.0 fp place (omega (arith, inside, all)) s.2, fit fp place is)

-- ---- batches

module _ {X : Type 0} (P : X → Type 0) where
  abbrev IsFitBatch : List X → Type 0
  IsFitBatch b = IsBatch b × All P b

  batched_many : (some xs : List X) → length some ≤ 256
      → (length some + length xs ≤ 256 * length (batched some xs)) × (256 * length (batched some xs) < length some + length xs + 256)
  batched_many [] [] l = (omega arith, omega arith)
  batched_many (y ∷ some) [] l = (omega (arith, l), omega (arith, l))
  batched_many some (x ∷ xs) l = by_test (batched_many (x ∷ []) xs (omega arith)) (batched_many (some ++ x ∷ []) xs) (length some == batch_limit) refl
    where
      Many : List (List X) → Type 0
      Many bs = (length some + length (x ∷ xs) ≤ 256 * length bs) × (256 * length bs < length some + length (x ∷ xs) + 256)

      not_limit : (length some == batch_limit) ≡ false → length some ≡ 256 → ⊥
      not_limit is e = let t = eq-eqb (length some) 256 e in let no : true ≡ false = sym t ∙ is in cc

      by_test : (length (x ∷ []) + length xs ≤ 256 * length (batched (x ∷ []) xs)) × (256 * length (batched (x ∷ []) xs) < length (x ∷ []) + length xs + 256)
          → (length (some ++ x ∷ []) ≤ 256 → (length (some ++ x ∷ []) + length xs ≤ 256 * length (batched (some ++ x ∷ []) xs))
          × (256 * length (batched (some ++ x ∷ []) xs) < length (some ++ x ∷ []) + length xs + 256))
          → (b : Bool) → (length some == batch_limit) ≡ b → Many (if b then some ∷ batched (x ∷ []) xs else batched (some ++ x ∷ []) xs)
      by_test one more true is =
          let full : length some ≡ 256 = eqb-true (length some) 256 is in let low = one.0 in let high = one.1 in (omega (arith, full, low), omega (arith, full, high))
      by_test one more false is =
          let not_full : length some ≡ 256 → ⊥ = not_limit is in
          let long = length-append some (x ∷ []) in
          let both = more (omega (arith, long, l, not_full)) in
          let low = both.0 in let high = both.1 in (omega (arith, long, low), omega (arith, long, high))

  pub batches_many : (xs : List X) → (length xs ≤ 256 * length (batches xs)) × (256 * length (batches xs) < length xs + 256)
  batches_many xs = let both = batched_many [] xs (omega arith) in let low = both.0 in let high = both.1 in (omega (arith, low), omega (arith, high))

  batched_fit : (some xs : List X) → length some ≤ 256 → All P some → All P xs → All IsFitBatch (batched some xs)
  batched_fit [] [] l a b = All-nil IsFitBatch
  batched_fit (y ∷ some) [] l a b = All-cons IsFitBatch (y ∷ some) [] ((omega arith, omega (arith, l)), a) (All-nil IsFitBatch)
  batched_fit some (x ∷ xs) l a b =
      let here = All-head P x xs b in let rest = All-tail P x xs b in let one = All-cons P x [] here (All-nil P) in
      by_test (batched_fit (x ∷ []) xs (omega arith) one rest) (λ more. batched_fit (some ++ x ∷ []) xs more (All-append P some (x ∷ []) a one) rest) (length some == batch_limit) refl
    where
      by_test : All IsFitBatch (batched (x ∷ []) xs) → (length (some ++ x ∷ []) ≤ 256 → All IsFitBatch (batched (some ++ x ∷ []) xs))
          → (b : Bool) → (length some == batch_limit) ≡ b → All IsFitBatch (if b then some ∷ batched (x ∷ []) xs else batched (some ++ x ∷ []) xs)
      by_test one more true is =
          let full : length some ≡ 256 = eqb-true (length some) 256 is in
          All-cons IsFitBatch some (batched (x ∷ []) xs) ((omega (arith, full), omega (arith, full)), a) one
      by_test one more false is = more (omega (arith, length-append some (x ∷ []), l, not_full))
        where
          not_full : length some ≡ 256 → ⊥
          not_full e = let t = eq-eqb (length some) 256 e in let no : true ≡ false = sym t ∙ is in cc

  pub batches_fit : (xs : List X) → All P xs → All IsFitBatch (batches xs)
  batches_fit xs fit = batched_fit [] xs (omega arith) (All-nil P) fit

-- ---- Puts

places_fit : (b : Bool) (o : Option Place) → ((place : Place) → o ≡ Some place → (place.at < 18446744073709551616) × ((1 ≤ place.len) × (place.len ≤ 8208))) → FitsPlaced (if b then None else o)
places_fit true o each = tt
places_fit false None each = tt
places_fit false (Some place) each = each place refl

items_fit : (places : FinMap fp_cmp Place) (before fps : List Fp) → ArePlaces places → All (λ (fp : Fp). length fp.0 ≡ 32) fps → All FitsItem (items_of places before fps)
items_fit places before [] each long = All-nil FitsItem
items_fit places before (fp ∷ fps) each long =
    All-cons FitsItem (record { fp = fp; place = if is_among before fp then None else get places fp.0 }) (items_of places (before ++ fp ∷ []) fps)
    (All-head (λ (fp : Fp). length fp.0 ≡ 32) fp fps long, places_fit (is_among before fp) (get places fp.0) (λ place is. each fp.0 place is))
    (items_fit places (before ++ fp ∷ []) fps each (All-tail (λ (fp : Fp). length fp.0 ≡ 32) fp fps long))

puts_fit : (user : ℕ) (bs : List (List PutItem)) → user < 4294967296 → All (IsFitBatch FitsItem) bs → All FitsBody (map put_body (map (put_of user) bs))
puts_fit user [] l all = All-nil FitsBody
puts_fit user (b ∷ bs) l all =
    let here = All-head (IsFitBatch FitsItem) b bs all in
    All-cons FitsBody (bodies.Put (record { 0 = user }) b) (map put_body (map (put_of user) bs)) (l, here) (puts_fit user bs l (All-tail (IsFitBatch FitsItem) b bs all))

items_both : (user : ℕ) (items : List PutItem) (others : List PutRecord)
    → length (items_in (map (put_of user) (batches items) ++ others)) ≡ length items + length (items_in others)
items_both user items others =
    ap length (flat_map-append (λ (p : PutRecord). p.items) (map (put_of user) (batches items)) others)
    ∙ length-append (items_in (map (put_of user) (batches items))) (items_in others)
    ∙ ap (λ (xs : List PutItem). length xs + length (items_in others)) (items_are user items)

-- Of so many users so many Puts of so many shares were counted.
pub record PutsTally (shares : Shares) (all_left first from left user at puts items : ℕ) : Type 0 where
  pub number : length (puts_from shares all_left first from) ≡ puts + length (puts_from shares left user at)
  pub many : length (items_in (puts_from shares all_left first from)) ≡ items + length (items_in (puts_from shares left user at))
  pub fit : All FitsBody (map put_body (puts_from shares left user at)) → All FitsBody (map put_body (puts_from shares all_left first from))
  pub users : user + left ≤ 256
  pub few : items ≤ 4294967296 * user
  pub full : puts ≤ items

pub no_puts_tally : (shares : Shares) (left user at : ℕ) → user + left ≤ 256 → PutsTally shares left user at left user at 0 0
no_puts_tally shares left user at users = record { number = omega arith; many = omega arith; fit = λ f. f; users = users; few = omega arith; full = omega arith }

module _ (shares : Shares) (all_left first from left user at puts items : ℕ) (t : PutsTally shares all_left first from left user at puts items) where
  pub one_puts_tally : 0 < left → (count n : ℕ) → count ≡ length (owned_in user (drop at shares.owner_slots)) → All (λ (fp : Fp). length fp.0 ≡ 32) (owned_in user (drop at shares.owner_slots))
      → ArePlaces shares.places → count < 4294967296 → (count ≤ n * 256) × (n * 256 < count + 256)
      → PutsTally shares all_left first from (left - 1) (user + 1) 0 (puts + n) (items + count)
  one_puts_tally more count n is long each word ceil =
      let own = items_from shares user at in
      let others = puts_from shares (left - 1) (user + 1) 0 in
      let own_puts = map (put_of user) (batches own) in
      let own_len : length own ≡ count = items_len shares.places (listed shares.owner_slots user at) (owned_in user (drop at shares.owner_slots)) ∙ sym is in
      let some = puts_some shares left user at more in
      let bs = batches_many FitsItem own in
      let low = bs.0 in let high = bs.1 in let least = ceil.0 in let most = ceil.1 in
      let put_number = ap length some ∙ length-append own_puts others in
      let put_len = length-map (batches own) (put_of user) in
      let own_many = ap (λ (ps : List PutRecord). length (items_in ps)) some ∙ items_both user own others in
      let number = t.number in let many = t.many in let users = t.users in let few = t.few in let full = t.full in
      record {
        number = omega (arith, number, put_number, put_len, own_len, low, high, least, most);
        many = omega (arith, many, own_many, own_len);
        fit = λ f.
            t.fit (subst (λ (ps : List PutRecord). All FitsBody (map put_body ps)) (sym some)
            (subst (All FitsBody) (sym (map-append put_body own_puts others))
            (All-append FitsBody (map put_body own_puts) (map put_body others)
            (puts_fit user (batches own) (omega (arith, users))
            (batches_fit FitsItem own (items_fit shares.places (listed shares.owner_slots user at) (owned_in user (drop at shares.owner_slots)) each long)))
            f)));
        users = omega (arith, users, more);
        few = omega (arith, few, word);
        full = omega (arith, full, least, most);
      }

  module _ (none : left ≡ 0) where
    nothing : puts_from shares left user at ≡ []
    nothing = ap (λ (n : ℕ). puts_from shares n user at) none

    pub puts_number : puts ≡ length (puts_from shares all_left first from)
    puts_number = let number = t.number in let no = ap length nothing in omega (arith, number, no)

    pub puts_many : items ≡ length (items_in (puts_from shares all_left first from))
    puts_many = let many = t.many in let no = ap (λ (ps : List PutRecord). length (items_in ps)) nothing in omega (arith, many, no)

    pub puts_few : items ≤ 1099511627776
    puts_few = let users = t.users in let few = t.few in omega (arith, users, few)

    pub puts_all_fit : All FitsBody (map put_body (puts_from shares all_left first from))
    puts_all_fit = t.fit (subst (λ (ps : List PutRecord). All FitsBody (map put_body ps)) (sym nothing) (All-nil FitsBody))

-- ---- shares without owners

none_behind : {S X : Type 0} (f : Option S → Option X) (from : ℕ) (slots : List (Option S)) → ((s : ℕ) → f (get_or slots s None) ≡ None) → picked f (drop from slots) ≡ []
none_behind f zero [] none = refl
none_behind f zero (o ∷ slots) none = ap (λ r. onto r (picked f slots)) (none 0) ∙ none_behind f 0 slots (λ s. none (suc s))
none_behind f (suc from) [] none = refl
none_behind f (suc from) (o ∷ slots) none = none_behind f from slots (λ s. none (suc s))

pub none_ownerless : (shares : Shares) (from : ℕ) → ownerless_in shares.places shares.owners ≡ 0 → IsListed shares.places shares.place_slots
    → picked (kept_at shares.owners) (drop from shares.place_slots) ≡ []
none_ownerless shares from zero_is each = none_behind (kept_at shares.owners) from shares.place_slots (λ s. by_entry s (slot_of shares.place_slots s) refl)
  where
    ownerless : List ℕ × Place → ℕ
    ownerless e = cond (owners_of shares.owners e.0 == 0) 1 0

    by_test : (e : List ℕ × Place) (b : Bool) → ◌≡◌ {A = ℕ} (cond b 1 0) 0 → cond b (Some (item_in e)) None ≡ None
    by_test e true is = absurd (omega (arith, is))
    by_test e false is = refl

    by_entry : (s : ℕ) (o : Option (List ℕ × Place)) → slot_of shares.place_slots s ≡ o → kept_at shares.owners o ≡ None
    by_entry s None here = refl
    by_entry s (Some e) here =
        let taken = sum_by-remove fp_total fp_exact ownerless shares.places e.0 e.1 (each.listed s e.0 e.1 here) in
        by_test e (owners_of shares.owners e.0 == 0) (omega (arith, taken, zero_is))

-- ---- all of them

kept_fit : (ks : List (List KeptItem)) → All (IsFitBatch FitsKept) ks → All FitsBody (map bodies.Kept ks)
kept_fit [] all = All-nil FitsBody
kept_fit (k ∷ ks) all = All-cons FitsBody (bodies.Kept k) (map bodies.Kept ks) (All-head (IsFitBatch FitsKept) k ks all) (kept_fit ks (All-tail (IsFitBatch FitsKept) k ks all))

commits_fit : (cs : List CommitBody) → All FitsCommit cs → All FitsBody (map bodies.Commit cs)
commits_fit [] all = All-nil FitsBody
commits_fit (c ∷ cs) all = All-cons FitsBody (bodies.Commit c) (map bodies.Commit cs) (All-head FitsCommit c cs all) (commits_fit cs (All-tail FitsCommit c cs all))

spents_fit : (ss : List SpentBody) → All FitsSpent ss → All FitsBody (map bodies.Spent ss)
spents_fit [] all = All-nil FitsBody
spents_fit (s ∷ ss) all = All-cons FitsBody (bodies.Spent s) (map bodies.Spent ss) (All-head FitsSpent s ss all) (spents_fit ss (All-tail FitsSpent s ss all))

module _ (puts : List PutRecord) (kept : List KeptItem) (commits : List CommitBody) (spents : List SpentBody) (a : All FitsBody (map put_body puts)) (b : All FitsKept kept)
    (c : All FitsCommit commits) (d : All FitsSpent spents) where
  abbrev kept_bodies : List Body
  kept_bodies = map bodies.Kept (batches kept)

  abbrev commit_bodies : List Body
  commit_bodies = map bodies.Commit commits

  abbrev spent_bodies : List Body
  spent_bodies = map bodies.Spent spents

  abbrev whole : List Body
  whole = map put_body puts ++ (kept_bodies ++ (commit_bodies ++ spent_bodies))

  kepts_fit : All FitsBody kept_bodies
  kepts_fit = kept_fit (batches kept) (batches_fit FitsKept kept b)

  pub whole_fit : All FitsBody whole
  whole_fit =
      All-append FitsBody (map put_body puts) (kept_bodies ++ (commit_bodies ++ spent_bodies)) a
      (All-append FitsBody kept_bodies (commit_bodies ++ spent_bodies) kepts_fit (All-append FitsBody commit_bodies spent_bodies (commits_fit commits c) (spents_fit spents d)))

  pub whole_number : (n : ℕ) → (length kept ≤ n * 256) × (n * 256 < length kept + 256) → length whole ≡ length puts + n + length commits + length spents
  whole_number n ceil =
      let low = ceil.0 in let high = ceil.1 in
      let bs = batches_many FitsKept kept in let least = bs.0 in let most = bs.1 in
      omega (
        arith,
        low,
        high,
        least,
        most,
        length-append (map put_body puts) (kept_bodies ++ (commit_bodies ++ spent_bodies)),
        length-append kept_bodies (commit_bodies ++ spent_bodies),
        length-append commit_bodies spent_bodies,
        length-map puts put_body,
        length-map (batches kept) bodies.Kept,
        length-map commits bodies.Commit,
        length-map spents bodies.Spent,
      )

  pub whole_short : 63 + records_len whole ≤ 63 + 57 * length (items_in puts) + 52 * length kept + 94 * length commits + 30 * length spents
  whole_short =
      omega (
        arith,
        together (map put_body puts) (kept_bodies ++ (commit_bodies ++ spent_bodies)),
        together kept_bodies (commit_bodies ++ spent_bodies),
        together commit_bodies spent_bodies,
        puts_len puts a,
        count_by-le-length has_place (items_in puts),
        kept_len (batches kept) kepts_fit,
        ap length (flat_batched [] kept),
        commits_len commits (commits_fit commits c),
        spents_len spents,
      )

pub tallied : (records : List Body) (limit count bytes : ℕ) (answer : Option ℕ) → IfSome answer (λ n. (n ≡ count) × (bytes ≤ limit)) → count ≡ length records → 63 + records_len records ≤ bytes
    → IsTallied records limit answer
tallied records limit count bytes None within number short = tt
tallied records limit count bytes (Some n) within number short = let few = within.1 in (within.0 ∙ number, omega (arith, few, short))
