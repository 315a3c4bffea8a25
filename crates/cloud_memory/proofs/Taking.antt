-- One share that is added, and what a Put leaves.
use Rattle.std.proofs.Common.{◌≡◌, ℕ, ◌+◌, ◌*◌, ◌<◌, ◌≤◌, ◌^◌, nat_lt, Bool, true, false, cond, List, length, Option, Some, None, refl, sym, ap, ◌∙◌, subst, arith, ltb-true, ltb-false}
use Rattle.std.specs.Prelude.{is_some, sum_by, slice_set}
use Rattle.std.specs.Option.{option_or}
use Rattle.std.specs.FinMap.{FinMap, get, insert, len, get-insert}
use Rattle.std.specs.Ordering.{is_eq}
use Rattle.std.proofs.lemmas.Cmp.{tied_itself}
use Rattle.std.proofs.lemmas.Nat.{mul-le}
use Rattle.std.proofs.lemmas.List.{length-set}
use Rattle.spent_table.specs.CdBase.ids.Fp.{Fp}
use Rattle.spent_table.specs.CdBase.ids.UserId.{UserId}
use Rattle.spent_table.specs.CdBase.rooms.Room.{Room}
use Rattle.spent_table.specs.CdBase.rooms.Room.TheVariants as names
use Rattle.cloud_areas.specs.ContainerLog.Places.{place_of}
use Rattle.file_index.specs.PoolMap.accounts.Accounts.{Accounts}
use Rattle.file_index.specs.PoolMap.Accounts.{limit_for, use_for, keys_of}
use Rattle.cloud_areas.specs.JournalStart.rooms.UserRooms.{UserRooms}
use Rattle.cloud_areas.specs.JournalStart.Ranges.{AreRooms}
use Rattle.cloud_areas.specs.RecordBody.body.PutItem.{PutItem}
use Rattle.share_index.specs.declared.key.Owner.{Owner}
use Rattle.spent_table.specs.CdBase.place.Place.{Place}
use Rattle.share_index.specs.Order.{owner_cmp, owner_of}
use Rattle.spent_table.specs.CdBase.Order.{fp_cmp}
use Rattle.share_index.proofs.Placing.{fp_total}
use Rattle.spent_table.specs.declared.Spent.{Spent as Row}
use Rattle.spent_table.specs.Spending.{spent_by, both}
use Rattle.cloud_areas.specs.UserDedup.Spending.{SpentByUser, nothing, refusal, limits_of}
use Rattle.cloud_areas.specs.UserDedup.Dedup.{FullRoom}
use Rattle.cloud_memory.specs.declared.cloud.CloudMemory.{CloudMemory}
use Rattle.cloud_memory.specs.declared.rooms.New.{New}
use Rattle.cloud_memory.specs.Memory.{Memory}
use Rattle.cloud_memory.specs.News.{AreFingerprintsApart, AreNewTo}
use Rattle.cloud_memory.specs.Rooms.{memory_of, HasRooms, full_put}
use Rattle.cloud_memory.specs.Steps.{with_items, part_in, spent_on, spends, held_len, with_put}
use Rattle.cloud_memory.specs.Inner.{HasPlacedShare, Owned, HasAddedShare, HasShareRoom, MayAdd, FitsPut}
use Rattle.cloud_memory.proofs.Adding.{Added, limits_on, cost_held, parts_count}
use Rattle.cloud_memory.proofs.Puts.{place_for, spent_stays}

-- behind its place there is still room for its owner
pub room_behind : (old mid : CloudMemory) (user : UserId) (fp : Fp) (place : Place) → HasShareRoom old user fp → HasPlacedShare old mid fp place → HasShareRoom mid user fp
room_behind old mid user fp place room placed = record {
  new = ap (λ (m : FinMap owner_cmp ℕ). get m (owner_of user.0 fp.0)) placed.owners ∙ room.new;
  owners =
      subst (λ (m : FinMap owner_cmp ℕ). use_for (λ (k : Owner). k.user) mid.shares.accounts m user.0 < limit_for mid.shares.accounts user.0) (sym placed.owners)
      (subst (λ (a : Accounts). use_for (λ (k : Owner). k.user) a old.shares.owners user.0 < limit_for a user.0) (sym placed.limits.owners) room.owners);
  fps = λ none.
      let here : get mid.shares.places fp.0 ≡ Some place =
      ap (λ (m : FinMap fp_cmp Place). get m fp.0) placed.places ∙ get-insert fp_total old.shares.places fp.0 place fp.0
      ∙ ap (λ t. cond t (Some place) (get old.shares.places fp.0)) (ap is_eq (tied_itself fp_total fp.0)) in
      absurd (let never : Some place ≡ None = sym here ∙ none in cc);
}

-- a share whose fingerprint has a place
pub known_added : (old new : CloudMemory) (user : UserId) (n : New) → is_some (get old.shares.places n.fp.0) ≡ true → HasShareRoom old user n.fp → Owned old new user n.fp
    → HasAddedShare old new user n (record { fp = n.fp; place = None })
known_added old new user n known room owned =
    let part : record { fp = n.fp; place = None } ≡ part_in (memory_of old) n =
    ap (λ (b : Bool). record { fp = n.fp; place = cond b None (Some (place_for (memory_of old) n)) }) (sym known) in
    record {
      part = part;
      taken = λ i. record {
        places = owned.places i;
        owners = owned.owners i;
        files = (owned.files i).files;
        spent = owned.spent i;
        shares_end = owned.shares_end i;
        recipes_end = owned.recipes_end i;
      };
      lacks = room.new;
      near = let same = owned.shares_end in omega (arith, same);
      limits = owned.limits;
    }

-- one whose fingerprint has none
pub fresh_added : (old mid new : CloudMemory) (user : UserId) (n : New) (at : ℕ) → get old.shares.places n.fp.0 ≡ None → HasShareRoom old user n.fp
    → at ≡ place_of old.shares_end n.len → at ≤ old.shares_end + 4194304 → n.len < 2 ^ 32
    → HasPlacedShare old mid n.fp (record { at = at; len = n.len }) → Owned mid new user n.fp
    → HasAddedShare old new user n (record { fp = n.fp; place = Some (record { at = at; len = n.len }) })
fresh_added old mid new user n at fresh room here near small placed owned =
    let part : record { fp = n.fp; place = Some (record { at = at; len = n.len }) } ≡ part_in (memory_of old) n =
    ap (λ (x : ℕ). record { fp = n.fp; place = Some (record { at = x; len = n.len }) }) here
    ∙ ap (λ (o : Option Place). record { fp = n.fp; place = cond (is_some o) None (Some (place_for (memory_of old) n)) }) (sym fresh) in
    record {
      part = part;
      taken = λ i. record {
        places = (owned.places ∙ placed.places) i;
        owners = (owned.owners ∙ ap (λ (m : FinMap owner_cmp ℕ). insert m (owner_of user.0 n.fp.0) 0) placed.owners) i;
        files = ((owned.files ∙ placed.files) i).files;
        spent = (owned.spent ∙ placed.spent) i;
        shares_end = (owned.shares_end ∙ placed.end) i;
        recipes_end = (owned.recipes_end ∙ placed.recipes_end) i;
      };
      lacks = room.new;
      near = let same = owned.shares_end in let end = placed.end in omega (arith, same, end, near, small);
      limits = limits_on old mid new placed.limits owned.limits;
    }

-- ---- rooms

pub refusal_none : (room : Room) (used need limit : ℕ) → refusal room used need limit ≡ None → used + need ≤ limit
refusal_none room used need limit e = by_test (nat_lt limit (used + need)) refl e
  where
    by_test : (b : Bool) → nat_lt limit (used + need) ≡ b → cond {A = Option FullRoom} b (Some (record { room = room; used = used; need = need; limit = limit })) None ≡ None → used + need ≤ limit
    by_test true is e = absurd (let never : ◌≡◌ {A = Option FullRoom} (Some (record { room = room; used = used; need = need; limit = limit })) None = e in cc)
    by_test false is e = ltb-false limit (used + need) is

pub none_left : (a b : Option FullRoom) → option_or a b ≡ None → (a ≡ None) × (b ≡ None)
none_left None b e = (refl, e)
none_left (Some x) b e = absurd (let never : Some x ≡ None = e in cc)

pub record Limit (rooms : UserRooms) (user : UserId) : Type 0 where
  pub place : user.0 < rooms.users
  pub owners : (limits_of rooms user).owners ≡ rooms.owners
  pub shares : (limits_of rooms user).shares ≡ rooms.shares

-- who may have something has the limits of the rooms
pub limit_is : (rooms : UserRooms) (user : UserId) → 1 ≤ (limits_of rooms user).owners → Limit rooms user
limit_is rooms user some = by_test (nat_lt user.0 rooms.users) refl
  where
    by_test : (b : Bool) → nat_lt user.0 rooms.users ≡ b → Limit rooms user
    by_test true is = record {
      place = ltb-true user.0 rooms.users is;
      owners = ap (λ (b : Bool). (cond {A = SpentByUser} b (record { owners = rooms.owners; shares = rooms.shares; recipes = rooms.recipes }) nothing).owners) is;
      shares = ap (λ (b : Bool). (cond {A = SpentByUser} b (record { owners = rooms.owners; shares = rooms.shares; recipes = rooms.recipes }) nothing).shares) is;
    }
    by_test false is =
        let zero_is : (limits_of rooms user).owners ≡ 0 =
        ap (λ (b : Bool). (cond {A = SpentByUser} b (record { owners = rooms.owners; shares = rooms.shares; recipes = rooms.recipes }) nothing).owners) is in
        absurd (omega (arith, zero_is, some))

pub fits_put : (rooms : UserRooms) (user : UserId) (m : Memory) (count more : ℕ) → 1 ≤ count → full_put rooms user m count more ≡ None → FitsPut rooms m user count more
fits_put rooms user m count more some none =
    let limits = limits_of rooms user in
    let a = none_left (refusal names.Owners (spent_by m.spent user).owners count limits.owners) _ none in
    let b = none_left (refusal names.Shares (spent_by m.spent user).shares more limits.shares) _ a.1 in
    let c = none_left (refusal names.Owners (keys_of (λ (k : Owner). k.user) m.owners user.0) count limits.owners) (refusal names.Owners (len m.places) count (rooms.users * rooms.owners)) b.1 in
    let owners = refusal_none names.Owners (spent_by m.spent user).owners count limits.owners a.0 in
    let shares = refusal_none names.Shares (spent_by m.spent user).shares more limits.shares b.0 in
    let owned = refusal_none names.Owners (keys_of (λ (k : Owner). k.user) m.owners user.0) count limits.owners c.0 in
    let placed = refusal_none names.Owners (len m.places) count (rooms.users * rooms.owners) c.1 in
    let limit = limit_is rooms user (omega (arith, owners, some)) in
    let o = limit.owners in let s = limit.shares in
    record {
      place = limit.place;
      owners = omega (arith, owners, o);
      shares = omega (arith, shares, s);
      owned = omega (arith, owned, o);
      placed = placed;
    }

pub may_add : (rooms : UserRooms) (cloud : CloudMemory) (user : UserId) (news : List New) (more : ℕ) → HasRooms rooms cloud → AreNewTo (memory_of cloud) user news
    → FitsPut rooms (memory_of cloud) user (length news) more → length news ≤ 256 → cloud.shares_end < 2 ^ 62 → MayAdd cloud user news
may_add rooms cloud user news more has apart fits few end = record {
  apart = apart;
  users = rooms.users;
  limit = rooms.owners;
  accounts = has.owners;
  known = fits.place;
  owners = fits.owned;
  fps = let placed = fits.placed in let h = has.fps in subst (λ (n : ℕ). len cloud.shares.places + length news ≤ n) (sym h) placed;
  end = omega (arith, few, end);
}

-- no user may have more than all together
pub owners_small : (rooms : UserRooms) → AreRooms rooms → rooms.owners ≤ 524288
owners_small rooms are = let least = mul-le 1 rooms.owners rooms.users rooms.owners are.some (omega arith) in let most = are.owners in omega (arith, least, most)

pub shares_small : (rooms : UserRooms) → AreRooms rooms → rooms.shares ≤ 8589934592
shares_small rooms are = let least = mul-le 1 rooms.shares rooms.users rooms.shares are.some (omega arith) in let most = are.shares in omega (arith, least, most)

pub recipes_small : (rooms : UserRooms) → AreRooms rooms → rooms.recipes ≤ 1073741824
recipes_small rooms are = let least = mul-le 1 rooms.recipes rooms.users rooms.recipes are.some (omega arith) in let most = are.recipes in omega (arith, least, most)

pub files_small : (rooms : UserRooms) → AreRooms rooms → rooms.files ≤ 16384
files_small rooms are = let least = mul-le 1 rooms.files rooms.users rooms.files are.some (omega arith) in let most = are.files in omega (arith, least, most)

-- ---- what a Put leaves

-- a memory with another table
abbrev pub with_rows : Memory → List Row → Memory
with_rows m rows = record { places = m.places; owners = m.owners; files = m.files; spent = rows; shares_end = m.shares_end; recipes_end = m.recipes_end }

pub same_spent : (old mid : CloudMemory) (user : UserId) (news : List New) (items : List PutItem) → Added old mid user news items → mid.spent ≡ old.spent
same_spent old mid user news items added = ap (λ (m : Memory). m.spent) added.taken ∙ spent_stays user (memory_of old) items

pub put_taken : (old mid : CloudMemory) (user : UserId) (news : List New) (items : List PutItem) (count more : ℕ) (rows : List Row) → Added old mid user news items → AreFingerprintsApart news
    → count ≡ length news → more ≡ sum_by (held_len old.shares.places) news
    → rows ≡ slice_set mid.spent user.0 (both (spent_by mid.spent user) (record { owners = count; shares = more; recipes = 0 }))
    → with_rows (memory_of mid) rows ≡ with_put user items (memory_of old)
put_taken old mid user news items count more rows added apart counted held is =
    let m = memory_of old in
    let filled = with_items user m items in
    let long : count ≡ length items = counted ∙ sym (ap (λ (l : List PutItem). length l) added.parts ∙ parts_count m user news) in
    let cost : more ≡ (spent_on filled items).shares =
    held ∙ sym (cost_held m user news apart) ∙ ap (λ (l : List PutItem). (spent_on (with_items user m l) l).shares) (sym added.parts) in
    ap (with_rows (memory_of mid)) is
    ∙ ap (spends user (record { owners = count; shares = more; recipes = 0 })) added.taken
    ∙ (λ i. spends user (record { owners = long i; shares = cost i; recipes = 0 }) filled)

pub rows_long : (rows : List Row) (user : UserId) (row : Row) → length (slice_set rows user.0 row) ≡ length rows
rows_long rows user row = length-set rows user.0 row
