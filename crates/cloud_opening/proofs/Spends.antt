-- A memory in which nobody has spent more than it may, with one command more that has room.
use Rattle.std.proofs.Common.{◌≡◌, inr, ℕ, zero, suc, ◌+◌, ◌*◌, ◌<◌, ◌≤◌, Bool, true, false, List, [], ◌∷◌, length, None, refl, sym, ap, subst, arith, ltb-true, suc-mul}
use Rattle.std.specs.Prelude.{max, nat_lt, slice_set, slice_index_or, sum_by, if◌then◌else◌}
use Rattle.std.proofs.lemmas.List.Sums.{sum_by-cons}
use Rattle.std.specs.FinMap.{get}
use Rattle.cloud_disk.specs.CdBase.ids.Fp.{Fp}
use Rattle.cloud_disk.specs.CdBase.ids.UserId.{UserId}
use Rattle.cloud_disk.specs.ContainerLog.Places.{place_of}
use Rattle.record_laws.specs.FileIndex.key.FileKey.{FileKey}
use Rattle.cloud_disk.specs.JournalStart.rooms.UserRooms.{UserRooms}
use Rattle.cloud_disk.specs.JournalStart.Ranges.{AreRooms}
use Rattle.cloud_disk.specs.RecordBody.body.CommitBody.{CommitBody}
use Rattle.cloud_disk.specs.RecordBody.body.PutItem.{PutItem}
use Rattle.record_laws.specs.SpentTable.Spent.{Spent}
use Rattle.record_laws.specs.SpentTable.Spending.{nothing, spent_by, both}
use Rattle.cloud_disk.specs.UserDedup.Spending as limits
use Rattle.cloud_disk.specs.UserDedup.Spending.{limits_of, refusal}
use Rattle.cloud_disk.specs.CdBase.rooms.Room.TheVariants as names
use Rattle.cloud_disk.specs.CloudAreas.Placing.{region_start}
use Rattle.record_laws.specs.RecordChecks.CloudMemory.rooms.New.{New}
use Rattle.record_laws.specs.RecordChecks.CloudMemory.Memory.{Memory}
use Rattle.record_laws.specs.RecordChecks.CloudMemory.News.{AreNewTo}
use Rattle.record_laws.specs.RecordChecks.CloudMemory.Rooms.{full_news, full_commit, full_files}
use Rattle.record_laws.specs.RecordChecks.CloudMemory.Steps.{with_items, with_put, with_entry, with_commit, without_entry, parts_of, spent_on, placed_len, held_len}
use Rattle.record_laws.proofs.RecordChecks.MemoryProofs.Adding.{parts_count, cost_held}
use Rattle.record_laws.proofs.RecordChecks.MemoryProofs.EndsLaw.{put_near, place_near}
use Rattle.record_laws.proofs.RecordChecks.MemoryProofs.Puts.{recipes_end_stays}
use Rattle.record_laws.proofs.RecordChecks.MemoryProofs.Taking.{fits_put, none_left, refusal_none, limit_is}
use Rattle.cloud_opening.specs.Roomy.{SpendWithin, IsRoomy}
use Rattle.cloud_opening.proofs.Roomy.{items_spent, behind_within}

-- ---- sums of rows

-- with a row that is more by so much
sum_set : (f : Spent → ℕ) (rows : List Spent) (i more : ℕ) (row : Spent) → i < length rows → f row ≡ f (slice_index_or rows i nothing) + more
    → sum_by f (slice_set rows i row) ≡ sum_by f rows + more
sum_set f [] i more row within is = absurd (omega (arith, within))
sum_set f (r ∷ rows) zero more row within is =
    let one = sum_by-cons f row rows in let other = sum_by-cons f r rows in omega (arith, is, one, other)
sum_set f (r ∷ rows) (suc i) more row within is =
    let rest = sum_set f rows i more row (omega (arith, within)) is in
    let one = sum_by-cons f r (slice_set rows i row) in let other = sum_by-cons f r rows in
    omega (arith, rest, one, other)

-- no more than the limit for each
sum_bound : (f : Spent → ℕ) (rows : List Spent) (limit : ℕ) → ((j : ℕ) → f (slice_index_or rows j nothing) ≤ limit) → sum_by f rows ≤ length rows * limit
sum_bound f [] limit each = omega arith
sum_bound f (r ∷ rows) limit each =
    let first = each 0 in let rest = sum_bound f rows limit (λ j. each (suc j)) in let sum = sum_by-cons f r rows in
    let times : suc (length rows) * limit ≡ limit + length rows * limit = omega (arith, suc-mul (length rows) limit) in
    omega (arith, first, rest, sum, times)

-- ---- limits

abbrev limit_at : Bool → UserRooms → limits.SpentByUser
limit_at b rooms = if b then record { owners = rooms.owners; shares = rooms.shares; recipes = rooms.recipes } else limits.nothing

shares_at : (b : Bool) (rooms : UserRooms) → (limit_at b rooms).shares ≤ rooms.shares
shares_at true rooms = omega arith
shares_at false rooms = omega arith

recipes_at : (b : Bool) (rooms : UserRooms) → (limit_at b rooms).recipes ≤ rooms.recipes
recipes_at true rooms = omega arith
recipes_at false rooms = omega arith

-- both logs end far in front of the end of the last region
pub ends_far : (rooms : UserRooms) (region : ℕ) (m : Memory) → AreRooms rooms → length m.spent ≡ rooms.users → region ≤ 1 → IsRoomy rooms region m
    → (m.shares_end ≤ 60129542144) × (m.recipes_end ≤ 37580963840)
ends_far rooms region m are users small roomy =
    let shares = sum_bound (λ (row : Spent). row.shares) m.spent rooms.shares (λ j.
    let own = roomy.spent.shares (record { 0 = j }) in let limit = shares_at (nat_lt j rooms.users) rooms in omega (arith, own, limit)) in
    let recipes = sum_bound (λ (row : Spent). row.recipes) m.spent rooms.recipes (λ j.
    let own = roomy.spent.recipes (record { 0 = j }) in let limit = recipes_at (nat_lt j rooms.users) rooms in omega (arith, own, limit)) in
    let most_shares = subst (λ (n : ℕ). n * rooms.shares ≤ 8589934592) (sym users) are.shares in
    let most_recipes = subst (λ (n : ℕ). n * rooms.recipes ≤ 1073741824) (sym users) are.recipes in
    let ends = roomy.ends in let se = ends.shares in let re = ends.recipes in
    (omega (arith, se, shares, most_shares, small), omega (arith, re, recipes, most_recipes, small))

-- ---- a Put

pub put_roomy : (rooms : UserRooms) (region : ℕ) (m : Memory) (user : UserId) (news : List New) → length m.spent ≡ rooms.users → 1 ≤ length news → AreNewTo m user news
    → full_news rooms user m news ≡ None → IsRoomy rooms region m → IsRoomy rooms region (with_put user (parts_of user m news) m)
put_roomy rooms region m user news users some new room roomy =
    let items = parts_of user m news in let filled = with_items user m items in
    let fits = fits_put rooms user m (length news) (sum_by (held_len m.places) news) some room in
    let limit = limit_is rooms user (let o = fits.owners in let w = none_left _ _ room in let first = refusal_none names.Owners (spent_by m.spent user).owners (length news) (limits_of rooms user).owners w.0 in omega (arith, first, some)) in
    let rows = items_spent user m items in
    let within : SpendWithin rooms filled.spent = subst (SpendWithin rooms) (sym rows) roomy.spent in
    let count = parts_count m user news in let cost = cost_held m user news new.apart in
    let lo = limit.owners in let ls = limit.shares in
    let fo = fits.owners in let fs = fits.shares in let recipes = within.recipes user in
    let owners : (spent_by filled.spent user).owners + length items ≤ (limits_of rooms user).owners =
    subst (λ (r : List Spent). (spent_by r user).owners + length items ≤ (limits_of rooms user).owners) (sym rows) (omega (arith, fo, lo, count)) in
    let shares : (spent_by filled.spent user).shares + (spent_on filled items).shares ≤ (limits_of rooms user).shares =
    subst (λ (r : List Spent). (spent_by r user).shares + (spent_on filled items).shares ≤ (limits_of rooms user).shares) (sym rows) (omega (arith, fs, ls, cost)) in
    let place : user.0 < length filled.spent = (let p = fits.place in let n = ap (λ (r : List Spent). length r) rows in omega (arith, p, n, users)) in
    let near = put_near user m news in let stays = recipes_end_stays user m items in
    let ends = roomy.ends in let se = ends.shares in let re = ends.recipes in
    let sum = sum_set (λ (row : Spent). row.shares) filled.spent user.0 (spent_on filled items).shares (both (spent_by filled.spent user) (spent_on filled items)) place refl in
    let had = ap (λ (r : List Spent). sum_by (λ (row : Spent). row.shares) r) rows in
    let other = sum_set (λ (row : Spent). row.recipes) filled.spent user.0 0 (both (spent_by filled.spent user) (spent_on filled items)) place refl in
    let had_other = ap (λ (r : List Spent). sum_by (λ (row : Spent). row.recipes) r) rows in
    record {
      spent = behind_within false rooms user (spent_on filled items) filled within (inr owners) (inr shares) (inr (omega (arith, recipes)));
      ends = record { shares = omega (arith, se, near, sum, had); recipes = omega (arith, re, stays, other, had_other) };
    }

-- ---- a Commit

pub commit_roomy : (rooms : UserRooms) (region : ℕ) (m : Memory) (names_of : List Fp) (c : CommitBody) → length m.spent ≡ rooms.users → 1 ≤ c.len
    → c.at ≡ place_of m.recipes_end c.len → full_commit rooms c.user m c.len ≡ None → IsRoomy rooms region m → IsRoomy rooms region (with_commit names_of c m)
commit_roomy rooms region m names_of c users some at room roomy =
    let user = c.user in let more : Spent = record { owners = 0; shares = 0; recipes = c.len } in
    let left = none_left (full_files rooms user m) (refusal names.Recipes (spent_by m.spent user).recipes c.len (limits_of rooms user).recipes) room in
    let fits = refusal_none names.Recipes (spent_by m.spent user).recipes c.len (limits_of rooms user).recipes left.1 in
    let owners = roomy.spent.owners user in let shares = roomy.spent.shares user in
    let place : user.0 < length m.spent = in_place (nat_lt user.0 rooms.users) refl in
    let near = place_near m.recipes_end c.len in
    let ends = roomy.ends in let se = ends.shares in let re = ends.recipes in
    let sum = sum_set (λ (row : Spent). row.recipes) m.spent user.0 c.len (both (spent_by m.spent user) more) place refl in
    let other = sum_set (λ (row : Spent). row.shares) m.spent user.0 0 (both (spent_by m.spent user) more) place refl in
    record {
      spent = behind_within false rooms user more (with_entry names_of c m) roomy.spent (inr (omega (arith, owners))) (inr (omega (arith, shares))) (inr fits);
      ends = record { shares = omega (arith, se, other); recipes = omega (arith, re, near, sum, at) };
    }
  where
    in_place : (b : Bool) → nat_lt c.user.0 rooms.users ≡ b → c.user.0 < length m.spent
    in_place true is = let less = ltb-true c.user.0 rooms.users is in omega (arith, less, users)
    in_place false is =
        let none : (limits_of rooms c.user).recipes ≡ 0 = ap (λ (b : Bool). (limit_at b rooms).recipes) is in
        let left = none_left (full_files rooms c.user m) (refusal names.Recipes (spent_by m.spent c.user).recipes c.len (limits_of rooms c.user).recipes) room in
        let fits = refusal_none names.Recipes (spent_by m.spent c.user).recipes c.len (limits_of rooms c.user).recipes left.1 in
        absurd (omega (arith, none, fits, some))

-- ---- a Delete

pub delete_roomy : (rooms : UserRooms) (region : ℕ) (m : Memory) (names_of : List Fp) (user : UserId) (key : FileKey) → IsRoomy rooms region m
    → IsRoomy rooms region (without_entry names_of user key m)
delete_roomy rooms region m names_of user key roomy = record { spent = roomy.spent; ends = record { shares = roomy.ends.shares; recipes = roomy.ends.recipes } }
