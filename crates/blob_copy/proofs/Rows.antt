-- Rows within the rooms, one by one and all of them.
use Rattle.std.proofs.Common.{◌≡◌, ℕ, ◌<◌, ◌≤◌, Bool, List, length, sym, ap, subst, arith, inl, inr}
use Rattle.std.specs.Prelude.{slice_index_or, if◌then◌else◌}
use Rattle.std.proofs.lemmas.Bool.{cases_lt, lt-ltb}
use Rattle.std.proofs.lemmas.List.{get_or_past}
use Rattle.compact_lists.specs.CdBase.ids.UserId.{UserId}
use Rattle.compact_lists.specs.JournalStart.rooms.UserRooms.{UserRooms}
use Rattle.record_laws.specs.SpentTable.Spent.{Spent}
use Rattle.record_laws.specs.SpentTable.Spending.{nothing, spent_by}
use Rattle.compact_lists.specs.UserDedup.Spending as limits
use Rattle.compact_lists.specs.UserDedup.Spending.{limits_of}
use Rattle.cloud_store.specs.CloudOpening.Roomy.{SpendWithin}
use Rattle.blob_copy.specs.Switched.{IsRowWithin}

abbrev most : UserRooms → limits.SpentByUser
most rooms = record { owners = rooms.owners; shares = rooms.shares; recipes = rooms.recipes }

limits_are : (rooms : UserRooms) (user : UserId) → user.0 < rooms.users → limits_of rooms user ≡ most rooms
limits_are rooms user lt = ap (λ (b : Bool). if b then most rooms else limits.nothing) (lt-ltb user.0 rooms.users lt)

none_past : (rows : List Spent) (user : UserId) → length rows ≤ user.0 → spent_by rows user ≡ nothing
none_past rows user past = get_or_past rows user.0 nothing past

-- what holds of each user with a row, and of one with nothing
each_user : (P : limits.SpentByUser → Spent → Type 0) (rooms : UserRooms) (rows : List Spent) → length rows ≡ rooms.users → ((user : UserId) → user.0 < rooms.users → P (most rooms) (spent_by rows user))
    → ((limit : limits.SpentByUser) → P limit nothing) → (user : UserId) → P (limits_of rooms user) (spent_by rows user)
each_user P rooms rows long each none user =
    elim (cases_lt user.0 rooms.users) [
      | inl lt ↦ subst (λ (l : limits.SpentByUser). P l (spent_by rows user)) (sym (limits_are rooms user lt)) (each user lt)
      | inr ge ↦ subst (P (limits_of rooms user)) (sym (none_past rows user (omega (arith, ge, long)))) (none (limits_of rooms user))
    ]

pub all_within : (rooms : UserRooms) (rows : List Spent) → length rows ≡ rooms.users → ((k : ℕ) → k < rooms.users → IsRowWithin rooms (slice_index_or rows k nothing)) → SpendWithin rooms rows
all_within rooms rows long each = record {
  owners = each_user (λ l r. r.owners ≤ l.owners) rooms rows long (λ user lt. (each user.0 lt).0) (λ limit. omega arith);
  shares = each_user (λ l r. r.shares ≤ l.shares) rooms rows long (λ user lt. (each user.0 lt).1) (λ limit. omega arith);
  recipes = each_user (λ l r. r.recipes ≤ l.recipes) rooms rows long (λ user lt. (each user.0 lt).2) (λ limit. omega arith);
}

pub one_within : (rooms : UserRooms) (rows : List Spent) (k : ℕ) → k < rooms.users → SpendWithin rooms rows → IsRowWithin rooms (slice_index_or rows k nothing)
one_within rooms rows k lt w =
    let user : UserId = record { 0 = k } in (
      subst (λ (l : limits.SpentByUser). (spent_by rows user).owners ≤ l.owners) (limits_are rooms user lt) (w.owners user),
      subst (λ (l : limits.SpentByUser). (spent_by rows user).shares ≤ l.shares) (limits_are rooms user lt) (w.shares user),
      subst (λ (l : limits.SpentByUser). (spent_by rows user).recipes ≤ l.recipes) (limits_are rooms user lt) (w.recipes user),
    )
