-- Which user keeps too much.
use Rattle.std.proofs.Common.{◌≡◌, ℕ, ◌+◌, ◌<◌, ◌≤◌, Bool, true, false, cond, List, Option, Some, None, refl, sym, ap, subst, ◌∙◌, arith, inl, inr, ◌⊎◌}
use Rattle.std.specs.Prelude.{◌↔◌, nat_lt}
use Rattle.std.specs.Option.{option_or}
use Rattle.std.proofs.lemmas.Bool.{cases_lt}
use Rattle.std.proofs.lemmas.Bool.Decides.{Decides-ltb}
use Rattle.compact_lists.specs.CdBase.ids.UserId.{UserId}
use Rattle.compact_lists.specs.CdBase.rooms.Room.{Room}
use Rattle.compact_lists.specs.CdBase.rooms.Room.TheVariants as names
use Rattle.compact_lists.specs.CdBase.shape.Shape.{Shape}
use Rattle.compact_lists.specs.JournalStart.rooms.UserRooms.{UserRooms}
use Rattle.compact_lists.specs.UserDedup.Dedup.{FullRoom, IsSound}
use Rattle.compact_lists.specs.UserDedup.command.Command.{Command}
use Rattle.compact_lists.specs.UserDedup.Compact.{compact}
use Rattle.compact_lists.specs.UserDedup.Spending.{SpentByUser, refusal, spent_of, files_of, limits_of, files_limit, UsesWithin, IsWithin}
use Rattle.fresh_checkpoints.specs.CloudAreas.FormatOne.{passed_room, too_large_for}
use Rattle.compact_lists.specs.Live.{live_of}
use Rattle.compact_lists.proofs.RoomLaws.{by_end}
use Rattle.compact_lists.proofs.Spent.{spent_kept, files_kept}
use Rattle.compact_lists.proofs.UserDedup.Within.{neither}
use Rattle.migration_model.specs.Migrating.{AreSmallEnough}

pub by_kept : (shape : Shape) (cloud : ℕ) (rooms : UserRooms) (list : List Command) (user : UserId) → IsSound shape cloud list
    → too_large_for shape rooms list user ≡ passed_room rooms user (live_of shape list user) (files_of shape list user)
by_kept shape cloud rooms list user sound =
    ap (λ (s : SpentByUser). passed_room rooms user s (files_of shape (compact shape list) user)) (spent_kept shape cloud list sound user)
    ∙ ap (λ (n : ℕ). passed_room rooms user (live_of shape list user) n) (files_kept shape cloud list sound user)

-- ---- refusals that need nothing more

abbrev full_of : Room → ℕ → ℕ → FullRoom
full_of room used limit = record { room = room; used = used; need = 0; limit = limit }

no_more : (a limit : ℕ) → limit < a + 0 → limit < a
no_more a limit lt = omega (arith, lt)

room_left : (room : Room) (used limit : ℕ) → refusal room used 0 limit ≡ None → used ≤ limit
room_left room used limit = by_test (nat_lt limit (used + 0)) (Decides-ltb limit (used + 0)).1
  where
    by_test : (b : Bool) → (limit < used + 0 → b ≡ true) → cond b (Some (full_of room used limit)) None ≡ None → used ≤ limit
    by_test true back e = absurd (let never : Some (full_of room used limit) ≡ None = e in cc)
    by_test false back e =
        elim (cases_lt limit used) [
          | inl lt ↦ absurd (let t = back (omega (arith, lt)) in let no : false ≡ true = t in cc)
          | inr le ↦ le
        ]

none_left : (room : Room) (used limit : ℕ) → used ≤ limit → refusal room used 0 limit ≡ None
none_left room used limit le = by_test (nat_lt limit (used + 0)) (Decides-ltb limit (used + 0)).0
  where
    by_test : (b : Bool) → (b ≡ true → limit < used + 0) → cond b (Some (full_of room used limit)) None ≡ None
    by_test true is = absurd (let lt = is refl in omega (arith, lt, le))
    by_test false is = refl

refused_of : (room : Room) (used limit : ℕ) (full : FullRoom) → refusal room used 0 limit ≡ Some full → (full.need ≡ 0) × (full.limit < full.used)
refused_of room used limit full = by_test (nat_lt limit (used + 0)) (Decides-ltb limit (used + 0)).0
  where
    by_test : (b : Bool) → (b ≡ true → limit < used + 0) → cond b (Some (full_of room used limit)) None ≡ Some full → (full.need ≡ 0) × (full.limit < full.used)
    by_test true is e =
        let same : full_of room used limit ≡ full = cc in
        subst (λ (f : FullRoom). (f.need ≡ 0) × (f.limit < f.used)) same (refl, no_more used limit (is refl))
    by_test false is e = absurd (let no : None ≡ Some full = e in cc)

pub both_none : (one two : Option FullRoom) → one ≡ None → two ≡ None → option_or one two ≡ None
both_none None two e f = f
both_none (Some room) two e f = absurd (let never : Some room ≡ None = e in cc)

either : (one two : Option FullRoom) (full : FullRoom) → option_or one two ≡ Some full → (one ≡ Some full) ⊎ (two ≡ Some full)
either None two full e = inr e
either (Some room) two full e = inl e

-- ---- a user

module _ (shape : Shape) (rooms : UserRooms) (list : List Command) (user : UserId) where
  abbrev used : SpentByUser
  used = spent_of (compact shape list) user

  abbrev limits : SpentByUser
  limits = limits_of rooms user

  abbrev many : ℕ
  many = files_of shape (compact shape list) user

  small_within : too_large_for shape rooms list user ≡ None → UsesWithin shape rooms (compact shape list) user
  small_within e =
      let a = neither (refusal names.Owners used.owners 0 limits.owners) _ e in
      let b = neither (refusal names.Shares used.shares 0 limits.shares) _ a.1 in
      let c = neither (refusal names.Recipes used.recipes 0 limits.recipes) (refusal names.Files many 0 (files_limit rooms user)) b.1 in
      record {
        owners = room_left names.Owners used.owners limits.owners a.0;
        shares = room_left names.Shares used.shares limits.shares b.0;
        recipes = room_left names.Recipes used.recipes limits.recipes c.0;
        files = room_left names.Files many (files_limit rooms user) c.1;
      }

  within_small : UsesWithin shape rooms (compact shape list) user → too_large_for shape rooms list user ≡ None
  within_small u =
      both_none (refusal names.Owners used.owners 0 limits.owners) _ (none_left names.Owners used.owners limits.owners u.owners)
      (both_none (refusal names.Shares used.shares 0 limits.shares) _ (none_left names.Shares used.shares limits.shares u.shares)
      (both_none (refusal names.Recipes used.recipes 0 limits.recipes) (refusal names.Files many 0 (files_limit rooms user))
      (none_left names.Recipes used.recipes limits.recipes u.recipes) (none_left names.Files many (files_limit rooms user) u.files)))

  pub exact : too_large_for shape rooms list user ≡ None ↔ UsesWithin shape rooms (compact shape list) user
  exact = (small_within, within_small)

  pub passed : (full : FullRoom) → too_large_for shape rooms list user ≡ Some full → (full.need ≡ 0) × (full.limit < full.used)
  passed full e =
      elim (either (refusal names.Owners used.owners 0 limits.owners) _ full e) [
        | inl a ↦ refused_of names.Owners used.owners limits.owners full a
        | inr f ↦ elim (either (refusal names.Shares used.shares 0 limits.shares) _ full f) [
          | inl b ↦ refused_of names.Shares used.shares limits.shares full b
          | inr g ↦ elim (either (refusal names.Recipes used.recipes 0 limits.recipes) (refusal names.Files many 0 (files_limit rooms user)) full g) [
            | inl c ↦ refused_of names.Recipes used.recipes limits.recipes full c
            | inr d ↦ refused_of names.Files many (files_limit rooms user) full d
          ]
        ]
      ]

pub all_within : (shape : Shape) (rooms : UserRooms) (list : List Command) → AreSmallEnough shape rooms list → IsWithin shape rooms (compact shape list)
all_within shape rooms list small = by_end shape rooms list (λ user. (exact shape rooms list user).0 (small user))
