-- A memory without what is dead remembers the compact list.
use Rattle.std.proofs.Common.{◌≡◌, ℕ, Bool, true, false, cond, List, [], length, map, Option, Some, None, refl, sym, ap, ◌∙◌, subst}
use Rattle.std.specs.Prelude.{◌↔◌, is_some, IsSome, option_map, unwrap_or, bytes_eq}
use Rattle.std.specs.FinMap.{get}
use Rattle.std.specs.List.{Contains}
use Rattle.compact_lists.specs.CdBase.ids.Fp.{Fp}
use Rattle.compact_lists.specs.CdBase.ids.Tag.{Tag}
use Rattle.compact_lists.specs.CdBase.ids.UserId.{UserId}
use Rattle.compact_lists.specs.CdBase.ids.Version.{Version}
use Rattle.compact_lists.specs.CdBase.shape.Shape.{Shape}
use Rattle.checkpoints.specs.FileIndex.key.FileKey.{FileKey}
use Rattle.checkpoints.specs.FileIndex.Files.{key_of}
use Rattle.compact_lists.specs.CdBase.place.Place.{Place}
use Rattle.checkpoints.specs.ShareIndex.Order.{owner_of}
use Rattle.checkpoints.proofs.ShareIndexLaws.Owning.{value-of}
use Rattle.checkpoints.specs.SpentTable.Spending.{spent_by}
use Rattle.compact_lists.specs.UserDedup.Strings.{fingerprint}
use Rattle.compact_lists.specs.UserDedup.Owning.{is_among}
use Rattle.compact_lists.specs.UserDedup.Pages.{entry_at}
use Rattle.compact_lists.proofs.UserDedup.Owned.{among_contains, contains_among}
use Rattle.compact_lists.specs.UserDedup.command.Command.{Command}
use Rattle.compact_lists.specs.UserDedup.Dedup.{IsSound}
use Rattle.compact_lists.specs.UserDedup.Cloud.{user_view, strings_in, held_string, held_bytes}
use Rattle.compact_lists.specs.UserDedup.Compact.{compact}
use Rattle.compact_lists.proofs.UserDedup.Compacting.{same_own, same_entries, same_held}
use Rattle.compact_lists.proofs.UserDedup.Views.{owned_is_held, held_is}
use Rattle.checkpoints.specs.CloudMemory.cloud.CloudMemory.{CloudMemory}
use Rattle.checkpoints.specs.CloudMemory.Memory.{Memory, Remembers, as_spent, uses_of, summary, summary_of}
use Rattle.checkpoints.specs.CloudMemory.Rooms.{memory_of}
use Rattle.checkpoints.specs.Known.{AreListed}
use Rattle.compact_lists.specs.Live.{live_of}
use Rattle.compact_lists.proofs.RoomLaws.{strings_kept, in_prints}
use Rattle.compact_lists.proofs.Spent.{spent_kept, uses_kept}
use Rattle.compact_memories.specs.Kept.{live_places, IsCompacted, RemembersCompact}
use Rattle.compact_memories.proofs.Live.{live_from, live_to}

-- The new memory places what is alive in the old one, and has the same of all else.
pub record IsLike (old : CloudMemory) (new : Memory) : Type 0 where
  pub from : (fp : Fp) (place : Place) → get new.places fp.0 ≡ Some place → (p : Place) × Contains (live_places old) (fp, p) × (place.len ≡ p.len)
  pub to : (fp : Fp) (p : Place) → Contains (live_places old) (fp, p) → (place : Place) × (get new.places fp.0 ≡ Some place)
  pub owners : new.owners ≡ old.shares.owners
  pub files : (key : FileKey) → option_map summary (get new.files key) ≡ option_map summary (get old.files.files key)

sent_of : (list : List Command) (fp : Fp) (s : List ℕ) → held_string list fp ≡ Some s → Contains (map fingerprint (strings_in list)) fp
sent_of list fp s at =
    let h = held_is list fp s at in
    subst (Contains (map fingerprint (strings_in list))) h.0 (in_prints (strings_in list) s h.1)

same_test : (a b : Bool) → (a ≡ true → b ≡ true) → (b ≡ true → a ≡ true) → a ≡ b
same_test true b f g = sym (f refl)
same_test false true f g = g refl
same_test false false f g = refl

module _ (shape : Shape) (cloud : ℕ) (list : List Command) (sound : IsSound shape cloud list) (old : CloudMemory) (new : Memory)
    (r : Remembers shape list (memory_of old)) (l : AreListed old) (is : IsLike old new) where
  abbrev kept : List Command
  kept = compact shape list

  is_placed : (fp : Fp) → IsSome (get new.places fp.0) ↔ Contains (map fingerprint (strings_in kept)) fp
  is_placed fp = (there, back)
    where
      there : IsSome (get new.places fp.0) → Contains (map fingerprint (strings_in kept)) fp
      there some =
          let place = value-of (get new.places fp.0) some in
          let f = is.from fp place.0 place.1 in
          (strings_kept shape list fp).1 (live_from shape list old r l fp f.0 f.1).0

      back : Contains (map fingerprint (strings_in kept)) fp → IsSome (get new.places fp.0)
      back c =
          let k = (strings_kept shape list fp).0 c in
          let h = owned_is_held shape list k.0 fp k.1 in
          let sent = sent_of list fp h.0 h.1 in
          let place = value-of (get old.shares.places fp.0) ((r.placed fp).1 sent) in
          let t = is.to fp place.0 (live_to shape list old r l fp place.0 k place.1) in
          ap is_some t.1

  is_long : (fp : Fp) (place : Place) → get new.places fp.0 ≡ Some place → place.len ≡ length (held_bytes kept fp)
  is_long fp place at =
      let f = is.from fp place at in
      let k = live_from shape list old r l fp f.0 f.1 in
      f.2 ∙ r.lens fp f.0 k.1
      ∙ ap (λ (o : Option (List ℕ)). length (unwrap_or o [])) (sym (same_held shape list k.0.0 fp k.0.1))

  owned_same : (user : UserId) (fp : Fp) → is_among (user_view shape list user).own fp ≡ is_among (user_view shape kept user).own fp
  owned_same user fp =
      let one = (user_view shape list user).own in
      let two = (user_view shape kept user).own in
      same_test (is_among one fp) (is_among two fp)
      (λ t. contains_among two fp ((same_own shape list user fp).1 (among_contains one fp t)))
      (λ t. contains_among one fp ((same_own shape list user fp).0 (among_contains two fp t)))

  is_owned : (user : UserId) (fp : Fp) → get new.owners (owner_of user.0 fp.0)
      ≡ cond (is_among (user_view shape kept user).own fp) (Some (uses_of shape (user_view shape kept user).files fp)) None
  is_owned user fp =
      ap (λ m. get m (owner_of user.0 fp.0)) is.owners
      ∙ r.owners user fp
      ∙ (λ i. cond (owned_same user fp i) (Some (sym (uses_kept shape cloud list sound user (λ (named : Fp). bytes_eq named.0 fp.0)) i)) None)

  is_entered : (user : UserId) (tag : Tag) (version : Version) → option_map summary (get new.files (key_of user.0 tag.0 version.0))
      ≡ option_map summary_of (entry_at (user_view shape kept user).files (tag, version))
  is_entered user tag version =
      is.files (key_of user.0 tag.0 version.0)
      ∙ r.files user tag version
      ∙ ap (option_map summary_of) (sym (same_entries shape list user (tag, version)))

  pub like_remembers : ((user : UserId) → as_spent (spent_by new.spent user) ≡ live_of shape list user) → RemembersCompact shape list new
  like_remembers spent = record {
    placed = is_placed;
    lens = is_long;
    owners = is_owned;
    files = is_entered;
    spent = λ user. spent user ∙ sym (spent_kept shape cloud list sound user);
  }

-- in place
pub compacted_like : (shape : Shape) (list : List Command) (old : CloudMemory) (new : Memory) → Remembers shape list (memory_of old) → AreListed old → IsCompacted old new → IsLike old new
compacted_like shape list old new r l c = record {
  from = λ fp place at. (place, (c.places fp place).0 at, refl);
  to = λ fp p live. (p, (c.places fp p).1 live);
  owners = c.owners;
  files = λ key. ap (λ m. option_map summary (get m key)) c.files;
}
