use Rattle.std.proofs.Common.{◌+◌, ◌<◌, ◌^◌, ◌∙◌, ℕ, List, [], ◌∷◌, ◌++◌, sym, ap, subst, refl, length, arith}
use Rattle.std.specs.Prelude.{option_map}
use Rattle.cloud_areas.specs.UserDedup.command.Command.TheVariants as commands
use Rattle.cloud_areas.specs.Chains.{IsRecord}
use Rattle.cloud_areas.specs.Laid.{AreLaid}
use Rattle.cloud_areas.specs.Placing.{places_given, places_of}
use Rattle.cloud_areas.specs.RecordBody.body.PutItem.{PutItem}
use Rattle.cloud_areas.specs.RecordBody.Spelling as bodies
use Rattle.spent_table.specs.declared.Spent.{Spent}
use Rattle.spent_table.specs.Spending.{spent_by, both, of_shares}
use Rattle.cloud_memory.specs.Memory.{Remembers}
use Rattle.cloud_memory.specs.News.{seen}
use Rattle.cloud_memory.specs.Rooms.{memory_of, full_put}
use Rattle.cloud_memory.specs.Steps.{with_put}
use Rattle.cloud_memory.proofs.Adding.{all_added}
use Rattle.cloud_memory.proofs.FullRooms.{full_put_is}
use Rattle.cloud_memory.proofs.PutLaw.{put_remembered}
use Rattle.cloud_memory.proofs.Recording.{put_record, parts_laid}
use Rattle.cloud_memory.proofs.Taking.{fits_put, may_add, owners_small, shares_small, same_spent, put_taken, rows_long}
use Rattle.cloud_memory.proofs.cloud.CloudMemory.add_put.Goals as goal

pub add_shares-requires-clause-room : goal.add_shares-requires-clause-room
add_shares-requires-clause-room c =
    may_add c.args.rooms.now c.args.self.now c.args.user c.args.news.now c.held_lens-more.result c.requires.rooms c.requires.new
    (fits_put c.args.rooms.now c.args.user (memory_of c.args.self.now) (length c.args.news.now) c.held_lens-more.result c.requires.some
    (sym c.room_for_put.ensures ∙ ap (option_map seen) c.in-None.is)) c.requires.few c.requires.end

pub add_shares-requires-in-None-clause-place : goal.add_shares-requires-in-None-clause-place
add_shares-requires-in-None-clause-place c =
    let added = all_added c.args.self.now c.add_shares.new.self c.args.user c.args.news.now c.add_shares.new.items c.add_shares.ensures in
    let fits = fits_put c.args.rooms.now c.args.user (memory_of c.args.self.now) (length c.args.news.now) c.held_lens-more.result c.requires.some (sym c.room_for_put.ensures ∙ ap (option_map seen) c.in-None.is) in
    subst (λ (n : ℕ). c.args.user.0 < n) (sym (ap (λ (l : List Spent). length l) (same_spent c.args.self.now c.add_shares.new.self c.args.user c.args.news.now c.add_shares.new.items added) ∙ c.requires.rooms.users)) fits.place

pub add_shares-requires-in-None-clause-owners : goal.add_shares-requires-in-None-clause-owners
add_shares-requires-in-None-clause-owners c =
    let added = all_added c.args.self.now c.add_shares.new.self c.args.user c.args.news.now c.add_shares.new.items c.add_shares.ensures in
    let fits = fits_put c.args.rooms.now c.args.user (memory_of c.args.self.now) (length c.args.news.now) c.held_lens-more.result c.requires.some (sym c.room_for_put.ensures ∙ ap (option_map seen) c.in-None.is) in
    let owners = fits.owners in let small = owners_small c.args.rooms.now c.requires.allowed in
    subst (λ (l : List Spent). (spent_by l c.args.user).owners + length c.args.news.now < 2 ^ 32)
    (sym (same_spent c.args.self.now c.add_shares.new.self c.args.user c.args.news.now c.add_shares.new.items added)) (omega (arith, owners, small))

pub add_shares-requires-in-None-clause-bytes : goal.add_shares-requires-in-None-clause-bytes
add_shares-requires-in-None-clause-bytes c =
    let added = all_added c.args.self.now c.add_shares.new.self c.args.user c.args.news.now c.add_shares.new.items c.add_shares.ensures in
    let fits = fits_put c.args.rooms.now c.args.user (memory_of c.args.self.now) (length c.args.news.now) c.held_lens-more.result c.requires.some (sym c.room_for_put.ensures ∙ ap (option_map seen) c.in-None.is) in
    let shares = fits.shares in let small = shares_small c.args.rooms.now c.requires.allowed in
    subst (λ (l : List Spent). (spent_by l c.args.user).shares + c.held_lens-more.result < 2 ^ 64)
    (sym (same_spent c.args.self.now c.add_shares.new.self c.args.user c.args.news.now c.add_shares.new.items added)) (omega (arith, shares, small))

pub returns-in-Some-clause-full : goal.returns-in-Some-clause-full
returns-in-Some-clause-full c =
    ap (full_put c.args.rooms.now c.args.user (memory_of c.args.self.now) (length c.args.news.now)) (sym c.held_lens-more.ensures.sum)
    ∙ sym c.room_for_put.ensures ∙ ap (option_map seen) c.in-Some.is

pub returns-in-None-clause-full : goal.returns-in-None-clause-full
returns-in-None-clause-full c =
    ap (full_put c.args.rooms.now c.args.user (memory_of c.args.self.now) (length c.args.news.now)) (sym c.held_lens-more.ensures.sum)
    ∙ sym c.room_for_put.ensures ∙ ap (option_map seen) c.in-None.is

pub returns-in-None-clause-parts : goal.returns-in-None-clause-parts
returns-in-None-clause-parts c = (all_added c.args.self.now c.add_shares.new.self c.args.user c.args.news.now c.add_shares.new.items c.add_shares.ensures).parts

pub returns-in-None-clause-taken : goal.returns-in-None-clause-taken
returns-in-None-clause-taken c =
    put_taken c.args.self.now c.add_shares.new.self c.args.user c.args.news.now c.add_shares.new.items (length c.args.news.now) c.held_lens-more.result c.add_shares-in-None.new.self
    (all_added c.args.self.now c.add_shares.new.self c.args.user c.args.news.now c.add_shares.new.items c.add_shares.ensures) c.requires.new.apart refl c.held_lens-more.ensures.sum c.add_shares-in-None.ensures

pub returns-in-None-clause-remembers : goal.returns-in-None-clause-remembers
returns-in-None-clause-remembers c = λ shape cloud list strings sound r of.
    let fits = fits_put c.args.rooms.now c.args.user (memory_of c.args.self.now) (length c.args.news.now) c.held_lens-more.result c.requires.some (sym c.room_for_put.ensures ∙ ap (option_map seen) c.in-None.is) in
    subst (Remembers shape (list ++ commands.Put c.args.user strings ∷ []))
    (sym (returns-in-None-clause-taken c ∙ ap (λ (l : List PutItem). with_put c.args.user l (memory_of c.args.self.now)) (returns-in-None-clause-parts c)))
    (put_remembered shape cloud list c.args.user strings c.args.news.now (memory_of c.args.self.now) sound r of c.requires.new
    (subst (λ (n : ℕ). c.args.user.0 < n) (sym c.requires.rooms.users) fits.place))

pub returns-in-None-clause-rooms : goal.returns-in-None-clause-rooms
returns-in-None-clause-rooms c =
    let added = all_added c.args.self.now c.add_shares.new.self c.args.user c.args.news.now c.add_shares.new.items c.add_shares.ensures in
    record {
      fps = added.limits.fps ∙ c.requires.rooms.fps;
      owners = added.limits.owners ∙ c.requires.rooms.owners;
      files = added.limits.files ∙ c.requires.rooms.files;
      slots = added.limits.slots ∙ c.requires.rooms.slots;
      owned = added.limits.owned ∙ c.requires.rooms.owned;
      entries = added.limits.entries ∙ c.requires.rooms.entries;
      users =
          ap (λ (l : List Spent). length l) c.add_shares-in-None.ensures
          ∙ rows_long c.add_shares.new.self.spent c.args.user (both (spent_by c.add_shares.new.self.spent c.args.user) (of_shares (length c.args.news.now) c.held_lens-more.result))
          ∙ ap (λ (l : List Spent). length l) (same_spent c.args.self.now c.add_shares.new.self c.args.user c.args.news.now c.add_shares.new.items added) ∙ c.requires.rooms.users;
    }

-- ---- by the list

pub returns-in-Some-clause-full_list : goal.returns-in-Some-clause-full_list
returns-in-Some-clause-full_list c = λ shape cloud list strings sound r of within.
    sym (full_put_is shape cloud c.args.rooms.now list c.args.user (memory_of c.args.self.now) sound r within strings c.args.news.now of c.requires.new)
    ∙ returns-in-Some-clause-full c

pub returns-in-None-clause-full_list : goal.returns-in-None-clause-full_list
returns-in-None-clause-full_list c = λ shape cloud list strings sound r of within.
    sym (full_put_is shape cloud c.args.rooms.now list c.args.user (memory_of c.args.self.now) sound r within strings c.args.news.now of c.requires.new)
    ∙ returns-in-None-clause-full c

-- ---- the record

pub returns-in-None-clause-is_record : goal.returns-in-None-clause-is_record
returns-in-None-clause-is_record c = λ shape list strings region records r of ends.
    subst (λ (l : List PutItem). IsRecord region records list (commands.Put c.args.user strings) (bodies.Put c.args.user l) []) (sym (returns-in-None-clause-parts c))
    (put_record shape list c.args.user strings c.args.news.now (memory_of c.args.self.now) region records r of ends)

pub returns-in-None-clause-laid : goal.returns-in-None-clause-laid
returns-in-None-clause-laid c =
    subst (λ (l : List PutItem). AreLaid c.args.self.now.shares_end (places_of (places_given l))) (sym (returns-in-None-clause-parts c))
    (parts_laid c.args.user (memory_of c.args.self.now) c.args.news.now)
