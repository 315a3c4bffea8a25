use Rattle.std.proofs.Common.{rules, ◌≡◌, ◌<◌, ℕ, ◌^◌, List, length, sym, subst}
use Rattle.checkpoints.specs.ContainerLog.Places.{end_of_laid}
use Rattle.compact_lists.specs.CdBase.ids.UserId.{UserId}
use Rattle.checkpoints.specs.FileIndex.key.Entry.{Entry}
use Rattle.checkpoints.specs.FileIndex.key.FileKey.{FileKey}
use Rattle.checkpoints.specs.CloudMemory.Rooms.{memory_of}
use Rattle.compact_memories.specs.Kept.{live_places, live_entries}
use Rattle.compact_memories.specs.Moved.{lens_of, entry_lens}
use Rattle.compact_memories.proofs.Carried.{same_entries, are_moved}
use Rattle.compact_memories.proofs.making.make_moved.Goals as goal

pub move_places-shares-requires : goal.move_places-shares-requires
move_places-shares-requires c = record {
  within = subst (λ (n : ℕ). end_of_laid n (lens_of (live_places c.args.memory.now)) < 2 ^ 64) (sym c.first_place-start.ensures) c.requires.shares;
}

pub move_entries-recipes-requires : goal.move_entries-recipes-requires
move_entries-recipes-requires c =
    let start = c.first_place-start.result in
    record {
      within =
          subst (λ (xs : List (FileKey × Entry)). end_of_laid start (entry_lens xs) < 2 ^ 64)
          (sym (same_entries start c.args.memory.now c.move_places-shares.new.memory c.move_places-shares.ensures.moved))
          (subst (λ (n : ℕ). end_of_laid n (entry_lens (live_entries c.args.memory.now)) < 2 ^ 64) (sym c.first_place-start.ensures) c.requires.recipes);
    }

pub returns-clause-moved : goal.returns-clause-moved
returns-clause-moved c =
    let rows = c.fill_rows.new.rows in
    let long : length rows ≡ 256 = search rules in
    are_moved c.args.region c.first_place-start.result c.first_place-start.ensures c.args.memory.now c.move_places-shares.new.memory c.move_entries-recipes.new.memory c.drop_dead.new.memory
    (memory_of c.set_rows.new.memory) (memory_of c.set_ends.new.self) rows c.requires.users
    (λ user lt. c.fill_rows.ensures.kept user (subst (λ n. user.0 < n) (sym long) lt))
    c.move_places-shares.ensures.moved c.move_entries-recipes.ensures.moved c.move_entries-recipes.ensures.each
    c.drop_dead.ensures.dropped c.drop_dead.ensures.each c.set_rows.ensures.set c.move_places-shares.result c.move_entries-recipes.result
    c.move_places-shares.ensures.end c.move_entries-recipes.ensures.end c.set_ends.ensures.taken
