use Rattle.std.proofs.Common.{◌≡◌, ℕ, ◌<◌, ◌≤◌, length, ◌∙◌, sym, ap, subst, arith}
use Rattle.fresh_checkpoints.specs.CdEdges.area.Area.TheVariants.{Journal, Recipes}
use Rattle.cloud_opening.specs.JournalStart.start.Start.{Start}
use Rattle.cloud_opening.specs.JournalStart.Spelling.{recipes_end_of}
use Rattle.cloud_opening.specs.CommitJournal.States.{state_of}
use Rattle.fresh_checkpoints.specs.CloudMemory.Fitting.{FitsRecords}
use Rattle.fresh_checkpoints.specs.CloudMemory.Rooms.{memory_of}
use Rattle.first_laws.specs.Leaving.{begun_behind}
use Rattle.cloud_opening.proofs.Synced.{on_ok}
use Rattle.store_migration.specs.Exact.{users_most}
use Rattle.store_migration.proofs.Loaded.{behind_fits, rooms_kept, users_kept, loads, loads_ended, loads_past}
use Rattle.store_migration.proofs.reading.load.Goals as goal

pub take_all-requires-clause-rooms : goal.take_all-requires-clause-rooms
take_all-requires-clause-rooms g c = rooms_kept c.args.memory.now c.clear_behind.new.self c.clear_behind.ensures.greatest c.requires.rooms

pub returns-clause-exact : goal.returns-clause-exact
returns-clause-exact g c told w reading none =
    let c0 = g.V.Shelf.cloud_at c.args.shelf.now c.args.cloud.0 in let before = state_of c.args.journal.now in let ground = c.args.ground.now in let end = c.recipes_end-end.result in
    let end_is : end ≡ recipes_end_of before.start.checkpoint = c.recipes_end-end.ensures ∙ ap (λ (s : Start). recipes_end_of s.checkpoint) c.start.ensures in
    let begun = c.clear_behind.ensures.value ∙ ap (λ (n : ℕ). begun_behind n end) c.requires.users ∙ ap (begun_behind users_most) end_is in
    let within : recipes_end_of before.start.checkpoint ≤ ground.recipes_len = omega (arith, end_is) in
    loads ground c.args.half (c0.now Recipes).read (c0.now Journal) w before (memory_of c.clear_behind.new.self) (state_of c.take_all.new.journal) (memory_of c.take_all.new.memory) begun within
    c.take_all.result (c.take_all.ensures.exact told w reading none)

pub returns-clause-ended : goal.returns-clause-ended
returns-clause-ended g c told w reading none =
    let c0 = g.V.Shelf.cloud_at c.args.shelf.now c.args.cloud.0 in let before = state_of c.args.journal.now in let ground = c.args.ground.now in let end = c.recipes_end-end.result in
    let end_is : end ≡ recipes_end_of before.start.checkpoint = c.recipes_end-end.ensures ∙ ap (λ (s : Start). recipes_end_of s.checkpoint) c.start.ensures in
    let begun = c.clear_behind.ensures.value ∙ ap (λ (n : ℕ). begun_behind n end) c.requires.users ∙ ap (begun_behind users_most) end_is in
    let within : recipes_end_of before.start.checkpoint ≤ ground.recipes_len = omega (arith, end_is) in
    loads_ended ground c.args.half (c0.now Recipes).read (c0.now Journal) w before (memory_of c.clear_behind.new.self) (state_of c.take_all.new.journal) (memory_of c.take_all.new.memory) begun within
    c.take_all.result (c.take_all.ensures.exact told w reading none)

pub returns-clause-fit : goal.returns-clause-fit
returns-clause-fit g c =
    c.take_all.ensures.fit (subst FitsRecords (sym c.clear_behind.ensures.value) (behind_fits (length c.args.memory.now.spent) c.recipes_end-end.result))

pub returns-clause-users : goal.returns-clause-users
returns-clause-users g c =
    on_ok c.take_all.result _ _ (λ same. ap length same ∙ users_kept c.args.memory.now c.clear_behind.new.self c.clear_behind.ensures.greatest c.requires.rooms ∙ c.requires.users) c.take_all.ensures.unspent

pub returns-then-ground-end-clause-exact : goal.returns-then-ground-end-clause-exact
returns-then-ground-end-clause-exact g c told w reading none =
    let c0 = g.V.Shelf.cloud_at c.args.shelf.now c.args.cloud.0 in let before = state_of c.args.journal.now in let ground = c.args.ground.now in let end = c.recipes_end-end.result in
    let end_is : end ≡ recipes_end_of before.start.checkpoint = c.recipes_end-end.ensures ∙ ap (λ (s : Start). recipes_end_of s.checkpoint) c.start.ensures in
    let past : ground.recipes_len < end = omega arith in
    loads_past ground c.args.half (c0.now Recipes).read (c0.now Journal) before (memory_of c.args.memory.now) end c.past_end.result end_is past c.past_end.ensures
