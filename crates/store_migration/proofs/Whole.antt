-- Areas of format 1 that stand for a list are read whole, whatever the list is.
use Rattle.std.proofs.Common.{◌≡◌, inl, inr, ℕ, ◌<◌, IsTrue, is_ok, IsOk, List, length, Result, Ok, Err, OnOk, refl, sym, ◌∙◌, ap, subst, arith}
use Rattle.fresh_checkpoints.specs.CdBase.ids.CloudNo.{CloudNo}
use Rattle.fresh_checkpoints.specs.CdBase.shape.Shape.{Shape}
use Rattle.fresh_checkpoints.specs.CdEdges.area.Area.{Area}
use Rattle.fresh_checkpoints.specs.CdEdges.area.Area.TheVariants.{Journal, Recipes}
use Rattle.fresh_checkpoints.specs.CdEdges.Disk.{Store, Image, Cloud, MayLeave, IsImage, LeavesOnly, reads}
use Rattle.fresh_checkpoints.specs.CdEdges.Shelf.{stable}
use Rattle.fresh_checkpoints.proofs.CdEdges.Moments.{at_end}
use Rattle.fresh_checkpoints.proofs.CdEdges.Since.{image_of_stable}
use Rattle.cloud_opening.specs.JournalHalves.Records.{IsJournal}
use Rattle.cloud_opening.specs.JournalStart.start.Header.{Header}
use Rattle.cloud_opening.specs.JournalStart.start.Start.{Start}
use Rattle.cloud_opening.specs.JournalStart.Spelling.{recipes_end_of}
use Rattle.fresh_checkpoints.specs.JournalHalves.Beginnings.{IsUnbegun}
use Rattle.fresh_checkpoints.specs.JournalHalves.Halves.{half_of, IsCurrent}
use Rattle.fresh_checkpoints.specs.JournalHalves.Journals.{Where, all_bodies, HasChain}
use Rattle.cloud_opening.specs.CommitJournal.States.{JournalState, IsJournalEnded}
use Rattle.cloud_opening.specs.UserDedup.command.Command.{Command}
use Rattle.fresh_checkpoints.specs.CloudAreas.FormatOne.{Lays, HasListOne, StandsForOne, IsWithinGreatest}
use Rattle.fresh_checkpoints.specs.CloudAreas.Standing.{Chain}
use Rattle.fresh_checkpoints.specs.CloudMemory.Memory.{Memory}
use Rattle.cloud_opening.specs.Synced.{AreSynced}
use Rattle.cloud_opening.proofs.Current.{same_half, same_start}
use Rattle.cloud_opening.proofs.OneStart.{current_whole}
use Rattle.cloud_opening.proofs.Synced.{synced_at}
use Rattle.first_laws.specs.Holding.{MayHoldOne, front_left_one}
use Rattle.first_laws.specs.Leaving.{IsLeftOne}
use Rattle.first_laws.proofs.Stood.{is_sound, by_chain}
use Rattle.large_users.specs.MigrationModel.Migrating.{header_one, IsBegunOne, MayBeMigrated}
use Rattle.store_migration.specs.declared.errors.OldErr.{OldErr}
use Rattle.store_migration.specs.declared.errors.MigrateErr.{MigrateErr}
use Rattle.store_migration.specs.declared.errors.MigrateErr.TheVariants as why
use Rattle.store_migration.specs.Answers.{OnMigrateFault}
use Rattle.store_migration.specs.Exact.{users_most, ReplaysAllFirst, ReadsOld, Unbegun, NoStart, New, Other, PastEnd, Unread, Read}
use Rattle.store_migration.specs.Reading.{IsReadFirst}
use Rattle.store_migration.specs.Steps.{IsReadWholeOne}
use Rattle.store_migration.proofs.Lawful.{IsAllOne, all_lawful, left_one, remembers_one, stand_one, lie_one}

-- ---- an image that a crash may leave, or that reads

-- a begun journal has the list's chain
listed : (image : Image) (header : Header) (list : List Command) → StandsForOne image header list → (IsUnbegun (image Journal) → ⊥) → HasListOne image header list
unfolding StandsForOne
listed image header list stands begun = elim stands.1 [
  | inl its ↦ its
  | inr none ↦ absurd (begun none.0)
]

later_format : (n : ℕ) → n ≡ 1 → n ≡ 2 → ⊥
later_format n one two = omega (arith, one, two)

err_ok : (error : OldErr) → ◌≡◌ {A = Result (Unit {0}) OldErr} (Err error) (Ok tt) → ⊥
err_ok error e = cc

-- the answer is Ok, and the memory is what the records of the chain leave
pub record IsReadBy (header : Header) (image : Image) (c : Chain) (m : Memory) (result : Result (Unit {0}) MigrateErr) : Type 0 where
  pub answer_is : result ≡ Ok tt
  pub memory_is : m ≡ front_left_one header image users_most c c.records

module _ (shape : Shape) (cloud_no : CloudNo) (list : List Command) (image : Image) (begun : IsBegunOne (header_one shape cloud_no) list image) (within : IsWithinGreatest shape list) where
  abbrev header : Header
  header = header_one shape cloud_no

  pub may : MayHoldOne header list
  may = record { format = refl; sound = is_sound image header list begun.stands; within = within }

  pub has : HasListOne image header list
  has = listed image header list begun.stands begun.begun.begun

  abbrev c : Chain
  c = has.chain_of

  current : IsCurrent (image Journal) c.half c.start
  current = has.is_chain.there.current

  start_is : (half : ℕ) (start : Start) → IsCurrent (image Journal) half start → start ≡ c.start
  start_is half start cur = same_start (image Journal) half c.half start c.start cur current

  header_is : (half : ℕ) (start : Start) → IsCurrent (image Journal) half start → start.header ≡ header
  header_is half start cur = ap (λ (s : Start). s.header) (start_is half start cur) ∙ has.is_chain.header_is

  -- what comes of the records of the current half
  all : (half : ℕ) (start : Start) (m : Memory) (answer : Result (Unit {0}) OldErr) → IsCurrent (image Journal) half start → ReplaysAllFirst header half start image m answer → IsAllOne header image c m answer
  all half start m answer cur replays =
      all_lawful header image list c may has.lays m answer has.is_chain
      (subst (λ (s : Start). ReplaysAllFirst header c.half s image m answer) (start_is half start cur)
      (subst (λ (h : ℕ). ReplaysAllFirst header h start image m answer) (same_half (image Journal) half c.half start c.start cur current) replays))

  -- recipes end within their area
  ends_within : (half : ℕ) (start : Start) → IsCurrent (image Journal) half start → length (image Recipes) < recipes_end_of start.checkpoint → ⊥
  ends_within half start cur past =
      let same : recipes_end_of start.checkpoint ≡ recipes_end_of c.start.checkpoint = ap (λ (s : Start). recipes_end_of s.checkpoint) (start_is half start cur) in
      let end = has.lays.end_is in
      let area = has.lays.area in
      omega (arith, past, same, end, area)

  pub read_by : (m : Memory) (result : Result (Unit {0}) MigrateErr) → ReadsOld shape cloud_no image m result → IsReadBy header image c m result
  read_by m result (Unbegun none) = absurd (begun.begun.begun none)
  read_by m result (NoStart at byte d) = absurd (current_whole (image Journal) c.half c.start current at byte d)
  read_by m result (New half start cur new) = absurd (later_format start.header.format (ap (λ (h : Header). h.format) (header_is half start cur)) new.format)
  read_by m result (Other half start cur not other) = absurd (other (header_is half start cur))
  read_by m result (PastEnd half start cur same past) = absurd (ends_within half start cur past)
  read_by m result (Unread half start error cur same le replays) = absurd (err_ok error (all half start m (Err error) cur replays).answer_is)
  read_by m result (Read half start cur same le replays) = record { answer_is = refl; memory_is = (all half start m (Ok tt) cur replays).memory_is }

  pub read_ok : (m : Memory) (result : Result (Unit {0}) MigrateErr) → ReadsOld shape cloud_no image m result → IsOk result
  read_ok m result reads = ap is_ok (read_by m result reads).answer_is

  pub read_left : (m : Memory) (result : Result (Unit {0}) MigrateErr) → ReadsOld shape cloud_no image m result
      → (chain : Chain) × Lays header image list chain × IsLeftOne shape (image Recipes) (recipes_end_of chain.start.checkpoint) list chain.records m
  read_left m result reads = (c, has.lays, left_one header image list c may has.lays m (read_by m result reads).memory_is)

-- ---- a cloud that was read

-- a journal that was read to its end has its chain
pub ended_chain : (journal : JournalState) (store : Store) (w : Where) → IsJournalEnded journal store w → HasChain store.read w
ended_chain journal store w e = record {
  current = e.is_current;
  chain_is = subst (λ (h : ℕ). IsJournal (all_bodies w) (half_of h store.read)) e.half e.read.chain_is;
}

module _ (shape : Shape) (cloud_no : CloudNo) (list : List Command) (old new : Cloud) (may : MayBeMigrated shape cloud_no list old) (first : LeavesOnly old new (IsImage old.now)) (journal : JournalState) (m : Memory) where
  -- what reads then is what a crash might have left before
  stands_now : (image : Image) → ((area : Area) → new.now area ≡ stable (image area)) → IsBegunOne (header_one shape cloud_no) list image
  stands_now image on_disk =
      may.each image (at_end old new (IsImage old.now) first image (λ area. subst (λ (s : Store). MayLeave s (image area)) (sym (on_disk area)) (image_of_stable (image area))))

  found : new.told ≡ old.told → IsReadWholeOne shape cloud_no journal m new → IsReadFirst shape cloud_no list journal m new
  found told r =
      let header = header_one shape cloud_no in
      let image = reads new.now in
      let stands = (stands_now image r.on_disk).stands in
      let held : MayHoldOne header list = record { format = refl; sound = is_sound image header list stands; within = may.within } in
      let h = by_chain image header list r.w stands (ended_chain journal (new.now Journal) r.w r.ended) in
      let all = all_lawful header image list h.chain_of held h.lays m (Ok tt) h.is_chain
      (subst (λ (v : Where). ReplaysAllFirst header v.half v.start image m (Ok tt)) (sym h.bytes) r.replays) in
      let left = left_one header image list h.chain_of held h.lays m all.memory_is in
      record {
        c = h.chain_of;
        read = record {
          told = subst IsTrue (sym told) may.told;
          sound = held.sound;
          on_disk = r.on_disk;
          ended = subst (λ (v : Where). IsJournalEnded journal (new.now Journal) v) (sym h.bytes) r.ended;
          is_chain = h.is_chain;
          lays = h.lays;
        };
        left = left;
        table = left.table;
        remembers = remembers_one header image list h.chain_of held h.lays m all.memory_is;
        stand = stand_one header image list h.chain_of held h.lays m all.memory_is;
        lie = lie_one header image list h.chain_of held h.lays m all.memory_is;
      }

  pub read_by_list : new.told ≡ old.told → (result : Result (Unit {0}) MigrateErr) → OnOk result (IsReadWholeOne shape cloud_no journal m new)
      → OnMigrateFault result (Unit {0}) (OnOk result (IsReadFirst shape cloud_no list journal m new))
  read_by_list told (Ok tt) read = found told read
  read_by_list told (Err (why.Open error)) read = tt
  read_by_list told (Err why.Already) read = tt
  read_by_list told (Err (why.TooLarge user room used limit)) read = tt
  read_by_list told (Err why.Fault) read = tt
  read_by_list told (Err why.NoMemory) read = tt

  whole : (result : Result (Unit {0}) MigrateErr) → AreSynced old new → ReadsOld shape cloud_no (reads old.now) m result → IsOk result
  whole result synced exact = read_ok shape cloud_no list (reads old.now) (stands_now (reads old.now) (synced_at old new synced)) may.within m result exact

  pub whole_by_list : (result : Result (Unit {0}) MigrateErr) → OnMigrateFault result (Unit {0}) (AreSynced old new) → OnMigrateFault result (Unit {0}) (ReadsOld shape cloud_no (reads old.now) m result)
      → OnMigrateFault result (Unit {0}) (IsOk result)
  whole_by_list (Ok tt) synced exact = refl
  whole_by_list (Err (why.Open error)) synced exact = whole (Err (why.Open error)) synced exact
  whole_by_list (Err why.Already) synced exact = whole (Err why.Already) synced exact
  whole_by_list (Err (why.TooLarge user room used limit)) synced exact = whole (Err (why.TooLarge user room used limit)) synced exact
  whole_by_list (Err why.Fault) synced exact = tt
  whole_by_list (Err why.NoMemory) synced exact = whole (Err why.NoMemory) synced exact
