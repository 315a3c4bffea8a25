-- What a step that writes in an area of blobs keeps, and one that stops.
use Rattle.std.proofs.Common.{◌≡◌, ◌≢◌, ◌⊎◌, ℕ, zero, suc, ◌+◌, ◌<◌, ◌≤◌, Bool, true, false, IsTrue, List, length, refl, sym, ap, ◌∙◌, subst, arith, inl, inr}
use Rattle.std.specs.Prelude.{All, Result, Ok, Err}
use Rattle.compact_lists.specs.CdBase.ids.Fp.{Fp}
use Rattle.fresh_checkpoints.specs.CdEdges.area.Area.{Area}
use Rattle.fresh_checkpoints.specs.CdEdges.area.Area.TheVariants.{Journal, Shares, Recipes}
use Rattle.fresh_checkpoints.specs.CdEdges.Disk.{Areas, Store, Image, Cloud, LeavesOnly, MayLeave, IsAtArea, reads}
use Rattle.fresh_checkpoints.specs.CdEdges.Shelf.{Stays, wrote}
use Rattle.fresh_checkpoints.proofs.CdEdges.Moments.{weaker, started}
use Rattle.record_laws.specs.ContainerLog.Laying.{IsAt}
use Rattle.record_laws.specs.ContainerLog.States.{IsTorn}
use Rattle.cloud_store.specs.CommitJournal.journal.Stage.TheVariants.{Shut}
use Rattle.compact_lists.specs.UserDedup.command.Command.{Command}
use Rattle.fresh_checkpoints.specs.CloudAreas.Chains.{laid_shares}
use Rattle.fresh_checkpoints.specs.CloudAreas.Placing.{region_start, greatest_end, shares_in, recipes_in, places_of}
use Rattle.fresh_checkpoints.specs.CloudAreas.Standing.{Chain, region_in, StandsFor}
use Rattle.fresh_checkpoints.specs.CloudDisk.Disk.{Disk, SameRooms}
use Rattle.fresh_checkpoints.proofs.CloudDiskLaws.Standing.{one_image, stands_read}
use Rattle.fresh_checkpoints.specs.Checkpoints.Settling.{KeepsList}
use Rattle.fresh_checkpoints.specs.CloudMemory.Memory.{Memory}
use Rattle.fresh_checkpoints.specs.CloudMemory.Rooms.{memory_of}
use Rattle.fresh_checkpoints.specs.CompactMemories.Moved.{lens_of, entry_lens}
use Rattle.fresh_checkpoints.proofs.CompactMemories.Relaying.{laid_grows}
use Rattle.cloud_store.specs.CloudOpening.Roomy.{IsRoomy}
use Rattle.cloud_store.proofs.CloudOpening.Spends.{ends_far}
use Rattle.cloud_store.specs.declared.store.CloudStore.{CloudStore}
use Rattle.cloud_store.specs.Store.{IsOpen, IsSettled}
use Rattle.blob_copy.specs.Answers.{SomeRotten, MatchStep}
use Rattle.blob_copy.specs.Apart.{IsApart}
use Rattle.blob_copy.specs.Copies.{KeepsOutside, IsBeside, copies_end}
use Rattle.blob_copy.specs.Copying.{IsCopyLaid, IsCopying, copies_start, shares_so_far, entries_so_far}
use Rattle.blob_copy.specs.Runs.{MayTear}
use Rattle.blob_copy.specs.Steps.{IsStep}
use Rattle.blob_copy.specs.declared.copying.CopyErr.{CopyErr}
use Rattle.blob_copy.specs.declared.copying.CopyErr.TheVariants as why
use Rattle.blob_copy.specs.declared.copying.Copying.{Copying}
use Rattle.blob_copy.proofs.Beside.{shares_torn, recipes_torn}
use Rattle.blob_copy.proofs.Regions.{shares_apart, recipes_apart}

abbrev pub on_disk : CloudStore → Disk → CloudStore
on_disk store disk = record store { disk = disk }

module _ (store : CloudStore) (settled : IsSettled store) (open_now : IsOpen store) where
  pub settled_by : (disk : Disk) → SameRooms store.disk disk → IsSettled (on_disk store disk)
  settled_by disk same = record {
    header = settled.header;
    format = settled.format;
    rooms = settled.rooms;
    fit = λ still. settled.fit open_now;
    roomy = λ still. settled.roomy open_now;
    disk = record { limit = same.limit ∙ settled.disk.limit; shares = same.shares_area ∙ settled.disk.shares; recipes = same.recipes_area ∙ settled.disk.recipes };
    shares_limit = same.shares_limit ∙ settled.shares_limit;
    recipes_limit = same.recipes_limit ∙ settled.recipes_limit;
    region = settled.region;
  }

  -- in region 0 both logs of the memory end in front of region 1
  near : store.region ≡ 0 → (store.memory.shares_end ≤ 34359738368) × (store.memory.recipes_end ≤ 34359738368)
  near first =
      let m : Memory = memory_of store.memory in
      let roomy = settled.roomy open_now in
      let shifted : Memory = record m { shares_end = m.shares_end + 34359738368; recipes_end = m.recipes_end + 34359738368 } in
      let se = roomy.ends.shares in let re = roomy.ends.recipes in
      let one : IsRoomy store.header.rooms 1 shifted = record { spent = roomy.spent; ends = record { shares = omega (arith, se, first); recipes = omega (arith, re, first) } } in
      let far = ends_far store.header.rooms 1 shifted settled.header.rooms settled.rooms.users (omega arith) one in
      let shares = far.0 in let recipes = far.1 in
      (omega (arith, shares), omega (arith, recipes))

  regions : (store.region ≡ 0) ⊎ (store.region ≡ 1)
  regions = by_number store.region refl settled.region
    where
      by_number : (n : ℕ) → store.region ≡ n → n ≤ 1 → (store.region ≡ 0) ⊎ (store.region ≡ 1)
      by_number zero is small = inl is
      by_number (suc n) is small = inr (let m : n ≡ 0 = omega (arith, small) in omega (arith, is, m))

  module _ (from : Copying) (laid : IsCopyLaid store from) (old new : Cloud) where
    shares_start : copies_start store ≤ store.disk.shares.end
    shares_start = let is = laid.shares_end in let grows = laid_grows (copies_start store) (lens_of (shares_so_far store from)) in omega (arith, is, grows)

    recipes_start : copies_start store ≤ store.disk.recipes.end
    recipes_start = let is = laid.recipes_end in let grows = laid_grows (copies_start store) (entry_lens (entries_so_far store from)) in omega (arith, is, grows)

    module _ (list : List Command) (c : Chain) (is : IsCopying list c store from old) (bytes : List ℕ) where
      pub chain_shares_apart : store.disk.shares.end + length bytes ≤ copies_end store → All (IsApart store.disk.shares.end bytes) (laid_shares list (shares_in c.records))
      chain_shares_apart within = shares_apart store.header list c store.disk.journal old is.knows.read store.disk.shares.end bytes (by_region regions)
        where
          by_region : (store.region ≡ 0) ⊎ (store.region ≡ 1) → (greatest_end (region_start (region_in c)) (places_of (shares_in c.records)) ≤ store.disk.shares.end) ⊎ (store.disk.shares.end + length bytes ≤ region_start (region_in c))
          by_region (inl first) = inl (subst (λ (r : ℕ). greatest_end (region_start r) (places_of (shares_in c.records)) ≤ store.disk.shares.end) (sym is.knows.region_is)
              (let behind = is.knows.ends.shares in let ends = (near first).0 in let start = shares_start in omega (arith, behind, ends, start, first)))
          by_region (inr last) = inr (let same = is.knows.region_is in omega (arith, within, last, same))

      pub chain_recipes_apart : store.disk.recipes.end + length bytes ≤ copies_end store → All (IsApart store.disk.recipes.end bytes) c.recipes
      chain_recipes_apart within = recipes_apart store.header list c store.disk.journal old is.knows.read store.disk.recipes.end bytes (by_region regions)
        where
          by_region : (store.region ≡ 0) ⊎ (store.region ≡ 1) → (greatest_end (region_start (region_in c)) (recipes_in c.records) ≤ store.disk.recipes.end) ⊎ (store.disk.recipes.end + length bytes ≤ region_start (region_in c))
          by_region (inl first) = inl (subst (λ (r : ℕ). greatest_end (region_start r) (recipes_in c.records) ≤ store.disk.recipes.end) (sym is.knows.region_is)
              (let behind = is.knows.ends.recipes in let ends = (near first).1 in let start = recipes_start in omega (arith, behind, ends, start, first)))
          by_region (inr last) = inr (let same = is.knows.region_is in omega (arith, within, last, same))

    -- ---- images

    of_left : (front behind : ℕ) (area : Store) (image : List ℕ) → MayLeave area image → KeepsOutside front behind area image
    of_left front behind area image left = record { no_shorter = left.no_shorter; kept = λ place side lt out. left.kept place lt out }

    of_torn : (front behind : ℕ) (bytes : List ℕ) (area : Store) (image : List ℕ) → front + length bytes ≤ behind → MayLeave (wrote area front bytes) image → KeepsOutside front behind area image
    of_torn front behind bytes area image within left = record {
      no_shorter = left.no_shorter;
      kept = λ place side lt out. left.kept place lt (outside place side, out);
    }
      where
        outside : (place : ℕ) → (place < front) ⊎ (behind ≤ place) → (place < front) ⊎ (front + length bytes ≤ place)
        outside place (inl lt) = inl lt
        outside place (inr ge) = inr (omega (arith, ge, within))

    module _ (bound : ℕ) (few : bound ≤ copies_end store) where
      pub shares_list : (IsTrue old.told → MayTear store.disk.shares bound old new) → (list : List Command) (c : Chain) → IsCopying list c store from old → KeepsList store.header list old new
      shares_list tear list c is =
          let t = tear is.knows.read.told in let within = t.within in
          shares_torn store.header list c store.disk.journal old new is.knows.read (record store.disk.shares { staged = t.bytes }) is.shares_area
          (chain_shares_apart list c is t.bytes (omega (arith, within, few))) t.torn

      pub recipes_list : (IsTrue old.told → MayTear store.disk.recipes bound old new) → (list : List Command) (c : Chain) → IsCopying list c store from old → KeepsList store.header list old new
      recipes_list tear list c is =
          let t = tear is.knows.read.told in let within = t.within in
          recipes_torn store.header list c store.disk.journal old new is.knows.read (record store.disk.recipes { staged = t.bytes }) is.recipes_area
          (chain_recipes_apart list c is t.bytes (omega (arith, within, few))) t.torn

      pub shares_images : (IsTrue old.told → MayTear store.disk.shares bound old new) → IsTrue old.told → LeavesOnly old new (IsBeside store old)
      shares_images tear told =
          let t = tear told in let within = t.within in
          weaker old new (IsTorn (record store.disk.shares { staged = t.bytes }) old) (IsBeside store old) t.torn (λ image left.
          let at = subst (λ (a : Area). IsAtArea old.now a (MayLeave (wrote (old.now a) store.disk.shares.end t.bytes)) image) settled.disk.shares left in
          record {
            journal = at.others Journal (λ e. cc);
            shares = of_torn store.disk.shares.end (copies_end store) t.bytes (old.now Shares) (image Shares) (omega (arith, within, few)) at.area;
            recipes = of_left store.disk.recipes.end (copies_end store) (old.now Recipes) (image Recipes) (at.others Recipes (λ e. cc));
          })

      pub recipes_images : (IsTrue old.told → MayTear store.disk.recipes bound old new) → IsTrue old.told → LeavesOnly old new (IsBeside store old)
      recipes_images tear told =
          let t = tear told in let within = t.within in
          weaker old new (IsTorn (record store.disk.recipes { staged = t.bytes }) old) (IsBeside store old) t.torn (λ image left.
          let at = subst (λ (a : Area). IsAtArea old.now a (MayLeave (wrote (old.now a) store.disk.recipes.end t.bytes)) image) settled.disk.recipes left in
          record {
            journal = at.others Journal (λ e. cc);
            shares = of_left store.disk.shares.end (copies_end store) (old.now Shares) (image Shares) (at.others Shares (λ e. cc));
            recipes = of_torn store.disk.recipes.end (copies_end store) t.bytes (old.now Recipes) (image Recipes) (omega (arith, within, few)) at.area;
          })

    -- ---- nothing is left to be copied

    pub nothing_keeps : (list : List Command) (c : Chain) → IsCopying list c store from old → KeepsList store.header list old old
    nothing_keeps list c is = started old (λ (image : Image). StandsFor image store.header list) (λ image left.
        subst (λ (im : Image). StandsFor im store.header list) (sym (one_image old.now image is.knows.read.on_disk left)) (stands_read store.header list c store.disk.journal old is.knows.read))

    pub nothing_images : LeavesOnly old old (IsBeside store old)
    nothing_images = started old (IsBeside store old) (λ image left. record {
      journal = left Journal;
      shares = of_left store.disk.shares.end (copies_end store) (old.now Shares) (image Shares) (left Shares);
      recipes = of_left store.disk.recipes.end (copies_end store) (old.now Recipes) (image Recipes) (left Recipes);
    })

    -- ---- errors

    abbrev KeepsEach : Type 0
    KeepsEach = (list : List Command) (c : Chain) → IsCopying list c store from old → KeepsList store.header list old new

    pub fault : KeepsEach → (IsTrue old.told → LeavesOnly old new (IsBeside store old)) → (disk : Disk) → SameRooms store.disk disk → disk.journal.stage ≡ Shut
        → IsStep store (on_disk store disk) from from old new (Err why.Fault)
    fault keeps images disk same shut = record {
      any_moment = keeps;
      copying = λ list c is. tt;
      never_wrong = λ list c is. tt;
      copied = λ told. tt;
      beside = λ told. tt;
      images = images;
      fits = tt;
      kept = tt;
      stays = tt;
      further = tt;
      slots = (omega arith, omega arith);
      laid = tt;
      rotten = λ told. tt;
      same = refl;
      settled = settled_by disk same;
      stage = shut;
    }

    pub rotten_stops : KeepsEach → (IsTrue old.told → LeavesOnly old new (IsBeside store old)) → (disk : Disk) → disk ≡ store.disk → Stays old new → (named found : Fp)
        → (IsTrue old.told → SomeRotten store.memory (reads old.now) named found) → ((list : List Command) (c : Chain) → IsCopying list c store from old → ⊥)
        → IsStep store (on_disk store disk) from from old new (Err (why.Rotten named found))
    rotten_stops keeps images disk same stays named found rotten never = record {
      any_moment = keeps;
      copying = λ list c is. absurd (never list c is);
      never_wrong = λ list c is. never list c is;
      copied = λ told. tt;
      beside = λ told. record {
        journal = ap (λ (n : Areas). n Journal) stays.now;
        shares = λ b side at. subst (λ (n : Areas). IsAt (n Shares).read b) (sym stays.now) at;
        recipes = λ b side at. subst (λ (n : Areas). IsAt (n Recipes).read b) (sym stays.now) at;
      };
      images = images;
      fits = tt;
      kept = ap (on_disk store) same;
      stays = stays;
      further = refl;
      slots = (omega arith, omega arith);
      laid = subst (λ (d : Disk). IsCopyLaid (on_disk store d) from) (sym same) laid;
      rotten = rotten;
      same = refl;
      settled = subst (λ (d : Disk). IsSettled (on_disk store d)) (sym same) settled;
      stage = ap (λ (d : Disk). d.journal.stage) same ∙ open_now;
    }

-- an answer that isn't that nothing was left
pub not_done : (r : Result Bool CopyErr) (more done rotten long : Type 0) → r ≢ Ok false → MatchStep r more (Unit {0}) rotten long → MatchStep r more done rotten long
not_done (Ok true) more done rotten long some is = is
not_done (Ok false) more done rotten long some is = absurd (some refl)
not_done (Err why.Fault) more done rotten long some is = is
not_done (Err (why.Rotten named found)) more done rotten long some is = is
not_done (Err why.Long) more done rotten long some is = is
