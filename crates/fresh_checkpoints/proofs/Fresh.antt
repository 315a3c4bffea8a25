-- The checkpoint of a memory holds the memory's list.
use Rattle.std.proofs.Common.{◌≡◌, ◌≢◌, ℕ, ◌+◌, ◌*◌, ◌≤◌, List, length, map, Some, refl, sym, ap, ◌∙◌, subst, arith, inl, inr}
use Rattle.std.specs.Prelude.{All, slice_get, is_some}
use Rattle.std.specs.FinMap.{get}
use Rattle.std.specs.List.{Contains}
use Rattle.std.proofs.lemmas.Bool.{cases_eq}
use Rattle.cloud_disk.specs.CdBase.ids.Fp.{Fp}
use Rattle.cloud_disk.specs.CdBase.ids.Tag.{Tag}
use Rattle.cloud_disk.specs.CdBase.ids.UserId.{UserId}
use Rattle.cloud_disk.specs.CdBase.ids.Version.{Version}
use Rattle.cloud_disk.specs.CdEdges.area.Area.TheVariants.{Shares, Recipes}
use Rattle.cloud_disk.specs.CdEdges.Disk.{Image}
use Rattle.cloud_disk.specs.ContainerLog.Laying.{IsAt}
use Rattle.compact_memories.specs.FileIndex.key.FileKey.{FileKey}
use Rattle.cloud_disk.specs.JournalStart.start.Header.{Header}
use Rattle.cloud_disk.specs.RecordBody.Spelling.{Body}
use Rattle.cloud_disk.specs.RecordBody.body.CommitBody.{CommitBody}
use Rattle.cloud_disk.specs.CdBase.place.Place.{Place}
use Rattle.cloud_disk.specs.UserDedup.command.Command.{Command}
use Rattle.cloud_disk.specs.UserDedup.Cloud.{held_bytes}
use Rattle.cloud_disk.specs.UserDedup.Spending.{spent_by_all}
use Rattle.cloud_disk.specs.CloudAreas.Checkpoints.{IsCheckpointOfList, key_of}
use Rattle.cloud_disk.specs.CloudAreas.Chains.{Summed, laid_shares, AreLong, LiesIn, DontOverlap, HaveRoom, least_shares, least_recipes}
use Rattle.cloud_disk.specs.CloudAreas.Placing.{shares_in, recipes_in, region_start, end_of, places_of, fps_placed}
use Rattle.cloud_disk.specs.CloudAreas.Standing.{Chain, Holds}
use Rattle.cloud_disk.proofs.CloudAreas.Apart.{get_contains, are_apart}
use Rattle.cloud_disk.proofs.CloudAreas.Ends.{end_bound, get_map, map_get}
use Rattle.cloud_disk.proofs.CloudAreas.Once.{checkpoint_once, checkpoint_all}
use Rattle.cloud_disk.proofs.CloudAreas.Summing.{commits_in, place_of_commit, recipes_by_commits, checkpoint_commits, from_commits}
use Rattle.cloud_disk.proofs.CloudAreas.Lists.{from_map}
use Rattle.compact_memories.specs.CloudMemory.cloud.CloudMemory.{CloudMemory}
use Rattle.compact_memories.specs.CloudMemory.Memory.{IsPlacedBy}
use Rattle.compact_memories.specs.CloudMemory.Rooms.{memory_of}
use Rattle.compact_memories.specs.Checkpoints.Records.{commits_from, records_of}
use Rattle.compact_memories.specs.Checkpoints.Known.{recipe_of, recipes_of, checkpoint_in}
use Rattle.compact_memories.proofs.Checkpoints.Apartness.{contained}
use Rattle.compact_memories.proofs.Checkpoints.EntryLaw.{is_entry}
use Rattle.compact_memories.proofs.Checkpoints.Given.{Names, names_of, shares_given, commit_given, commit_there}
use Rattle.compact_memories.proofs.Checkpoints.RecordsLaw.{records_law}
use Rattle.compact_memories.specs.Moved.{PlacesApart, entry_place}
use Rattle.fresh_checkpoints.specs.Fresh.{StandsAlone}

module _ (header : Header) (image : Image) (list : List Command) (commands region : ℕ) (memory : CloudMemory) (f : StandsAlone header image list commands region memory) where
  abbrev records : List Body
  records = records_of memory

  is_checkpoint : IsCheckpointOfList header.format header.shape list records (recipes_of header.shape list memory)
  is_checkpoint = subst (λ (n : ℕ). IsCheckpointOfList n header.shape list records (recipes_of header.shape list memory)) (sym f.format) (records_law header.shape list memory f.remembers f.are_listed)

  given : (x : Fp × Place) → Contains (shares_in records) x → get memory.shares.places x.0.0 ≡ Some x.1
  given = shares_given memory f.are_listed

  -- ---- what it places lies there

  are_long : AreLong list (shares_in records)
  are_long = contained (λ (x : Fp × Place). x.1.len ≡ length (held_bytes list x.0)) (shares_in records) (λ x c. f.remembers.lens x.0 x.1 (given x c))

  shares_lie : All (IsAt (image Shares)) (laid_shares list (shares_in records))
  shares_lie =
      contained (IsAt (image Shares)) (laid_shares list (shares_in records)) (λ blob c.
      let x = from_map _ (shares_in records) blob c in
      subst (IsAt (image Shares)) x.2 (f.stand.strings x.0.0 x.0.1 (given x.0 x.1)))

  recipe_lies : (commit : CommitBody) → Names memory f.are_listed commit → IsAt (image Recipes) (recipe_of header.shape list commit)
  recipe_lies commit n =
      let e = is_entry header.shape list memory f.remembers f.are_listed (n.key, n.entry) n.at in
      subst (λ (d : CommitBody). IsAt (image Recipes) (recipe_of header.shape list d)) n.is
      (subst (λ (bytes : List ℕ). IsAt (image Recipes) (record { place = n.entry.at; blob = bytes })) (sym e.bytes)
      (f.stand.entries (record { 0 = n.key.user }) (record { 0 = n.key.tag }, record { 0 = n.key.version }) n.entry e.entry n.at e.here))

  recipes_lie : All (IsAt (image Recipes)) (recipes_of header.shape list memory)
  recipes_lie =
      contained (IsAt (image Recipes)) (recipes_of header.shape list memory) (λ blob there.
      let m = from_map (recipe_of header.shape list) (commits_from memory.files 0) blob there in
      subst (IsAt (image Recipes)) m.2 (recipe_lies m.0 (names_of memory f.are_listed m.0 m.1)))

  -- ---- shares have room

  abbrev place_at : Fp × Place → Place
  place_at x = x.1

  shares_apart : DontOverlap (places_of (shares_in records))
  shares_apart i j p q at_i at_j =
      let a = get_map place_at (shares_in records) i p at_i in
      let b = get_map place_at (shares_in records) j q at_j in
      let once = are_apart (fps_placed (shares_in records)) (checkpoint_once header.format header.shape list records (recipes_of header.shape list memory) is_checkpoint) in
      elim (cases_eq i j) [
        | inl same ↦ inl same
        | inr other ↦
            let differ : a.0.0 ≢ b.0.0 = λ fps.
            other (once i j a.0.0 (map_get (λ (x : Fp × Place). x.0) (shares_in records) i a.0 a.1)
            (map_get (λ (x : Fp × Place). x.0) (shares_in records) j b.0 b.1 ∙ ap (λ (y : Fp). Some y) (sym fps))) in
            let far = f.lie.shares_apart a.0.0 b.0.0 a.0.1 b.0.1 (given a.0 (get_contains (shares_in records) i a.0 a.1)) (given b.0 (get_contains (shares_in records) j b.0 b.1)) differ in
            inr (subst (λ (r : Place). PlacesApart r q) a.2 (subst (λ (r : Place). PlacesApart a.0.1 r) b.2 far))
      ]

  share_placed : (p : Place) → Contains (places_of (shares_in records)) p → LiesIn region p × (end_of p ≤ region_start region + (least_shares + 2 * (spent_by_all list).shares))
  share_placed p c =
      let x = from_map place_at (shares_in records) p c in
      subst (λ (r : Place). LiesIn region r × (end_of r ≤ region_start region + (least_shares + 2 * (spent_by_all list).shares))) x.2 (f.lie.shares x.0.0 x.0.1 (given x.0 x.1))

  sum_of : (a b c : ℕ) (n : ℕ) → n ≤ a + (b + c) → n ≤ a + b + c
  sum_of a b c n le = omega (arith, le)

  shares_room : HaveRoom region least_shares (spent_by_all list).shares (places_of (shares_in records))
  shares_room = record {
    each = contained (LiesIn region) (places_of (shares_in records)) (λ p c. (share_placed p c).0);
    apart = shares_apart;
    bound = end_bound (region_start region) (region_start region + least_shares + 2 * (spent_by_all list).shares) (places_of (shares_in records)) (omega arith)
        (λ p c. sum_of (region_start region) least_shares (2 * (spent_by_all list).shares) (end_of p) (share_placed p c).1);
  }

  -- ---- recipes have room

  abbrev commits : List CommitBody
  commits = commits_in records

  its_names : (c : CommitBody) → Contains commits c → Names memory f.are_listed c
  its_names c here = commit_given memory f.are_listed c (from_commits records c here)

  its_place : (c : CommitBody) (n : Names memory f.are_listed c) → entry_place n.entry ≡ place_of_commit c
  its_place c n = ap place_of_commit n.is

  commits_once : (i j : ℕ) (k : UserId × Tag × Version) → slice_get (map key_of commits) i ≡ Some k → slice_get (map key_of commits) j ≡ Some k → i ≡ j
  commits_once i j k at_i at_j =
      let same = checkpoint_commits header.format header.shape list records (recipes_of header.shape list memory) is_checkpoint in
      is_checkpoint.entries.once i j k (subst (λ (cs : List CommitBody). slice_get (map key_of cs) i ≡ Some k) same at_i) (subst (λ (cs : List CommitBody). slice_get (map key_of cs) j ≡ Some k) same at_j)

  commits_apart : DontOverlap (map place_of_commit commits)
  commits_apart i j p q at_i at_j =
      let a = get_map place_of_commit commits i p at_i in
      let b = get_map place_of_commit commits j q at_j in
      let m = its_names a.0 (get_contains commits i a.0 a.1) in
      let n = its_names b.0 (get_contains commits j b.0 b.1) in
      elim (cases_eq i j) [
        | inl same ↦ inl same
        | inr other ↦
            let differ : m.key ≢ n.key = λ keys.
            let as_key : FileKey → UserId × Tag × Version = λ k. (record { 0 = k.user }, record { 0 = k.tag }, record { 0 = k.version }) in
            let one : key_of a.0 ≡ as_key m.key = ap key_of (sym m.is) in
            let two : as_key n.key ≡ key_of b.0 = ap key_of n.is in
            let equal : key_of b.0 ≡ key_of a.0 = sym (one ∙ ap as_key keys ∙ two) in
            other (commits_once i j (key_of a.0) (map_get key_of commits i a.0 a.1) (map_get key_of commits j b.0 b.1 ∙ ap (λ k. Some k) equal)) in
            let far = f.lie.recipes_apart m.key n.key m.entry n.entry m.at n.at differ in
            inr (subst (λ (r : Place). PlacesApart r q) (its_place a.0 m ∙ a.2) (subst (λ (r : Place). PlacesApart (entry_place m.entry) r) (its_place b.0 n ∙ b.2) far))
      ]

  recipes_are : recipes_in records ≡ map place_of_commit commits
  recipes_are = recipes_by_commits records

  recipe_placed : (p : Place) → Contains (map place_of_commit commits) p → LiesIn region p × (end_of p ≤ region_start region + (least_recipes + 2 * (spent_by_all list).recipes))
  recipe_placed p c =
      let x = from_map place_of_commit commits p c in
      let n = its_names x.0 x.1 in
      subst (λ (r : Place). LiesIn region r × (end_of r ≤ region_start region + (least_recipes + 2 * (spent_by_all list).recipes))) (its_place x.0 n ∙ x.2) (f.lie.recipes n.key n.entry n.at)

  recipes_room : HaveRoom region least_recipes (spent_by_all list).recipes (recipes_in records)
  recipes_room =
      subst (HaveRoom region least_recipes (spent_by_all list).recipes) (sym recipes_are)
      (record {
        each = contained (LiesIn region) (map place_of_commit commits) (λ p c. (recipe_placed p c).0);
        apart = commits_apart;
        bound = end_bound (region_start region) (region_start region + least_recipes + 2 * (spent_by_all list).recipes) (map place_of_commit commits) (omega arith)
            (λ p c. sum_of (region_start region) least_recipes (2 * (spent_by_all list).recipes) (end_of p) (recipe_placed p c).1);
      })

  -- ---- the laws

  pub holds : (c : Chain) → Holds header image list (checkpoint_in header list c commands region memory)
  holds c = record {
    says = Summed records list (recipes_of header.shape list memory) is_checkpoint refl f.number;
    long = are_long;
    shares = shares_lie;
    recipes = recipes_lie;
    rooms = record { shares = shares_room; recipes = recipes_room };
  }

  one_place : (a b : Place) → Some a ≡ Some b → a ≡ b
  one_place a b e = cc

  share_there : (fp : Fp) (place : Place) → get memory.shares.places fp.0 ≡ Some place → Contains (shares_in records) (fp, place)
  share_there fp place at =
      let has = checkpoint_all header.format header.shape list records (recipes_of header.shape list memory) is_checkpoint fp ((f.remembers.placed fp).0 (ap is_some at)) in
      subst (λ (p : Place). Contains (shares_in records) (fp, p)) (one_place has.0 place (sym (given (fp, has.0) has.1) ∙ at)) has.1

  pub placed : IsPlacedBy records (memory_of memory)
  placed = record {
    shares = λ fp place. (share_there fp place, λ there. given (fp, place) there);
    recipes = λ user tag version e at. commit_there memory f.are_listed (record { user = user.0; tag = tag.0; version = version.0 }) e at;
  }
