-- A checkpoint of a memory in the place of the chain by which the disk stands for the list.
use Rattle.std.proofs.Common.{◌≡◌, ℕ, ◌+◌, ◌≤◌, ◌↔◌, List, [], ◌∷◌, ◌++◌, length, map, Some, refl, sym, ap, ◌∙◌, subst, arith, length-append}
use Rattle.std.specs.Prelude.{All, is_some}
use Rattle.std.specs.Int.{w32, to_be_bytes}
use Rattle.std.specs.FinMap.{get}
use Rattle.std.specs.List.{Contains}
use Rattle.cloud_memory.specs.CdBase.ids.Fp.{Fp}
use Rattle.cloud_disk.specs.CdEdges.area.Area.TheVariants.{Recipes}
use Rattle.cloud_disk.specs.CdEdges.Disk.{Cloud, Image, reads}
use Rattle.cloud_disk.specs.JournalHalves.Records.{sized, chain}
use Rattle.cloud_memory.specs.ContainerLog.Laying.{IsAt}
use Rattle.cloud_memory.specs.FileIndex.Files.{Files}
use Rattle.cloud_memory.specs.PoolMap.Slots.{IsListed}
use Rattle.cloud_memory.specs.ShareIndex.Shares.{Shares}
use Rattle.cloud_disk.specs.JournalHalves.Halves.{half_limit}
use Rattle.cloud_disk.specs.JournalHalves.Journals.{used_by, with_body}
use Rattle.cloud_disk.specs.JournalStart.start.Header.{Header}
use Rattle.cloud_disk.specs.JournalStart.Spelling.{start_bytes}
use Rattle.cloud_disk.proofs.JournalStart.Lengths as lengths
use Rattle.cloud_disk.proofs.CloudAreas.Lists.{in_map, from_map}
use Rattle.cloud_disk.proofs.CloudAreas.Ends.{end_least, end_each, end_bound}
use Rattle.cloud_memory.specs.RecordBody.Spelling as bodies
use Rattle.cloud_memory.specs.RecordBody.Spelling.{Body, FitsBody, body_bytes}
use Rattle.cloud_memory.specs.RecordBody.body.CommitBody.{CommitBody}
use Rattle.cloud_memory.specs.CdBase.place.Place.{Place}
use Rattle.cloud_memory.specs.UserDedup.Cloud.{fingerprint}
use Rattle.cloud_memory.specs.UserDedup.command.Command.{Command}
use Rattle.cloud_memory.specs.UserDedup.Cloud.{strings_in}
use Rattle.cloud_memory.specs.UserDedup.Spending.{IsWithin}
use Rattle.cloud_memory.proofs.UserDedup.Filtered.{in_flat}
use Rattle.cloud_disk.specs.CloudAreas.Checkpoints.{IsCheckpointOfList}
use Rattle.cloud_disk.specs.CloudAreas.Placing.{region_start, greatest_end, shares_in, recipes_in, recipes_placed, places_of, HasPlace}
use Rattle.cloud_disk.specs.CloudAreas.Standing.{Chain, where_of, region_in, Holds}
use Rattle.cloud_disk.specs.CloudAreas.Summaries.{SumsUp}
use Rattle.cloud_disk.specs.Disk.{Disk, IsOn}
use Rattle.cloud_memory.specs.declared.cloud.CloudMemory.{CloudMemory}
use Rattle.cloud_memory.specs.Memory.{IsPlacedBy}
use Rattle.cloud_memory.specs.Rooms.{memory_of}
use Rattle.checkpoints.specs.Laying.{records_len}
use Rattle.checkpoints.specs.Settling.{checkpoint_of, IsSummed}
use Rattle.checkpoints.specs.Records.{commits_from, records_of}
use Rattle.checkpoints.specs.Known.{AreListed, IsDiskKnown, recipe_of, recipes_of, checkpoint_in}
use Rattle.checkpoints.proofs.Apartness.{contained}
use Rattle.checkpoints.proofs.EntryLaw.{is_entry}
use Rattle.checkpoints.proofs.Given.{Names, names_of, shares_given, commit_given, commit_there, recipe_given}
use Rattle.checkpoints.proofs.RecordsLaw.{records_law}

-- ---- ends

-- places that all are among others end no further on
end_among : (least more bound : ℕ) (ps qs : List Place) → least ≡ more → greatest_end more qs ≤ bound → ((p : Place) → Contains ps p → Contains qs p) → greatest_end least ps ≤ bound
end_among least more bound ps qs same le among =
    end_bound least bound ps (omega (arith, same, le, end_least more qs)) (λ p c. omega (arith, le, end_each more qs p (among p c)))

-- ---- lengths

pub chain_more : (records : List Body) → length (chain (map body_bytes records)) ≡ records_len records
chain_more [] = refl
chain_more (body ∷ records) =
    omega (
      arith,
      chain_more records,
      length-append (sized (body_bytes body)) (chain (map body_bytes records)),
      length-append (to_be_bytes w32 (length (body_bytes body))) (body_bytes body),
    )

pub chain_behind : (records : List Body) (bytes : List ℕ) → length (chain (map body_bytes records ++ bytes ∷ [])) ≡ records_len records + (length bytes + 5)
chain_behind [] bytes = omega (arith, length-append (sized bytes) [], length-append (to_be_bytes w32 (length bytes)) bytes)
chain_behind (body ∷ records) bytes =
    omega (
      arith,
      chain_behind records bytes,
      length-append (sized (body_bytes body)) (chain (map body_bytes records ++ bytes ∷ [])),
      length-append (to_be_bytes w32 (length (body_bytes body))) (body_bytes body),
    )

pub chain_first : (start : List ℕ) (rest : List (List ℕ)) → length (chain (start ∷ rest)) ≡ length start + 5 + length (chain rest)
chain_first start rest = omega (arith, length-append (sized start) (chain rest), length-append (to_be_bytes w32 (length start)) start)

module _ (header : Header) (list : List Command) (c : Chain) (commands region : ℕ) (memory : CloudMemory) (disk : Disk) (cloud : Cloud)
    (k : IsDiskKnown header list c commands region memory disk cloud) (l : AreListed memory) (format : header.format ≡ 2) where
  abbrev next : Chain
  next = checkpoint_in header list c commands region memory

  is_checkpoint : IsCheckpointOfList header.format header.shape list (records_of memory) (recipes_of header.shape list memory)
  is_checkpoint = subst (λ (n : ℕ). IsCheckpointOfList n header.shape list (records_of memory) (recipes_of header.shape list memory)) (sym format) (records_law header.shape list memory k.remembers l)

  -- ---- what it places

  shares_there : (x : Fp × Place) → Contains (shares_in (records_of memory)) x → Contains (shares_in c.records) x
  shares_there x there = (k.placed.shares x.0 x.1).0 (shares_given memory l x there)

  commits_there : (commit : CommitBody) → Contains (records_of memory) (bodies.Commit commit) → Contains c.records (bodies.Commit commit)
  commits_there commit there =
      let n = commit_given memory l commit there in
      subst (λ (d : CommitBody). Contains c.records (bodies.Commit d)) n.is
      (k.placed.recipes (record { 0 = n.key.user }) (record { 0 = n.key.tag }) (record { 0 = n.key.version }) n.entry n.at)

  recipe_lies : (commit : CommitBody) → Names memory l commit → IsAt (reads cloud.now Recipes) (recipe_of header.shape list commit)
  recipe_lies commit n =
      let e = is_entry header.shape list memory k.remembers l (n.key, n.entry) n.at in
      subst (λ (d : CommitBody). IsAt (reads cloud.now Recipes) (recipe_of header.shape list d)) n.is
      (subst (λ (bytes : List ℕ). IsAt (reads cloud.now Recipes) (record { place = n.entry.at; blob = bytes })) (sym e.bytes)
      (k.stand.entries (record { 0 = n.key.user }) (record { 0 = n.key.tag }, record { 0 = n.key.version }) n.entry e.entry n.at e.here))

  recipes_lie : All (IsAt (reads cloud.now Recipes)) (recipes_of header.shape list memory)
  recipes_lie =
      contained (IsAt (reads cloud.now Recipes)) (recipes_of header.shape list memory) (λ blob there.
      let m = from_map (recipe_of header.shape list) (commits_from memory.files 0) blob there in
      subst (IsAt (reads cloud.now Recipes)) m.2 (recipe_lies m.0 (names_of memory l m.0 m.1)))

  sums_up : SumsUp header (reads cloud.now) list c next
  sums_up = record {
    is_checkpoint = is_checkpoint;
    records = refl;
    commands = k.number;
    region = sym k.region_is;
    shares = shares_there;
    commits = commits_there;
    recipes = recipes_lie;
  }

  -- ---- its length

  module _ (law : (header : Header) (list : List Command) (c : Chain) (body : Body) → IsWithin header.shape header.rooms list
      → IsCheckpointOfList header.format header.shape list c.records c.recipes → All FitsBody c.records → FitsBody body
      → used_by (with_body (where_of c) (body_bytes body)) ≤ half_limit header.rooms) (fit : All FitsBody (records_of memory)) where
    abbrev small : Body
    small = bodies.Spent (record { user = record { 0 = 0 }; owners = 0; shares = 0; recipes = 0 })

    small_fits : FitsBody small
    small_fits = record { user = omega arith; owners = omega arith; shares = omega arith; recipes = omega arith }

    room : used_by (with_body (where_of next) (body_bytes small)) ≤ half_limit header.rooms
    room = law header list next small k.within is_checkpoint fit small_fits

    behind : used_by (with_body (where_of next) (body_bytes small)) ≡ length (start_bytes next.start) + 5 + (records_len (records_of memory) + 30) + 1
    behind = omega (arith, chain_first (start_bytes next.start) (map body_bytes (records_of memory) ++ body_bytes small ∷ []), chain_behind (records_of memory) (body_bytes small))

    start_len : length (start_bytes next.start) ≡ 57
    start_len = lengths.second next.start _ format refl

    used : used_by (where_of next) ≡ 63 + records_len (records_of memory)
    used = omega (arith, start_len, chain_first (start_bytes next.start) (map body_bytes (records_of memory)), chain_more (records_of memory))

    pub short : 63 + records_len (records_of memory) ≤ half_limit header.rooms
    short = omega (arith, room, behind, start_len)

    -- behind them there is room for one record more, whichever it is
    pub roomy : (body : Body) → FitsBody body → 63 + records_len (records_of memory) + (length (body_bytes body) + 5) ≤ half_limit header.rooms
    roomy body fits =
        let more = law header list next body k.within is_checkpoint fit fits in
        omega (arith, more, chain_first (start_bytes next.start) (map body_bytes (records_of memory) ++ body_bytes body ∷ []), chain_behind (records_of memory) (body_bytes body), start_len)

    within : used_by (where_of next) ≤ half_limit header.rooms
    within = omega (arith, used, short)

    module _ (holds : (header : Header) (image : Image) (list : List Command) (old c : Chain) → Holds header image list old → SumsUp header image list old c → Holds header image list c) where
      pub next_holds : Holds header (reads cloud.now) list next
      next_holds = holds header (reads cloud.now) list c next k.on.read.holds sums_up

      pub is_summed : IsSummed header list c next disk cloud
      is_summed = record {
        on = k.on;
        holds = next_holds;
        fit = fit;
        within = within;
        shares = end_among (region_start region) (region_start (region_in c)) disk.shares.end (places_of (shares_in (records_of memory))) (places_of (shares_in c.records)) (ap region_start (sym k.region_is)) k.on.shares.behind (λ p there.
            let m = from_map (λ (x : Fp × Place). x.1) (shares_in (records_of memory)) p there in
            subst (Contains (places_of (shares_in c.records))) m.2 (in_map (λ (x : Fp × Place). x.1) (shares_in c.records) m.0 (shares_there m.0 m.1)));
        recipes = end_among (region_start region) (region_start (region_in c)) disk.recipes.end (recipes_in (records_of memory)) (recipes_in c.records) (ap region_start (sym k.region_is)) k.on.recipes.behind (λ p there.
            let g = recipe_given memory l p there in
            in_flat recipes_placed c.records (bodies.Commit g.0) p (commits_there g.0 g.1) g.2);
      }

      -- the memory is placed by its records
      pub placed_by : ((fp : Fp) → Contains (map fingerprint (strings_in list)) fp ↔ HasPlace (records_of memory) fp) → IsPlacedBy (records_of memory) (memory_of memory)
      placed_by law_of_places = record {
        shares = λ fp place. (share_there fp place, λ there. shares_given memory l (fp, place) there);
        recipes = λ user tag version e at. commit_there memory l (record { user = user.0; tag = tag.0; version = version.0 }) e at;
      }
        where
          one_place : (a b : Place) → Some a ≡ Some b → a ≡ b
          one_place a b e = cc

          share_there : (fp : Fp) (place : Place) → get memory.shares.places fp.0 ≡ Some place → Contains (shares_in (records_of memory)) (fp, place)
          share_there fp place at =
              let has = (law_of_places fp).0 ((k.remembers.placed fp).0 (ap is_some at)) in
              subst (λ (p : Place). Contains (shares_in (records_of memory)) (fp, p)) (one_place has.0 place (sym (shares_given memory l (fp, has.0) has.1) ∙ at)) has.1

-- ---- by what was counted and is to come

pub listed_of : (memory : CloudMemory) (a b : Shares) (f : Files) → a ≡ memory.shares → b ≡ memory.shares → f ≡ memory.files → IsListed a.places a.place_slots → IsListed b.owners b.owner_slots
    → IsListed f.files f.slots → AreListed memory
listed_of memory a b f is_a is_b is_f places owners entries = record {
  places = subst (λ (s : Shares). IsListed s.places s.place_slots) is_a places;
  owners = subst (λ (s : Shares). IsListed s.owners s.owner_slots) is_b owners;
  entries = subst (λ (f : Files). IsListed f.files f.slots) is_f entries;
}

module _ (header : Header) (list : List Command) (c : Chain) (commands region : ℕ) (memory : CloudMemory) (count : ℕ) (bodies : List Body)
    (count_is : count ≡ length (records_of memory)) (bodies_are : bodies ≡ records_of memory) where
  same_chain : checkpoint_of c header commands count region bodies (recipes_of header.shape list memory) ≡ checkpoint_in header list c commands region memory
  same_chain = λ i. checkpoint_of c header commands (count_is i) region (bodies_are i) (recipes_of header.shape list memory)

  pub summed_as : (disk : Disk) (cloud : Cloud) → IsSummed header list c (checkpoint_in header list c commands region memory) disk cloud
      → IsSummed header list c (checkpoint_of c header commands count region bodies (recipes_of header.shape list memory)) disk cloud
  summed_as disk cloud is = subst (λ (next : Chain). IsSummed header list c next disk cloud) (sym same_chain) is

  pub on_as : (disk : Disk) (cloud : Cloud) → IsOn header list (checkpoint_of c header commands count region bodies (recipes_of header.shape list memory)) disk cloud
      → IsOn header list (checkpoint_in header list c commands region memory) disk cloud
  on_as disk cloud is = subst (λ (next : Chain). IsOn header list next disk cloud) same_chain is
