-- One command more: what is staged for it is on the disk, and then its record is.
use Rattle.std.proofs.Common.{◌≡◌, ◌≢◌, ◌⊎◌, inl, inr, ℕ, ◌+◌, ◌≤◌, List, [], ◌∷◌, ◌++◌, length, map, Result, Ok, Err, IsTrue, refl, sym, ap, ◌∙◌, subst, arith}
use Rattle.std.specs.Prelude.{All, OnOk}
use Rattle.std.proofs.lemmas.List.{map-append}
use Rattle.commit_journal.specs.CdBase.ids.Fp.{Fp}
use Rattle.commit_journal.specs.CdEdges.area.Area.{Area}
use Rattle.commit_journal.specs.CdEdges.area.Area.TheVariants.{Journal, Shares, Recipes}
use Rattle.commit_journal.specs.CdEdges.Disk.{Store, Areas, Image, Cloud, LeavesOnly, IsAtArea, reads}
use Rattle.commit_journal.specs.CdEdges.Shelf.{stable}
use Rattle.commit_journal.proofs.CdEdges.Moments.{weaker, joined}
use Rattle.commit_journal.specs.JournalHalves.Records.{IsJournal}
use Rattle.commit_journal.proofs.JournalHalves.Chain.{length-chain-push}
use Rattle.cloud_areas.specs.ContainerLog.Laying.{Placed, placed, IsAt}
use Rattle.cloud_areas.specs.ContainerLog.States as logs
use Rattle.commit_journal.specs.CdBase.place.Place.{Place}
use Rattle.commit_journal.specs.JournalStart.start.Header.{Header}
use Rattle.commit_journal.specs.JournalHalves.Halves.{half_limit, half_of}
use Rattle.commit_journal.specs.JournalHalves.Journals.{Where, all_bodies, with_body, used_by, HasChain, IsEither}
use Rattle.commit_journal.specs.States as journals
use Rattle.cloud_areas.specs.RecordBody.Spelling.{Body, body_bytes, FitsBody}
use Rattle.cloud_areas.specs.UserDedup.command.Command.{Command}
use Rattle.cloud_areas.specs.Placing.{region_start, greatest_end, shares_placed, shares_in, recipes_in, places_of}
use Rattle.cloud_areas.specs.Chains.{laid_shares, AreLong}
use Rattle.cloud_areas.specs.Standing.{Chain, where_of, region_in, IsChain, Holds}
use Rattle.cloud_areas.specs.Adding.{with_record, Adds}
use Rattle.cloud_areas.proofs.Placed.{shares_more}
use Rattle.cloud_disk.specs.Held.{LogHolds, LogsHold, IsHeld, IsBelow, LieIn, with_staged}
use Rattle.cloud_disk.specs.Disk.{Disk, IsOn, IsPrepared, shares_laid, StandsForEither}
use Rattle.cloud_disk.proofs.Blobs.{front_lies, all_right}
use Rattle.cloud_disk.proofs.Holding.{agrees_as}
use Rattle.cloud_disk.proofs.Both.{as_read}
use Rattle.cloud_disk.proofs.Ends.{IsLong, greatest_least, end_all, end_both, shares_end, recipes_end, recipes_said, place_at}
use Rattle.cloud_disk.proofs.Standing.{stands, holds_in}

-- the half's chain is there where the journal is at its end
pub chain_there : (j : journals.JournalState) (store : Store) (w : Where) → journals.IsJournalEnded j store w → HasChain store.read w
chain_there j store w is = record { current = is.is_current; chain_is = subst (λ (h : ℕ). IsJournal (all_bodies w) (half_of h store.read)) is.half is.read.chain_is }

-- one record more takes its body's bytes and five
used_more : (w : Where) (body : List ℕ) → used_by (with_body w body) ≡ used_by w + 5 + length body
used_more w body = omega (arith, length-chain-push (all_bodies w) body)

-- the law of one record more, for one record
pub record OneMore (header : Header) (list : List Command) (c : Chain) (command : Command) (body : Body) (laid : List Placed) : Type 0 where
  pub holds : (image : Image) → Holds header image list c → Adds header image list c command body laid → Holds header image (list ++ command ∷ []) (with_record c body laid)
  pub where_is : where_of (with_record c body laid) ≡ with_body (where_of c) (body_bytes body)
  pub in_journal : (old new : List ℕ) → IsChain header (half_limit header.rooms) old c → FitsBody body → HasChain new (with_body (where_of c) (body_bytes body))
      → used_by (with_body (where_of c) (body_bytes body)) ≤ half_limit header.rooms → IsChain header (half_limit header.rooms) new (with_record c body laid)

module _ (header : Header) (list : List Command) (c : Chain) (command : Command) (body : Body) (laid : List Placed) (law : OneMore header list c command body laid)
    (disk : Disk) (bytes : List ℕ) (c0 : Cloud) (p : IsPrepared header list c command body laid disk bytes c0) where
  abbrev in_shares : List Placed
  in_shares = laid_shares list (shares_in c.records)

  -- what lies in the areas with what was staged
  abbrev all_shares : List Placed
  all_shares = with_staged in_shares disk.shares p.shares.strings

  abbrev all_recipes : List Placed
  all_recipes = with_staged c.recipes disk.recipes p.recipes.strings

  abbrev next : List Command
  next = list ++ command ∷ []

  abbrev longer : Chain
  longer = with_record c body laid

  abbrev Kept : Image → Type 0
  Kept = StandsForEither header list command

  abbrev HasRoom : Type 0
  HasRoom = disk.journal.current.gate + 1 + (length bytes + 5) ≤ disk.journal.limit

  within : HasRoom → used_by (with_body (where_of c) (body_bytes body)) ≤ half_limit header.rooms
  within room = omega (arith, room, p.on.read.limit, p.on.read.ended.read.gate, ap (λ (l : List ℕ). length l) p.is_body.spelled, used_more (where_of c) (body_bytes body))

  -- while the areas have what they had
  without : (image : Image) → IsChain header (half_limit header.rooms) (image Journal) c → LieIn in_shares (image Shares) → LieIn c.recipes (image Recipes) → Kept image
  without image there shares recipes = inl (stands image header list c p.on.read.sound there (holds_in header (reads c0.now) image list c p.on.read.holds shares recipes))

  new_shares : (image : List ℕ) → LieIn all_shares image → LieIn (shares_laid list command body) image
  new_shares image lie = subst (λ (bs : List Placed). LieIn bs image) (sym p.shares.places) (all_right (IsAt image) in_shares (placed disk.shares.end p.shares.strings) lie)

  new_recipes : (image : List ℕ) → LieIn all_recipes image → LieIn laid image
  new_recipes image lie = subst (λ (bs : List Placed). LieIn bs image) (sym p.recipes.places) (all_right (IsAt image) c.recipes (placed disk.recipes.end p.recipes.strings) lie)

  adds : (image : Image) → LieIn all_shares (image Shares) → LieIn all_recipes (image Recipes) → Adds header image list c command body laid
  adds image shares recipes = record {
    is_record = p.is_record;
    sound = p.sound;
    fits = p.is_body.fits;
    shares = new_shares (image Shares) shares;
    recipes = new_recipes (image Recipes) recipes;
    rooms = p.rooms;
  }

  -- once they have the record too
  holds_next : (image : Image) → LieIn all_shares (image Shares) → LieIn all_recipes (image Recipes) → Holds header image next longer
  holds_next image shares recipes =
      law.holds image
      (holds_in header (reads c0.now) image list c p.on.read.holds (front_lies (image Shares) in_shares (placed disk.shares.end p.shares.strings) shares) (front_lies (image Recipes) c.recipes (placed disk.recipes.end p.recipes.strings) recipes))
      (adds image shares recipes)

  chain_next : HasRoom → (journal : List ℕ) → HasChain journal (with_body (where_of c) bytes) → IsChain header (half_limit header.rooms) journal longer
  chain_next room journal there =
      law.in_journal (c0.now Journal).read journal p.on.read.is_chain p.is_body.fits
      (subst (λ (b : List ℕ). HasChain journal (with_body (where_of c) b)) p.is_body.spelled there) (within room)

  -- ---- images

  pub held_image : (image : Image) → IsHeld (c0.now Journal).read in_shares c.recipes image → Kept image
  held_image image held =
      without image (subst (λ (j : List ℕ). IsChain header (half_limit header.rooms) j c) (sym held.journal_is) p.on.read.is_chain) held.shares_lie held.recipes_lie

  pub while_flushed : (c1 : Cloud) → LeavesOnly c0 c1 (IsHeld (c0.now Journal).read in_shares c.recipes) → LeavesOnly c0 c1 Kept
  while_flushed c1 run = weaker c0 c1 _ _ run held_image

  appended_image : HasRoom → (shares recipes : logs.State) (now : Areas) (image : Image) → LogsHold all_shares all_recipes shares recipes now
      → IsAtArea now Journal (IsEither (where_of c) (with_body (where_of c) bytes)) image → Kept image
  appended_image room shares recipes now image h at = by_journal at.area
    where
      shares_lie : LieIn all_shares (image Shares)
      shares_lie = subst (LieIn all_shares) (sym (as_read (now Shares) (image Shares) h.shares_held.on_disk (at.others Shares (λ e. cc)))) h.shares_held.laid

      recipes_lie : LieIn all_recipes (image Recipes)
      recipes_lie = subst (LieIn all_recipes) (sym (as_read (now Recipes) (image Recipes) h.recipes_held.on_disk (at.others Recipes (λ e. cc)))) h.recipes_held.laid

      by_journal : HasChain (image Journal) (where_of c) ⊎ HasChain (image Journal) (with_body (where_of c) bytes) → Kept image
      by_journal (inl before) =
          let is = p.on.read.is_chain in
          without image (record { there = before; header_is = is.header_is; within = is.within; fit = is.fit })
          (front_lies (image Shares) in_shares (placed disk.shares.end p.shares.strings) shares_lie) (front_lies (image Recipes) c.recipes (placed disk.recipes.end p.recipes.strings) recipes_lie)
      by_journal (inr after) = inr (stands image header next longer p.sound (chain_next room (image Journal) after) (holds_next image shares_lie recipes_lie))

  -- and then the record is added
  pub while_added : HasRoom → (shares recipes : logs.State) (c1 c2 : Cloud) → LeavesOnly c0 c1 (IsHeld (c0.now Journal).read in_shares c.recipes)
      → LogsHold all_shares all_recipes shares recipes c1.now
      → LeavesOnly c1 c2 (IsAtArea c1.now Journal (IsEither (where_of c) (with_body (where_of c) bytes))) → LeavesOnly c0 c2 Kept
  while_added room shares recipes c1 c2 first h run =
      joined c0 c1 c2 _ (while_flushed c1 first) (weaker c1 c2 _ _ run (λ image at. appended_image room shares recipes c1.now image h at))

  -- the journal is what it was before the record is added
  pub still_ended : (c1 : Cloud) → c1.now Journal ≡ c0.now Journal → journals.IsJournalEnded disk.journal (c1.now Journal) (where_of c)
  still_ended c1 same = subst (λ (s : Store). journals.IsJournalEnded disk.journal s (where_of c)) (sym same) p.on.read.ended

  -- ---- after Ok

  shares_behind : (new : logs.State) (now : Areas) → LogHolds Shares all_shares new now → new.end ≡ logs.staged_end disk.shares → AreLong next (shares_in longer.records)
      → greatest_end (region_start (region_in c)) (places_of (shares_in longer.records)) ≤ new.end
  shares_behind new now h end long =
      let old : greatest_end (region_start (region_in c)) (places_of (shares_in c.records)) ≤ new.end = omega (arith, p.on.shares.behind, end) in
      let below = subst (λ (bs : List Placed). All (IsBelow new.end) bs) (sym p.shares.places) (all_right (IsBelow new.end) in_shares (placed disk.shares.end p.shares.strings) h.below) in
      subst (λ (ps : List Place). greatest_end (region_start (region_in c)) ps ≤ new.end)
      (sym (ap (λ (xs : List (Fp × Place)). places_of xs) (shares_more c.records body) ∙ map-append (λ (x : Fp × Place). x.1) (shares_in c.records) (shares_placed body)))
      (end_both (region_start (region_in c)) new.end (places_of (shares_in c.records)) (places_of (shares_placed body)) old
      (shares_end next new.end (shares_placed body) (all_right (IsLong next) (shares_in c.records) (shares_placed body) (subst (AreLong next) (shares_more c.records body) long)) below))

  recipes_behind : (new : logs.State) (now : Areas) → LogHolds Recipes all_recipes new now → new.end ≡ logs.staged_end disk.recipes → Holds header (reads now) next longer
      → greatest_end (region_start (region_in c)) (recipes_in longer.records) ≤ new.end
  recipes_behind new now h end holds =
      let start : region_start (region_in c) ≤ new.end = omega (arith, p.on.recipes.behind, end, greatest_least (region_start (region_in c)) (recipes_in c.records)) in
      let below = subst (λ (bs : List Placed). All (IsBelow new.end) (c.recipes ++ bs)) (sym p.recipes.places) h.below in
      subst (λ (ps : List Place). greatest_end (region_start (region_in c)) ps ≤ new.end)
      (sym (recipes_said _ _ _ _ _ longer.records next longer.recipes holds.says))
      (end_all (region_start (region_in c)) new.end (map place_at longer.recipes) start (recipes_end new.end longer.recipes below))

  pub is_on : HasRoom → (new : Disk) (c1 c2 : Cloud) → IsTrue c2.told → LogsHold all_shares all_recipes new.shares new.recipes c1.now
      → new.shares.end ≡ logs.staged_end disk.shares → new.recipes.end ≡ logs.staged_end disk.recipes → new.journal.limit ≡ disk.journal.limit
      → journals.IsJournalEnded new.journal (c2.now Journal) (with_body (where_of c) bytes) → ((other : Area) → other ≢ Journal → c2.now other ≡ c1.now other)
      → IsOn header next longer new c2
  is_on room new c1 c2 told h ends ends_too limit ended others = record {
    read = record {
      told = told;
      sound = p.sound;
      on_disk = disk_is;
      limit = limit ∙ p.on.read.limit;
      ended = subst (λ (w : Where). journals.IsJournalEnded new.journal (c2.now Journal) w) (ap (with_body (where_of c)) p.is_body.spelled ∙ sym law.where_is) ended;
      is_chain = chain_next room (c2.now Journal).read (chain_there new.journal (c2.now Journal) (with_body (where_of c) bytes) ended);
      holds = holds_now;
    };
    shares = record {
      area_is = h.shares_held.area_is;
      behind = shares_behind new.shares c1.now h.shares_held ends holds_now.long;
      agrees = agrees_as new.shares new.shares c1.now c2.now refl refl (subst (λ (a : Area). c2.now a ≡ c1.now a) (sym h.shares_held.area_is) (others Shares (λ e. cc))) h.shares_held.agrees;
    };
    recipes = record {
      area_is = h.recipes_held.area_is;
      behind = recipes_behind_now;
      agrees = agrees_as new.recipes new.recipes c1.now c2.now refl refl (subst (λ (a : Area). c2.now a ≡ c1.now a) (sym h.recipes_held.area_is) (others Recipes (λ e. cc))) h.recipes_held.agrees;
    };
  }
    where
      disk_is : (area : Area) → c2.now area ≡ stable (c2.now area).read
      disk_is Journal = ended.read.synced
      disk_is Shares = subst (λ (s : Store). s ≡ stable s.read) (sym (others Shares (λ e. cc))) h.shares_held.on_disk
      disk_is Recipes = subst (λ (s : Store). s ≡ stable s.read) (sym (others Recipes (λ e. cc))) h.recipes_held.on_disk

      holds_now : Holds header (reads c2.now) next longer
      holds_now = holds_next (reads c2.now)
          (subst (λ (s : Store). LieIn all_shares s.read) (sym (others Shares (λ e. cc))) h.shares_held.laid)
          (subst (λ (s : Store). LieIn all_recipes s.read) (sym (others Recipes (λ e. cc))) h.recipes_held.laid)

      recipes_behind_now : greatest_end (region_start (region_in c)) (recipes_in longer.records) ≤ new.recipes.end
      recipes_behind_now = recipes_behind new.recipes c1.now h.recipes_held ends_too (holds_next (reads c1.now) h.shares_held.laid h.recipes_held.laid)

  pub added_on : HasRoom → {T E : Type 0} (r : Result T E) (new : Disk) (c1 c2 : Cloud) → IsTrue c2.told → LogsHold all_shares all_recipes new.shares new.recipes c1.now
      → new.shares.end ≡ logs.staged_end disk.shares → new.recipes.end ≡ logs.staged_end disk.recipes → new.journal.limit ≡ disk.journal.limit
      → OnOk r (journals.IsJournalEnded new.journal (c2.now Journal) (with_body (where_of c) bytes)) → OnOk r ((other : Area) → other ≢ Journal → c2.now other ≡ c1.now other)
      → OnOk r (IsOn header next longer new c2)
  added_on room (Err e) new c1 c2 told h ends ends_too limit ended others = tt
  added_on room (Ok v) new c1 c2 told h ends ends_too limit ended others = is_on room new c1 c2 told h ends ends_too limit ended others
