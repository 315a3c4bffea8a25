-- A container of copies more, in an area of blobs.
use Rattle.std.proofs.Common.{◌≡◌, ◌⊎◌, ℕ, ◌+◌, ◌≤◌, Bool, IsTrue, List, [], ◌∷◌, length, map, drop, Option, refl, sym, ap, ◌∙◌, subst, arith, inl, inr}
use Rattle.std.specs.Prelude.{All, slice_index_or}
use Rattle.fresh_checkpoints.specs.CdEdges.area.Area.{Area}
use Rattle.fresh_checkpoints.specs.CdEdges.area.Area.TheVariants.{Journal, Shares, Recipes}
use Rattle.fresh_checkpoints.specs.CdEdges.Disk.{Cloud, Store, reads}
use Rattle.fresh_checkpoints.specs.CdEdges.Shelf.{stable}
use Rattle.record_laws.specs.ContainerLog.Laying.{Placed, IsAt, lengths, laid}
use Rattle.record_laws.specs.ContainerLog.Places.{end_of_laid}
use Rattle.record_laws.specs.ContainerLog.States.{State, in_area}
use Rattle.record_laws.proofs.ContainerLog.Laid.{end_laid}
use Rattle.cloud_store.specs.CommitJournal.States as journals
use Rattle.fresh_checkpoints.specs.JournalHalves.Halves.{half_limit}
use Rattle.compact_lists.specs.JournalStart.start.Header.{Header}
use Rattle.compact_lists.specs.UserDedup.command.Command.{Command}
use Rattle.fresh_checkpoints.specs.CloudAreas.Chains.{laid_shares}
use Rattle.fresh_checkpoints.specs.CloudAreas.Placing.{shares_in}
use Rattle.fresh_checkpoints.specs.CloudAreas.Standing.{Chain, where_of, IsChain}
use Rattle.fresh_checkpoints.specs.CloudDisk.Disk.{IsRead}
use Rattle.fresh_checkpoints.specs.CloudDisk.Held.{LieIn}
use Rattle.fresh_checkpoints.proofs.CloudDiskLaws.Standing.{holds_in}
use Rattle.fresh_checkpoints.specs.Checkpoints.Picking.{picked}
use Rattle.fresh_checkpoints.proofs.CompactMemories.Relaying.{laid_grows}
use Rattle.blob_copy.specs.Apart.{IsApart}
use Rattle.blob_copy.specs.Copies.{Blob, IsRight, copies_at}
use Rattle.blob_copy.specs.Runs.{AreBlobsRead, CopiesTo, blob_lens, all_end}
use Rattle.blob_copy.proofs.Gathered.{laid_append, lens_blobs}
use Rattle.blob_copy.proofs.Rightly.{are_right, are_copies}

read_lens : (told : Bool) (area : List ℕ) (bs : List Blob) (ss : List (List ℕ)) → AreBlobsRead told area bs ss → lengths ss ≡ blob_lens bs
read_lens told area [] [] read = refl
read_lens told area [] (s ∷ ss) read = absurd read
read_lens told area (b ∷ bs) [] read = absurd read
read_lens told area (b ∷ bs) (s ∷ ss) read = let long = read.0.long in let rest = read_lens told area bs ss read.1 in λ i. long i ∷ rest i

-- apart, as many as all
pub all_stay : (P : Placed → Type 0) (one two : List ℕ) (bs : List Placed) → ((b : Placed) → P b → IsAt one b → IsAt two b) → All P bs → All (IsAt one) bs → All (IsAt two) bs
all_stay P one two bs stays apart at = λ k d lt. stays (slice_index_or bs k d) (apart k d lt) (at k d lt)

module _ {E X : Type 0} (f : Option E → Option X) (blob : X → Blob) (slots : List (Option E)) (from to : ℕ) (before after : State) (old new : Cloud) (k : CopiesTo f blob slots from to before after old new) where
  -- they end where all that is alive ends at the latest
  pub reaches_within : before.end + length (laid before.end k.strings) ≤ all_end f blob slots from before.end
  reaches_within =
      let lens = blob_lens (map blob k.more) in let rest = blob_lens (map blob (picked f (drop to slots))) in
      let whole : all_end f blob slots from before.end ≡ end_of_laid (end_of_laid before.end lens) rest =
      ap (λ (xs : List X). end_of_laid before.end (blob_lens (map blob xs))) k.left ∙ ap (end_of_laid before.end) (lens_blobs f blob slots k.more (picked f (drop to slots))) ∙ laid_append before.end lens rest in
      let ends : before.end + length (laid before.end k.strings) ≡ end_of_laid before.end lens =
      end_laid before.end k.strings ∙ ap (end_of_laid before.end) (read_lens old.told (in_area before old) (map blob k.more) k.strings k.read) in
      let grows = laid_grows (end_of_laid before.end lens) rest in
      omega (arith, whole, ends, grows)

  module _ (told : IsTrue old.told) where
    pub right : All (IsRight (in_area before old)) (map blob k.more)
    right = are_right old.told (in_area before old) (map blob k.more) k.strings k.read told

    pub copies_lie : All (IsAt (in_area before new)) (copies_at (in_area before old) before.end (map blob k.more))
    copies_lie = subst (λ (ps : List Placed). All (IsAt (in_area before new)) ps) (are_copies old.told (in_area before old) before.end (map blob k.more) k.strings k.read told) (k.lie told)

    pub stays_at : (b : Placed) → IsApart before.end (laid before.end k.strings) b → IsAt (in_area before old) b → IsAt (in_area before new) b
    stays_at b apart at = k.apart told b apart at

    -- in front of the end, and behind all that is copied
    pub stays_beside : (bound : ℕ) → all_end f blob slots from before.end ≤ bound → (b : Placed) → (b.place + length b.blob ≤ before.end) ⊎ (bound ≤ b.place) → IsAt (in_area before old) b → IsAt (in_area before new) b
    stays_beside bound few b side at = stays_at b (apart side) at
      where
        apart : (b.place + length b.blob ≤ before.end) ⊎ (bound ≤ b.place) → IsApart before.end (laid before.end k.strings) b
        apart (inl front) = inl front
        apart (inr behind) = let within = reaches_within in inr (omega (arith, within, few, behind))

-- ---- the journal was read to its end, and its chain holds the list

pub reads_on : (header : Header) (list : List Command) (c : Chain) (journal : journals.JournalState) (old new : Cloud) → IsRead header list c journal old → IsTrue new.told → new.now Journal ≡ old.now Journal
    → ((area : Area) → new.now area ≡ stable (new.now area).read) → LieIn (laid_shares list (shares_in c.records)) (new.now Shares).read → LieIn c.recipes (new.now Recipes).read → IsRead header list c journal new
reads_on header list c journal old new r told journal_is on_disk shares recipes = record {
  told = told;
  sound = r.sound;
  on_disk = on_disk;
  limit = r.limit;
  ended = subst (λ (s : Store). journals.IsJournalEnded journal s (where_of c)) (sym journal_is) r.ended;
  is_chain = subst (λ (s : Store). IsChain header (half_limit header.rooms) s.read c) (sym journal_is) r.is_chain;
  holds = holds_in header (reads old.now) (reads new.now) list c r.holds shares recipes;
}
