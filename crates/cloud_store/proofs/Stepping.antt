-- What a Put, a Commit and a Delete give in the memory, step by step.
use Rattle.std.proofs.Common.{◌≡◌, ℕ, ◌+◌, ◌*◌, ◌/◌, ◌%◌, ◌≤◌, max, Bool, true, false, cond, List, [], ◌∷◌, ◌++◌, length, map, Option, Some, None, refl, sym, ap, ◌∙◌, subst, arith}
use Rattle.std.specs.Prelude.{All, nat_le}
use Rattle.std.specs.FinMap.{FinMap, insert, remove}
use Rattle.std.proofs.lemmas.List.Elements.{All-nil, All-cons, All-head}
use Rattle.recipe.specs.CdBase.ids.Fp.{Fp}
use Rattle.recipe.specs.CdBase.ids.Tag.{Tag}
use Rattle.recipe.specs.CdBase.ids.UserId.{UserId}
use Rattle.recipe.specs.CdBase.ids.Version.{Version}
use Rattle.checkpoints.specs.CdEdges.Disk.{Cloud}
use Rattle.checkpoints.specs.ContainerLog.Laying.{Placed, placed}
use Rattle.checkpoints.specs.ContainerLog.Places.{container_len, place_of, end_after}
use Rattle.checkpoints.specs.ContainerLog.States as logs
use Rattle.checkpoints.specs.FileIndex.key.Entry.{Entry}
use Rattle.checkpoints.specs.FileIndex.Files.{key_of}
use Rattle.checkpoints.specs.FileIndex.Order.{key_cmp}
use Rattle.checkpoints.specs.JournalStart.start.Header.{Header}
use Rattle.checkpoints.specs.RecordBody.body.CommitBody.{CommitBody}
use Rattle.checkpoints.specs.RecordBody.body.PutItem.{PutItem}
use Rattle.checkpoints.specs.RecordBody.body.DeleteBody.{DeleteBody}
use Rattle.checkpoints.specs.RecordBody.Spelling as bodies
use Rattle.checkpoints.specs.RecordBody.Spelling.{Body, FitsBody}
use Rattle.recipe.specs.CdBase.place.Place.{Place}
use Rattle.checkpoints.specs.UserDedup.Cloud.{fingerprint}
use Rattle.checkpoints.specs.UserDedup.command.Command.{Command}
use Rattle.checkpoints.specs.UserDedup.command.Command.TheVariants as asked
use Rattle.checkpoints.specs.UserDedup.Dedup.{IsSound}
use Rattle.checkpoints.specs.UserDedup.Spending.{full_for}
use Rattle.checkpoints.proofs.UserDedup.Spending.{never_full}
use Rattle.checkpoints.specs.CloudAreas.Chains.{IsRecord, commit_of}
use Rattle.checkpoints.specs.CloudAreas.Laid.{AreLaid, end_behind}
use Rattle.checkpoints.specs.CloudAreas.Placing.{end_of, places_given, places_of}
use Rattle.checkpoints.specs.CloudAreas.Standing.{Chain}
use Rattle.checkpoints.specs.CloudDisk.Disk.{Disk, Stages}
use Rattle.checkpoints.specs.CloudMemory.cloud.CloudMemory.{CloudMemory}
use Rattle.checkpoints.specs.CloudMemory.rooms.New.{New}
use Rattle.checkpoints.specs.CloudMemory.Memory.{Memory, Remembers, IsPlacedBy, HasEnds}
use Rattle.checkpoints.specs.CloudMemory.News.{AreOf, AreNewTo}
use Rattle.checkpoints.specs.CloudMemory.Rooms.{memory_of}
use Rattle.checkpoints.specs.CloudMemory.Steps.{with_item, with_items, with_put, parts_of, with_commit, without_entry}
use Rattle.checkpoints.proofs.MemoryProofs.EndsLaw.{put_ends, commit_ends, delete_ends}
use Rattle.checkpoints.proofs.MemoryProofs.PlacingLaw.{put_placed, commit_placed, delete_placed}
use Rattle.checkpoints.proofs.MemoryProofs.Puts.{files_stay}
use Rattle.checkpoints.proofs.MemoryProofs.Recording.{parts_laid}
use Rattle.cloud_store.specs.Store.{ServesBy}
use Rattle.cloud_store.proofs.Next.{IsNext}
use Rattle.cloud_store.proofs.Putting.{put_laid}

-- a blob lies at the end or behind it
pub place_after : (end len : ℕ) → end ≤ place_of end len
place_after end len = by_test (nat_le (end % container_len + len) container_len)
  where
    by_test : (b : Bool) → end ≤ cond b end ((end / container_len + 1) * container_len)
    by_test true = omega arith
    by_test false = omega arith

-- ---- what is staged fits a container

blobs_of : (end : ℕ) (strings : List (List ℕ)) → map (λ (b : Placed). b.blob) (placed end strings) ≡ strings
blobs_of end [] = refl
blobs_of end (s ∷ strings) = ap (λ (l : List (List ℕ)). s ∷ l) (blobs_of (end_after end (length s)) strings)

pub staged_small : (log : logs.State) (b : Placed) → Stages log (b ∷ []) → length b.blob ≤ container_len
staged_small log b s =
    let same : b.blob ∷ [] ≡ s.strings = ap (map (λ (p : Placed). p.blob)) s.places ∙ blobs_of log.end s.strings in
    All-head (λ (blob : List ℕ). length blob ≤ container_len) b.blob [] (subst (All (λ (blob : List ℕ). length blob ≤ container_len)) (sym same) s.staged.fit)

-- ---- the end behind the shares of a Put

one_filled : (user : UserId) (fp : Fp) (o : Option Place) (items : List PutItem) (m : Memory) → AreLaid m.shares_end (places_of (places_given (record { fp = fp; place = o } ∷ items)))
    → ((n : Memory) → AreLaid n.shares_end (places_of (places_given items)) → (with_items user n items).shares_end ≡ end_behind n.shares_end (places_of (places_given items)))
    → (with_items user m (record { fp = fp; place = o } ∷ items)).shares_end ≡ end_behind m.shares_end (places_of (places_given (record { fp = fp; place = o } ∷ items)))
one_filled user fp None items m laid then = then (with_item user m (record { fp = fp; place = None })) laid
one_filled user fp (Some p) items m laid then =
    let further = place_after m.shares_end p.len in
    let at : p.at ≡ place_of m.shares_end p.len = laid.0 in
    let end : max m.shares_end (end_of p) ≡ end_of p = omega (arith, further, at) in
    then (with_item user m (record { fp = fp; place = Some p })) (subst (λ (e : ℕ). AreLaid e (places_of (places_given items))) (sym end) laid.1)
    ∙ ap (λ (e : ℕ). end_behind e (places_of (places_given items))) end

all_filled : (user : UserId) (items : List PutItem) (m : Memory) → AreLaid m.shares_end (places_of (places_given items))
    → (with_items user m items).shares_end ≡ end_behind m.shares_end (places_of (places_given items))
all_filled user [] m laid = refl
all_filled user (item ∷ items) m laid = one_filled user item.fp item.place items m laid (all_filled user items)

ended_still : (user : UserId) (items : List PutItem) (m : Memory) → (with_items user m items).recipes_end ≡ m.recipes_end
ended_still user [] m = refl
ended_still user (item ∷ items) m = ended_still user items (with_item user m item)

module _ (header : Header) (list : List Command) (c : Chain) (commands region : ℕ) (memory new : CloudMemory) (disk : Disk) (cloud : Cloud)
    (s : ServesBy header list c commands region memory disk cloud) where
  abbrev m : Memory
  m = memory_of memory

  -- ---- a Put

  pub put_next : (user : UserId) (news : List New) (strings : List (List ℕ)) → IsSound header.shape header.cloud.0 (list ++ asked.Put user strings ∷ [])
      → AreOf news strings → AreNewTo m user news → full_for header.shape header.rooms list (asked.Put user strings) ≡ None
      → FitsBody (bodies.Put user (parts_of user m news)) → Remembers header.shape (list ++ asked.Put user strings ∷ []) (memory_of new)
      → IsRecord region c.records list (asked.Put user strings) (bodies.Put user (parts_of user m news)) []
      → memory_of new ≡ with_put user (parts_of user m news) m
      → IsNext header list c region memory new (asked.Put user strings) (bodies.Put user (parts_of user m news)) []
  put_next user news strings sound of are room fits remembers is_record taken = record {
    sound = sound;
    room = room;
    is_record = is_record;
    fits = fits;
    behind = put_laid user m news fits;
    laid_are = refl;
    remembers = remembers;
    placed = subst (IsPlacedBy (c.records ++ bodies.Put user (parts_of user m news) ∷ [])) (sym taken) (put_placed c.records user news m s.known.placed);
    ends =
        subst (HasEnds region (list ++ asked.Put user strings ∷ []) (c.records ++ bodies.Put user (parts_of user m news) ∷ [])) (sym taken)
        (put_ends header.shape header.cloud.0 list user strings news m region c.records s.known.on.read.sound s.known.remembers of are s.ends);
    shares_end = ap (λ (n : Memory). n.shares_end) taken ∙ all_filled user (parts_of user m news) m (parts_laid user m news);
    recipes_end = ap (λ (n : Memory). n.recipes_end) taken ∙ ended_still user (parts_of user m news) m;
    files = λ area n same. ap (λ (k : Memory). k.files) taken ∙ files_stay user m (parts_of user m news) ∙ sym same ∙ sym (files_stay user n (parts_of user m news));
  }

  -- ---- a Commit

  module _ (user : UserId) (tag : Tag) (version : Version) (fp : Fp) (len : ℕ) (names : List Fp) (bytes : List ℕ) where
    abbrev body : CommitBody
    body = record { user = user; tag = tag; version = version; at = place_of memory.recipes_end len; len = len; fp = fp }

    abbrev blob : Placed
    blob = record { place = place_of memory.recipes_end len; blob = bytes }

    pub commit_next : IsSound header.shape header.cloud.0 (list ++ asked.Commit user tag version bytes ∷ []) → fingerprint bytes ≡ fp → length bytes ≡ len
        → full_for header.shape header.rooms list (asked.Commit user tag version bytes) ≡ None → FitsBody (bodies.Commit body) → Stages disk.recipes (blob ∷ [])
        → Remembers header.shape (list ++ asked.Commit user tag version bytes ∷ []) (memory_of new)
        → IsRecord region c.records list (asked.Commit user tag version bytes) (bodies.Commit body) (blob ∷ [])
        → memory_of new ≡ with_commit names body m
        → IsNext header list c region memory new (asked.Commit user tag version bytes) (bodies.Commit body) (blob ∷ [])
    commit_next sound fp_is len_is room fits staged remembers is_record taken =
        let further = place_after memory.recipes_end len in
        let small : length bytes ≤ container_len = staged_small disk.recipes blob staged in record {
          sound = sound;
          room = room;
          is_record = is_record;
          fits = fits;
          behind = record {
            shares_laid = tt;
            shares_small = All-nil (λ (p : Place). p.len ≤ container_len);
            recipes_laid = (refl, tt);
            recipes_small = All-cons (λ (p : Place). p.len ≤ container_len) (record { at = body.at; len = len }) [] (omega (arith, small, len_is)) (All-nil (λ (p : Place). p.len ≤ container_len));
          };
          laid_are = λ i. record { at = body.at; len = sym len_is i } ∷ [];
          remembers = remembers;
          placed = subst (IsPlacedBy (c.records ++ bodies.Commit body ∷ [])) (sym taken) (commit_placed c.records names body m s.known.placed);
          ends =
              subst (HasEnds region (list ++ asked.Commit user tag version bytes ∷ []) (c.records ++ bodies.Commit body ∷ [])) (sym taken)
              (subst (λ (b : CommitBody). HasEnds region (list ++ asked.Commit user tag version bytes ∷ []) (c.records ++ bodies.Commit b ∷ []) (with_commit names b m)) same
              (commit_ends list user tag version bytes names m region c.records s.ends));
          shares_end = ap (λ (n : Memory). n.shares_end) taken;
          recipes_end = let is = ap (λ (n : Memory). n.recipes_end) taken in omega (arith, is, further);
          files = λ area n alike.
              ap (λ (k : Memory). k.files) taken
              ∙ ap (λ (f : FinMap key_cmp Entry). insert f (key_of user.0 tag.0 version.0) (record { at = body.at; len = len; fp = fp })) (sym alike);
        }
      where
        same : commit_of user tag version bytes (place_of m.recipes_end (length bytes)) ≡ body
        same = λ i. record { user = user; tag = tag; version = version; at = place_of memory.recipes_end (len_is i); len = len_is i; fp = fp_is i }

  -- ---- a Delete

  pub delete_next : (user : UserId) (tag : Tag) (version : Version) (names : List Fp) → IsSound header.shape header.cloud.0 (list ++ asked.Delete user tag version ∷ [])
      → FitsBody (bodies.Delete (record { user = user; tag = tag; version = version })) → Remembers header.shape (list ++ asked.Delete user tag version ∷ []) (memory_of new)
      → memory_of new ≡ without_entry names user (key_of user.0 tag.0 version.0) m
      → IsNext header list c region memory new (asked.Delete user tag version) (bodies.Delete (record { user = user; tag = tag; version = version })) []
  delete_next user tag version names sound fits remembers taken =
      let d : DeleteBody = record { user = user; tag = tag; version = version } in record {
        sound = sound;
        room = never_full header.shape header.rooms list user (tag, version);
        is_record = (refl, refl);
        fits = fits;
        behind = record {
          shares_laid = tt;
          shares_small = All-nil (λ (p : Place). p.len ≤ container_len);
          recipes_laid = tt;
          recipes_small = All-nil (λ (p : Place). p.len ≤ container_len);
        };
        laid_are = refl;
        remembers = remembers;
        placed = subst (IsPlacedBy (c.records ++ bodies.Delete d ∷ [])) (sym taken) (delete_placed c.records names d m s.known.placed);
        ends =
            subst (HasEnds region (list ++ asked.Delete user tag version ∷ []) (c.records ++ bodies.Delete d ∷ [])) (sym taken)
            (delete_ends list user tag version names m region c.records s.ends);
        shares_end = ap (λ (n : Memory). n.shares_end) taken;
        recipes_end = ap (λ (n : Memory). n.recipes_end) taken;
        files = λ area n alike. ap (λ (k : Memory). k.files) taken ∙ ap (λ (f : FinMap key_cmp Entry). remove f (key_of user.0 tag.0 version.0)) (sym alike);
      }
