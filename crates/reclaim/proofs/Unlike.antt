-- A blob that a copy finds rotten isn't stored where the memory says.
use Rattle.std.proofs.Common.{◌≡◌, ◌<◌, ℕ, zero, suc, List, Option, Some, refl, sym, ap, ◌∙◌, subst, arith, inl, inr}
use Rattle.std.specs.FinMap.{get}
use Rattle.std.specs.List.{Contains}
use Rattle.share_server.specs.CdBase.ids.Fp.{Fp}
use Rattle.share_server.specs.CdBase.place.Place.{Place}
use Rattle.share_server.specs.CdEdges.area.Area.TheVariants.{Shares, Recipes}
use Rattle.share_server.specs.CdEdges.Disk.{Image}
use Rattle.compact_memories.specs.FileIndex.key.Entry.{Entry}
use Rattle.compact_memories.specs.FileIndex.key.FileKey.{FileKey}
use Rattle.compact_memories.specs.ShareIndex.Shares.{owners_of}
use Rattle.compact_memories.specs.CloudMemory.cloud.CloudMemory.{CloudMemory}
use Rattle.compact_memories.specs.Checkpoints.Known.{AreListed}
use Rattle.compact_memories.proofs.Checkpoints.Sought.{from_picked}
use Rattle.compact_memories.specs.Kept.{live_at, live_places, live_entries}
use Rattle.compact_memories.proofs.Live.{live_gives}
use Rattle.blob_audit.specs.AuditBase.Whole.{IsOwned, IsStored, stored_at, tables_of}
use Rattle.blob_audit.specs.Reading.{IsUnlike, Share, File}
use Rattle.blob_audit.proofs.Owners.{owned_by_some}
use Rattle.share_server.specs.BlobCopy.Answers.{IsRotten, SomeRotten}

above : (n : ℕ) → (n ≡ 0 → ⊥) → 0 < n
above zero some = absurd (some refl)
above (suc n) some = omega arith

not_stored : (area : List ℕ) (at len : ℕ) (named found : Fp) → IsRotten (stored_at area at len) len named found → IsStored area at len named → ⊥
not_stored area at len named found is stored =
    elim is.wrong [
      | inl short ↦ let full = stored.full in absurd (omega (arith, short, full))
      | inr other ↦ other (sym is.hashed ∙ stored.hash)
    ]

module _ (memory : CloudMemory) (l : AreListed memory) where
  placed : (x : Fp × Place) → Contains (live_places memory) x → (get memory.shares.places x.0.0 ≡ Some x.1) × IsOwned (tables_of memory) x.0
  placed x c =
      let s = from_picked (live_at memory.shares.owners) refl memory.shares.place_slots x c in
      let g = live_gives memory.shares.owners s.entry x s.picks in
      let bytes : s.entry.0 ≡ x.0.0 = ap (λ (y : Fp × Place). y.0.0) g.1 in
      let place : s.entry.1 ≡ x.1 = ap (λ (y : Fp × Place). y.1) g.1 in (
        ap (get memory.shares.places) (sym bytes) ∙ l.places.listed s.slot s.entry.0 s.entry.1 s.here ∙ ap Some place,
        owned_by_some (tables_of memory) x.0 (above (owners_of memory.shares.owners x.0.0) (λ none. g.0 (ap (owners_of memory.shares.owners) bytes ∙ none))),
      )

  entered : (x : FileKey × Entry) → Contains (live_entries memory) x → get memory.files.files x.0 ≡ Some x.1
  entered x c =
      let s = from_picked (λ (e : Option (FileKey × Entry)). e) refl memory.files.slots x c in
      let same : s.entry ≡ x = let two : Some s.entry ≡ Some x = s.picks in cc in
      l.entries.listed s.slot x.0 x.1 (s.here ∙ ap Some same)

  -- a share, or a recipe
  pub unlike : (areas : Image) (named found : Fp) → SomeRotten memory areas named found → IsUnlike areas (tables_of memory) named found
  unlike areas named found (inl is) =
      let x = is.0 in
      let p = placed x is.1 in
      let rotten = subst (λ (n : Fp). IsRotten (stored_at (areas Shares) x.1.at x.1.len) x.1.len n found) (sym is.2) is.3 in
      subst (λ (n : Fp). IsUnlike areas (tables_of memory) n found) is.2
      (Share x.1 p.1 p.0 (sym is.3.hashed) (not_stored (areas Shares) x.1.at x.1.len x.0 found rotten))
  unlike areas named found (inr is) =
      let x = is.0 in
      let rotten = subst (λ (n : Fp). IsRotten (stored_at (areas Recipes) x.1.at x.1.len) x.1.len n found) (sym is.2) is.3 in
      File (record { 0 = x.0.user }) (record { 0 = x.0.tag }) (record { 0 = x.0.version }) x.1 (entered x is.1) is.2 (sym is.3.hashed)
      (not_stored (areas Recipes) x.1.at x.1.len x.1.fp found rotten)
