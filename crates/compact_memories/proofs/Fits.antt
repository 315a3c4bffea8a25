-- What is moved fits records as before.
use Rattle.std.proofs.Common.{◌≡◌, ℕ, ◌≤◌, Option, Some, None, refl, sym, ap, ◌∙◌, subst, arith}
use Rattle.std.specs.Prelude.{is_some, IsSome, option_map}
use Rattle.std.specs.FinMap.{get}
use Rattle.std.specs.List.{Contains}
use Rattle.compact_lists.specs.CdBase.ids.Fp.{Fp}
use Rattle.compact_lists.specs.CdBase.place.Place.{Place}
use Rattle.checkpoints.specs.FileIndex.key.Entry.{Entry}
use Rattle.checkpoints.specs.FileIndex.key.FileKey.{FileKey}
use Rattle.checkpoints.specs.ShareIndex.Order.{owner_of}
use Rattle.checkpoints.proofs.ShareIndexLaws.Owning.{value-of}
use Rattle.checkpoints.specs.CloudMemory.cloud.CloudMemory.{CloudMemory}
use Rattle.checkpoints.specs.CloudMemory.Fitting.{FitsRecords}
use Rattle.checkpoints.specs.CloudMemory.Memory.{Memory, summary}
use Rattle.checkpoints.specs.CloudMemory.Rooms.{memory_of}
use Rattle.checkpoints.specs.Known.{AreListed}
use Rattle.checkpoints.proofs.Holders.{owners_some}
use Rattle.checkpoints.proofs.Sought.{from_picked, in_picked}
use Rattle.compact_memories.specs.Kept.{live_at, live_places}
use Rattle.compact_memories.specs.Moved.{IsMoved}
use Rattle.compact_memories.proofs.Compacted.{IsLike}
use Rattle.compact_memories.proofs.Live.{live_gives, live_as}
use Rattle.compact_memories.proofs.Moving.{moved_like}

module _ (old : CloudMemory) (l : AreListed old) (fit : FitsRecords (memory_of old)) (new : Memory) (like : IsLike old new) where
  was_placed : (fp : Fp) (p : Place) → Contains (live_places old) (fp, p) → get old.shares.places fp.0 ≡ Some p
  was_placed fp p c =
      let s = from_picked (live_at old.shares.owners) refl old.shares.place_slots (fp, p) c in
      let g = live_gives old.shares.owners s.entry (fp, p) s.picks in
      ap (get old.shares.places) (sym (ap (λ (x : Fp × Place). x.0.0) g.1)) ∙ l.places.listed s.slot s.entry.0 s.entry.1 s.here ∙ ap Some (ap (λ (x : Fp × Place). x.1) g.1)

  was_entered : (key : FileKey) (e : Entry) → get new.files key ≡ Some e → (d : Entry) × (get old.files.files key ≡ Some d) × (e.len ≡ d.len)
  was_entered key e got = by_old (get old.files.files key) refl
    where
      same : option_map summary (get old.files.files key) ≡ Some (summary e)
      same = sym (like.files key) ∙ ap (option_map summary) got

      by_old : (o : Option Entry) → get old.files.files key ≡ o → (d : Entry) × (get old.files.files key ≡ Some d) × (e.len ≡ d.len)
      by_old None is = absurd (let no : ◌≡◌ {A = Option (ℕ × Fp)} None (Some (summary e)) = sym (ap (option_map summary) is) ∙ same in cc)
      by_old (Some d) is =
          let two : ◌≡◌ {A = Option (ℕ × Fp)} (Some (summary d)) (Some (summary e)) = sym (ap (option_map summary) is) ∙ same in
          let one : summary d ≡ summary e = cc in
          (d, is, sym (ap (λ (x : ℕ × Fp). x.0) one))

  pub like_fits : FitsRecords new
  like_fits = record {
    shares = λ fp place got.
        let f = like.from (record { 0 = fp }) place got in
        let both = fit.shares fp f.0 (was_placed (record { 0 = fp }) f.0 f.1) in
        let least = both.0 in let most = both.1 in let same = f.2 in
        (omega (arith, least, same), omega (arith, most, same));
    recipes = λ key e got. let w = was_entered key e got in let least = fit.recipes key w.0 w.1 in let same = w.2 in omega (arith, least, same);
    short = λ key e got. let w = was_entered key e got in let most = fit.short key w.0 w.1 in let same = w.2 in omega (arith, most, same);
    placed = λ user fp some.
        let had = subst (λ m. IsSome (get m (owner_of user fp))) like.owners some in
        let uses = value-of (get old.shares.owners (owner_of user fp)) had in
        let p = value-of (get old.shares.places fp) (fit.placed user fp had) in
        let s = l.places.stands fp p.0 p.1 in
        let many = owners_some old.shares.owners user fp uses.0 uses.1 in
        let live = in_picked (live_at old.shares.owners) refl old.shares.place_slots s.0 (fp, p.0) (record { 0 = fp }, p.0) s.2 (live_as old.shares.owners (fp, p.0) (λ none. omega (arith, many, none))) in
        let t = like.to (record { 0 = fp }) p.0 live in
        ap is_some t.1;
  }

pub moved_fits : (region : ℕ) (old : CloudMemory) (new : Memory) → AreListed old → FitsRecords (memory_of old) → IsMoved region old new → FitsRecords new
moved_fits region old new l fit is = like_fits old l fit new (moved_like old l region new is)
