-- Memories whose blobs move, slot by slot.
use Rattle.std.proofs.Common.{◌≡◌, ℕ, ◌+◌, ◌<◌, ◌≤◌, Bool, cond, List, [], ◌∷◌, length, map, set, drop, Option, Some, None, get_or, refl, sym, ap, ◌∙◌, subst}
use Rattle.std.specs.Prelude.{◌↔◌, option_map}
use Rattle.std.specs.FinMap.{FinMap, get}
use Rattle.std.specs.List.{Contains}
use Rattle.std.proofs.lemmas.Bool.{lt-ltb}
use Rattle.compact_lists.specs.CdBase.ids.Fp.{Fp}
use Rattle.compact_lists.specs.CdBase.ids.UserId.{UserId}
use Rattle.compact_lists.specs.CdBase.place.Place.{Place}
use Rattle.checkpoints.specs.ContainerLog.Places.{place_of, end_after, end_of_laid}
use Rattle.checkpoints.specs.FileIndex.key.Entry.{Entry}
use Rattle.checkpoints.specs.FileIndex.key.FileKey.{FileKey}
use Rattle.checkpoints.specs.FileIndex.Files.{Files}
use Rattle.checkpoints.specs.PoolMap.Slots.{slot_of, IsListed, IsRewritten}
use Rattle.checkpoints.specs.ShareIndex.Order.{owner_cmp}
use Rattle.checkpoints.specs.ShareIndex.Shares.{Shares, owners_of}
use Rattle.checkpoints.specs.CloudMemory.cloud.CloudMemory.{CloudMemory}
use Rattle.checkpoints.specs.CloudMemory.Live as slots
use Rattle.checkpoints.specs.CloudMemory.Live.{owned_only, IsEachLive}
use Rattle.checkpoints.specs.CloudMemory.Memory.{Memory}
use Rattle.checkpoints.specs.CloudMemory.Moving.{with_place, with_recipe_at, lying_at}
use Rattle.checkpoints.specs.CloudMemory.Rooms.{memory_of}
use Rattle.checkpoints.specs.Picking.{picked}
use Rattle.checkpoints.proofs.Sought.{from_picked, in_picked}
use Rattle.compact_memories.specs.Kept.{live_at, live_in, live_places, entries_in, live_entries}
use Rattle.compact_memories.specs.Moved.{new_places, new_entries}
use Rattle.compact_memories.specs.Relaid.{relaid, RelaidSoFar, share_len, share_at, PlacesSoFar, ArePlacesMoved, entry_len, entry_lying, itself, EntriesSoFar, AreEntriesMoved}
use Rattle.compact_memories.proofs.Summing.{found, owned, live_is}
use Rattle.compact_memories.proofs.Relaying.{none_relaid, one_kept, one_moved, all_relaid}

-- ---- shares

module _ (start : ℕ) (first old : CloudMemory) (slot end : ℕ) (p : PlacesSoFar start first old slot end) (below : slot < length old.shares.place_slots) where
  abbrev owners : FinMap owner_cmp ℕ
  owners = old.shares.owners

  same_owners : owners ≡ first.shares.owners
  same_owners = ap (λ (m : Memory). m.owners) p.rest

  -- no user owns what is in the slot
  pub place_kept : live_at owners (slot_of old.shares.place_slots slot) ≡ None → PlacesSoFar start first old (slot + 1) end
  place_kept none = record {
    slots =
        one_kept (live_at first.shares.owners) share_len share_at start first.shares.place_slots old.shares.place_slots slot end p.slots below
        (ap (λ (o : FinMap owner_cmp ℕ). live_at o (slot_of old.shares.place_slots slot)) (sym same_owners) ∙ none);
    files = p.files;
    rest = p.rest;
  }

  module _ (fp : Fp) (place : Place) (live : slots.live_at old.shares slot ≡ Some (fp.0, place)) (each : IsEachLive old.shares) where
    many : 0 < owners_of owners fp.0
    many = (each.listed slot fp.0 place live).1

    is_owned : (at : Place) → owned_only owners (Some (fp.0, at)) ≡ Some (fp.0, at)
    is_owned at = ap (λ (b : Bool). cond b (Some (fp.0, at)) None) (lt-ltb 0 (owners_of owners fp.0) many)

    shown : (at : Place) → live_at first.shares.owners (Some (fp.0, at)) ≡ Some (fp, at)
    shown at =
        ap (λ (o : FinMap owner_cmp ℕ). live_at o (Some (fp.0, at))) (sym same_owners)
        ∙ owned owners (Some (fp.0, at))
        ∙ ap (option_map found) (is_owned at)

    here : live_at first.shares.owners (slot_of old.shares.place_slots slot) ≡ Some (fp, place)
    here =
        ap (λ (o : FinMap owner_cmp ℕ). live_at o (slot_of old.shares.place_slots slot)) (sym same_owners)
        ∙ owned owners (slot_of old.shares.place_slots slot)
        ∙ ap (option_map found) live

    module _ (new : CloudMemory) (at : Place) (at_is : at ≡ record { at = place_of end place.len; len = place.len }) (taken : memory_of new ≡ with_place fp at (memory_of old))
        (moved : IsRewritten old.shares.place_slots new.shares.place_slots fp.0 at) (files : new.files ≡ old.files) where
      same_slot : moved.slot ≡ slot
      same_slot = each.once moved.slot slot fp.0 moved.before place (ap (owned_only owners) moved.was ∙ is_owned moved.before) live

      pub place_moved : PlacesSoFar start first new (slot + 1) (end_after end place.len)
      place_moved = record {
        slots =
            one_moved (live_at first.shares.owners) share_len share_at start first.shares.place_slots old.shares.place_slots slot end p.slots below (fp, place) here (Some (fp.0, at))
            (shown at ∙ ap (λ (q : Place). Some (fp, q)) at_is) new.shares.place_slots
            (moved.now_is ∙ ap (λ (n : ℕ). set old.shares.place_slots n (Some (fp.0, at))) same_slot);
        files = files ∙ p.files;
        rest = λ i. record {
          places = new.shares.places;
          owners = (ap (λ (m : Memory). m.owners) taken ∙ ap (λ (m : Memory). m.owners) p.rest) i;
          files = (ap (λ (m : Memory). m.files) taken ∙ ap (λ (m : Memory). m.files) p.rest) i;
          spent = (ap (λ (m : Memory). m.spent) taken ∙ ap (λ (m : Memory). m.spent) p.rest) i;
          shares_end = (ap (λ (m : Memory). m.shares_end) taken ∙ ap (λ (m : Memory). m.shares_end) p.rest) i;
          recipes_end = (ap (λ (m : Memory). m.recipes_end) taken ∙ ap (λ (m : Memory). m.recipes_end) p.rest) i;
        };
      }

pub places_within : (start : ℕ) (first old : CloudMemory) (slot end limit : ℕ) → PlacesSoFar start first old slot end → end_of_laid start (map share_len (live_places first)) < limit
    → end_of_laid end (map share_len (live_in old.shares.owners (drop slot old.shares.place_slots))) < limit
places_within start first old slot end limit p within =
    subst (λ (n : ℕ). n < limit)
    (sym
    (ap (λ (o : FinMap owner_cmp ℕ). end_of_laid end (map share_len (live_in o (drop slot old.shares.place_slots)))) (ap (λ (m : Memory). m.owners) p.rest)
    ∙ ap (λ (xs : List (Option (List ℕ × Place))). end_of_laid end (map share_len (live_in first.shares.owners xs))) p.slots.left
    ∙ p.slots.whole))
    within

pub no_place_moved : (start : ℕ) (m : CloudMemory) → PlacesSoFar start m m 0 start
no_place_moved start m = record { slots = none_relaid (live_at m.shares.owners) share_len share_at start m.shares.place_slots; files = refl; rest = refl }

as_places : (end : ℕ) (xs : List (Fp × Place)) → relaid share_len share_at end xs ≡ new_places end xs
as_places end [] = refl
as_places end (x ∷ xs) = ap (λ (ys : List (Fp × Place)). (x.0, record { at = place_of end x.1.len; len = x.1.len }) ∷ ys) (as_places (end_after end x.1.len) xs)

pub places_moved : (start : ℕ) (first new : CloudMemory) (slot end : ℕ) → length first.shares.place_slots ≤ slot → PlacesSoFar start first new slot end → ArePlacesMoved start first new
places_moved start first new slot end past p = record {
  places =
      ap (λ (o : FinMap owner_cmp ℕ). live_in o new.shares.place_slots) (ap (λ (m : Memory). m.owners) p.rest)
      ∙ all_relaid (live_at first.shares.owners) share_len share_at start first.shares.place_slots new.shares.place_slots slot end past p.slots
      ∙ as_places start (live_places first);
  files = p.files;
  rest = p.rest;
}

-- ---- entries

module _ (start : ℕ) (first old : CloudMemory) (slot end : ℕ) (p : EntriesSoFar start first old slot end) (below : slot < length old.files.slots) where
  -- nothing is in the slot
  pub entry_kept : slot_of old.files.slots slot ≡ None → EntriesSoFar start first old (slot + 1) end
  entry_kept none = record {
    slots = one_kept itself entry_len entry_lying start first.files.slots old.files.slots slot end p.slots below none;
    shares = p.shares;
    rest = p.rest;
  }

  module _ (key : FileKey) (e : Entry) (here : slot_of old.files.slots slot ≡ Some (key, e)) (each : IsListed old.files.files old.files.slots)
      (new : CloudMemory) (at : ℕ) (at_is : at ≡ place_of end e.len) (taken : memory_of new ≡ with_recipe_at key at (memory_of old))
      (moved : IsRewritten old.files.slots new.files.slots key (lying_at at e)) (shares : new.shares ≡ old.shares) where
    same_entry : moved.slot ≡ slot
    same_entry = each.once moved.slot slot key moved.before e moved.was here

    pub entry_moved : EntriesSoFar start first new (slot + 1) (end_after end e.len)
    entry_moved = record {
      slots =
          one_moved itself entry_len entry_lying start first.files.slots old.files.slots slot end p.slots below (key, e) here (Some (key, lying_at at e))
          (ap (λ (n : ℕ). Some (key, lying_at n e)) at_is) new.files.slots
          (moved.now_is ∙ ap (λ (n : ℕ). set old.files.slots n (Some (key, lying_at at e))) same_entry);
      shares = shares ∙ p.shares;
      rest = λ i. record {
        places = (ap (λ (m : Memory). m.places) taken ∙ ap (λ (m : Memory). m.places) p.rest) i;
        owners = (ap (λ (m : Memory). m.owners) taken ∙ ap (λ (m : Memory). m.owners) p.rest) i;
        files = new.files.files;
        spent = (ap (λ (m : Memory). m.spent) taken ∙ ap (λ (m : Memory). m.spent) p.rest) i;
        shares_end = (ap (λ (m : Memory). m.shares_end) taken ∙ ap (λ (m : Memory). m.shares_end) p.rest) i;
        recipes_end = (ap (λ (m : Memory). m.recipes_end) taken ∙ ap (λ (m : Memory). m.recipes_end) p.rest) i;
      };
    }

pub entries_within : (start : ℕ) (first old : CloudMemory) (slot end limit : ℕ) → EntriesSoFar start first old slot end → end_of_laid start (map entry_len (live_entries first)) < limit
    → end_of_laid end (map entry_len (entries_in (drop slot old.files.slots))) < limit
entries_within start first old slot end limit p within =
    subst (λ (n : ℕ). n < limit)
    (sym (ap (λ (xs : List (Option (FileKey × Entry))). end_of_laid end (map entry_len (entries_in xs))) p.slots.left ∙ p.slots.whole))
    within

pub no_entry_moved : (start : ℕ) (m : CloudMemory) → EntriesSoFar start m m 0 start
no_entry_moved start m = record { slots = none_relaid itself entry_len entry_lying start m.files.slots; shares = refl; rest = refl }

as_entries : (end : ℕ) (xs : List (FileKey × Entry)) → relaid entry_len entry_lying end xs ≡ new_entries end xs
as_entries end [] = refl
as_entries end (x ∷ xs) =
    ap (λ (ys : List (FileKey × Entry)). (x.0, record { at = place_of end x.1.len; len = x.1.len; fp = x.1.fp }) ∷ ys) (as_entries (end_after end x.1.len) xs)

pub entries_moved : (start : ℕ) (first new : CloudMemory) (slot end : ℕ) → length first.files.slots ≤ slot → EntriesSoFar start first new slot end → AreEntriesMoved start first new
entries_moved start first new slot end past p = record {
  entries = all_relaid itself entry_len entry_lying start first.files.slots new.files.slots slot end past p.slots ∙ as_entries start (live_entries first);
  shares = p.shares;
  rest = p.rest;
}

-- the entries in slots that list a map are the map's
pub entries_listed : (files : Files) → IsListed files.files files.slots → (key : FileKey) (e : Entry) → get files.files key ≡ Some e ↔ Contains (entries_in files.slots) (key, e)
entries_listed files listed key e = (forth, back)
  where
    forth : get files.files key ≡ Some e → Contains (entries_in files.slots) (key, e)
    forth got = let s = listed.stands key e got in in_picked (λ (o : Option (FileKey × Entry)). o) refl files.slots s.0 (key, e) (key, e) s.2 refl

    back : Contains (entries_in files.slots) (key, e) → get files.files key ≡ Some e
    back c = let s = from_picked (λ (o : Option (FileKey × Entry)). o) refl files.slots (key, e) c in listed.listed s.slot key e (s.here ∙ s.picks)
