-- What of a memory is alive is what of its list is.
use Rattle.std.proofs.Common.{◌≡◌, ℕ, ◌==◌, Bool, true, false, cond, List, [], ◌∷◌, length, map, Option, Some, None, refl, sym, ap, ◌∙◌, subst, arith, inl, inr, eq-eqb}
use Rattle.std.specs.Prelude.{filter, option_map, IsSome}
use Rattle.std.specs.FinMap.{get}
use Rattle.std.specs.List.{Contains}
use Rattle.std.proofs.lemmas.Bool.{cases_eq, eqb-true}
use Rattle.share_server.specs.CdBase.ids.Fp.{Fp}
use Rattle.share_server.specs.CdBase.place.Place.{Place}
use Rattle.share_server.specs.CdBase.shape.Shape.{Shape}
use Rattle.share_server.specs.CdBase.Order.{fp_exact}
use Rattle.compact_memories.specs.FileIndex.key.Entry.{Entry}
use Rattle.compact_memories.specs.FileIndex.key.FileKey.{FileKey}
use Rattle.compact_memories.specs.ShareIndex.Shares.{owners_of}
use Rattle.compact_memories.proofs.ShareIndexLaws.Owning.{value-of}
use Rattle.compact_memories.proofs.ShareIndexLaws.Placing.{fp_total}
use Rattle.compact_memories.specs.UserDedup.command.Command.{Command}
use Rattle.compact_memories.specs.UserDedup.file_list.FileEntry.{FileEntry}
use Rattle.compact_memories.specs.UserDedup.Cloud.{fingerprint, strings_in}
use Rattle.compact_memories.specs.UserDedup.Compact.{sorted_fps}
use Rattle.compact_memories.proofs.UserDedup.Filtered.{from_filter, in_filter}
use Rattle.compact_memories.proofs.UserDedup.Once.{Once, fps_once}
use Rattle.compact_memories.proofs.UserDedup.Sorting.{fps_have, fps_from}
use Rattle.compact_memories.proofs.UserDedup.Views.{owned_is_held, held_is}
use Rattle.compact_memories.specs.CloudMemory.cloud.CloudMemory.{CloudMemory}
use Rattle.compact_memories.specs.CloudMemory.Memory.{Remembers, summary, summary_of}
use Rattle.compact_memories.specs.CloudMemory.Rooms.{memory_of}
use Rattle.compact_memories.specs.Checkpoints.Known.{AreListed, recipe_or}
use Rattle.compact_memories.proofs.Checkpoints.Holders.{owners_some}
use Rattle.compact_memories.proofs.Checkpoints.OwnLaw.{owner_of_own}
use Rattle.compact_memories.proofs.Checkpoints.Sought.{from_picked, in_picked, apart_picked, map_picked}
use Rattle.compact_memories.specs.CompactLists.Live.{IsAlive, bytes_held}
use Rattle.compact_memories.proofs.CompactLists.Parts.{one_place}
use Rattle.compact_memories.proofs.CompactLists.Sums.{sum_alike, sum_mapped}
use Rattle.compact_memories.specs.Kept.{live_at, live_places, live_entries, live_sum}
use Rattle.compact_memories.proofs.Live.{live_as, live_from, live_to}
use Rattle.compact_memories.proofs.Weights.{once_map, sum_keys}
use Rattle.compact_memories.proofs.CloudAreas.Apart.{Apart, are_apart}
use Rattle.compact_memories.proofs.CloudAreas.Lists.{in_map, from_map}
use Rattle.compact_memories.proofs.Sums.{fp_live, first_of}
use Rattle.reclaim.specs.Sums.{SumsOver, entry_of, HasEntryUnder, recipe_len, IsDead, IsSumOf}

once_filter : {X : Type 0} (p : X → Bool) (xs : List X) → Once xs → Once (filter p xs)
once_filter p [] once = tt
once_filter p (x ∷ xs) once = by_test (p x) (once_filter p xs once.1)
  where
    by_test : (b : Bool) → Once (filter p xs) → Once (cond b (x ∷ filter p xs) (filter p xs))
    by_test true rest = (λ c. once.0 (from_filter p xs x c).0, rest)
    by_test false rest = rest

entry_there : (o : Option FileEntry) (e : Entry) → Some (summary e) ≡ option_map summary_of o → IsSome o × (e.len ≡ length (recipe_or o))
unfolding first_of
entry_there None e is = absurd (let no : Some (summary e) ≡ None = is in cc)
entry_there (Some entry) e is = (refl, ap first_of is)

none_there : (o : Option FileEntry) → ◌≡◌ {A = Option (ℕ × Fp)} None (option_map summary_of o) → IsSome o → ⊥
none_there None is some = let no : false ≡ true = some in cc
none_there (Some entry) is some = let no : ◌≡◌ {A = Option (ℕ × Fp)} None (Some (summary_of entry)) = is in cc

module _ (shape : Shape) (list : List Command) (old : CloudMemory) (r : Remembers shape list (memory_of old)) (l : AreListed old) where
  abbrev held : List Fp
  held = map fingerprint (strings_in list)

  alive_held : (fp : Fp) → IsAlive shape list fp → Contains held fp
  alive_held fp alive =
      let h = owned_is_held shape list alive.0 fp alive.1 in
      let s = held_is list fp h.0 h.1 in
      subst (Contains held) s.0 (in_map fingerprint (strings_in list) h.0 s.1)

  placed_at : (fp : Fp) → Contains held fp → (place : Place) × (get old.shares.places fp.0 ≡ Some place)
  placed_at fp c = value-of (get old.shares.places fp.0) ((r.placed fp).1 c)

  -- ---- shares

  abbrev fp_of : Fp × Place → Fp
  fp_of x = x.0

  places_once : Apart (map fp_of (live_places old))
  places_once =
      subst (Apart {X = Fp}) (sym (map_picked (live_at old.shares.owners) refl fp_of old.shares.place_slots))
      (apart_picked (λ o. option_map fp_of (live_at old.shares.owners o)) refl old.shares.place_slots (λ i j a b fp ia jb fa fb.
      let same : b.0 ≡ a.0 = fp_live old.shares.owners b fp fb ∙ sym (fp_live old.shares.owners a fp fa) in
      l.places.once i j a.0 a.1 b.1 ia (jb ∙ ap (λ (k : List ℕ). Some (k, b.1)) same)))

  shares_sum : SumsOver (IsAlive shape list) (bytes_held list) (live_sum old).shares
  shares_sum = record {
    all = map fp_of (live_places old);
    listed = record {
      each = λ fp. (
        λ c. let f = from_map fp_of (live_places old) fp c in subst (IsAlive shape list) f.2 (live_from shape list old r l f.0.0 f.0.1 f.1).0,
        λ alive. let p = placed_at fp (alive_held fp alive) in in_map fp_of (live_places old) (fp, p.0) (live_to shape list old r l fp p.0 alive p.1),
      );
      once = are_apart (map fp_of (live_places old)) places_once;
    };
    is = sum_alike (λ (x : Fp × Place). x.1.len) (λ (x : Fp × Place). bytes_held list x.0) (live_places old) (λ x c. r.lens x.0 x.1 (live_from shape list old r l x.0 x.1 c).1)
        ∙ sym (sum_mapped (bytes_held list) fp_of (live_places old));
  }

  -- ---- recipes

  abbrev key_of : FileKey × Entry → FileKey
  key_of x = x.0

  keys_once : Apart (map key_of (live_entries old))
  keys_once =
      subst (Apart {X = FileKey}) (sym (map_picked (λ (o : Option (FileKey × Entry)). o) refl key_of old.files.slots))
      (apart_picked (λ (o : Option (FileKey × Entry)). option_map key_of o) refl old.files.slots (λ i j a b k ia jb fa fb.
      let both : ◌≡◌ {A = Option FileKey} (Some b.0) (Some a.0) = fb ∙ sym fa in
      let same : b.0 ≡ a.0 = cc in
      l.entries.once i j a.0 a.1 b.1 ia (jb ∙ ap (λ (k : FileKey). Some (k, b.1)) same)))

  entry_from : (key : FileKey) (d : Entry) → Contains (live_entries old) (key, d) → get old.files.files key ≡ Some d
  entry_from key d c =
      let s = from_picked (λ (e : Option (FileKey × Entry)). e) refl old.files.slots (key, d) c in
      let same : s.entry ≡ (key, d) = let two : Some s.entry ≡ Some (key, d) = s.picks in cc in
      l.entries.listed s.slot key d (s.here ∙ ap Some same)

  by_list : (key : FileKey) → option_map summary (get old.files.files key) ≡ option_map summary_of (entry_of shape list key)
  by_list key = r.files (record { 0 = key.user }) (record { 0 = key.tag }) (record { 0 = key.version })

  entry_is : (x : FileKey × Entry) → Contains (live_entries old) x → IsSome (entry_of shape list x.0) × (x.1.len ≡ recipe_len shape list x.0)
  entry_is x c = entry_there (entry_of shape list x.0) x.1 (ap (option_map summary) (sym (entry_from x.0 x.1 c)) ∙ by_list x.0)

  entry_to : (key : FileKey) → HasEntryUnder shape list key → Contains (map key_of (live_entries old)) key
  entry_to key some = by_get (get old.files.files key) refl
    where
      by_get : (o : Option Entry) → get old.files.files key ≡ o → Contains (map key_of (live_entries old)) key
      by_get None is = absurd (none_there (entry_of shape list key) (ap (option_map summary) (sym is) ∙ by_list key) some)
      by_get (Some e) is =
          let s = l.entries.stands key e is in
          in_map key_of (live_entries old) (key, e) (in_picked (λ (o : Option (FileKey × Entry)). o) refl old.files.slots s.0 (key, e) (key, e) s.2 refl)

  recipes_sum : SumsOver (HasEntryUnder shape list) (recipe_len shape list) (live_sum old).recipes
  recipes_sum = record {
    all = map key_of (live_entries old);
    listed = record {
      each = λ key. (λ c. let f = from_map key_of (live_entries old) key c in subst (HasEntryUnder shape list) f.2 (entry_is f.0 f.1).0, entry_to key);
      once = are_apart (map key_of (live_entries old)) keys_once;
    };
    is = sum_alike (λ (x : FileKey × Entry). x.1.len) (λ (x : FileKey × Entry). recipe_len shape list x.0) (live_entries old) (λ x c. (entry_is x c).1)
        ∙ sym (sum_mapped (recipe_len shape list) key_of (live_entries old));
  }

  -- ---- what is dropped

  abbrev has_none : List ℕ → Bool
  has_none fp = owners_of old.shares.owners fp == 0

  abbrev is_dead : Fp → Bool
  is_dead fp = has_none fp.0

  abbrev dead : List Fp
  dead = filter is_dead (sorted_fps held)

  dead_none : (fp : Fp) → is_dead fp ≡ true → IsAlive shape list fp → ⊥
  dead_none fp t alive =
      let some = owners_some old.shares.owners alive.0.0 fp.0 _ (owner_of_own shape list old r l alive.0 fp alive.1) in
      let none = eqb-true (owners_of old.shares.owners fp.0) 0 t in
      absurd (omega (arith, some, none))

  none_dead : (fp : Fp) → Contains held fp → (IsAlive shape list fp → ⊥) → is_dead fp ≡ true
  none_dead fp c none =
      elim (cases_eq (owners_of old.shares.owners fp.0) 0) [
        | inl same ↦ eq-eqb (owners_of old.shares.owners fp.0) 0 same
        | inr some ↦
            let p = placed_at fp c in
            let s = l.places.stands fp.0 p.0 p.1 in
            absurd (none (live_from shape list old r l fp p.0
            (in_picked (live_at old.shares.owners) refl old.shares.place_slots s.0 (fp.0, p.0) (fp, p.0) s.2 (live_as old.shares.owners (fp.0, p.0) some))).0)
      ]

  dead_once : Once dead
  dead_once = once_filter is_dead (sorted_fps held) (fps_once held)

  abbrev bytes : Fp → List ℕ
  bytes fp = fp.0

  here : (k : List ℕ) → Contains (map bytes dead) k → (has_none k ≡ true) × IsSome (get old.shares.places k)
  here k c =
      let f = from_map bytes dead k c in
      let d = from_filter is_dead (sorted_fps held) f.0 f.1 in
      subst (λ (q : List ℕ). (has_none q ≡ true) × IsSome (get old.shares.places q)) f.2 (d.1, (r.placed f.0).1 (fps_from held f.0 d.0))

  all_dead : (k : List ℕ) → has_none k ≡ true → IsSome (get old.shares.places k) → Contains (map bytes dead) k
  all_dead k t some =
      let fp : Fp = record { 0 = k } in
      in_map bytes dead fp (in_filter is_dead (sorted_fps held) fp (fps_have held fp ((r.placed fp).0 some)) t)

  dropped_sum : SumsOver (IsDead shape list) (λ (fp : Fp). 1) (live_sum old).dropped
  dropped_sum = record {
    all = dead;
    listed = record {
      each = λ fp. (
        λ c. let d = from_filter is_dead (sorted_fps held) fp c in (fps_from held fp d.0, dead_none fp d.1),
        λ is. in_filter is_dead (sorted_fps held) fp (fps_have held fp is.0) (none_dead fp is.0 is.1),
      );
      once = one_place dead dead_once;
    };
    is = sum_keys fp_total fp_exact has_none (λ (e : List ℕ × Place). 1) (λ (k : List ℕ). 1) old.shares.places (map bytes dead)
        (once_map bytes (λ a b e. λ i. record { 0 = e i }) dead dead_once) here all_dead (λ k x c at. refl)
        ∙ sum_mapped (λ (k : List ℕ). 1) bytes dead;
  }

  sums_so : IsSumOf shape list (live_sum old)
  sums_so = record { shares = shares_sum; recipes = recipes_sum; dropped = dropped_sum }

pub sums : (shape : Shape) (list : List Command) (memory : CloudMemory) → Remembers shape list (memory_of memory) → AreListed memory → IsSumOf shape list (live_sum memory)
sums shape list memory r l = sums_so shape list memory r l
