-- Copies in another region lie there, apart, and not far.
use Rattle.std.proofs.Common.{◌≡◌, ◌≢◌, ℕ, ◌+◌, ◌*◌, ◌≤◌, List, [], ◌∷◌, map, Some, refl, sym, ap, ◌∙◌, subst, arith, inl, inr, ◌⊎◌}
use Rattle.std.specs.Prelude.{All, slice_get}
use Rattle.std.specs.FinMap.{get}
use Rattle.std.specs.List.{Contains, sum_by}
use Rattle.std.proofs.lemmas.List.Elements.{All-head, All-tail}
use Rattle.compact_lists.specs.CdBase.ids.Fp.{Fp}
use Rattle.checkpoints.specs.ContainerLog.Places.{container_len, place_of, end_after, end_of_laid}
use Rattle.checkpoints.specs.FileIndex.key.Entry.{Entry}
use Rattle.checkpoints.specs.FileIndex.key.FileKey.{FileKey}
use Rattle.compact_lists.specs.CdBase.place.Place.{Place}
use Rattle.compact_lists.proofs.UserDedup.Owned.{contains_nothing, contains_cases}
use Rattle.checkpoints.specs.CloudAreas.Placing.{region_start, end_of}
use Rattle.checkpoints.specs.CloudAreas.Chains.{LiesIn}
use Rattle.checkpoints.specs.CloudMemory.cloud.CloudMemory.{CloudMemory}
use Rattle.checkpoints.specs.CloudMemory.Memory.{Memory}
use Rattle.checkpoints.proofs.Apartness.{contained}
use Rattle.checkpoints.proofs.CloudAreas.Apart.{contains_get}
use Rattle.checkpoints.proofs.CloudAreas.Lists.{in_map, from_map}
use Rattle.checkpoints.proofs.CloudAreas.Ends.{some_is, map_get}
use Rattle.compact_lists.proofs.Sums.{sum_mapped}
use Rattle.compact_memories.specs.Kept.{live_places, live_entries}
use Rattle.compact_memories.specs.Moved.{new_places, new_entries, lens_of, IsMoved, PlacesApart, entry_place, PlacesLie}
use Rattle.compact_memories.proofs.Copies.{lie, apart, bound, ends, Share, len_of}

all_at : {X : Type 0} (P : X → Type 0) (xs : List X) → All P xs → (x : X) → Contains xs x → P x
all_at P [] all x c = absurd (contains_nothing x c)
all_at P (y ∷ xs) all x c =
    elim (contains_cases y xs x c) [
      | inl same ↦ subst P same (All-head P y xs all)
      | inr later ↦ all_at P xs (All-tail P y xs all) x later
    ]

-- ---- copies of some blobs

module _ (region : ℕ) (xs : List Share) (small : (x : Share) → Contains xs x → x.1.len ≤ container_len) where
  abbrev copies : List Share
  copies = new_places (region_start region) xs

  copy_lies : (x : Share) → Contains copies x → LiesIn region x.1 × (end_of x.1 ≤ region_start region + 2 * sum_by len_of xs)
  copy_lies x c =
      let one = all_at (λ (y : Share). LiesIn region y.1) copies (lie region xs (contained (λ (y : Share). y.1.len ≤ container_len) xs small)) x c in
      let two = all_at (λ (y : Share). end_of y.1 ≤ end_of_laid (region_start region) (lens_of xs)) copies (ends region xs) x c in
      let three = bound region xs in
      (one, omega (arith, two, three))

  copies_apart : (i j : ℕ) (x y : Share) → slice_get copies i ≡ Some x → slice_get copies j ≡ Some y → (i ≡ j) ⊎ PlacesApart x.1 y.1
  copies_apart i j x y at_i at_j =
      apart region xs i j x.1 y.1 (map_get (λ (z : Share). z.1) copies i x at_i) (map_get (λ (z : Share). z.1) copies j y at_j)

-- ---- entries as blobs

abbrev as_share : FileKey × Entry → Share
as_share x = (x.1.fp, entry_place x.1)

as_copies : (end : ℕ) (ys : List (FileKey × Entry)) → map as_share (new_entries end ys) ≡ new_places end (map as_share ys)
as_copies end [] = refl
as_copies end (y ∷ ys) = ap (λ (l : List Share). (y.1.fp, record { at = place_of end y.1.len; len = y.1.len }) ∷ l) (as_copies (end_after end y.1.len) ys)

module _ (region : ℕ) (old : CloudMemory) (new : Memory) (is : IsMoved region old new)
    (small : (x : Share) → Contains (live_places old) x → x.1.len ≤ container_len)
    (short : (x : FileKey × Entry) → Contains (live_entries old) x → x.1.len ≤ container_len) where
  abbrev xs : List Share
  xs = live_places old

  abbrev ys : List (FileKey × Entry)
  ys = live_entries old

  abbrev zs : List Share
  zs = map as_share ys

  shares_apart : (one two : Fp) (p q : Place) → get new.places one.0 ≡ Some p → get new.places two.0 ≡ Some q → one ≢ two → PlacesApart p q
  shares_apart one two p q at_p at_q differ =
      let a = contains_get (new_places (region_start region) xs) (one, p) ((is.places one p).0 at_p) in
      let b = contains_get (new_places (region_start region) xs) (two, q) ((is.places two q).0 at_q) in
      elim (copies_apart region xs small a.0 b.0 (one, p) (two, q) a.1 b.1) [
        | inl same ↦ absurd (differ (ap (λ (x : Share). x.0) (some_is (one, p) (two, q) (sym a.1 ∙ ap (slice_get (new_places (region_start region) xs)) same ∙ b.1))))
        | inr far ↦ far
      ]

  tiny : (x : Share) → Contains zs x → x.1.len ≤ container_len
  tiny x c = let f = from_map as_share ys x c in subst (λ (y : Share). y.1.len ≤ container_len) f.2 (short f.0 f.1)

  abbrev entries : List (FileKey × Entry)
  entries = new_entries (region_start region) ys

  recipe_lies : (key : FileKey) (e : Entry) → get new.files key ≡ Some e
      → LiesIn region (entry_place e) × (end_of (entry_place e) ≤ region_start region + 2 * sum_by (λ (x : FileKey × Entry). x.1.len) ys)
  recipe_lies key e at =
      let c = in_map as_share entries (key, e) ((is.files key e).0 at) in
      let l = copy_lies region zs tiny (as_share (key, e)) (subst (λ (l : List Share). Contains l (as_share (key, e))) (as_copies (region_start region) ys) c) in
      let sum = sum_mapped len_of as_share ys in
      (l.0, omega (arith, l.1, sum))

  recipes_apart : (one two : FileKey) (d e : Entry) → get new.files one ≡ Some d → get new.files two ≡ Some e → one ≢ two → PlacesApart (entry_place d) (entry_place e)
  recipes_apart one two d e at_d at_e differ =
      let a = contains_get entries (one, d) ((is.files one d).0 at_d) in
      let b = contains_get entries (two, e) ((is.files two e).0 at_e) in
      let as_is = as_copies (region_start region) ys in
      let i = subst (λ (l : List Share). slice_get l a.0 ≡ Some (as_share (one, d))) as_is (map_get as_share entries a.0 (one, d) a.1) in
      let j = subst (λ (l : List Share). slice_get l b.0 ≡ Some (as_share (two, e))) as_is (map_get as_share entries b.0 (two, e) b.1) in
      elim (copies_apart region zs tiny a.0 b.0 (as_share (one, d)) (as_share (two, e)) i j) [
        | inl same ↦ absurd (differ (ap (λ (x : FileKey × Entry). x.0) (some_is (one, d) (two, e) (sym a.1 ∙ ap (slice_get entries) same ∙ b.1))))
        | inr far ↦ far
      ]

  lying : PlacesLie region (2 * sum_by len_of xs) (2 * sum_by (λ (x : FileKey × Entry). x.1.len) ys) new
  lying = record {
    shares = λ fp p at. copy_lies region xs small (fp, p) ((is.places fp p).0 at);
    shares_apart = shares_apart;
    recipes = recipe_lies;
    recipes_apart = recipes_apart;
  }

pub places_lie : (region : ℕ) (old : CloudMemory) (new : Memory) → IsMoved region old new
    → ((x : Fp × Place) → Contains (live_places old) x → x.1.len ≤ container_len)
    → ((x : FileKey × Entry) → Contains (live_entries old) x → x.1.len ≤ container_len)
    → PlacesLie region (2 * sum_by (λ (x : Fp × Place). x.1.len) (live_places old)) (2 * sum_by (λ (x : FileKey × Entry). x.1.len) (live_entries old)) new
places_lie region old new is small short = lying region old new is small short
