-- A row over all slots of a memory's tables is what its user keeps.
use Rattle.std.proofs.Common.{◌≡◌, ℕ, Bool, true, false, cond, List, [], ◌∷◌, length, map, Option, Some, None, refl, sym, ap, ◌∙◌, subst, eq-eqb}
use Rattle.std.specs.Prelude.{◌==◌, is_some, IsSome, option_map}
use Rattle.std.specs.List.{Contains}
use Rattle.std.specs.FinMap.{get}
use Rattle.std.proofs.lemmas.Bool.{eqb-true}
use Rattle.compact_lists.specs.CdBase.ids.Fp.{Fp}
use Rattle.compact_lists.specs.CdBase.ids.UserId.{UserId}
use Rattle.checkpoints.specs.PoolMap.Slots.{IsListed}
use Rattle.checkpoints.specs.FileIndex.key.Entry.{Entry}
use Rattle.checkpoints.specs.FileIndex.key.FileKey.{FileKey}
use Rattle.checkpoints.specs.FileIndex.Order.{key_exact}
use Rattle.checkpoints.proofs.FileIndexLaws.Order.{key_total}
use Rattle.checkpoints.specs.ShareIndex.key.Owner.{Owner}
use Rattle.checkpoints.specs.ShareIndex.Order.{owner_of, owner_exact}
use Rattle.checkpoints.proofs.ShareIndexLaws.Owning.{owner_total, value-of}
use Rattle.checkpoints.specs.SpentTable.Spent.{Spent}
use Rattle.compact_lists.proofs.UserDedup.Once.{Once}
use Rattle.checkpoints.specs.CloudMemory.cloud.CloudMemory.{CloudMemory}
use Rattle.checkpoints.specs.CloudMemory.Memory.{as_spent}
use Rattle.checkpoints.specs.CloudMemory.Rooms.{memory_of}
use Rattle.checkpoints.specs.CloudMemory.Steps.{placed_len}
use Rattle.checkpoints.specs.Records.{owned_at, owned_in}
use Rattle.checkpoints.proofs.OwnLaw.{owned_gives}
use Rattle.checkpoints.proofs.Sought.{from_picked, in_picked, apart_picked, map_picked}
use Rattle.checkpoints.proofs.CloudAreas.Apart.{Apart}
use Rattle.checkpoints.proofs.CloudAreas.Lists.{in_map, from_map}
use Rattle.compact_lists.proofs.Sums.{sum_alike, sum_ones, sum_mapped}
use Rattle.compact_memories.specs.Kept.{kept_in}
use Rattle.compact_memories.specs.Passes.{owned_len, entry_at, entries_of, recipes_len, IsRow}
use Rattle.compact_memories.proofs.Weights.{once_map, sum_keys}

pub once_of : {X : Type 0} (xs : List X) → Apart xs → Once xs
once_of [] apart = tt
once_of (x ∷ xs) apart = (apart.0, once_of xs apart.1)

pub entry_gives : (user : ℕ) (e x : FileKey × Entry) → entry_at user (Some e) ≡ Some x → (e.0.user ≡ user) × (e ≡ x)
entry_gives user e x is = by_test (e.0.user == user) refl is
  where
    by_test : (b : Bool) → (e.0.user == user) ≡ b → cond b (Some e) None ≡ Some x → (e.0.user ≡ user) × (e ≡ x)
    by_test true t same = (eqb-true e.0.user user t, let two : Some e ≡ Some x = same in cc)
    by_test false t same = absurd (let no : ◌≡◌ {A = Option (FileKey × Entry)} None (Some x) = same in cc)

pub key_gives : (user : ℕ) (e : FileKey × Entry) (k : FileKey) → option_map (λ (x : FileKey × Entry). x.0) (entry_at user (Some e)) ≡ Some k → e.0 ≡ k
key_gives user e k is = by_test (e.0.user == user) is
  where
    by_test : (b : Bool) → option_map (λ (x : FileKey × Entry). x.0) (cond b (Some e) None) ≡ Some k → e.0 ≡ k
    by_test true same = let two : ◌≡◌ {A = Option FileKey} (Some e.0) (Some k) = same in cc
    by_test false same = absurd (let no : ◌≡◌ {A = Option FileKey} None (Some k) = same in cc)

unfoldable pub len_at : Option Entry → ℕ
len_at None = 0
len_at (Some e) = e.len

module _ (memory : CloudMemory) (user : UserId) where
  -- ---- what the user owns

  module _ (l : IsListed memory.shares.owners memory.shares.owner_slots) where
    abbrev own : List Fp
    own = owned_in user.0 memory.shares.owner_slots

    abbrev mine : Fp → Owner
    mine fp = owner_of user.0 fp.0

    abbrev is_mine : Owner → Bool
    is_mine k = k.user == user.0

    own_apart : Apart own
    own_apart =
        apart_picked (owned_at user.0) refl memory.shares.owner_slots (λ i j a b fp ia jb fa fb.
        let ga = owned_gives user.0 a fp fa in let gb = owned_gives user.0 b fp fb in
        let same : b.0 ≡ a.0 = λ n. record { user = (gb.0 ∙ sym ga.0) n; fp = (gb.1 ∙ sym ga.1) n } in
        l.once i j a.0 a.1 b.1 ia (jb ∙ ap (λ (k : Owner). Some (k, b.1)) same))

    once : Once (map mine own)
    once = once_map mine (λ a b e. λ i. record { 0 = (e i).fp }) own (once_of own own_apart)

    there : (k : Owner) → Contains (map mine own) k → (is_mine k ≡ true) × IsSome (get memory.shares.owners k)
    there k c =
        let f = from_map mine own k c in
        let s = from_picked (owned_at user.0) refl memory.shares.owner_slots f.0 f.1 in
        let g = owned_gives user.0 s.entry f.0 s.picks in
        let same : s.entry.0 ≡ mine f.0 = λ n. record { user = g.0 n; fp = g.1 n } in
        subst (λ (q : Owner). (is_mine q ≡ true) × IsSome (get memory.shares.owners q)) (same ∙ f.2)
        (eq-eqb s.entry.0.user user.0 g.0, ap is_some (l.listed s.slot s.entry.0 s.entry.1 s.here))

    among : (k : Owner) → is_mine k ≡ true → IsSome (get memory.shares.owners k) → Contains (map mine own) k
    among k t some =
        let v = value-of (get memory.shares.owners k) some in
        let s = l.stands k v.0 v.1 in
        let fp : Fp = record { 0 = k.fp } in
        let same : mine fp ≡ k = λ n. record { user = sym (eqb-true k.user user.0 t) n; fp = k.fp } in
        subst (Contains (map mine own)) same
        (in_map mine own fp (in_picked (owned_at user.0) refl memory.shares.owner_slots s.0 (k, v.0) fp s.2 (ap (λ (b : Bool). cond b (Some fp) None) t)))

    owners_are : (kept_in (memory_of memory) user).owners ≡ length own
    owners_are =
        sum_keys owner_total owner_exact is_mine (λ (e : Owner × ℕ). 1) (λ (k : Owner). 1) memory.shares.owners (map mine own) once there among (λ k x c at. refl)
        ∙ sum_mapped (λ (k : Owner). 1) mine own
        ∙ sum_ones own

    shares_are : (kept_in (memory_of memory) user).shares ≡ owned_len memory.shares.places memory.shares.owner_slots user.0
    shares_are =
        sum_keys owner_total owner_exact is_mine (λ (e : Owner × ℕ). placed_len (get memory.shares.places e.0.fp)) (λ (k : Owner). placed_len (get memory.shares.places k.fp)) memory.shares.owners (map mine own) once there among
        (λ k x c at. refl)
        ∙ sum_mapped (λ (k : Owner). placed_len (get memory.shares.places k.fp)) mine own

  -- ---- its entries

  module _ (l : IsListed memory.files.files memory.files.slots) where
    abbrev ours : List (FileKey × Entry)
    ours = entries_of user.0 memory.files.slots

    abbrev key_of : FileKey × Entry → FileKey
    key_of x = x.0

    abbrev is_file : FileKey → Bool
    is_file k = k.user == user.0

    keys_apart : Apart (map key_of ours)
    keys_apart =
        subst (Apart {X = FileKey}) (sym (map_picked (entry_at user.0) refl key_of memory.files.slots))
        (apart_picked (λ o. option_map key_of (entry_at user.0 o)) refl memory.files.slots (λ i j a b k ia jb fa fb.
        let same : b.0 ≡ a.0 = key_gives user.0 b k fb ∙ sym (key_gives user.0 a k fa) in
        l.once i j a.0 a.1 b.1 ia (jb ∙ ap (λ (q : FileKey). Some (q, b.1)) same)))

    listed_so : (x : FileKey × Entry) → Contains ours x → (x.0.user ≡ user.0) × (get memory.files.files x.0 ≡ Some x.1)
    listed_so x c =
        let s = from_picked (entry_at user.0) refl memory.files.slots x c in
        let g = entry_gives user.0 s.entry x s.picks in
        subst (λ (y : FileKey × Entry). (y.0.user ≡ user.0) × (get memory.files.files y.0 ≡ Some y.1)) g.1 (g.0, l.listed s.slot s.entry.0 s.entry.1 s.here)

    files_there : (k : FileKey) → Contains (map key_of ours) k → (is_file k ≡ true) × IsSome (get memory.files.files k)
    files_there k c =
        let f = from_map key_of ours k c in let h = listed_so f.0 f.1 in
        subst (λ (q : FileKey). (is_file q ≡ true) × IsSome (get memory.files.files q)) f.2 (eq-eqb f.0.0.user user.0 h.0, ap is_some h.1)

    files_among : (k : FileKey) → is_file k ≡ true → IsSome (get memory.files.files k) → Contains (map key_of ours) k
    files_among k t some =
        let v = value-of (get memory.files.files k) some in
        let s = l.stands k v.0 v.1 in
        in_map key_of ours (k, v.0) (in_picked (entry_at user.0) refl memory.files.slots s.0 (k, v.0) (k, v.0) s.2 (ap (λ (b : Bool). cond b (Some (k, v.0)) None) t))

    recipes_are : (kept_in (memory_of memory) user).recipes ≡ recipes_len memory.files.slots user.0
    unfolding len_at
    recipes_are =
        sum_keys key_total key_exact is_file (λ (e : FileKey × Entry). e.1.len) (λ (k : FileKey). len_at (get memory.files.files k)) memory.files.files (map key_of ours) (once_of (map key_of ours) keys_apart) files_there files_among
        (λ k e c at. sym (ap len_at at))
        ∙ sum_mapped (λ (k : FileKey). len_at (get memory.files.files k)) key_of ours
        ∙ sum_alike (λ (x : FileKey × Entry). len_at (get memory.files.files x.0)) (λ (x : FileKey × Entry). x.1.len) ours (λ x c. ap len_at (listed_so x c).1)

  pub kept_row : (row : Spent) → IsListed memory.shares.owners memory.shares.owner_slots → IsListed memory.files.files memory.files.slots
      → IsRow memory.shares.places memory.shares.owner_slots memory.files.slots user.0 row → as_spent row ≡ kept_in (memory_of memory) user
  kept_row row owners files is = λ i. record {
    owners = (is.owned ∙ sym (owners_are owners)) i;
    shares = (is.shares ∙ sym (shares_are owners)) i;
    recipes = (is.recipes ∙ sym (recipes_are files)) i;
  }
