-- What of a memory is alive.
use Rattle.std.proofs.Common.{◌≡◌, ℕ, zero, suc, Bool, true, false, cond, List, [], ◌∷◌, Option, Some, None, get_or, refl, sym, ap, ◌∙◌, arith, inl, inr, ◌⊎◌, eq-eqb}
use Rattle.std.specs.Prelude.{◌==◌, bytes_eq}
use Rattle.std.specs.FinMap.{FinMap, get}
use Rattle.std.specs.List.{Contains}
use Rattle.std.proofs.lemmas.Bool.{ne_eqb}
use Rattle.std.proofs.lemmas.Slice.Eq.{bytes_eq-Decides}
use Rattle.compact_lists.specs.CdBase.ids.Fp.{Fp}
use Rattle.compact_lists.specs.CdBase.ids.UserId.{UserId}
use Rattle.compact_lists.specs.CdBase.shape.Shape.{Shape}
use Rattle.checkpoints.specs.ShareIndex.key.Owner.{Owner}
use Rattle.compact_lists.specs.CdBase.place.Place.{Place}
use Rattle.checkpoints.specs.ShareIndex.Order.{owner_cmp, owner_of}
use Rattle.checkpoints.specs.ShareIndex.Shares.{owners_of}
use Rattle.compact_lists.specs.UserDedup.command.Command.{Command}
use Rattle.checkpoints.specs.CloudMemory.cloud.CloudMemory.{CloudMemory}
use Rattle.checkpoints.specs.CloudMemory.Memory.{Remembers}
use Rattle.checkpoints.specs.CloudMemory.Rooms.{memory_of}
use Rattle.checkpoints.specs.Known.{AreListed}
use Rattle.checkpoints.proofs.Holders.{owners_some, owners_none}
use Rattle.checkpoints.proofs.OwnLaw.{own_of, owner_of_own}
use Rattle.checkpoints.proofs.Sought.{from_picked, in_picked}
use Rattle.compact_lists.specs.Live.{IsAlive}
use Rattle.compact_memories.specs.Kept.{live_at, live_places}

abbrev live : List ℕ × Place → Fp × Place
live e = (record { 0 = e.0 }, e.1)

-- what a slot gives
pub live_gives : (owners : FinMap owner_cmp ℕ) (e : List ℕ × Place) (x : Fp × Place) → live_at owners (Some e) ≡ Some x → (owners_of owners e.0 ≡ 0 → ⊥) × (live e ≡ x)
live_gives owners e x is = by_test (owners_of owners e.0 == 0) refl is
  where
    by_test : (b : Bool) → (owners_of owners e.0 == 0) ≡ b → cond b None (Some (live e)) ≡ Some x → (owners_of owners e.0 ≡ 0 → ⊥) × (live e ≡ x)
    by_test true t same = absurd (let no : ◌≡◌ {A = Option (Fp × Place)} None (Some x) = same in cc)
    by_test false t same = (λ none. let no : true ≡ false = sym (eq-eqb (owners_of owners e.0) 0 none) ∙ t in cc, let two : Some (live e) ≡ Some x = same in cc)

pub live_as : (owners : FinMap owner_cmp ℕ) (e : List ℕ × Place) → (owners_of owners e.0 ≡ 0 → ⊥) → live_at owners (Some e) ≡ Some (live e)
live_as owners e some = ap (λ b. cond b None (Some (live e))) (ne_eqb (owners_of owners e.0) 0 some)

-- ---- an owner in some slot

record HasOwner (slots : List (Option (Owner × ℕ))) (fp : List ℕ) : Type 0 where
  pub slot : ℕ
  pub entry : Owner × ℕ
  pub here : get_or slots slot None ≡ Some entry
  pub of_it : entry.0.fp ≡ fp

abbrev HasNone : List (Option (Owner × ℕ)) → List ℕ → Type 0
HasNone slots fp = (s : ℕ) (e : Owner × ℕ) → get_or slots s None ≡ Some e → e.0.fp ≡ fp → ⊥

find_owner : (slots : List (Option (Owner × ℕ))) (fp : List ℕ) → HasOwner slots fp ⊎ HasNone slots fp
find_owner [] fp = inr (λ s e at same. let no : None ≡ Some e = at in cc)
find_owner (None ∷ slots) fp = by_rest (find_owner slots fp)
  where
    by_rest : HasOwner slots fp ⊎ HasNone slots fp → HasOwner (None ∷ slots) fp ⊎ HasNone (None ∷ slots) fp
    by_rest (inl h) = inl (record { slot = suc h.slot; entry = h.entry; here = h.here; of_it = h.of_it })
    by_rest (inr none) = inr none_here
      where
        none_here : HasNone (None ∷ slots) fp
        none_here zero e at same = let no : None ≡ Some e = at in cc
        none_here (suc s) e at same = none s e at same
find_owner (Some x ∷ slots) fp = by_test (bytes_eq x.0.fp fp) refl (find_owner slots fp)
  where
    by_test : (b : Bool) → bytes_eq x.0.fp fp ≡ b → HasOwner slots fp ⊎ HasNone slots fp → HasOwner (Some x ∷ slots) fp ⊎ HasNone (Some x ∷ slots) fp
    by_test true t rest = inl (record { slot = 0; entry = x; here = refl; of_it = (bytes_eq-Decides x.0.fp fp).0 t })
    by_test false t (inl h) = inl (record { slot = suc h.slot; entry = h.entry; here = h.here; of_it = h.of_it })
    by_test false t (inr none) = inr none_here
      where
        none_here : HasNone (Some x ∷ slots) fp
        none_here zero e at same =
            let is : x ≡ e = cc in
            let no : false ≡ true = sym t ∙ (bytes_eq-Decides x.0.fp fp).1 (ap (λ (y : Owner × ℕ). y.0.fp) is ∙ same) in cc
        none_here (suc s) e at same = none s e at same

-- ---- what is alive is what some user owns

module _ (shape : Shape) (list : List Command) (memory : CloudMemory) (r : Remembers shape list (memory_of memory)) (l : AreListed memory) where
  some_owner : (fp : Fp) → (owners_of memory.shares.owners fp.0 ≡ 0 → ⊥) → IsAlive shape list fp
  some_owner fp some =
      elim (find_owner memory.shares.owner_slots fp.0) [
        | inl h ↦
            let user : UserId = record { 0 = h.entry.0.user } in
            let key : h.entry.0 ≡ owner_of user.0 fp.0 = λ i. record { user = h.entry.0.user; fp = h.of_it i } in
            (user, own_of shape list memory r l user fp h.entry.1 (ap (get memory.shares.owners) (sym key) ∙ l.owners.listed h.slot h.entry.0 h.entry.1 h.here))
        | inr none ↦ absurd (some (owners_none memory.shares.owners fp.0 (λ user uses at.
            let s = l.owners.stands (owner_of user fp.0) uses at in none s.0 (owner_of user fp.0, uses) s.2 refl)))
      ]

  -- what is alive is owned, and has its place
  pub live_from : (fp : Fp) (p : Place) → Contains (live_places memory) (fp, p) → IsAlive shape list fp × (get memory.shares.places fp.0 ≡ Some p)
  live_from fp p c =
      let s = from_picked (live_at memory.shares.owners) refl memory.shares.place_slots (fp, p) c in
      let g = live_gives memory.shares.owners s.entry (fp, p) s.picks in
      let bytes : s.entry.0 ≡ fp.0 = ap (λ (x : Fp × Place). x.0.0) g.1 in
      let place : s.entry.1 ≡ p = ap (λ (x : Fp × Place). x.1) g.1 in
      let at = l.places.listed s.slot s.entry.0 s.entry.1 s.here in (
        some_owner fp (λ none. g.0 (ap (owners_of memory.shares.owners) bytes ∙ none)),
        ap (get memory.shares.places) (sym bytes) ∙ at ∙ ap Some place,
      )

  -- and what is owned and has a place is alive
  pub live_to : (fp : Fp) (p : Place) → IsAlive shape list fp → get memory.shares.places fp.0 ≡ Some p → Contains (live_places memory) (fp, p)
  live_to fp p kept at =
      let s = l.places.stands fp.0 p at in
      let some = owners_some memory.shares.owners kept.0.0 fp.0 _ (owner_of_own shape list memory r l kept.0 fp kept.1) in
      in_picked (live_at memory.shares.owners) refl memory.shares.place_slots s.0 (fp.0, p) (fp, p) s.2
      (live_as memory.shares.owners (fp.0, p) (λ none. omega (arith, some, none)))
