-- What is marked is some user's, so that no checkpoint keeps it for nobody.
use Rattle.std.proofs.Common.{◌≡◌, inl, inr, ℕ, zero, suc, ◌<◌, Bool, List, take, drop, Option, Some, None, cond, refl, sym, ap, ◌∙◌, subst, arith}
use Rattle.std.specs.List.{Contains}
use Rattle.std.proofs.lemmas.Bool.{ne_eqb}
use Rattle.std.proofs.lemmas.List.{take-append-drop}
use Rattle.std.proofs.lemmas.List.Elements.{Contains-append_left, Contains-append_cases}
use Rattle.cloud_memory.specs.CdBase.ids.Fp.{Fp}
use Rattle.cloud_memory.specs.CdBase.place.Place.{Place}
use Rattle.cloud_memory.specs.PoolMap.Slots.{slot_of, IsListed}
use Rattle.cloud_memory.specs.ShareIndex.Order.{owner_of}
use Rattle.cloud_memory.specs.ShareIndex.Shares.{Shares, owners_of}
use Rattle.cloud_memory.proofs.UserDedup.Owned.{contains_nothing, among_contains}
use Rattle.std.specs.FinMap.{get}
use Rattle.checkpoints.specs.Records.{owned_at, owned_in, listed_below, listed, kept_at}
use Rattle.checkpoints.specs.Ready.{AreMarked, AreMarkedOwned}
use Rattle.checkpoints.proofs.Holders.{owners_some}
use Rattle.checkpoints.proofs.KeptLaw.{item_in}
use Rattle.checkpoints.proofs.OwnLaw.{owned_gives}
use Rattle.checkpoints.proofs.Picks.{picked-append}
use Rattle.checkpoints.proofs.Sought.{from_picked}

module _ (shares : Shares) (each : IsListed shares.owners shares.owner_slots) where
  -- what a user owns has an owner
  owned_some : (u : ℕ) (fp : Fp) → Contains (owned_in u shares.owner_slots) fp → 0 < owners_of shares.owners fp.0
  owned_some u fp c =
      let s = from_picked (owned_at u) refl shares.owner_slots fp c in
      let g = owned_gives u s.entry fp s.picks in
      let key : s.entry.0 ≡ owner_of u fp.0 = λ i. record { user = g.0 i; fp = g.1 i } in
      owners_some shares.owners u fp.0 s.entry.1 (ap (get shares.owners) (sym key) ∙ each.listed s.slot s.entry.0 s.entry.1 s.here)

  below_some : (users : ℕ) (fp : Fp) → Contains (listed_below shares.owner_slots users) fp → 0 < owners_of shares.owners fp.0
  below_some zero fp c = absurd (contains_nothing fp c)
  below_some (suc user) fp c =
      elim (Contains-append_cases (listed_below shares.owner_slots user) (owned_in user shares.owner_slots) fp c) [
        | inl before ↦ below_some user fp before
        | inr own ↦ owned_some user fp own
      ]

  -- what is listed is some user's
  listed_some : (user at : ℕ) (fp : Fp) → Contains (listed shares.owner_slots user at) fp → 0 < owners_of shares.owners fp.0
  listed_some user at fp c =
      elim (Contains-append_cases (listed_below shares.owner_slots user) (owned_in user (take at shares.owner_slots)) fp c) [
        | inl before ↦ below_some user fp before
        | inr own ↦
            owned_some user fp
            (subst (λ (fps : List Fp). Contains fps fp)
            (sym (picked-append (owned_at user) (take at shares.owner_slots) (drop at shares.owner_slots)) ∙ ap (owned_in user) (take-append-drop at shares.owner_slots))
            (Contains-append_left (owned_in user (take at shares.owner_slots)) (owned_in user (drop at shares.owner_slots)) fp own))
      ]

  pub marked_owned : (marks : List Bool) (user at : ℕ) → AreMarked shares marks (listed shares.owner_slots user at) → AreMarkedOwned shares marks
  marked_owned marks user at m slot is = by_entry (slot_of shares.place_slots slot) refl
    where
      by_entry : (o : Option (List ℕ × Place)) → slot_of shares.place_slots slot ≡ o → kept_at shares.owners o ≡ None
      by_entry None here = refl
      by_entry (Some e) here =
          let among = sym (m.marked slot e.0 e.1 here) ∙ is in
          let some = listed_some user at (record { 0 = e.0 }) (among_contains (listed shares.owner_slots user at) (record { 0 = e.0 }) among) in
          ap (λ b. cond b (Some (item_in e)) None) (ne_eqb (owners_of shares.owners e.0) 0 (λ zero_is. let none : owners_of shares.owners e.0 ≡ 0 = zero_is in omega (arith, none, some)))
