-- The marks once a share more is listed.
use Rattle.std.proofs.Common.{◌≡◌, ◌≢◌, ℕ, zero, suc, ◌<◌, Bool, true, false, List, [], ◌∷◌, ◌++◌, length, Option, Some, None, get_or, set, refl, sym, ap, ◌∙◌, inl, inr, arith, length-set, true≢false}
use Rattle.std.specs.Prelude.{option_map, is_some, ◌||◌, bytes_eq}
use Rattle.std.specs.FinMap.{get}
use Rattle.std.proofs.lemmas.List.{get_or-set_same, get_or-set_other}
use Rattle.std.proofs.lemmas.List.Folds.{list_any-append}
use Rattle.std.proofs.lemmas.Bool.{cases_eq, cases_Bool}
use Rattle.std.proofs.Math.Bool.{or-false, or-true}
use Rattle.cloud_memory.specs.CdBase.ids.Fp.{Fp}
use Rattle.cloud_memory.specs.PoolMap.Slots.{slot_of, IsListed}
use Rattle.cloud_memory.specs.CdBase.place.Place.{Place}
use Rattle.cloud_memory.specs.ShareIndex.Shares.{Shares}
use Rattle.cloud_memory.specs.UserDedup.Owning.{is_among}
use Rattle.cloud_memory.proofs.UserDedup.Owned.{fp_same}
use Rattle.checkpoints.specs.Ready.{AreMarked}

-- ---- one fingerprint more

abbrev fp_of : List ℕ → Fp
fp_of bytes = record { 0 = bytes }

abbrev key_or : Option (List ℕ × Place) → List ℕ
key_or None = []
key_or (Some e) = e.0

among_more : (fps : List Fp) (fp q : Fp) → is_among (fps ++ fp ∷ []) q ≡ (is_among fps q || bytes_eq fp.0 q.0)
among_more fps fp q = list_any-append (λ (other : Fp). bytes_eq other.0 q.0) fps (fp ∷ []) ∙ ap (λ b. is_among fps q || b) (or-false (bytes_eq fp.0 q.0))

pub more_same : (fps : List Fp) (fp : Fp) → is_among (fps ++ fp ∷ []) fp ≡ true
more_same fps fp = among_more fps fp fp ∙ ap (λ b. is_among fps fp || b) ((fp_same fp fp).1 refl) ∙ or-true (is_among fps fp)

pub more_other : (fps : List Fp) (fp q : Fp) → fp ≢ q → is_among (fps ++ fp ∷ []) q ≡ is_among fps q
more_other fps fp q ne =
    elim (cases_Bool (bytes_eq fp.0 q.0)) [
      | inl t ↦ absurd (ne ((fp_same fp q).0 t))
      | inr f ↦ among_more fps fp q ∙ ap (λ b. is_among fps q || b) f ∙ or-false (is_among fps q)
    ]

-- ---- slots

pub slot_inside : {E : Type 0} (slots : List (Option E)) (s : ℕ) (x : E) → get_or slots s None ≡ Some x → s < length slots
slot_inside [] s x e = absurd (let no : None ≡ Some x = e in cc)
slot_inside (y ∷ ys) zero x e = omega arith
slot_inside (y ∷ ys) (suc s) x e = omega (arith, slot_inside ys s x e)

module _ (shares : Shares) (marks : List Bool) (fps : List Fp) (fp : Fp) (m : AreMarked shares marks fps) (stand : IsListed shares.places shares.place_slots) where
  -- another slot has another fingerprint
  apart : (s t : ℕ) (place other : Place) (q : List ℕ) → slot_of shares.place_slots s ≡ Some (fp.0, place) → slot_of shares.place_slots t ≡ Some (q, other) → t ≢ s → fp ≢ fp_of q
  apart s t place other q at_s at_t ne same =
      ne (sym (stand.once s t fp.0 place other at_s (at_t ∙ ap (λ (f : Fp). Some (f.0, other)) (sym same))))

  in_slot : (s : ℕ) (place : Place) → slot_of shares.place_slots s ≡ Some (fp.0, place) → AreMarked shares (set marks s true) (fps ++ fp ∷ [])
  in_slot s place at_s = record {
    long = omega (arith, length-set marks s true, m.long);
    marked = λ t q other at_t.
        elim (cases_eq t s) [
          | inl e ↦
              let same : fp_of q ≡ fp = ap (λ o. fp_of (key_or o)) (sym at_t ∙ ap (λ n. slot_of shares.place_slots n) e ∙ at_s) in
              ap (λ n. get_or (set marks s true) n false) e
              ∙ get_or-set_same marks s true false (omega (arith, slot_inside shares.place_slots s (fp.0, place) at_s, m.long))
              ∙ sym (more_same fps fp) ∙ ap (is_among (fps ++ fp ∷ [])) (sym same)
          | inr ne ↦
              get_or-set_other marks s t true false ne
              ∙ m.marked t q other at_t
              ∙ sym (more_other fps fp (fp_of q) (apart s t place other q at_s at_t ne))
        ];
  }

  by_place : (s : ℕ) (o : Option Place) → slot_of shares.place_slots s ≡ option_map (λ (place : Place). (fp.0, place)) o → true ≡ is_some o → AreMarked shares (set marks s true) (fps ++ fp ∷ [])
  by_place s None at_s there = absurd (true≢false there)
  by_place s (Some place) at_s there = in_slot s place at_s

  pub marked_more : (s : ℕ) → slot_of shares.place_slots s ≡ option_map (λ (place : Place). (fp.0, place)) (get shares.places fp.0) → true ≡ is_some (get shares.places fp.0)
      → AreMarked shares (set marks s true) (fps ++ fp ∷ [])
  marked_more s = by_place s (get shares.places fp.0)

  -- a fingerprint without a place has no slot
  pub unplaced_more : false ≡ is_some (get shares.places fp.0) → AreMarked shares marks (fps ++ fp ∷ [])
  unplaced_more none = record {
    long = m.long;
    marked = λ t q other at_t.
        m.marked t q other at_t
        ∙ sym (more_other fps fp (fp_of q) (λ same.
        true≢false (sym (none ∙ ap is_some (ap (λ (f : Fp). get shares.places f.0) same ∙ stand.listed t q other at_t)))));
  }
