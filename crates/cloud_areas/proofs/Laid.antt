-- What is laid behind two ends has room there.
use Rattle.std.proofs.Common.{◌≡◌, ⊎_elim, inl, inr, ℕ, ◌+◌, ◌*◌, ◌≤◌, List, [], ◌∷◌, ◌++◌, length, map, refl, sym, subst, arith}
use Rattle.std.specs.Prelude.{All}
use Rattle.std.specs.List.{Contains}
use Rattle.std.proofs.lemmas.List.Elements.{All-nil, All-cons, All-head, All-tail, Contains-append_cases}
use Rattle.std.proofs.lemmas.List.Sums.{sum_by-cons}
use Rattle.container_log.specs.Laying.{lengths, placed, Placed}
use Rattle.container_log.specs.Places.{container_len, end_after, end_of_laid, LiesInOne}
use Rattle.container_log.proofs.Least.{place_cases, place_behind, least_place}
use Rattle.record_body.specs.Spelling.{Body}
use Rattle.user_dedup.specs.CdBase.place.Place.{Place}
use Rattle.user_dedup.proofs.Owned.{contains_nothing, contains_cases}
use Rattle.user_dedup.specs.declared.command.Command.{Command}
use Rattle.cloud_areas.specs.Placing.{shares_in, shares_placed, recipes_placed, recipes_in, region_start, end_of, greatest_end, AreBehind, places_of, total_len}
use Rattle.cloud_areas.specs.Chains.{IsRecord, LiesIn, BothHaveRoom}
use Rattle.cloud_areas.specs.Laid.{AreLaid, end_behind, place_by, AreSmall, IsLaidBehind, HaveEnds}
use Rattle.cloud_areas.proofs.Ends.{end_least, end_each, end_bound}
use Rattle.cloud_areas.proofs.Behind.{places_more, recipes_more, rooms_more}
use Rattle.cloud_areas.proofs.Spends.{shares_spent, recipes_spent}

-- ---- places

pub laid_behind : (least end : ℕ) (ps : List Place) → AreLaid end ps → least ≤ end → AreBehind least ps
laid_behind least end [] laid le = tt
laid_behind least end (p ∷ ps) laid le = (omega (arith, place_behind end p.len, laid.0, le), laid_behind (end_of p) (end_of p) ps laid.1 (omega arith))

laid_lies : (region end : ℕ) (ps : List Place) → AreLaid end ps → AreSmall ps → region_start region ≤ end → All (LiesIn region) ps
laid_lies region end [] laid small le = All-nil (LiesIn region)
laid_lies region end (p ∷ ps) laid small le =
    let few = All-head (λ (q : Place). q.len ≤ container_len) p ps small in
    let begins : region_start region ≤ p.at = omega (arith, place_behind end p.len, laid.0, le) in
    All-cons (LiesIn region) p ps
    (begins, subst (λ (n : ℕ). LiesInOne n p.len) (sym laid.0) (least_place end p.len few).in_one)
    (laid_lies region (end_of p) ps laid.1 (All-tail (λ (q : Place). q.len ≤ container_len) p ps small) (omega (arith, begins)))

no_nearer : (end : ℕ) (ps : List Place) → AreLaid end ps → end ≤ end_behind end ps
no_nearer end [] laid = omega arith
no_nearer end (p ∷ ps) laid = omega (arith, place_behind end p.len, laid.0, no_nearer (end_of p) ps laid.1)

laid_each : (end : ℕ) (ps : List Place) (p : Place) → AreLaid end ps → Contains ps p → end_of p ≤ end_behind end ps
laid_each end [] p laid c = absurd (contains_nothing p c)
laid_each end (q ∷ ps) p laid c = elim (contains_cases q ps p c) [
  | inl same ↦ subst (λ (r : Place). end_of r ≤ end_behind (end_of q) ps) same (no_nearer (end_of q) ps laid.1)
  | inr later ↦ laid_each (end_of q) ps p laid.1 later
]

-- all that lies there ends in front of the new end
laid_end : (least end : ℕ) (old new : List Place) → greatest_end least old ≤ end → AreLaid end new → greatest_end least (old ++ new) ≤ end_behind end new
laid_end least end old new le laid =
    let far = no_nearer end new laid in
    end_bound least (end_behind end new) (old ++ new) (omega (arith, end_least least old, le, far))
    (λ p c. elim (Contains-append_cases old new p c) [
      | inl had ↦ (let at = end_each least old p had in omega (arith, at, le, far))
      | inr this ↦ laid_each end new p laid this
    ])

-- A blob moves an end by at most twice its length: the zeros before it are fewer than its bytes.
pub moves : (end len : ℕ) → end_after end len ≤ end + 2 * len
moves end len = ⊎_elim (λ a. omega (arith, a.0, a.1)) (λ a. omega (arith, a.0, a.1)) (place_cases end len)

pub laid_moves : (end : ℕ) (ps : List Place) → AreLaid end ps → end_behind end ps ≤ end + 2 * total_len ps
laid_moves end [] laid = omega arith
laid_moves end (p ∷ ps) laid =
    omega (arith, moves end p.len, laid.0, laid_moves (end_of p) ps laid.1, sum_by-cons (λ (q : Place). q.len) p ps)

-- ---- blobs

pub blobs_laid : (end : ℕ) (blobs : List (List ℕ)) → AreLaid end (map place_by (placed end blobs))
blobs_laid end [] = tt
blobs_laid end (blob ∷ blobs) = (refl, blobs_laid (end_after end (length blob)) blobs)

pub blobs_end : (end : ℕ) (blobs : List (List ℕ)) → end_behind end (map place_by (placed end blobs)) ≡ end_of_laid end (lengths blobs)
blobs_end end [] = refl
blobs_end end (blob ∷ blobs) = blobs_end (end_after end (length blob)) blobs

-- ---- a record

module _ (region : ℕ) (records : List Body) (list : List Command) (command : Command) (body : Body) (more : List Placed) (is : IsRecord region records list command body more)
    (shares recipes : ℕ) (ends : HaveEnds region list records shares recipes) (laid : IsLaidBehind shares recipes body) where
  abbrev new_shares : ℕ
  new_shares = end_behind shares (places_of (shares_placed body))

  abbrev new_recipes : ℕ
  new_recipes = end_behind recipes (recipes_placed body)

  pub ends_more : HaveEnds region (list ++ command ∷ []) (records ++ body ∷ []) new_shares new_recipes
  ends_more = record {
    shares_behind = subst (λ (l : List Place). greatest_end (region_start region) l ≤ new_shares) (sym (places_more records body))
        (laid_end (region_start region) shares (places_of (shares_in records)) (places_of (shares_placed body)) ends.shares_behind laid.shares_laid);
    shares_bound =
        omega (arith, ends.shares_bound, laid_moves shares (places_of (shares_placed body)) laid.shares_laid, shares_spent region records list command body more is);
    recipes_behind = subst (λ (l : List Place). greatest_end (region_start region) l ≤ new_recipes) (sym (recipes_more records body))
        (laid_end (region_start region) recipes (recipes_in records) (recipes_placed body) ends.recipes_behind laid.recipes_laid);
    recipes_bound =
        omega (arith, ends.recipes_bound, laid_moves recipes (recipes_placed body) laid.recipes_laid, recipes_spent region records list command body more is);
  }

  pub laid_has_room : BothHaveRoom region list records → BothHaveRoom region (list ++ command ∷ []) (records ++ body ∷ [])
  laid_has_room rooms =
      rooms_more region records list command body more is rooms (record {
        shares = laid_lies region shares (places_of (shares_placed body)) laid.shares_laid laid.shares_small
            (omega (arith, end_least (region_start region) (places_of (shares_in records)), ends.shares_behind));
        recipes = laid_lies region recipes (recipes_placed body) laid.recipes_laid laid.recipes_small
            (omega (arith, end_least (region_start region) (recipes_in records), ends.recipes_behind));
        shares_bound = omega (arith, ends_more.shares_behind, ends_more.shares_bound);
        recipes_bound = omega (arith, ends_more.recipes_behind, ends_more.recipes_bound);
      })
