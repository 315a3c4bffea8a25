-- What each call does to the counts that tie the two tables together.
use Rattle.std.proofs.Common.{◌≡◌, ◌≢◌, ℕ, zero, suc, ◌+◌, ◌-◌, ◌<◌, ◌≤◌, true, cond, List, [], ◌∷◌, length, Option, Some, None, refl, sym, ap, ◌∙◌, subst, arith, inl, inr, ◌⊎◌, sum_by, true≢false}
use Rattle.std.specs.Prelude.{is_none, is_some, option_map, IfSome, slice_index_or, map, ◌==◌}
use Rattle.std.proofs.lemmas.List.Sums.{sum_by-cons, count_by-le-length}
use Rattle.std.proofs.lemmas.Bool.{cases_Bool, cond-true, cond-false, false_from_ne_true}
use Rattle.std.specs.Ordering.{eq_by_cmp, is_eq}
use Rattle.std.specs.Cmp.{tied_itself}
use Rattle.std.specs.FinMap.{FinMap, get, insert, remove, empty, entries, len, len-entries, len-empty, get-insert, get-remove, get-empty}
use Rattle.pool_map.specs.MapSums.{sum_by-insert_new, sum_by-insert_over, sum_by-remove, sum_by-alike, sum_by-parts, insert-same}
use Rattle.pool_map.specs.Shown.{shown, through, get-shown, sum_by-shown, shown-insert}
use Rattle.pool_map.specs.Slots.{slot_of, IsListed}
use Rattle.pool_map.specs.Charges.{is_eq-at}
use Rattle.share_index.specs.declared.key.Kept.{Kept}
use Rattle.cd_base.specs.declared.place.Place.{Place}
use Rattle.share_index.specs.declared.key.Owner.{Owner}
use Rattle.share_index.specs.Order.{owner_cmp, owner_exact}
use Rattle.cd_base.specs.Order.{fp_cmp, fp_exact}
use Rattle.share_index.specs.Owning.{Owners}
use Rattle.share_index.specs.Placing.{Places, zeros}
use Rattle.share_index.specs.Shares.{owners_of, ownerless_in}
use Rattle.share_index.specs.Indexed.{place_in, placed_slots, unplaced_in, IsIndexed}
use Rattle.share_index.proofs.Owning.{owner_total}
use Rattle.share_index.proofs.Placing.{fp_total}

sum_by-same : {A : Type 0} (f g : A → ℕ) (es : List A) → ((e : A) → f e ≡ g e) → sum_by f es ≡ sum_by g es
sum_by-same f g [] same = refl
sum_by-same f g (e ∷ es) same = let here = same e in let rest = sum_by-same f g es same in omega (arith, sum_by-cons f e es, sum_by-cons g e es)

no-sum : {A : Type 0} (f : A → ℕ) (es : List A) → length es ≡ 0 → sum_by f es ≡ 0
no-sum f [] e = refl
no-sum f (x ∷ es) e = absurd (omega arith)

-- 1 where the owner's fingerprint is this one
abbrev pub same : List ℕ → Owner → ℕ
same fp k = cond (eq_by_cmp fp_cmp k.fp fp) 1 0

same-here : (fp : List ℕ) (k : Owner) → fp ≡ k.fp → same fp k ≡ 1
same-here fp k e = ap (λ q. cond (eq_by_cmp fp_cmp k.fp q) 1 0) e ∙ ap (λ b. cond (is_eq b) 1 0) (tied_itself fp_total k.fp)

same-other : (fp : List ℕ) (k : Owner) → fp ≢ k.fp → same fp k ≡ 0
same-other fp k n = ap (λ b. cond b 1 0) (false_from_ne_true _ (λ t. n (sym (fp_exact k.fp fp (is_eq-at _ t)))))

module _ (owners : FinMap owner_cmp ℕ) (k : Owner) where
  owners-added : (v : ℕ) (fp : List ℕ) → get owners k ≡ None → owners_of (insert owners k v) fp ≡ same fp k + owners_of owners fp
  owners-added v fp none = sum_by-insert_new owner_total (λ (e : Owner × ℕ). same fp e.0) owners k v none

  owners-taken : (v : ℕ) (fp : List ℕ) → get owners k ≡ Some v → same fp k + owners_of (remove owners k) fp ≡ owners_of owners fp
  owners-taken v fp at = sum_by-remove owner_total owner_exact (λ (e : Owner × ℕ). same fp e.0) owners k v at

  owners-kept : (old v : ℕ) (fp : List ℕ) → get owners k ≡ Some old → owners_of (insert owners k v) fp ≡ owners_of owners fp
  owners-kept old v fp at = let e = sum_by-insert_over owner_total owner_exact (λ (x : Owner × ℕ). same fp x.0) owners k old v at in omega arith

pub owners-le-len : (owners : FinMap owner_cmp ℕ) (fp : List ℕ) → owners_of owners fp ≤ len owners
owners-le-len owners fp = omega (arith, count_by-le-length (λ (e : Owner × ℕ). eq_by_cmp fp_cmp e.0.fp fp) (entries owners), len-entries owners)

module _ (kept : FinMap fp_cmp Kept) where
  -- 1 where the owner's fingerprint has no place
  abbrev lacks : Owner → ℕ
  lacks k = cond (is_none (get kept k.fp)) 1 0

  unplaced-added : (owners : FinMap owner_cmp ℕ) (k : Owner) (v : ℕ) → get owners k ≡ None → unplaced_in kept (insert owners k v) ≡ lacks k + unplaced_in kept owners
  unplaced-added owners k v none = sum_by-insert_new owner_total (λ (e : Owner × ℕ). lacks e.0) owners k v none

  unplaced-taken : (owners : FinMap owner_cmp ℕ) (k : Owner) (v : ℕ) → get owners k ≡ Some v → lacks k + unplaced_in kept (remove owners k) ≡ unplaced_in kept owners
  unplaced-taken owners k v at = sum_by-remove owner_total owner_exact (λ (e : Owner × ℕ). lacks e.0) owners k v at

  unplaced-kept : (owners : FinMap owner_cmp ℕ) (k : Owner) (old v : ℕ) → get owners k ≡ Some old → unplaced_in kept (insert owners k v) ≡ unplaced_in kept owners
  unplaced-kept owners k old v at = let e = sum_by-insert_over owner_total owner_exact (λ (x : Owner × ℕ). lacks x.0) owners k old v at in omega arith

  pub unplaced-le-len : (owners : FinMap owner_cmp ℕ) → unplaced_in kept owners ≤ len owners
  unplaced-le-len owners = omega (arith, count_by-le-length (λ (e : Owner × ℕ). is_none (get kept e.0.fp)) (entries owners), len-entries owners)

  lacks-none : (k : Owner) → get kept k.fp ≡ None → lacks k ≡ 1
  lacks-none k at = ap (λ (o : Option Kept). cond (is_none o) 1 0) at

  lacks-some : (k : Owner) (x : Kept) → get kept k.fp ≡ Some x → lacks k ≡ 0
  lacks-some k x at = ap (λ (o : Option Kept). cond (is_none o) 1 0) at

-- where a fingerprint gets a place, its owners are no longer without
unplaced-placed : (kept : FinMap fp_cmp Kept) (owners : FinMap owner_cmp ℕ) (fp : List ℕ) (x : Kept) → get kept fp ≡ None → unplaced_in (insert kept fp x) owners + owners_of owners fp ≡ unplaced_in kept owners
unplaced-placed kept owners fp x none =
    sum_by-parts (λ (e : Owner × ℕ). lacks (insert kept fp x) e.0) (λ e. same fp e.0) (λ e. lacks kept e.0) (entries owners) (λ e.
    elim (cases_Bool (eq_by_cmp fp_cmp e.0.fp fp)) [
      | inl t ↦
          let now = lacks-some (insert kept fp x) e.0 x (get-insert fp_total kept fp x e.0.fp ∙ cond-true _ _ _ t) in
          let was = lacks-none kept e.0 (ap (get kept) (fp_exact e.0.fp fp (is_eq-at _ t)) ∙ none) in
          let one : same fp e.0 ≡ 1 = ap (λ b. cond b 1 0) t in
          omega arith
      | inr f ↦
          let now : lacks (insert kept fp x) e.0 ≡ lacks kept e.0 = ap (λ (o : Option Kept). cond (is_none o) 1 0) (get-insert fp_total kept fp x e.0.fp ∙ cond-false _ _ _ f) in
          let none_same : same fp e.0 ≡ 0 = ap (λ b. cond b 1 0) f in
          omega arith
    ])

-- where it loses its place, they are
unplaced-dropped : (kept : FinMap fp_cmp Kept) (owners : FinMap owner_cmp ℕ) (fp : List ℕ) (x : Kept) → get kept fp ≡ Some x → unplaced_in kept owners + owners_of owners fp ≡ unplaced_in (remove kept fp) owners
unplaced-dropped kept owners fp x at =
    sum_by-parts (λ (e : Owner × ℕ). lacks kept e.0) (λ e. same fp e.0) (λ e. lacks (remove kept fp) e.0) (entries owners) (λ e.
    elim (cases_Bool (eq_by_cmp fp_cmp e.0.fp fp)) [
      | inl t ↦
          let now = lacks-none (remove kept fp) e.0 (get-remove fp_total kept fp e.0.fp ∙ cond-true _ _ _ t) in
          let was = lacks-some kept e.0 x (ap (get kept) (fp_exact e.0.fp fp (is_eq-at _ t)) ∙ at) in
          let one : same fp e.0 ≡ 1 = ap (λ b. cond b 1 0) t in
          omega arith
      | inr f ↦
          let now : lacks (remove kept fp) e.0 ≡ lacks kept e.0 = ap (λ (o : Option Kept). cond (is_none o) 1 0) (get-remove fp_total kept fp e.0.fp ∙ cond-false _ _ _ f) in
          let none_same : same fp e.0 ≡ 0 = ap (λ b. cond b 1 0) f in
          omega arith
    ])

-- a write over what is kept changes no place
unplaced-over : (kept : FinMap fp_cmp Kept) (owners : FinMap owner_cmp ℕ) (fp : List ℕ) (old x : Kept) → get kept fp ≡ Some old → unplaced_in (insert kept fp x) owners ≡ unplaced_in kept owners
unplaced-over kept owners fp old x at =
    sum_by-same (λ (e : Owner × ℕ). lacks (insert kept fp x) e.0) (λ e. lacks kept e.0) (entries owners) (λ e.
    elim (cases_Bool (eq_by_cmp fp_cmp e.0.fp fp)) [
      | inl t ↦ lacks-some (insert kept fp x) e.0 x (get-insert fp_total kept fp x e.0.fp ∙ cond-true _ _ _ t) ∙ sym (lacks-some kept e.0 old (ap (get kept) (fp_exact e.0.fp fp (is_eq-at _ t)) ∙ at))
      | inr f ↦ ap (λ (o : Option Kept). cond (is_none o) 1 0) (get-insert fp_total kept fp x e.0.fp ∙ cond-false _ _ _ f)
    ])

-- what is kept after a write: the new, or the old of another fingerprint
written : (kept : FinMap fp_cmp Kept) (fp q : List ℕ) (x y : Kept) → get (insert kept fp x) q ≡ Some y → ((q ≡ fp) × (y ≡ x)) ⊎ ((q ≢ fp) × (get kept q ≡ Some y))
written kept fp q x y got =
    elim (cases_Bool (eq_by_cmp fp_cmp q fp)) [
      | inl t ↦ let two : Some x ≡ Some y = sym (get-insert fp_total kept fp x q ∙ cond-true _ _ _ t) ∙ got in inl (fp_exact q fp (is_eq-at _ t), cc)
      | inr f ↦ inr ((λ e. true≢false (sym (ap (λ z. is_eq (fp_cmp q z)) (sym e) ∙ ap is_eq (tied_itself fp_total q)) ∙ f)), sym (get-insert fp_total kept fp x q ∙ cond-false _ _ _ f) ∙ got)
    ]

left-after : (kept : FinMap fp_cmp Kept) (fp q : List ℕ) (y : Kept) → get (remove kept fp) q ≡ Some y → get kept q ≡ Some y
left-after kept fp q y got =
    elim (cases_Bool (eq_by_cmp fp_cmp q fp)) [
      | inl t ↦ absurd (let gone : None ≡ Some y = sym (get-remove fp_total kept fp q ∙ cond-true _ _ _ t) ∙ got in cc)
      | inr f ↦ sym (get-remove fp_total kept fp q ∙ cond-false _ _ _ f) ∙ got
    ]

module _ (p : Places) (o : Owners) (n : ℕ) (is : IsIndexed p o n) where
  -- the owners of a fingerprint without a place are among those without
  pub owners-le-unplaced : (fp : List ℕ) (x : Kept) → get p.kept fp ≡ None → owners_of o.owners fp ≤ n
  owners-le-unplaced fp x none = let was = is.left in omega (arith, unplaced-placed p.kept o.owners fp x none)

  pub indexed-place : (q : Places) (fp : List ℕ) (x : Kept) → q.kept ≡ insert p.kept fp x → get p.kept fp ≡ None → x.owners ≡ owners_of o.owners fp → IsIndexed q o (n - x.owners)
  indexed-place q fp x to none owners = record {
    counted = λ f k got. elim (written p.kept fp f x k (ap (λ (m : FinMap fp_cmp Kept). get m f) (sym to) ∙ got)) [
      | inl e ↦ ap (λ (y : Kept). y.owners) e.1 ∙ owners ∙ ap (owners_of o.owners) (sym e.0)
      | inr old ↦ is.counted f k old.1
    ];
    left = let was = is.left in let now = ap (λ (m : FinMap fp_cmp Kept). unplaced_in m o.owners) to in omega (arith, unplaced-placed p.kept o.owners fp x none);
  }

  pub indexed-drop_place : (q : Places) (fp : List ℕ) (x : Kept) → q.kept ≡ remove p.kept fp → get p.kept fp ≡ Some x → IsIndexed q o (n + x.owners)
  indexed-drop_place q fp x to at = record {
    counted = λ f k got. is.counted f k (left-after p.kept fp f k (ap (λ (m : FinMap fp_cmp Kept). get m f) (sym to) ∙ got));
    left = let was = is.left in let count = is.counted fp x at in let now = ap (λ (m : FinMap fp_cmp Kept). unplaced_in m o.owners) to in omega (arith, unplaced-dropped p.kept o.owners fp x at);
  }

  -- another place, with as many owners
  pub indexed-move : (q : Places) (fp : List ℕ) (x y : Kept) → q.kept ≡ insert p.kept fp y → get p.kept fp ≡ Some x → y.owners ≡ x.owners → IsIndexed q o n
  indexed-move q fp x y put at same = record {
    counted = λ f k got. elim (written p.kept fp f y k (ap (λ (m : FinMap fp_cmp Kept). get m f) (sym put) ∙ got)) [
      | inl e ↦ ap (λ (z : Kept). z.owners) e.1 ∙ same ∙ is.counted fp x at ∙ ap (owners_of o.owners) (sym e.0)
      | inr old ↦ is.counted f k old.1
    ];
    left = is.left ∙ sym (ap (λ (m : FinMap fp_cmp Kept). unplaced_in m o.owners) put ∙ unplaced-over p.kept o.owners fp x y at);
  }

  -- where each owner's fingerprint has a place, nobody owns one without
  pub none-unplaced : (fp : List ℕ) → get p.kept fp ≡ None → n ≡ 0 → 0 ≡ owners_of o.owners fp
  none-unplaced fp none all_placed = let le = owners-le-unplaced fp (record { place = record { at = 0; len = 0 }; owners = 0 }) none in omega arith

  -- all owners of one fingerprint and those without a place are owners
  pub drop_place-fits : (fp : List ℕ) (x : Kept) → get p.kept fp ≡ Some x → n + x.owners ≤ len o.owners
  drop_place-fits fp x at = let was = is.left in let count = is.counted fp x at in omega (arith, unplaced-dropped p.kept o.owners fp x at, unplaced-le-len (remove p.kept fp) o.owners)

  module _ (r : Owners) (k : Owner) (to : r.owners ≡ insert o.owners k 0) (none : get o.owners k ≡ None) where
    owners-now : (fp : List ℕ) → owners_of r.owners fp ≡ same fp k + owners_of o.owners fp
    owners-now fp = ap (λ (m : FinMap owner_cmp ℕ). owners_of m fp) to ∙ owners-added o.owners k 0 fp none

    pub add-fits : (x : Kept) → get p.kept k.fp ≡ Some x → x.owners + 1 ≤ len r.owners
    add-fits x at = let count = is.counted k.fp x at in let here = same-here k.fp k refl in omega (arith, owners-now k.fp, owners-le-len r.owners k.fp)

    pub add-unplaced-fits : get p.kept k.fp ≡ None → n + 1 ≤ len r.owners
    add-unplaced-fits at =
        let was = is.left in
        let now = ap (unplaced_in p.kept) to in
        omega (arith, unplaced-added p.kept o.owners k 0 none, lacks-none p.kept k at, unplaced-le-len p.kept r.owners)

    pub indexed-add : (q : Places) (x y : Kept) → q.kept ≡ insert p.kept k.fp y → get p.kept k.fp ≡ Some x → y.owners ≡ x.owners + 1 → IsIndexed q r n
    indexed-add q x y put at more = record {
      counted = λ f z got. elim (written p.kept k.fp f y z (ap (λ (m : FinMap fp_cmp Kept). get m f) (sym put) ∙ got)) [
        | inl e ↦
            let count = is.counted k.fp x at in
            let z_is = ap (λ (w : Kept). w.owners) e.1 in
            let here = same-here f k e.0 in
            let was : owners_of o.owners f ≡ owners_of o.owners k.fp = ap (owners_of o.owners) e.0 in
            omega (arith, owners-now f)
        | inr old ↦ let count = is.counted f z old.1 in let other = same-other f k old.0 in omega (arith, owners-now f)
      ];
      left =
          let was = is.left in
          let now = ap (λ (m : FinMap fp_cmp Kept). unplaced_in m r.owners) put ∙ unplaced-over p.kept r.owners k.fp x y at ∙ ap (unplaced_in p.kept) to in
          omega (arith, unplaced-added p.kept o.owners k 0 none, lacks-some p.kept k x at);
    }

    pub indexed-add_unplaced : get p.kept k.fp ≡ None → IsIndexed p r (n + 1)
    indexed-add_unplaced at = record {
      counted = λ f z got.
          let count = is.counted f z got in
          let other = same-other f k (λ e. let gone : None ≡ Some z = sym at ∙ ap (get p.kept) (sym e) ∙ got in cc) in
          omega (arith, owners-now f);
      left =
          let was = is.left in
          let now = ap (unplaced_in p.kept) to in
          omega (arith, unplaced-added p.kept o.owners k 0 none, lacks-none p.kept k at);
    }

  module _ (r : Owners) (k : Owner) (v : ℕ) (to : r.owners ≡ remove o.owners k) (had : get o.owners k ≡ Some v) where
    owners-then : (fp : List ℕ) → same fp k + owners_of r.owners fp ≡ owners_of o.owners fp
    owners-then fp = let now = ap (λ (m : FinMap owner_cmp ℕ). owners_of m fp) to in omega (arith, owners-taken o.owners k v fp had)

    pub drop-fits : (x : Kept) → get p.kept k.fp ≡ Some x → 1 ≤ x.owners
    drop-fits x at = let count = is.counted k.fp x at in let here = same-here k.fp k refl in omega (arith, owners-then k.fp)

    pub drop-unplaced-fits : get p.kept k.fp ≡ None → 1 ≤ n
    drop-unplaced-fits at = let was = is.left in omega (arith, unplaced-taken p.kept o.owners k v had, lacks-none p.kept k at)

    pub indexed-drop : (q : Places) (x y : Kept) → q.kept ≡ insert p.kept k.fp y → get p.kept k.fp ≡ Some x → y.owners ≡ x.owners - 1 → IsIndexed q r n
    indexed-drop q x y put at fewer = record {
      counted = λ f z got. elim (written p.kept k.fp f y z (ap (λ (m : FinMap fp_cmp Kept). get m f) (sym put) ∙ got)) [
        | inl e ↦
            let count = is.counted k.fp x at in
            let z_is = ap (λ (w : Kept). w.owners) e.1 in
            let here = same-here f k e.0 in
            let was : owners_of o.owners f ≡ owners_of o.owners k.fp = ap (owners_of o.owners) e.0 in
            omega (arith, owners-then f)
        | inr old ↦ let count = is.counted f z old.1 in let other = same-other f k old.0 in omega (arith, owners-then f)
      ];
      left =
          let was = is.left in
          let now = ap (λ (m : FinMap fp_cmp Kept). unplaced_in m r.owners) put ∙ unplaced-over p.kept r.owners k.fp x y at ∙ ap (unplaced_in p.kept) to in
          omega (arith, unplaced-taken p.kept o.owners k v had, lacks-some p.kept k x at);
    }

    pub indexed-drop_unplaced : get p.kept k.fp ≡ None → IsIndexed p r (n - 1)
    indexed-drop_unplaced at = record {
      counted = λ f z got.
          let count = is.counted f z got in
          let other = same-other f k (λ e. let gone : None ≡ Some z = sym at ∙ ap (get p.kept) (sym e) ∙ got in cc) in
          omega (arith, owners-then f);
      left =
          let was = is.left in
          let now = ap (unplaced_in p.kept) to in
          omega (arith, unplaced-taken p.kept o.owners k v had, lacks-none p.kept k at);
    }

  pub indexed-uses : (r : Owners) (k : Owner) (old v : ℕ) → r.owners ≡ insert o.owners k v → get o.owners k ≡ Some old → IsIndexed p r n
  indexed-uses r k old v to had = record {
    counted = λ f z got. is.counted f z got ∙ sym (ap (λ (m : FinMap owner_cmp ℕ). owners_of m f) to ∙ owners-kept o.owners k old v f had);
    left = is.left ∙ sym (ap (unplaced_in p.kept) to ∙ unplaced-kept p.kept o.owners k old v had);
  }

  pub ownerless-is : zeros p.kept ≡ ownerless_in (shown place_in p.kept) o.owners
  ownerless-is =
      sum_by-alike fp_total fp_exact (λ (e : List ℕ × Kept). cond (e.1.owners == 0) 1 0) (λ e. cond (owners_of o.owners e.0 == 0) 1 0) p.kept (λ f k got. ap (λ c. cond (c == 0) 1 0) (is.counted f k got))
      ∙ sym (sum_by-shown place_in (λ (e : List ℕ × Place). cond (owners_of o.owners e.0 == 0) 1 0) p.kept)

pub indexed-empty : (p : Places) (o : Owners) → p.kept ≡ empty → o.owners ≡ empty → IsIndexed p o 0
indexed-empty p o no_places no_owners = record {
  counted = λ f k got. absurd (let gone : None ≡ Some k = sym (ap (λ (m : FinMap fp_cmp Kept). get m f) no_places ∙ get-empty fp_cmp f) ∙ got in cc);
  left = sym (ap (unplaced_in p.kept) no_owners ∙ no-sum (λ (e : Owner × ℕ). lacks p.kept e.0) (entries empty) (sym (len-entries empty) ∙ len-empty owner_cmp ℕ));
}

-- a write over what is kept that leaves the place
pub places-same : (kept : FinMap fp_cmp Kept) (fp : List ℕ) (x y : Kept) → get kept fp ≡ Some x → y.place ≡ x.place → shown place_in (insert kept fp y) ≡ shown place_in kept
places-same kept fp x y at place =
    shown-insert place_in fp_total fp_exact kept fp y
    ∙ ap (insert (shown place_in kept) fp) place
    ∙ insert-same fp_total fp_exact (shown place_in kept) fp x.place (get-shown place_in kept fp ∙ ap (option_map place_in) at)

-- the slots of the places
slot-mapped : {A B : Type 0} (f : A → B) (slots : List (Option A)) (s : ℕ) → slice_index_or (map (option_map f) slots) s None ≡ option_map f (slice_index_or slots s None)
slot-mapped f [] s = refl
slot-mapped f (x ∷ slots) zero = refl
slot-mapped f (x ∷ slots) (suc s) = slot-mapped f slots s

pub length-mapped : {A B : Type 0} (f : A → B) (slots : List A) → length (map f slots) ≡ length slots
length-mapped f [] = refl
length-mapped f (x ∷ slots) = ap suc (length-mapped f slots)

pub placed-slot : (slots : List (Option (List ℕ × Kept))) (s : ℕ) → slot_of (placed_slots slots) s ≡ option_map (through place_in) (slot_of slots s)
placed-slot slots s = slot-mapped (through place_in) slots s

mapped : {A B : Type 0} (f : A → B) (o : Option A) (y : B) → option_map f o ≡ Some y → (x : A) × (o ≡ Some x) × (f x ≡ y)
mapped f None y e = absurd (let gone : None ≡ Some y = e in cc)
mapped f (Some x) y e = let two : Some (f x) ≡ Some y = e in (x, refl, cc)

pub listed-places : (kept : FinMap fp_cmp Kept) (slots : List (Option (List ℕ × Kept))) → IsListed kept slots → IsListed (shown place_in kept) (placed_slots slots)
listed-places kept slots is = record {
  stands = λ k v got.
      let x = mapped place_in (get kept k) v (sym (get-shown place_in kept k) ∙ got) in
      let s = is.stands k x.0 x.1 in
      (s.0, subst (λ n. s.0 < n) (sym (length-mapped (option_map (through place_in)) slots)) s.1, placed-slot slots s.0 ∙ ap (option_map (through place_in)) s.2 ∙ ap (λ y. Some (k, y)) x.2);
  listed = λ s k v at.
      let h = mapped (through place_in) (slot_of slots s) (k, v) (sym (placed-slot slots s) ∙ at) in
      let key : h.0.0 ≡ k = ap (λ (y : List ℕ × Place). y.0) h.2 in
      let value : place_in h.0.1 ≡ v = ap (λ (y : List ℕ × Place). y.1) h.2 in
      get-shown place_in kept k ∙ ap (option_map place_in) (ap (get kept) (sym key) ∙ is.listed s h.0.0 h.0.1 h.1) ∙ ap Some value;
  once = λ i j k v w at_i at_j.
      let x = mapped (through place_in) (slot_of slots i) (k, v) (sym (placed-slot slots i) ∙ at_i) in
      let y = mapped (through place_in) (slot_of slots j) (k, w) (sym (placed-slot slots j) ∙ at_j) in
      let key_x : x.0.0 ≡ k = ap (λ (z : List ℕ × Place). z.0) x.2 in
      let key_y : y.0.0 ≡ k = ap (λ (z : List ℕ × Place). z.0) y.2 in
      is.once i j k x.0.1 y.0.1 (x.1 ∙ ap (λ (q : List ℕ). Some (q, x.0.1)) key_x) (y.1 ∙ ap (λ (q : List ℕ). Some (q, y.0.1)) key_y);
}

twice : (fp : List ℕ) (o : Option Kept) → option_map (through place_in) (option_map (λ (k : Kept). (fp, k)) o) ≡ option_map (λ (place : Place). (fp, place)) (option_map place_in o)
twice fp None = refl
twice fp (Some x) = refl

-- the slot of a fingerprint shows its place
pub slot-placed : (kept : FinMap fp_cmp Kept) (slots : List (Option (List ℕ × Kept))) (fp : List ℕ) (answer : Option ℕ) → IfSome answer (λ s. slot_of slots s ≡ option_map (λ k. (fp, k)) (get kept fp)) → IfSome answer (λ s. slot_of (placed_slots slots) s ≡ option_map (λ place. (fp, place)) (get (shown place_in kept) fp))
slot-placed kept slots fp None here = tt
slot-placed kept slots fp (Some s) here =
    placed-slot slots s
    ∙ ap (option_map (through place_in)) here
    ∙ twice fp (get kept fp)
    ∙ ap (option_map (λ (place : Place). (fp, place))) (sym (get-shown place_in kept fp))

some-place : (o : Option Kept) → is_some (option_map place_in o) ≡ is_some o
some-place None = refl
some-place (Some x) = refl

-- what is kept of a fingerprint has its place
pub present-place : (kept : FinMap fp_cmp Kept) (fp : List ℕ) → is_some (get (shown place_in kept) fp) ≡ is_some (get kept fp)
present-place kept fp = ap is_some (get-shown place_in kept fp) ∙ some-place (get kept fp)

pub absent-place : (kept : FinMap fp_cmp Kept) (fp : List ℕ) → get (shown place_in kept) fp ≡ None → get kept fp ≡ None
absent-place kept fp e = none-mapped (get kept fp) (sym (get-shown place_in kept fp) ∙ e)
  where
    none-mapped : (o : Option Kept) → option_map place_in o ≡ None → o ≡ None
    none-mapped None e = refl
    none-mapped (Some x) e = absurd (let gone : Some x.place ≡ None = e in cc)
