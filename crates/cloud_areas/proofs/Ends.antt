-- The ends of places, and places that don't overlap.
use Rattle.std.proofs.Common.{◌≡◌, ◌⊎◌, inl, inr, ℕ, zero, suc, ◌+◌, ◌*◌, ◌≤◌, max, List, [], ◌∷◌, ◌++◌, length, map, None, Some, refl, sym, ap, ◌∙◌, subst, arith}
use Rattle.std.specs.Prelude.{All, slice_get}
use Rattle.std.specs.List.{Contains}
use Rattle.std.proofs.lemmas.List.Elements.{All-append}
use Rattle.user_dedup.specs.CdBase.place.Place.{Place}
use Rattle.user_dedup.proofs.Owned.{contains_here, contains_later, contains_nothing, contains_cases}
use Rattle.cloud_areas.specs.Placing.{region_start, end_of, greatest_end, AreBehind}
use Rattle.cloud_areas.specs.Chains.{LiesIn, DontOverlap, HaveRoom}
use Rattle.cloud_areas.proofs.Apart.{Apart, are_apart, contains_get, get_contains}

-- ---- ends

pub end_append : (least : ℕ) (a b : List Place) → greatest_end least (a ++ b) ≡ greatest_end (greatest_end least b) a
end_append least [] b = refl
end_append least (p ∷ a) b = ap (max (end_of p)) (end_append least a b)

pub end_least : (least : ℕ) (ps : List Place) → least ≤ greatest_end least ps
end_least least [] = omega arith
end_least least (p ∷ ps) = omega (arith, end_least least ps)

end_rises : (least more : ℕ) (ps : List Place) → least ≤ more → greatest_end least ps ≤ greatest_end more ps
end_rises least more [] le = le
end_rises least more (p ∷ ps) le = omega (arith, end_rises least more ps le)

-- more places end no further in front
pub end_grows : (least : ℕ) (a b : List Place) → greatest_end least a ≤ greatest_end least (a ++ b)
end_grows least a b = subst (λ (n : ℕ). greatest_end least a ≤ n) (sym (end_append least a b)) (end_rises least (greatest_end least b) a (end_least least b))

pub end_each : (least : ℕ) (ps : List Place) (p : Place) → Contains ps p → end_of p ≤ greatest_end least ps
end_each least [] p c = absurd (contains_nothing p c)
end_each least (q ∷ ps) p c = elim (contains_cases q ps p c) [
  | inl same ↦ subst (λ (r : Place). end_of r ≤ greatest_end least (q ∷ ps)) same (omega arith)
  | inr later ↦ (let rest = end_each least ps p later in omega (arith, rest))
]

pub end_bound : (least bound : ℕ) (ps : List Place) → least ≤ bound → ((p : Place) → Contains ps p → end_of p ≤ bound) → greatest_end least ps ≤ bound
end_bound least bound [] le each = le
end_bound least bound (p ∷ ps) le each = omega (arith, each p (contains_here p ps), end_bound least bound ps le (λ q c. each q (contains_later p ps q c)))

-- ---- places behind others

behind_end : (end : ℕ) (ps : List Place) (p : Place) → AreBehind end ps → Contains ps p → end ≤ p.at
behind_end end [] p behind c = absurd (contains_nothing p c)
behind_end end (q ∷ ps) p behind c = elim (contains_cases q ps p c) [
  | inl same ↦ subst (λ (r : Place). end ≤ r.at) same behind.0
  | inr later ↦ (let rest = behind_end (end_of q) ps p behind.1 later in omega (arith, rest, behind.0))
]

pub some_is : {X : Type 0} (x y : X) → Some x ≡ Some y → x ≡ y
some_is x y e = cc

behind_apart : (end : ℕ) (ps : List Place) → AreBehind end ps → DontOverlap ps
behind_apart end [] behind i j p q at_i at_j = absurd (let no : None ≡ Some p = at_i in cc)
behind_apart end (r ∷ ps) behind zero zero p q at_i at_j = inl refl
behind_apart end (r ∷ ps) behind zero (suc j) p q at_i at_j =
    inr (inl (subst (λ (s : Place). end_of s ≤ q.at) (some_is r p at_i) (behind_end (end_of r) ps q behind.1 (get_contains ps j q at_j))))
behind_apart end (r ∷ ps) behind (suc i) zero p q at_i at_j =
    inr (inr (subst (λ (s : Place). end_of s ≤ p.at) (some_is r q at_j) (behind_end (end_of r) ps p behind.1 (get_contains ps i p at_i))))
behind_apart end (r ∷ ps) behind (suc i) (suc j) p q at_i at_j = elim (behind_apart (end_of r) ps behind.1 i j p q at_i at_j) [
  | inl same ↦ inl (ap suc same)
  | inr other ↦ inr other
]

get_append : {X : Type 0} (xs ys : List X) (i : ℕ) (x : X) → slice_get (xs ++ ys) i ≡ Some x
    → (slice_get xs i ≡ Some x) ⊎ ((k : ℕ) × (i ≡ length xs + k) × (slice_get ys k ≡ Some x))
get_append [] ys i x e = inr (i, omega arith, e)
get_append (y ∷ xs) ys zero x e = inl e
get_append (y ∷ xs) ys (suc i) x e = elim (get_append xs ys i x e) [
  | inl had ↦ inl had
  | inr new ↦ inr (new.0, (let n = new.1 in omega (arith, n)), new.2)
]

pub apart_more : (least : ℕ) (old new : List Place) → DontOverlap old → AreBehind (greatest_end least old) new → DontOverlap (old ++ new)
apart_more least old new apart behind i j p q at_i at_j = elim (get_append old new i p at_i) [
  | inl old_i ↦ elim (get_append old new j q at_j) [
    | inl old_j ↦ apart i j p q old_i old_j
    | inr new_j ↦ inr (inl (
        let far = behind_end (greatest_end least old) new q behind (get_contains new new_j.0 q new_j.2) in
        omega (arith, far, end_each least old p (get_contains old i p old_i))))
  ]
  | inr new_i ↦ elim (get_append old new j q at_j) [
    | inl old_j ↦ inr (inr (
        let far = behind_end (greatest_end least old) new p behind (get_contains new new_i.0 p new_i.2) in
        omega (arith, far, end_each least old q (get_contains old j q old_j))))
    | inr new_j ↦ elim (behind_apart (greatest_end least old) new behind new_i.0 new_j.0 p q new_i.2 new_j.2) [
      | inl same ↦ inl (omega (arith, same, new_i.1, new_j.1))
      | inr other ↦ inr other
    ]
  ]
]

-- An area has room for what is laid behind all that it has.
pub room_more : (region least spent more : ℕ) (old new : List Place) → HaveRoom region least spent old → All (LiesIn region) new
    → AreBehind (greatest_end (region_start region) old) new → greatest_end (region_start region) (old ++ new) ≤ region_start region + least + 2 * more
    → HaveRoom region least more (old ++ new)
room_more region least spent more old new room each behind bound = record {
  each = All-append (LiesIn region) old new room.each each;
  apart = apart_more (region_start region) old new room.apart behind;
  bound = bound;
}

-- ---- fewer places

pub get_map : {X Y : Type 0} (f : X → Y) (xs : List X) (i : ℕ) (y : Y) → slice_get (map f xs) i ≡ Some y → (x : X) × (slice_get xs i ≡ Some x) × (f x ≡ y)
get_map f [] i y e = absurd (let no : None ≡ Some y = e in cc)
get_map f (x ∷ xs) zero y e = (x, refl, some_is (f x) y e)
get_map f (x ∷ xs) (suc i) y e = get_map f xs i y e

pub map_get : {X Y : Type 0} (f : X → Y) (xs : List X) (i : ℕ) (x : X) → slice_get xs i ≡ Some x → slice_get (map f xs) i ≡ Some (f x)
map_get f [] i x e = absurd (let no : None ≡ Some x = e in cc)
map_get f (y ∷ xs) zero x e = ap (λ z. Some (f z)) (some_is y x e)
map_get f (y ∷ xs) (suc i) x e = map_get f xs i x e

-- places of some of the things whose places don't overlap, none of them twice
pub apart_within : {X : Type 0} (f : X → Place) (news olds : List X) → Apart news → ((x : X) → Contains news x → Contains olds x) → DontOverlap (map f olds) → DontOverlap (map f news)
apart_within f news olds once among apart i j p q at_i at_j =
    let a = get_map f news i p at_i in
    let b = get_map f news j q at_j in
    let old_a = contains_get olds a.0 (among a.0 (get_contains news i a.0 a.1)) in
    let old_b = contains_get olds b.0 (among b.0 (get_contains news j b.0 b.1)) in
    elim (apart old_a.0 old_b.0 (f a.0) (f b.0) (map_get f olds old_a.0 a.0 old_a.1) (map_get f olds old_b.0 b.0 old_b.1)) [
      | inl same ↦
          let one : a.0 ≡ b.0 = some_is a.0 b.0 (sym old_a.1 ∙ ap (slice_get olds) same ∙ old_b.1) in
          inl (are_apart news once i j a.0 a.1 (b.1 ∙ ap (λ z. Some z) (sym one)))
      | inr other ↦ inr (elim other [
        | inl before ↦ inl (subst (λ (r : Place). end_of r ≤ q.at) a.2 (subst (λ (r : Place). end_of (f a.0) ≤ r.at) b.2 before))
        | inr behind ↦ inr (subst (λ (r : Place). end_of r ≤ p.at) b.2 (subst (λ (r : Place). end_of (f b.0) ≤ r.at) a.2 behind))
      ])
    ]
