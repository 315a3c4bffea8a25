-- Where an element of several lists stands.
use Rattle.std.proofs.Common.{◌≡◌, ◌⊎◌, inl, inr, List, [], ◌∷◌, ◌++◌, map, refl, sym, ap}

-- the element stands in the list behind these
pub record IsPart {X : Type 0} (xs before : List X) (y : X) : Type 0 where
  pub rest : List X
  pub is : xs ≡ before ++ y ∷ rest

-- in the first of two lists, or in the second one
pub split_in : {X : Type 0} (xs ys before : List X) (y : X) (after : List X) → xs ++ ys ≡ before ++ y ∷ after
    → IsPart xs before y ⊎ ((more : List X) × (before ≡ xs ++ more) × (ys ≡ more ++ y ∷ after))
split_in [] ys before y after e = inr (before, refl, e)
split_in (x ∷ xs) ys [] y after e =
    let f : x ∷ (xs ++ ys) ≡ y ∷ after = e in
    let same : x ≡ y = cc in
    inl (record { rest = xs; is = ap (λ z. z ∷ xs) same })
split_in (x ∷ xs) ys (b ∷ before) y after e =
    let f : x ∷ (xs ++ ys) ≡ b ∷ (before ++ y ∷ after) = e in
    let same : x ≡ b = cc in
    let later : xs ++ ys ≡ before ++ y ∷ after = cc in
    elim (split_in xs ys before y after later) [
      | inl p ↦ inl (record { rest = p.rest; is = λ i. same i ∷ p.is i })
      | inr r ↦ inr (r.0, (λ i. sym same i ∷ r.1 i), r.2)
    ]

-- of a list that a function made
pub record IsMapped {X Y : Type 0} (f : X → Y) (xs : List X) (before : List Y) (y : Y) : Type 0 where
  pub front : List X
  pub x : X
  pub back : List X
  pub is : xs ≡ front ++ x ∷ back
  pub before_is : before ≡ map f front
  pub here : y ≡ f x

pub map_split : {X Y : Type 0} (f : X → Y) (xs : List X) (before : List Y) (y : Y) (rest : List Y) → map f xs ≡ before ++ y ∷ rest → IsMapped f xs before y
map_split f [] [] y rest e = absurd (let no : [] ≡ y ∷ rest = e in cc)
map_split f [] (b ∷ before) y rest e = absurd (let no : [] ≡ b ∷ (before ++ y ∷ rest) = e in cc)
map_split f (x ∷ xs) [] y rest e =
    let g : f x ∷ map f xs ≡ y ∷ rest = e in
    let same : f x ≡ y = cc in
    record { front = []; x = x; back = xs; is = refl; before_is = refl; here = sym same }
map_split f (x ∷ xs) (b ∷ before) y rest e =
    let g : f x ∷ map f xs ≡ b ∷ (before ++ y ∷ rest) = e in
    let same : f x ≡ b = cc in
    let later : map f xs ≡ before ++ y ∷ rest = cc in
    let r = map_split f xs before y rest later in
    record {
      front = x ∷ r.front;
      x = r.x;
      back = r.back;
      is = ap (λ l. x ∷ l) r.is;
      before_is = λ i. sym same i ∷ r.before_is i;
      here = r.here;
    }
