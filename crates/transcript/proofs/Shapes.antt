-- A shape is the shape of its numbers.
use Rattle.std.proofs.Common.{◌≡◌, ℕ, ◌<◌, ◌≤◌, Bool, true, false, leb, ltb, Some, refl, ap, ◌∙◌}
use Rattle.std.proofs.Math.Bridge.{le_prop}
use Rattle.std.proofs.lemmas.Bool.{leb-true, ltb-true, le-leb, lt-ltb}
use Rattle.grammar.specs.CdBase.shape.Shape.{Shape}
use Rattle.transcript.specs.ShapeOf.{shape_by, shape_of}

abbrev pub with_rules : (n k : ℕ) → 2 ≤ k → k < n → n ≤ 16 → Shape
with_rules n k a b c = record { n = n; k = k; several = a; spare = b; few = c }

-- two shapes of the same numbers are one
same_shape : (s : Shape) (a : 2 ≤ s.k) (b : s.k < s.n) (c : s.n ≤ 16) → with_rules s.n s.k a b c ≡ s
same_shape s a b c =
    ap (λ (x : 2 ≤ s.k). with_rules s.n s.k x b c) (le_prop a s.several)
    ∙ ap (λ (x : s.k < s.n). with_rules s.n s.k s.several x c) (le_prop b s.spare)
    ∙ ap (λ (x : s.n ≤ 16). with_rules s.n s.k s.several s.spare x) (le_prop c s.few)

by_rules : (s : Shape) (a b c : Bool) (p : leb 2 s.k ≡ a) (q : ltb s.k s.n ≡ b) (r : leb s.n 16 ≡ c) → a ≡ true → b ≡ true → c ≡ true → shape_by s.n s.k a b c p q r ≡ Some s
by_rules s true true true p q r e f g = ap Some (same_shape s (leb-true 2 s.k p) (ltb-true s.k s.n q) (leb-true s.n 16 r))
by_rules s true true false p q r e f g = absurd cc
by_rules s true false c p q r e f g = absurd cc
by_rules s false b c p q r e f g = absurd cc

pub shape_of_is : (s : Shape) → shape_of s.n s.k ≡ Some s
unfolding shape_of
shape_of_is s = by_rules s (leb 2 s.k) (ltb s.k s.n) (leb s.n 16) refl refl refl (le-leb _ _ s.several) (lt-ltb _ _ s.spare) (le-leb _ _ s.few)
