-- The text of a refused Hello, as it is put together.
use Rattle.std.proofs.Common.{◌≡◌, ℕ, List, [], ◌∷◌, ◌++◌, refl, sym, ◌∙◌, ap, append-nil, append_assoc}
use Rattle.std.specs.Prelude.{codes, decimal}
use Rattle.transcript.proofs.Joined.{joined}
use Rattle.ports_link.specs.Refusals.{hello_numbers}

assoc : (a r p n k c e : List ℕ) → a ++ ((r ++ (p ++ (n ++ (k ++ (c ++ []))))) ++ e) ≡
    (((((a ++ r) ++ p) ++ n) ++ k) ++ c) ++ e
assoc a r p n k c e = simp (append_assoc, append-nil) refl

abbrev words : ℕ → ℕ → ℕ → ℕ → List (List ℕ)
words p n k c = codes "refused" ∷ codes "hello" ∷ decimal p ∷ decimal n ∷ decimal k ∷ decimal c ∷ []

pub hello_line : (out one two three four five : List ℕ) (p n k c : ℕ) → one ≡ out ++ codes "refused hello"
    → two ≡ one ++ (32 ∷ decimal p)
    → three ≡ two ++ (32 ∷ decimal n) → four ≡ three ++ (32 ∷ decimal k) → five ≡ four ++ (32 ∷ decimal c)
    → out ++ hello_numbers p n k c ≡ five ++ 10 ∷ []
unfolding hello_numbers
hello_line out one two three four five p n k c e1 e2 e3 e4 e5 =
    ap (λ (l : List ℕ). out ++ (l ++ 10 ∷ [])) (sym (joined (words p n k c)))
    ∙ assoc out (codes "refused hello") (32 ∷ decimal p) (32 ∷ decimal n) (32 ∷ decimal k) (32 ∷ decimal c) (10 ∷ [])
    ∙ sym (ap (λ (l : List ℕ). l ++ 10 ∷ []) (e5 ∙ ap (λ (l : List ℕ). l ++ (32 ∷ decimal c)) (e4
    ∙ ap (λ (l : List ℕ). l ++ (32 ∷ decimal k))
    (e3 ∙ ap (λ (l : List ℕ). l ++ (32 ∷ decimal n)) (e2 ∙ ap (λ (l : List ℕ). l ++ (32 ∷ decimal p)) e1)))))
