-- What is written piece by piece.
use Rattle.std.proofs.Common.{◌≡◌, List, ℕ, ◌++◌, ◌∙◌, append_assoc}

pub four : (old a b c d x y z w p q r : List ℕ) → x ≡ p → a ≡ old ++ x → y ≡ q → b ≡ a ++ y → z ≡ r → c ≡ b ++ z → d ≡ c ++ w → d ≡ old ++ (p ++ (q ++ (r ++ w)))
four old a b c d x y z w p q r xp ea yq eb zr ec ed = ed ∙ rw (ec, eb, ea, xp, yq, zr) (simp append_assoc)

pub five : (old a b c d e x y z w v p q r s t : List ℕ) → x ≡ p → a ≡ old ++ x → y ≡ q → b ≡ a ++ y → z ≡ r → c ≡ b ++ z → w ≡ s → d ≡ c ++ w → v ≡ t → e ≡ d ++ v → e ≡ old ++ (p ++ (q ++ (r ++ (s ++ t))))
five old a b c d e x y z w v p q r s t xp ea yq eb zr ec ws ed vt ee = ee ∙ rw (ed, ec, eb, ea, xp, yq, zr, ws, vt) (simp append_assoc)
