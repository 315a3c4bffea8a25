-- The rule by which a file is cut, as a fact of its places.
use Rattle.std.specs.Prelude.{◌≡◌, ℕ, ◌<◌, ◌≤◌, ◌⊎◌, true, false, List, [], ◌∷◌, length}
use Rattle.rabin_chunker.specs.Cuts.{is_end}

-- a secret that begins at s ends at e, the first place where it may
pub record IsFirstEnd (file : List ℕ) (s e : ℕ) : Type 0 where
  pub after : s < e
  pub within : e ≤ length file
  pub ends : (is_end file s e ≡ true) ⊎ (e ≡ length file)
  pub first : (k : ℕ) → s < k → k < e → is_end file s k ≡ false

-- these are the ends of the secrets from the one that begins at s
abbrev pub IsCutFrom : List ℕ → ℕ → List ℕ → Type 0
IsCutFrom file s [] = s ≡ length file
IsCutFrom file s (e ∷ es) = IsFirstEnd file s e × IsCutFrom file e es
