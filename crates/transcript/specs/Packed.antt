-- What a packed file stands for.
use Rattle.std.specs.Prelude.{ℕ, List, [], ◌∷◌, ◌++◌}
use Rattle.grammar.specs.Hexadecimal.{hex}

-- its digits and a newline; nothing where nothing is packed
abbrev pub packed_text : List ℕ → List ℕ
packed_text [] = []
packed_text (b ∷ bs) = hex (b ∷ bs) ++ 10 ∷ []
