-- What a framer does with the bytes that come, seen as the bytes that stand in it: those of a frame that is not yet
-- whole, or of a whole one, or the four of a length that no frame has.
use Rattle.std.specs.Prelude.{◌≡◌, ℕ, ◌-◌, ◌<◌, ◌≤◌, ◌⊎◌, List, [], ◌∷◌, ◌++◌, length, take}
use Rattle.frames.specs.Frames.{IsFrame, IsFrameOf, IsRefused, length_in}

-- So many bytes of a piece are taken: those up to the end of the first whole frame, or all of them where none ends.
pub record TakesPiece (old piece : List ℕ) (count : ℕ) (new : List ℕ) : Type 0 where
  pub within : count ≤ length piece
  pub taken : new ≡ old ++ take count piece
  pub first : (m : ℕ) → m < count → ¬ IsFrame (old ++ take m piece)
  pub to_the_end : (count ≡ length piece) ⊎ IsFrame new
  pub lawful : ¬ IsRefused (old ++ piece)

-- With the piece comes a length that no frame has. Of the piece those bytes are taken that the length still lacked, and
-- its four bytes stand from then on.
pub record RefusesLength (old piece : List ℕ) (found : ℕ) (new : List ℕ) : Type 0 where
  pub refused : IsRefused (old ++ piece)
  pub taken : new ≡ old ++ take (4 - length old) piece
  pub stands : IsRefused new
  pub number : found ≡ length_in new

-- What happened to a framer since it was made or reset: the bytes that it took, the contents that were dropped, in
-- order, and the bytes that stand in it.
pub data Run : List ℕ → List (List ℕ) → List ℕ → Type 0 where
  Begun : Run [] [] []
  Took : (total : List ℕ) (shown : List (List ℕ)) (old piece : List ℕ) (count : ℕ) (new : List ℕ) → Run total shown old → TakesPiece old piece count new → Run (total ++ take count piece) shown new
  Refused : (total : List ℕ) (shown : List (List ℕ)) (old piece : List ℕ) (found : ℕ) (new : List ℕ) → Run total shown old → RefusesLength old piece found new → Run (total ++ take (4 - length old) piece) shown new
  Dropped : (total : List ℕ) (shown : List (List ℕ)) (old content : List ℕ) → Run total shown old → IsFrameOf content old → Run total (shown ++ content ∷ []) []
