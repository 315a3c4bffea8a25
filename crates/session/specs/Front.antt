-- The front of a long line, of which the digits are held as the bytes that they spell.
use Rattle.std.specs.Prelude.{ℕ, ◌≡◌, ◌≤◌, Bool, ◌||◌, List, [], ◌∷◌, ◌++◌, length, take, drop, nat_lt}
use Rattle.journal_start.specs.CdBase.ids.UserId.{UserId}
use Rattle.journal_start.specs.CdBase.ids.Version.{Version}
use Rattle.journal_start.specs.CdBase.shape.Shape.{Shape}
use Rattle.session.specs.Spelling.{IsLine}
use Rattle.session.specs.declared.event.Event.TheVariants as events

-- nothing, or a front that begins as an upload does
abbrev pub BeginsAsUpload : List ℕ → List ℕ → Type 0
BeginsAsUpload [] packed = packed ≡ []
BeginsAsUpload (b ∷ head) packed = b ≡ 117

-- the text begins as an upload does
abbrev pub IsUploading : List ℕ → Type 0
IsUploading text = (more : List ℕ) × (text ≡ 117 ∷ more)

-- no letter from A to F
abbrev pub not_upper : ℕ → Bool
not_upper c = nat_lt c 65 || nat_lt 70 c

-- so many of the bytes ahead went to the front
pub record Moved (n : ℕ) (front ahead front-now ahead-now : List ℕ) : Type 0 where
  pub within : n ≤ length ahead
  pub front_is : front-now ≡ front ++ take n ahead
  pub ahead_is : ahead-now ≡ drop n ahead

-- with a dash behind it the text is an upload of no bytes, of this name
abbrev pub NamesUpload : Shape → ℕ → List ℕ → UserId → List ℕ → Version → Type 0
NamesUpload shape jobs head user path version = IsLine shape jobs (head ++ 45 ∷ []) (events.Upload user path version [])
