-- What a chunker was fed.
use Rattle.std.specs.Prelude.{◌≡◌, ℕ, List, length}
use Rattle.rabin_chunker.specs.Window.{IsReaderAt}
use Rattle.rabin_chunker.specs.declared.chunker.Chunker.{Chunker}

-- how many bytes a chunker was fed since it was made or last finished
abbrev pub bytes_fed : Chunker → ℕ
bytes_fed c = c.place

-- these are the bytes that it was fed since then
pub record HasRead (c : Chunker) (fed : List ℕ) : Type 0 where
  pub place : c.place ≡ length fed
  pub reads : IsReaderAt fed (length fed) c.inside c.next c.window
