-- A reader on its way through a file.
use Rattle.std.specs.Prelude.{◌≡◌, ℕ, ◌+◌, true, false, List, [], ◌∷◌, ◌++◌}
use Rattle.rabin_chunker.specs.Cuts.{ends_after, is_cut}
use Rattle.rabin_chunker.specs.Window.{IsReaderAt}

-- it has read k bytes from a place on, and the ends that came are appended to those before
pub record Walked (file : List ℕ) (from k inside next : ℕ) (ring before now : List ℕ) : Type 0 where
  pub reads : IsReaderAt file (from + k) inside next ring
  pub ends : now ≡ before ++ ends_after file from k

-- it has read `read` bytes more, among which no secret ended before the last; at the last one ends where the length of the
-- secret and the fingerprint say so
pub record Arrives (file : List ℕ) (from k inside read next fingerprint : ℕ) (ring before now : List ℕ) : Type 0 where
  pub on : is_cut (inside + read) fingerprint ≡ false → Walked file from (k + read) (inside + read) next ring before now
  pub cut : is_cut (inside + read) fingerprint ≡ true → Walked file from (k + read) 0 next ring before (now ++ (from + (k + read)) ∷ [])
