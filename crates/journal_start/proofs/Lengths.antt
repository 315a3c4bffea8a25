-- How long a start is.
use Rattle.std.proofs.Common.{◌≡◌, ℕ, List, [], ◌∷◌, ◌++◌, length, Option, Some, None, refl, ap, ◌∙◌}
use Rattle.journal_start.specs.declared.start.Header.{Header}
use Rattle.journal_start.specs.declared.start.Checkpoint.{Checkpoint}
use Rattle.journal_start.specs.declared.start.Start.{Start}
use Rattle.journal_start.specs.Spelling.{header_bytes, behind_header, start_bytes}

abbrev bytes_in : ℕ → Header → Option Checkpoint → List ℕ
bytes_in format header checkpoint = header_bytes (record header { format = format }) ++ behind_header format checkpoint

so : (s : Start) (format : ℕ) (o : Option Checkpoint) → s.header.format ≡ format → s.checkpoint ≡ o → length (start_bytes s) ≡ length (bytes_in format s.header o)
so s format o f e = ap (λ (x : ℕ). length (bytes_in x s.header s.checkpoint)) f ∙ ap (λ (x : Option Checkpoint). length (bytes_in format s.header x)) e

pub plain_first : (s : Start) → s.header.format ≡ 1 → s.checkpoint ≡ None → length (start_bytes s) ≡ 8
plain_first s f e = so s 1 None f e

pub first : (s : Start) (c : Checkpoint) → s.header.format ≡ 1 → s.checkpoint ≡ Some c → length (start_bytes s) ≡ 36
first s c f e = so s 1 (Some c) f e

pub plain_second : (s : Start) → s.header.format ≡ 2 → s.checkpoint ≡ None → length (start_bytes s) ≡ 36
plain_second s f e = so s 2 None f e

pub second : (s : Start) (c : Checkpoint) → s.header.format ≡ 2 → s.checkpoint ≡ Some c → length (start_bytes s) ≡ 57
second s c f e = so s 2 (Some c) f e
