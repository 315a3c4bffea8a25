-- What was written where the sink failed or memory ran out.
use Rattle.std.proofs.Common.{◌≡◌, ℕ, List, ◌++◌, sym}
use Rattle.std.specs.Prelude.{Option, Result, Err, take, drop}
use Rattle.std.specs.Io.KnownBytes.{Appends}
use Rattle.std.proofs.lemmas.List.{take-append-drop}
use Rattle.subset_restore.specs.RestoreJob.error.RestoreErr.{RestoreErr}
use Rattle.read_command.specs.declared.end.ReadEnd.{ReadEnd}
use Rattle.read_command.specs.declared.end.ReadEnd.TheVariants as ends
use Rattle.read_command.specs.Ends.{IsText, IsReadWritten, WritesBytes}

-- the first bytes are a front
pub front_of : (bytes : List ℕ) (sent : ℕ) (old new : Option (List ℕ)) → Appends old new (take sent bytes)
    → (front : List ℕ) × (rest : List ℕ) × (bytes ≡ front ++ rest) × Appends old new front
front_of bytes sent old new appends = (take sent bytes, drop sent bytes, sym (take-append-drop sent bytes), appends)

-- what was to be written wasn't, or not whole
pub not_whole : (came : Result (Unit {0}) RestoreErr) (file text : List ℕ) (old new : Option (List ℕ)) (before now : ℕ) (end : ReadEnd)
    → IsText came file text → WritesBytes old new before now text (Err end) → IsReadWritten came file old new end
not_whole came file text old new before now ends.SinkFault is w = (text, w.0.0, w.0.1, is, w.0.2, w.0.3)
not_whole came file text old new before now ends.NoMemory is w = w.0
not_whole came file text old new before now ends.Done is w = absurd w
not_whole came file text old new before now ends.Refused is w = absurd w
not_whole came file text old new before now (ends.NotBegun cloud len) is w = absurd w
not_whole came file text old new before now (ends.Damaged cloud at byte) is w = absurd w
not_whole came file text old new before now (ends.Other cloud found) is w = absurd w
not_whole came file text old new before now (ends.ShelfFault cloud) is w = absurd w
