-- What is written, with the status.
use Rattle.std.specs.Prelude.{◌≡◌, ℕ, List, ◌++◌, Option}
use Rattle.std.specs.Io.KnownBytes.{Appends}
use Rattle.transcript.specs.CdEdges.Causes.{Rose}

-- the sink: its bytes where it tells them, and how often it had failed and has failed
pub record Output : Type 0 where
  pub written_before : Option (List ℕ)
  pub written_after : Option (List ℕ)
  pub faults_before : ℕ
  pub faults_after : ℕ

abbrev pub output_of : Option (List ℕ) → Option (List ℕ) → ℕ → ℕ → Output
output_of before after faults now =
    record { written_before = before; written_after = after; faults_before = faults; faults_after = now }

-- Nothing was written.
pub record IsSilent (out : Output) : Type 0 where
  pub written : out.written_after ≡ out.written_before
  pub sink : out.faults_after ≡ out.faults_before

-- The text was written, and the status is this one; or the sink failed, and a front of it was written, with 4; or
-- memory ran out for the text, and nothing was written, with 6.
pub data HasWrittenOrCause (text : List ℕ) (due : ℕ) (out : Output) (status : ℕ) : Type 0 where
  InFull : status ≡ due → Appends out.written_before out.written_after text → out.faults_after ≡ out.faults_before
      → HasWrittenOrCause text due out status
  InPart : (front rest : List ℕ) → status ≡ 4 → text ≡ front ++ rest
      → Appends out.written_before out.written_after front → Rose out.faults_before out.faults_after
      → HasWrittenOrCause text due out status
  NotAtAll : status ≡ 6 → IsSilent out → HasWrittenOrCause text due out status
