-- The lines that say why a restore gave no file.
use Rattle.std.specs.Prelude.{ℕ, List, Option, Some, None}
use Rattle.restore_job.specs.declared.error.RestoreErr.{RestoreErr}
use Rattle.restore_job.specs.declared.error.RestoreErr.TheVariants as errors
use Rattle.transcript.specs.declared.refusal.Refusal.{Refusal}
use Rattle.transcript.specs.declared.refusal.Refusal.TheVariants as refusals
use Rattle.transcript.specs.declared.line.Line.TheVariants as lines
use Rattle.transcript.specs.Transcript.{line_text}

-- the line of a refusal
abbrev pub refusal_text : Refusal → List ℕ
refusal_text why = line_text (lines.Refused why)

-- why a file wasn't restored, as a line says it; want of memory here has no line
abbrev pub refusal_of : RestoreErr → Option Refusal
refusal_of (errors.Missing c) = Some (refusals.Missing c)
refusal_of (errors.Lost c) = Some (refusals.Lost c)
refusal_of (errors.CloudFault c) = Some (refusals.Fault c)
refusal_of (errors.CloudDamaged c at byte) = Some (refusals.Damaged c at byte)
refusal_of (errors.CloudRotten c named found) = Some (refusals.Rotten c named found)
refusal_of (errors.CloudNoMemory c) = Some (refusals.NoMemory c)
refusal_of (errors.Strange c kind) = Some (refusals.Strange c kind)
refusal_of (errors.RecipesDiffer a b place) = Some (refusals.RecipesDiffer a b place)
refusal_of (errors.ShareLength c secret found wanted) = Some (refusals.ShareLength c secret found wanted)
refusal_of (errors.BadShare c secret named found) = Some (refusals.BadShare c secret named found)
refusal_of (errors.BadSecret secret named found) = Some (refusals.BadSecret secret named found)
refusal_of (errors.BadPad secret at byte) = Some (refusals.BadPad secret at byte)
refusal_of errors.NoMemory = None
