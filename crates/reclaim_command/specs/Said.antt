-- What is written of a reclaim, and the status that is due with it.
use Rattle.std.specs.Prelude.{ℕ, List, [], ◌∷◌, Result, Ok, Err, codes, decimal}
use Rattle.reclaim.specs.CdBase.ids.CloudNo.{CloudNo}
use Rattle.reclaim.specs.CdBase.ids.Fp.{Fp}
use Rattle.reclaim.specs.CompactMemories.alive.Reclaimed.{Reclaimed}
use Rattle.reclaim.specs.ShareServer.copies.ReclaimErr.{ReclaimErr}
use Rattle.reclaim.specs.ShareServer.copies.ReclaimErr.TheVariants as errors
use Rattle.command_cloud.specs.Transcript.ending.Ending.TheVariants as endings
use Rattle.command_cloud.specs.Transcript.line.Line.TheVariants as lines
use Rattle.command_cloud.specs.Transcript.refusal.Refusal.TheVariants as refusals
use Rattle.command_cloud.specs.Transcript.Endings.{ending_text}
use Rattle.command_cloud.specs.Transcript.Transcript.{ended, line_text}

-- `reclaimed CLOUD SHARES RECIPES DROPPED`
abbrev pub reclaimed_text : CloudNo → Reclaimed → List ℕ
reclaimed_text cloud sum = ended (codes "reclaimed" ∷ decimal cloud.0 ∷ decimal sum.shares ∷ decimal sum.recipes ∷ decimal sum.dropped ∷ [])

-- `refused rotten CLOUD NAMED FOUND`
abbrev pub rotten_text : CloudNo → Fp → Fp → List ℕ
rotten_text cloud named found = line_text (lines.Refused (refusals.Rotten cloud named found))

abbrev pub reclaim_status : Result Reclaimed ReclaimErr → ℕ
reclaim_status (Ok sum) = 0
reclaim_status (Err errors.Fault) = 5
reclaim_status (Err (errors.Rotten named found)) = 8
reclaim_status (Err errors.NoMemory) = 6

abbrev pub reclaim_text : CloudNo → Result Reclaimed ReclaimErr → List ℕ
reclaim_text cloud (Ok sum) = reclaimed_text cloud sum
reclaim_text cloud (Err errors.Fault) = ending_text (endings.Shelf cloud)
reclaim_text cloud (Err (errors.Rotten named found)) = rotten_text cloud named found
reclaim_text cloud (Err errors.NoMemory) = []
