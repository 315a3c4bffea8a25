-- The lines that say why lists give no file.
use Rattle.std.specs.Prelude.{ℕ, Option, Some, None}
use Rattle.commit_journal.specs.CdBase.ids.CloudNo.{CloudNo}
use Rattle.subset_restore.specs.CaontRs.opening.RecoverErr.TheVariants as opening
use Rattle.subset_restore.specs.RestoreJob.Restored
use Rattle.subset_restore.specs.RestoreJob.Restored.{Unrestored}
use Rattle.subset_restore.specs.Transcript.refusal.Refusal.{Refusal}
use Rattle.subset_restore.specs.Transcript.refusal.Refusal.TheVariants as refusals

-- the cloud of this number
abbrev pub cloud_no : ℕ → CloudNo
cloud_no cloud = record { 0 = cloud }

-- why lists give no file, as a line says it; it is never for want of memory
abbrev pub reason_of : Unrestored → Option Refusal
reason_of (Restored.Missing cloud) = Some (refusals.Missing (cloud_no cloud))
reason_of (Restored.RecipesDiffer a b place) = Some (refusals.RecipesDiffer (cloud_no a) (cloud_no b) place)
reason_of (Restored.ShareLength cloud secret found wanted) =
    Some (refusals.ShareLength (cloud_no cloud) secret found wanted)
reason_of (Restored.NotOpened secret (opening.BadSecret named found)) = Some (refusals.BadSecret secret named found)
reason_of (Restored.NotOpened secret (opening.BadPad at byte)) = Some (refusals.BadPad secret at byte)
reason_of (Restored.NotOpened secret opening.NoMemory) = None
