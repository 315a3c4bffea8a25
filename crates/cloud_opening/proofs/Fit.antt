-- What a record leaves fits records, by what its bytes say.
use Rattle.std.proofs.Common.{Bool, true, false, List}
use Rattle.std.specs.Prelude.{All}
use Rattle.cloud_disk.specs.CdBase.ids.UserId.{UserId}
use Rattle.cloud_disk.specs.RecordBody.body.PutItem.{PutItem}
use Rattle.cloud_disk.specs.RecordBody.FirstSpelling.{FitsItem}
use Rattle.record_laws.specs.SpentTable.Spent.{Spent}
use Rattle.record_laws.specs.RecordChecks.CloudMemory.Fitting.{FitsRecords}
use Rattle.record_laws.specs.RecordChecks.CloudMemory.Memory.{Memory}
use Rattle.record_laws.specs.RecordChecks.CloudMemory.Steps.{with_items}
use Rattle.record_laws.proofs.RecordChecks.MemoryProofs.Fitting.{filled_fits, spends_fits}
use Rattle.record_laws.proofs.RecordChecks.FittingItems.{parts_fit, right_placed}
use Rattle.record_laws.specs.RecordChecks.ground.Ground.{Ground}
use Rattle.record_laws.specs.RecordChecks.Checks.{spends_behind, AreRight}

-- what is spent behind the checkpoint changes neither shares nor recipes
pub behind_fits : (inside : Bool) (user : UserId) (more : Spent) (m : Memory) → FitsRecords m → FitsRecords (spends_behind inside user more m)
behind_fits true user more m fit = fit
behind_fits false user more m fit = spends_fits user more m fit

pub items_fit : (g : Ground) (inside : Bool) (user : UserId) (items : List PutItem) (m : Memory) → All FitsItem items → AreRight g inside user m items → FitsRecords m
    → FitsRecords (with_items user m items)
items_fit g inside user items m fits right fit = filled_fits user items m (parts_fit items fits) (right_placed g inside user items m right) fit
