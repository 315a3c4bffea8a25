-- The records of a memory of a list are a checkpoint of the list.
use Rattle.std.proofs.Common.{List, length, refl}
use Rattle.cloud_memory.specs.CdBase.shape.Shape.{Shape}
use Rattle.cloud_memory.specs.UserDedup.command.Command.{Command}
use Rattle.cloud_disk.specs.CloudAreas.Checkpoints.{IsCheckpointOfList}
use Rattle.cloud_memory.specs.declared.cloud.CloudMemory.{CloudMemory}
use Rattle.cloud_memory.specs.Memory.{Remembers}
use Rattle.cloud_memory.specs.Rooms.{memory_of}
use Rattle.checkpoints.specs.Picking.{batches}
use Rattle.checkpoints.specs.Records.{puts_from, kept_from, commits_from, spents_from, records_of}
use Rattle.checkpoints.specs.Known.{AreListed, recipes_of}
use Rattle.checkpoints.proofs.OwnLaw.{owners_law}
use Rattle.checkpoints.proofs.KeptLaw.{ownerless_law}
use Rattle.checkpoints.proofs.EntryLaw.{entries_law, laid_law}
use Rattle.checkpoints.proofs.SpentLaw.{spents_law}

pub records_law : (shape : Shape) (list : List Command) (memory : CloudMemory) → Remembers shape list (memory_of memory) → AreListed memory
    → IsCheckpointOfList 2 shape list (records_of memory) (recipes_of shape list memory)
records_law shape list memory remembers listed = record {
  puts = puts_from memory.shares (length memory.spent) 0 0;
  kept = batches (kept_from memory.shares 0);
  commits = commits_from memory.files 0;
  spents = spents_from memory.spent 0;
  whole = refl;
  owners = owners_law shape list memory remembers listed;
  ownerless = ownerless_law shape list memory remembers listed;
  entries = entries_law shape list memory remembers listed;
  laid = laid_law shape list memory remembers listed;
  spent = spents_law shape list memory remembers;
}
