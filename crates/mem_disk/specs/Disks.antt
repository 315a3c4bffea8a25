-- What was done to a cloud in memory.
use Rattle.std.specs.Prelude.{List}
use Rattle.mem_disk.specs.declared.disk.MemDisk.{MemDisk}
use Rattle.mem_disk.specs.Areas.{log_of}
use Rattle.mem_disk.specs.History.{DiskStep, history}

abbrev pub history_of : MemDisk → List DiskStep
history_of disk = history (log_of disk.areas) disk.notes.items
