-- What each cloud in memory reads is one of its images.
use Rattle.std.proofs.Common.{ℕ, zero, suc, List, [], ◌∷◌}
use Rattle.mem_disk.specs.CdEdges.Disk.{IsImage, reads}
use Rattle.cd_fakes.specs.declared.cloud.MemCloud.{MemCloud}
use Rattle.mem_disk.specs.Disks.{history_of}
use Rattle.mem_disk.specs.History.{nothing}
use Rattle.cd_fakes.specs.Shelves.{clouds_of}
use Rattle.mem_disk.specs.StepsImage.{reads_image, nothing_image}

pub clouds_read : (ms : List MemCloud) (number : ℕ) → IsImage (clouds_of ms number).now (reads (clouds_of ms number).now)
clouds_read [] number = nothing_image
clouds_read (m ∷ ms) zero = reads_image nothing (history_of m.disk) nothing_image
clouds_read (m ∷ ms) (suc number) = clouds_read ms number
