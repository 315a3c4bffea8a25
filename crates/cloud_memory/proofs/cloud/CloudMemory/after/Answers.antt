use Rattle.cloud_memory.specs.Rooms.{memory_of}
use Rattle.cloud_memory.proofs.Next.{after_is}
use Rattle.cloud_memory.proofs.cloud.CloudMemory.after.Goals as goal

pub returns : goal.returns
returns c = λ shape list r. after_is shape list (memory_of c.args.self.now) c.args.user c.args.last c.after.result r c.after.ensures
