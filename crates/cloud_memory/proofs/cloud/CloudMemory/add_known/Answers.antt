use Rattle.cloud_memory.proofs.Taking.{known_added}
use Rattle.cloud_memory.proofs.cloud.CloudMemory.add_known.Goals as goal

pub returns : goal.returns
returns c = known_added c.args.self.now c.own.new.self c.args.user c.args.new c.requires.known c.requires.room c.own.ensures
