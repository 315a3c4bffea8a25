use Rattle.std.proofs.Common.{ap, ◌∙◌}
use Rattle.file_index.specs.PoolMap.Accounts.{use_for}
use Rattle.file_index.specs.PoolMap.accounts.Accounts.{Accounts}
use Rattle.file_index.specs.declared.key.FileKey.{FileKey}
use Rattle.cloud_memory.specs.Rooms.{memory_of}
use Rattle.cloud_memory.proofs.FullRooms.{files_counted}
use Rattle.cloud_memory.proofs.cloud.CloudMemory.files_of.Goals as goal

pub returns-clause-kept : goal.returns-clause-kept
returns-clause-kept c = λ rooms has. c.used_by.ensures ∙ ap (λ (a : Accounts). use_for (λ (k : FileKey). k.user) a c.args.self.now.files.files c.args.user.0) has.files

pub returns-clause-meaning : goal.returns-clause-meaning
returns-clause-meaning c = λ shape cloud rooms list sound r has.
    returns-clause-kept c rooms has ∙ files_counted shape cloud list c.args.user (memory_of c.args.self.now) sound r
