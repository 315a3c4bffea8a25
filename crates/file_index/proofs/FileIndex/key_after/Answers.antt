use Rattle.file_index.proofs.Keeping.{next-above, next-from}
use Rattle.file_index.proofs.FileIndex.key_after.Goals as goal

pub returns-in-Some : goal.returns-in-Some
returns-in-Some c = rw (c.in-Some.is, ← c.self.view_is) (next-above c.self.inside.table c.args.user.0 _ c.of.result c.above.result c.copied.result c.of.ensures.key c.copied.ensures c.above.ensures)

pub returns-in-None : goal.returns-in-None
returns-in-None c = rw c.in-None.is (next-from c.args.self.now.files c.args.user.0 c.least_of.result c.first_from.result c.least_of.ensures c.first_from.ensures.tags c.first_from.ensures.least)
