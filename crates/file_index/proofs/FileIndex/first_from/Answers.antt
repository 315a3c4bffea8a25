use Rattle.std.proofs.Common.{◌∙◌, sym}
use Rattle.file_index.proofs.Keeping.{tags-shown, from-itself, from-above, none-from}
use Rattle.file_index.proofs.FileIndex.first_from.Goals as goal

pub returns-then-is_some : goal.returns-then-is_some
returns-then-is_some c = rw (← c.self.view_is) (record {
  least = from-itself c.self.inside.table c.args.key c.get.result c.get.ensures.value (sym c.is_some.ensures ∙ c.if-is_some.true);
  tags = tags-shown c.self.inside.table c.self.inside.accounts c.self.invariant;
})

pub returns-else-is_some : goal.returns-else-is_some
returns-else-is_some c = rw (← c.self.view_is) (record {
  least = from-above c.self.inside.table c.args.key c.above.result c.copied.result (none-from c.get.result _ (sym c.is_some.ensures ∙ c.if-is_some.false) c.get.ensures.absent) c.copied.ensures c.above.ensures;
  tags = tags-shown c.self.inside.table c.self.inside.accounts c.self.invariant;
})
