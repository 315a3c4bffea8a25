use Rattle.std.proofs.Common.{◌*◌, subst, sym, [], length}
use Rattle.cloud_memory.specs.Memory.{Remembers, IsPlacedBy}
use Rattle.cloud_memory.proofs.Beginning.{none_remembered, none_placed}
use Rattle.cloud_memory.proofs.cloud.CloudMemory.clear.Goals as goal

pub returns-clause-value : goal.returns-clause-value
returns-clause-value c = λ i. record {
  places = c.clear.ensures.places i;
  owners = c.clear.ensures.owners i;
  files = c.clear-2.ensures.empty i;
  spent = c.clear-3.ensures i;
  shares_end = c.from.ensures i * 34359738368;
  recipes_end = c.from-2.ensures i * 34359738368;
}

pub returns-clause-remembers : goal.returns-clause-remembers
returns-clause-remembers c = λ shape.
    subst (Remembers shape []) (sym (returns-clause-value c)) (none_remembered shape (length c.args.self.now.spent) c.args.region)

pub returns-clause-placed : goal.returns-clause-placed
returns-clause-placed c = subst (IsPlacedBy []) (sym (returns-clause-value c)) (none_placed (length c.args.self.now.spent) c.args.region)
