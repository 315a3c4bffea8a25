use Rattle.std.proofs.Common.{subst, sym, []}
use Rattle.cloud_memory.specs.Memory.{Remembers, IsPlacedBy}
use Rattle.cloud_memory.proofs.Beginning.{none_remembered, none_placed}
use Rattle.cloud_memory.proofs.cloud.CloudMemory.make_shared.Goals as goal

pub returns-clause-value : goal.returns-clause-value
returns-clause-value c = λ i. record {
  places = c.in_ok-shares.ensures.places i;
  owners = c.in_ok-shares.ensures.owners i;
  files = c.in_ok-files.ensures.empty i;
  spent = c.in_ok-spent.ensures i;
  shares_end = 0;
  recipes_end = 0;
}

pub returns-clause-remembers : goal.returns-clause-remembers
returns-clause-remembers c = λ shape. subst (Remembers shape []) (sym (returns-clause-value c)) (none_remembered shape c.args.users 0)

pub returns-clause-placed : goal.returns-clause-placed
returns-clause-placed c = subst (IsPlacedBy []) (sym (returns-clause-value c)) (none_placed c.args.users 0)
