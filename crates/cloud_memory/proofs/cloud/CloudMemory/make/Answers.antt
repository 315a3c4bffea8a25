use Rattle.std.proofs.Common.{subst, sym, []}
use Rattle.cloud_memory.specs.Memory.{Remembers, IsPlacedBy, HasEnds}
use Rattle.cloud_memory.proofs.Beginning.{none_remembered, none_placed, ends_begun}
use Rattle.cloud_memory.proofs.cloud.CloudMemory.make.Goals as goal

pub returns-clause-value : goal.returns-clause-value
returns-clause-value c = λ i. record {
  places = c.in_ok-shares.ensures.places i;
  owners = c.in_ok-shares.ensures.owners i;
  files = c.in_ok-files.ensures.empty i;
  spent = c.in_ok-spent.ensures i;
  shares_end = 0;
  recipes_end = 0;
}

pub returns-clause-remembers : goal.returns-clause-remembers
returns-clause-remembers c = λ shape. subst (Remembers shape []) (sym (returns-clause-value c)) (none_remembered shape c.args.rooms.now.users 0)

pub returns-clause-placed : goal.returns-clause-placed
returns-clause-placed c = subst (IsPlacedBy []) (sym (returns-clause-value c)) (none_placed c.args.rooms.now.users 0)

pub returns-clause-ends : goal.returns-clause-ends
returns-clause-ends c = subst (HasEnds 0 [] []) (sym (returns-clause-value c)) (ends_begun c.args.rooms.now.users 0)
