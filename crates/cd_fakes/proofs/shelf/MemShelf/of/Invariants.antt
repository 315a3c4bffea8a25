use Rattle.std.proofs.Common.{◌≡◌, ℕ, length}
use Rattle.cd_fakes.specs.Shelves.{At, AllSpare, IsNew}
use Rattle.cd_fakes.proofs.shelf.MemShelf.of.Given as goal

abbrev pub invariant-loop-number : goal.invariant-loop-number
invariant-loop-number l = record {
  len : length l.list.items ≡ l.number;
  new : (number : ℕ) → At l.list.items number (IsNew l.clouds l.room number);
  spare : AllSpare l.calls l.list.items;
}
