use Rattle.std.proofs.Common.{◌≡◌, ◌-◌}
use Rattle.std.specs.Prelude.{slice_get}
use Rattle.message_fields.proofs.shares.SharesView.get.Given as goal

abbrev pub invariant-loop : goal.invariant-loop
invariant-loop l = slice_get l.rest (l.place - l.counter) ≡ slice_get l.self l.place
