use Rattle.std.proofs.Common.{◌≡◌, drop}
use Rattle.server_commands.proofs.Picking.{Picking}
use Rattle.server_commands.proofs.news.collect.Given as goal

abbrev pub invariant-loop-place : goal.invariant-loop-place
invariant-loop-place l = Picking l.initial.store l.store l.user l.shares l.place l.count l.rest l.news × (l.rest ≡ drop l.place l.shares)
