use Rattle.std.proofs.Common.{◌≡◌, length}
use Rattle.container_log.specs.Caches.{is_left}
use Rattle.container_log.proofs.Turning.{Turns}
use Rattle.container_log.proofs.cache.forget_each.Given as goal

abbrev pub invariant-loop : goal.invariant-loop
invariant-loop l = Turns (is_left l.first l.last) l.initial.kept.entries l.kept.entries l.counter × (l.kept.cap ≡ l.initial.kept.cap) × (l.end ≡ length l.initial.kept.entries)
