use Rattle.cloud_store.specs.Store.{IsSettled}
use Rattle.tests_server.proofs.cloud_store_stops.are_kept.Given as goal

abbrev pub invariant-loop-fill : goal.invariant-loop-fill
invariant-loop-fill l = IsSettled l.ground.store

abbrev pub invariant-loop-whole : goal.invariant-loop-whole
invariant-loop-whole l = IsSettled l.ground.store
