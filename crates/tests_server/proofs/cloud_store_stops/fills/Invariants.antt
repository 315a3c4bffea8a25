use Rattle.cloud_store.specs.Store.{IsSettled}
use Rattle.tests_server.proofs.cloud_store_stops.fills.Given as goal

abbrev pub invariant-loop : goal.invariant-loop
invariant-loop l = IsSettled l.ground.store
