use Rattle.cloud_store.specs.Store.{IsSettled}
use Rattle.tests_server.proofs.cloud_store_stops.all_kept.Given as goal

abbrev pub invariant-loop-call : goal.invariant-loop-call
invariant-loop-call l = IsSettled l.ground.store

abbrev pub invariant-loop-keep : goal.invariant-loop-keep
invariant-loop-keep l = IsSettled l.ground.store
