use Rattle.serve_command.specs.Served.{output_of}
use Rattle.serve_command.specs.Steps.{moment_of}
use Rattle.serve_command.proofs.Along.{Along}
use Rattle.serve_command.proofs.connections.serve_all.Given as goal

abbrev pub invariant-loop-number : goal.invariant-loop-number
invariant-loop-number g l = Along l.fn.desk.server.store.header
    (moment_of l.fn.desk.server (g.V.Shelf.cloud_at l.fn.shelf) (g.V.Shelf.faults l.fn.shelf)
    (g.P.Ports.tells l.fn.ports))
    (moment_of l.desk.server (g.V.Shelf.cloud_at l.shelf) (g.V.Shelf.faults l.shelf) (g.P.Ports.tells l.ports))
    l.address
    (output_of (g.K.Sink.written l.fn.sink) (g.K.Sink.written l.sink) (g.K.Sink.faults l.fn.sink)
    (g.K.Sink.faults l.sink))
    (g.P.Ports.faults l.fn.ports) (g.P.Ports.faults l.ports) l.number
