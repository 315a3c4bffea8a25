use Rattle.std.proofs.Common.{inl, inr, Ok, Err, refl, sym}
use Rattle.serve_command.specs.Served.{output_of}
use Rattle.serve_command.specs.Steps.{moment_of, status_by}
use Rattle.serve_command.proofs.Openings.{reopened, served_by_own, unopened, by_status}
use Rattle.serve_command.proofs.command.serve_at.Goals as goal

pub returns-in-Ok-clause-served : goal.returns-in-Ok-clause-served
returns-in-Ok-clause-served g c =
    let made = c.args.desk.now.server in
    let server = c.reopen.new.self in
    let shape = made.store.header.shape in
    let rooms = made.store.header.rooms in
    let r = c.reopen.ensures in
    let old = g.V.Shelf.cloud_at c.args.shelf.now in
    let mid = g.V.Shelf.cloud_at c.reopen.new.shelf in
    let total = g.V.Shelf.faults c.args.shelf.now in
    let opening = reopened made server c.args.cloud old mid total (g.V.Shelf.faults c.reopen.new.shelf) c.reopen.result
    (Ok c.in-Ok.field-0)
    c.requires.of c.in-Ok.is (record {
      header_is = r.same;
      at_end = r.«open»;
      kept = r.kept;
      loaded = r.loaded;
      whole = r.whole;
      other_store = r.other_store;
      exact = r.exact;
      areas = r.areas;
      read = r.read;
      call = r.call;
      counts = r.counts;
    }) in
    let opened = moment_of server mid (g.V.Shelf.faults c.reopen.new.shelf) (g.P.Ports.tells c.args.ports.now) in
    let new = moment_of c.serve_all-served.new.desk.server (g.V.Shelf.cloud_at c.serve_all-served.new.shelf)
    (g.V.Shelf.faults c.serve_all-served.new.shelf)
    (g.P.Ports.tells c.serve_all-served.new.ports) in
    let out = output_of (g.K.Sink.written c.args.sink.now) (g.K.Sink.written c.serve_all-served.new.sink)
    (g.K.Sink.faults c.args.sink.now)
    (g.K.Sink.faults c.serve_all-served.new.sink) in
    let before = g.P.Ports.faults c.args.ports.now in
    let now = g.P.Ports.faults c.serve_all-served.new.ports in
    let status = status_by c.serve_all-served.result in
    inr (by_status shape rooms c.args.cloud c.args.address.now c.args.count out old total before now opened new
    c.in-Ok.field-0 status c.status_of.result opening
    (served_by_own status _ opened new c.args.address.now c.args.count out before now opening.header_is
    c.serve_all-served.ensures)
    (sym c.status_of.ensures))

pub returns-in-Err-clause-served : goal.returns-in-Err-clause-served
returns-in-Err-clause-served g c =
    let made = c.args.desk.now.server in
    let server = c.reopen.new.self in
    let r = c.reopen.ensures in
    inl (unopened _ _ server c.in-Err.error
    (reopened made server c.args.cloud (g.V.Shelf.cloud_at c.args.shelf.now) (g.V.Shelf.cloud_at c.reopen.new.shelf)
    (g.V.Shelf.faults c.args.shelf.now) (g.V.Shelf.faults c.reopen.new.shelf) c.reopen.result (Err c.in-Err.error)
    c.requires.of c.in-Err.is (record {
      header_is = r.same;
      at_end = r.«open»;
      kept = r.kept;
      loaded = r.loaded;
      whole = r.whole;
      other_store = r.other_store;
      exact = r.exact;
      areas = r.areas;
      read = r.read;
      call = r.call;
      counts = r.counts;
    })) c.refuse.result c.refuse.ensures refl refl)
