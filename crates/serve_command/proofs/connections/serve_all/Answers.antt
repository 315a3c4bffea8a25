use Rattle.std.proofs.Common.{refl}
use Rattle.serve_command.proofs.Along.{begun, unlistened, unready, along_more, unwritten, went_listened}
use Rattle.serve_command.proofs.Texts.{whole_none}
use Rattle.serve_command.proofs.connections.serve_all.Goals as goal

pub returns-in-Err : goal.returns-in-Err
returns-in-Err g c =
    let desk = c.args.desk.now in
    unlistened desk.server.store.header _ _ c.args.address.now c.args.count _ _ _ c.requires
    (went_listened desk.server.store.header desk.server _ _ _ _ _ _ c.listen.ensures.stays refl)
    (whole_none (g.K.Sink.written c.args.sink.now) _ (g.K.Sink.faults c.args.sink.now) _ refl refl)
    c.in-Err.ensures.cause.failed

pub returns-in-Err-write_ready : goal.returns-in-Err-write_ready
returns-in-Err-write_ready g c =
    let desk = c.args.desk.now in
    unready desk.server.store.header _ _ c.args.address.now c.args.count _
    c.in-Err-write_ready.stop _ _ _ _ _ _ _
    (went_listened desk.server.store.header desk.server _ _ _ _ _ _ c.listen.ensures.stays
    c.in-Ok.ensures.cause.still)
    (whole_none (g.K.Sink.written c.args.sink.now) _ (g.K.Sink.faults c.args.sink.now) _ refl refl)
    c.in-Err-write_ready.ensures

pub loop-number-init : goal.loop-number-init
loop-number-init g c =
    let desk = c.args.desk.now in
    begun desk.server.store.header _ _ c.args.address.now c.args.count _ _ _
    (went_listened desk.server.store.header desk.server _ _ _ _ _ _ c.listen.ensures.stays
    c.in-Ok.ensures.cause.still)
    c.in-Ok-write_ready.ensures

pub returns-in-Err-write_connection : goal.returns-in-Err-write_connection
returns-in-Err-write_connection g c =
    let served = c.in-Ok-serve_next.served in
    unwritten _ _ _ c.args.address.now c.args.count _ _ _ _ _ _ _ _ _ c.loop-number.number served _
    c.loop-number.invariant refl
    c.in-Ok-serve_next.ensures.goes c.in-Ok-serve_next.ensures.cause c.in-Err-write_connection.stop
    c.loop-number-test.true c.in-Err-write_connection.ensures

pub loop-number-preserved : goal.loop-number-preserved
loop-number-preserved g c =
    let served = c.in-Ok-serve_next.served in
    along_more _ _ _ c.args.address.now c.args.count _ _ _ _ _ _ _ _ _ c.loop-number.number served _
    c.loop-number.invariant refl
    c.in-Ok-serve_next.ensures.goes c.in-Ok-serve_next.ensures.cause c.in-Ok-write_connection.ensures
