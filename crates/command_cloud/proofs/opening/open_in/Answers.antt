use Rattle.std.proofs.Common.{Ok, Err}
use Rattle.serve_command.specs.ShareServer.Names.{header_of}
use Rattle.command_cloud.proofs.Reopened.{reopened, opened, shut}
use Rattle.command_cloud.proofs.opening.open_in.Goals as goal

pub returns-in-Ok-reopen-clause-opens : goal.returns-in-Ok-reopen-clause-opens
returns-in-Ok-reopen-clause-opens g c =
    let made = c.in-Ok.server in
    let server = c.reopen.new.self in
    let r = c.reopen.ensures in
    let old = g.V.Shelf.cloud_at c.args.shelf.now in
    let new = g.V.Shelf.cloud_at c.reopen.new.shelf in
    let before = g.V.Shelf.faults c.args.shelf.now in
    let now = g.V.Shelf.faults c.reopen.new.shelf in
    opened c.law_of_headers.ensures c.args.shape c.args.rooms c.args.cloud server old new before now c.requires.allowed c.requires.found
    c.in-Ok-reopen.field-0
    (reopened made.store.header (header_of c.args.shape c.args.rooms c.args.cloud.0) server old new before now c.reopen.result
    (Ok c.in-Ok-reopen.field-0) c.in-Ok.ensures.of c.in-Ok-reopen.is (record {
      header_is = r.same;
      at_end = r.open;
      loaded = r.loaded;
      whole = r.whole;
      not_begun = r.not_begun;
      other_store = r.other_store;
      exact = r.exact;
      areas = r.areas;
      counts = r.counts;
    }))

pub returns-in-Err-reopen-clause-opens : goal.returns-in-Err-reopen-clause-opens
returns-in-Err-reopen-clause-opens g c =
    let made = c.in-Ok.server in
    let server = c.reopen.new.self in
    let r = c.reopen.ensures in
    let old = g.V.Shelf.cloud_at c.args.shelf.now in
    let new = g.V.Shelf.cloud_at c.reopen.new.shelf in
    let before = g.V.Shelf.faults c.args.shelf.now in
    let now = g.V.Shelf.faults c.reopen.new.shelf in
    shut c.law_of_headers.ensures c.args.shape c.args.rooms c.args.cloud server old new before now c.requires.allowed c.requires.found
    c.in-Err-reopen.error
    (reopened made.store.header (header_of c.args.shape c.args.rooms c.args.cloud.0) server old new before now c.reopen.result
    (Err c.in-Err-reopen.error) c.in-Ok.ensures.of c.in-Err-reopen.is (record {
      header_is = r.same;
      at_end = r.open;
      loaded = r.loaded;
      whole = r.whole;
      not_begun = r.not_begun;
      other_store = r.other_store;
      exact = r.exact;
      areas = r.areas;
      counts = r.counts;
    }))
