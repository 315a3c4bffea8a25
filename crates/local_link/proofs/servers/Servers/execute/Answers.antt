use Rattle.std.proofs.Common.{refl, ap}
use Rattle.share_server.specs.Serving.{number_of}
use Rattle.local_link.proofs.Passing.{shut_behind}
use Rattle.local_link.proofs.Placing.{stands_at}
use Rattle.local_link.proofs.servers.Servers.execute.Goals as goal

pub returns : goal.returns
returns g c = (
  c.index_mut.result.now,
  c.execute.new.self,
  record {
    here = stands_at c.args.self.now.shape c.args.self.now.list.items c.args.cloud.0 c.index_mut.result.now c.args.self.now.are_servers c.requires.reached c.index_mut.ensures.value;
    list = refl;
    shape = refl;
  },
  record {
    same = c.execute.ensures.same;
    exec = λ p r told is asked. let e = c.execute.ensures.exec p r told is asked in record { left = e.0; answer = e.1; stands = e.2; is = e.3; exec = e.4 };
    images = c.execute.ensures.images;
    malformed = λ at asked. let e = c.execute.ensures.malformed at asked in (e.0, e.1, ap g.V.Shelf.cloud_at e.2);
    uncounted = λ at asked. ap g.V.Shelf.faults (c.execute.ensures.malformed at asked).2;
    untold = λ r asked. let e = c.execute.ensures.untold r asked in record { answer = e.0; is = e.1; kind = e.2; memory = e.3; fault = λ f. (e.4 f).0; still = e.5 };
    closed = c.execute.ensures.closed;
    first = λ r told shut asked. let e = c.execute.ensures.untold r asked in
        let before = c.index_mut.result.now in
        shut_behind before.store c.execute.new.self.store (g.V.Shelf.cloud_at c.args.shelf.now (number_of before)) (g.V.Shelf.cloud_at c.execute.new.shelf (number_of before)) r c.execute.new.reply e.0 e.1 (λ f. (e.4 f).1) (c.execute.ensures.first r told shut asked);
    behind = c.execute.ensures.behind;
    grown = c.execute.ensures.grown;
    enters = c.execute.ensures.enters;
    opened = λ r is_open asked. record {
      undamaged = λ at byte damaged. c.execute.ensures.undamaged r at byte is_open asked damaged;
      untouched = λ answer leaves is.
          let same = (c.execute.ensures.untouched r answer is_open asked leaves is).0 in
          (ap g.V.Shelf.cloud_at same, ap g.V.Shelf.faults same);
    };
    found = λ r named what asked rotten. c.execute.ensures.found r named what asked rotten;
    call = c.execute.ensures.call;
  },
)
