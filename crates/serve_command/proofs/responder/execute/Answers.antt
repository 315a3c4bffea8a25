use Rattle.std.proofs.Common.{ap}
use Rattle.share_server.specs.declared.server.Server.{Server}
use Rattle.serve_command.specs.Serving.{held_of}
use Rattle.serve_command.proofs.Replied.{replied, same_held, some_content}
use Rattle.serve_command.proofs.responder.execute.Goals as goal

pub returns-clause-answers : goal.returns-clause-answers
returns-clause-answers g c =
    let e = c.execute.ensures in
    let number = c.args.server.now.store.header.cloud.0 in
    let shelf = c.args.shelf.now in
    let after = c.execute.new.shelf in
    record {
      same = e.same;
      exec = e.exec;
      images = e.images;
      malformed = λ at is. let m = e.malformed at is in (m.0, m.1, ap g.V.Shelf.cloud_at m.2);
      replied = replied
          (held_of c.args.server.now.store (g.V.Shelf.cloud_at shelf number) (g.V.Shelf.faults shelf))
          (held_of c.execute.new.self.store (g.V.Shelf.cloud_at after number) (g.V.Shelf.faults after))
          c.args.request.now c.execute.new.reply
          (λ r is. record {
            same = e.same;
            told = e.call.told;
            answered = e.untold r is;
            refusals = e.refusals r is;
            undamaged = λ at byte opened. e.undamaged r at byte opened is;
            damaged = λ at byte. e.damaged r at byte is;
            hashed = λ answer. e.hashed r answer is;
            rotten_leaves = λ opened. e.rotten_leaves r opened is;
            rotten = λ named found opened. e.rotten r named found opened is;
            found = λ named found. e.found r named found is;
            no_call = λ opened memory.
                let u = e.no_call r opened is memory in
                same_held _ _ _ _ _ _ u.1 (ap (λ s. g.V.Shelf.cloud_at s number) u.0) (ap g.V.Shelf.faults u.0);
            untouched = λ answer opened leaves reply.
                let u = e.untouched r answer opened is leaves reply in
                same_held _ _ _ _ _ _ u.1 (ap (λ s. g.V.Shelf.cloud_at s number) u.0) (ap g.V.Shelf.faults u.0);
            stays = λ list opened serves. e.stays list r opened serves is;
            behind = λ opened. e.behind r opened is;
            grown = λ opened. e.grown r opened is;
            enters = λ opened. e.enters r opened is;
            first = λ told closed. e.first r told closed is;
          })
          (λ at is.
          let m = e.malformed at is in (
            m.0,
            same_held _ _ _ _ _ _ (ap (λ (s : Server). s.store) m.1) (ap (λ s. g.V.Shelf.cloud_at s number) m.2)
                (ap g.V.Shelf.faults m.2),
          ));
      call = e.call;
    }

pub returns-clause-content : goal.returns-clause-content
returns-clause-content g c =
    let e = c.execute.ensures in (
      some_content c.args.server.now.store.header.shape c.args.request.now c.execute.new.reply c.execute.new.self.store
          _ _ _ _ e.untold (λ at is. (e.malformed at is).0),
      c.content-content.ensures.few,
    )
