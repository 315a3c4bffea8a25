use Rattle.std.proofs.Common.{[], ◌∷◌}
use Rattle.session_model.specs.Session.event.Event.TheVariants as events
use Rattle.script_lines.proofs.Going.{cut_behind}
use Rattle.script_lines.proofs.Lines.{on_ok, on_err}
use Rattle.script_lines.proofs.Others.{restart_goes}
use Rattle.script_lines.proofs.one.restart_line.Goals as goal

pub returns-clause-does : goal.returns-clause-does
returns-clause-does g c =
    let e = c.reopen-opened.ensures in
    on_ok c.put_line.result _ _ (λ said s v is. (
      c.opening_line.result ∷ [],
      restart_goes g.V.Shelf.cloud_at s c.args.link.now c.reopen-opened.new.self c.args.cloud.0 c.reopen-opened.result (g.V.Shelf.faults c.args.link.now.shelf.now) (g.V.Shelf.faults c.reopen-opened.new.self.shelf.now) c.args.jobs.now v c.opening_line.result
          (record { peer = λ p told stands. e.peer p told stands; untold = λ p told stands. e.untold p told stands; counts = e.counts; images = e.images; rooms = e.rooms }) e.others e.rest e.still.0 c.opening_line.ensures is c.requires.below,
      said,
    )) c.put_line.ensures.ok

pub returns-clause-cut : goal.returns-clause-cut
returns-clause-cut g c =
    let e = c.reopen-opened.ensures in
    on_err c.put_line.result _ (λ s v is.
    cut_behind g.V.Shelf.cloud_at s (events.Restart c.args.cloud) c.args.link.now c.reopen-opened.new.self c.args.jobs.now v (c.opening_line.result ∷ [])
    (restart_goes g.V.Shelf.cloud_at s c.args.link.now c.reopen-opened.new.self c.args.cloud.0 c.reopen-opened.result (g.V.Shelf.faults c.args.link.now.shelf.now) (g.V.Shelf.faults c.reopen-opened.new.self.shelf.now) c.args.jobs.now v c.opening_line.result
    (record { peer = λ p told stands. e.peer p told stands; untold = λ p told stands. e.untold p told stands; counts = e.counts; images = e.images; rooms = e.rooms }) e.others e.rest e.still.0 c.opening_line.ensures is c.requires.below))
