use Rattle.std.specs.Prelude.{Ok}
use Rattle.session_model.specs.Session.event.Event.TheVariants as events
use Rattle.session_model.specs.Steps.{list_lines}
use Rattle.script_lines.proofs.Going.{cut_behind}
use Rattle.script_lines.proofs.Lines.{on_ok, on_err}
use Rattle.script_lines.proofs.Paged.{list_goes, list_text, no_page_does, no_page_cut}
use Rattle.script_lines.proofs.listing.list_line.Goals as goal

pub returns-in-Ok-clause-does : goal.returns-in-Ok-clause-does
returns-in-Ok-clause-does g c = on_ok c.put_listing.result _ _ (λ said s v is.
    let x = c.in-Ok.ensures.lists s v is in (
      list_lines c.args.user c.args.cloud.0 (Ok x.0),
      list_goes g.V.Shelf.cloud_at s c.args.user c.args.cloud.0 c.args.link.now c.list_pages.new.link c.args.jobs.now v (Ok x.0) is x.1,
      list_text c.args.user c.args.cloud x.0 c.in-Ok.listing.count c.in-Ok.listing.lines c.args.text.now c.put_listing.new.text x.2 x.3 said,
    )) c.put_listing.ensures

pub returns-in-Ok-clause-cut : goal.returns-in-Ok-clause-cut
returns-in-Ok-clause-cut g c = on_err c.put_listing.result _ (λ s v is.
    let x = c.in-Ok.ensures.lists s v is in
    cut_behind g.V.Shelf.cloud_at s (events.List c.args.user c.args.cloud) c.args.link.now c.list_pages.new.link c.args.jobs.now v (list_lines c.args.user c.args.cloud.0 (Ok x.0))
    (list_goes g.V.Shelf.cloud_at s c.args.user c.args.cloud.0 c.args.link.now c.list_pages.new.link c.args.jobs.now v (Ok x.0) is x.1))

pub returns-in-Err-clause-does : goal.returns-in-Err-clause-does
returns-in-Err-clause-does g c = on_ok c.put_no_page.result _ _ (λ said.
    no_page_does g.V.Shelf.cloud_at c.args.user c.args.cloud c.args.link.now c.list_pages.new.link c.args.jobs.now c.args.text.now c.put_no_page.new.text c.in-Err.why c.in-Err.ensures.lists said) c.put_no_page.ensures

pub returns-in-Err-clause-cut : goal.returns-in-Err-clause-cut
returns-in-Err-clause-cut g c = on_err c.put_no_page.result _ (no_page_cut g.V.Shelf.cloud_at c.args.user c.args.cloud c.args.link.now c.list_pages.new.link c.args.jobs.now c.in-Err.why c.in-Err.ensures.lists)
