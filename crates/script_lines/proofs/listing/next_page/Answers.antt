use Rattle.script_lines.proofs.Paged.{turns_err, turns_page, turns_none}
use Rattle.script_lines.proofs.listing.next_page.Goals as goal

pub returns-in-Err-clause-turns : goal.returns-in-Err-clause-turns
returns-in-Err-clause-turns g c s peers is =
    turns_err g.V.Shelf.cloud_at s c.args.user c.args.cloud.0 c.args.link.now c.ask_page.new.link peers c.args.listing.now c.args.listing.now c.in-Err.why (c.in-Err.ensures.comes s peers is)

pub returns-in-Ok-take_page-clause-turns : goal.returns-in-Ok-take_page-clause-turns
returns-in-Ok-take_page-clause-turns g c s peers is =
    turns_page g.V.Shelf.cloud_at s c.args.user c.args.cloud.0 c.args.link.now c.ask_page.new.link peers c.args.listing.now c.take_page.new.listing c.in-Ok.page c.in-Ok-take_page.more c.in-Ok.ensures.few.0
    c.in-Ok-take_page.ensures.more c.in-Ok-take_page.ensures.adds (c.in-Ok.ensures.comes s peers is)

pub returns-clause-turns : goal.returns-clause-turns
returns-clause-turns g c s peers is =
    turns_none g.V.Shelf.cloud_at s c.args.user c.args.cloud.0 c.args.link.now c.ask_page.new.link peers c.args.listing.now c.take_page.new.listing c.in-Ok.page (c.in-Ok.ensures.comes s peers is)
