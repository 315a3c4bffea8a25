use Rattle.std.proofs.Common.{List, ℕ, sym, subst, inr}
use Rattle.deletions.specs.Messages.request.Request.TheVariants as requests
use Rattle.deletions.specs.Messages.Replies.{IsReply}
use Rattle.deletions.specs.Messages.Requests.{IsRequest}
use Rattle.script_lines.proofs.Paged.{page_asked}
use Rattle.script_lines.proofs.listing.ask_page.Goals as goal

pub returns-in-Ok-ask-clause-comes : goal.returns-in-Ok-ask-clause-comes
returns-in-Ok-ask-clause-comes g c s peers is =
    let e = c.in-Ok-ask.ensures in
    let cloud = c.args.cloud.0 in
    inr (page_asked g.V.Shelf.cloud_at s c.args.user cloud c.args.link.now c.ask.new.self peers c.args.above c.as_slice.result.now c.ask.new.reply c.page_in.result c.in-Ok-ask.field-0 is c.requires.below
    (subst (λ (l : List ℕ). IsRequest l (requests.List c.args.user c.args.above)) (sym c.as_slice.ensures) c.in-Ok.ensures.asks) e.passes e.others e.exec
    (λ reply read kind. c.page_in.ensures.takes reply (subst (λ (l : List ℕ). IsReply l reply) (sym c.content.ensures.value) read) kind))
