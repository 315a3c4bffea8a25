use Rattle.std.proofs.Common.{List, ℕ, ◌<◌, [], ◌∷◌, length, refl, sym, subst}
use Rattle.recipe.specs.CdBase.shape.Shape.{Shape}
use Rattle.deletions.specs.Messages.Replies.{IsReply}
use Rattle.deletions.specs.Messages.Requests.{IsRequest}
use Rattle.session_model.specs.Session.event.Event.TheVariants as events
use Rattle.script_lines.proofs.Going.{cut_before}
use Rattle.script_lines.proofs.Lines.{on_ok, on_err}
use Rattle.script_lines.proofs.Deleting.{asks, ask_leaves, deletes, delete_goes, delete_cut}
use Rattle.script_lines.proofs.delete.delete_line.Goals as goal

pub returns-in-Err-clause-cut : goal.returns-in-Err-clause-cut
returns-in-Err-clause-cut g c jobs s v is =
    cut_before g.V.Shelf.cloud_at s (events.Delete c.args.user c.args.path.now c.args.version c.args.cloud) c.args.link.now c.args.link.now jobs v is refl
    (c.law_of_parts.ensures.unmoved s v (length jobs) (events.Delete c.args.user c.args.path.now c.args.version c.args.cloud)
    (c.requires.path, subst (λ (sh : Shape). c.args.cloud.0 < sh.n) is.link_at.shape c.requires.below))

pub returns-in-Err-line_of-clause-cut : goal.returns-in-Err-line_of-clause-cut
returns-in-Err-line_of-clause-cut g c jobs s v is =
    let e = c.ask-lost.ensures in
    let clouds = g.V.Shelf.cloud_at in
    let old = c.args.link.now in
    delete_cut clouds s c.args.user c.args.path.now c.args.version c.args.cloud old c.ask-lost.new.self jobs v c.ask-lost.new.reply
    (deletes clouds s c.args.user c.args.path.now c.args.version c.args.cloud old c.ask-lost.new.self jobs v c.as_slice.result.now c.ask-lost.new.reply c.ask-lost.result is c.requires.below
    (subst (λ (l : List ℕ). IsRequest l (asks clouds s c.args.user c.args.path.now c.args.version c.args.cloud old.servers.shape)) (sym c.as_slice.ensures)
    (subst (λ (sh : Shape). IsRequest c.in-Ok.request (asks clouds s c.args.user c.args.path.now c.args.version c.args.cloud sh)) c.shape-shape.ensures c.in-Ok.ensures.asks))
    e.passes e.others e.exec e.lossless)

pub returns-in-Err-line_of-clause-leaves : goal.returns-in-Err-line_of-clause-leaves
returns-in-Err-line_of-clause-leaves g c =
    (ask_leaves g.V.Shelf.cloud_at c.args.link.now c.ask-lost.new.self c.args.cloud.0 c.as_slice.result.now c.ask-lost.new.reply c.ask-lost.result c.ask-lost.ensures.passes).0

pub returns-in-Err-line_of-clause-same_reference : goal.returns-in-Err-line_of-clause-same_reference
returns-in-Err-line_of-clause-same_reference g c =
    (ask_leaves g.V.Shelf.cloud_at c.args.link.now c.ask-lost.new.self c.args.cloud.0 c.as_slice.result.now c.ask-lost.new.reply c.ask-lost.result c.ask-lost.ensures.passes).1

pub returns-clause-does : goal.returns-clause-does
returns-clause-does g c =
    let e = c.ask-lost.ensures in
    let clouds = g.V.Shelf.cloud_at in
    let old = c.args.link.now in
    on_ok c.put_line.result _ _ (λ said jobs s v is.
    let d =
    deletes clouds s c.args.user c.args.path.now c.args.version c.args.cloud old c.ask-lost.new.self jobs v c.as_slice.result.now c.ask-lost.new.reply c.ask-lost.result is c.requires.below
    (subst (λ (l : List ℕ). IsRequest l (asks clouds s c.args.user c.args.path.now c.args.version c.args.cloud old.servers.shape)) (sym c.as_slice.ensures)
    (subst (λ (sh : Shape). IsRequest c.in-Ok.request (asks clouds s c.args.user c.args.path.now c.args.version c.args.cloud sh)) c.shape-shape.ensures c.in-Ok.ensures.asks))
    e.passes e.others e.exec e.lossless in (
      c.in-Ok-line_of.line ∷ [],
      delete_goes clouds s c.args.user c.args.path.now c.args.version c.args.cloud old c.ask-lost.new.self jobs v c.ask-lost.new.reply d c.in-Ok-line_of.line
          (c.in-Ok-line_of.ensures.told d.reply d.said.told (subst (λ (l : List ℕ). IsReply l d.reply) (sym c.content.ensures.value) d.reads) d.said.line_is),
      said,
    )) c.put_line.ensures.ok

pub returns-clause-cut : goal.returns-clause-cut
returns-clause-cut g c =
    let e = c.ask-lost.ensures in
    let clouds = g.V.Shelf.cloud_at in
    let old = c.args.link.now in
    on_err c.put_line.result _ (λ jobs s v is.
    delete_cut clouds s c.args.user c.args.path.now c.args.version c.args.cloud old c.ask-lost.new.self jobs v c.ask-lost.new.reply
    (deletes clouds s c.args.user c.args.path.now c.args.version c.args.cloud old c.ask-lost.new.self jobs v c.as_slice.result.now c.ask-lost.new.reply c.ask-lost.result is c.requires.below
    (subst (λ (l : List ℕ). IsRequest l (asks clouds s c.args.user c.args.path.now c.args.version c.args.cloud old.servers.shape)) (sym c.as_slice.ensures)
    (subst (λ (sh : Shape). IsRequest c.in-Ok.request (asks clouds s c.args.user c.args.path.now c.args.version c.args.cloud sh)) c.shape-shape.ensures c.in-Ok.ensures.asks))
    e.passes e.others e.exec e.lossless))

pub returns-clause-leaves : goal.returns-clause-leaves
returns-clause-leaves g c =
    (ask_leaves g.V.Shelf.cloud_at c.args.link.now c.ask-lost.new.self c.args.cloud.0 c.as_slice.result.now c.ask-lost.new.reply c.ask-lost.result c.ask-lost.ensures.passes).0

pub returns-clause-same_reference : goal.returns-clause-same_reference
returns-clause-same_reference g c =
    (ask_leaves g.V.Shelf.cloud_at c.args.link.now c.ask-lost.new.self c.args.cloud.0 c.as_slice.result.now c.ask-lost.new.reply c.ask-lost.result c.ask-lost.ensures.passes).1
