use Rattle.std.proofs.Common.{[], ◌∷◌, length, subst}
use Rattle.recipe.specs.CdBase.shape.Shape.{Shape}
use Rattle.session_model.specs.Session.Spelling.{AreSources}
use Rattle.session_model.specs.Session.event.Event.TheVariants as events
use Rattle.script_lines.proofs.Lines.{on_ok, on_err}
use Rattle.script_lines.proofs.Others.{read_by, get_goes, get_cut, get_leaves, get_same}
use Rattle.script_lines.proofs.get.get_line.Goals as goal

pub returns-clause-does : goal.returns-clause-does
returns-clause-does g c =
    let clouds = g.V.Shelf.cloud_at in
    let old = c.args.link.now in
    let new = c.restore_any-came.new.link in
    let named = c.args.clouds.now in
    let e = c.restore_any-came.ensures in
    on_ok c.put_file.result _ _ (λ said s v is. (
      said.0 ∷ [],
      get_goes clouds s old new named c.restore_any-came.result c.args.user c.args.path.now c.args.version c.restore_any-came.new.out (record { restored = read_by clouds old new named _ c.shape-shape.result c.args.user c.args.path.now c.args.version c.restore_any-came.result c.new-file.result c.restore_any-came.new.out c.shape-shape.ensures c.new-file.ensures is.link_at.fate e.restored e.kept; asked = e.asked; named_so = e.named }) v is.link_at c.args.jobs.now said.0 c.requires.clouds is.jobs_are said.1,
      said.2,
    )) c.put_file.ensures

pub returns-clause-cut : goal.returns-clause-cut
returns-clause-cut g c =
    let clouds = g.V.Shelf.cloud_at in
    let old = c.args.link.now in
    let new = c.restore_any-came.new.link in
    let named = c.args.clouds.now in
    let e = c.restore_any-came.ensures in
    on_err c.put_file.result _ (λ s v is.
    get_cut clouds s old new named c.restore_any-came.result c.args.user c.args.path.now c.args.version c.restore_any-came.new.out (record { restored = read_by clouds old new named _ c.shape-shape.result c.args.user c.args.path.now c.args.version c.restore_any-came.result c.new-file.result c.restore_any-came.new.out c.shape-shape.ensures c.new-file.ensures is.link_at.fate e.restored e.kept; asked = e.asked; named_so = e.named }) v is.link_at c.requires.clouds
    (c.law_of_parts.ensures.unmoved s v (length c.args.jobs.now) (events.Get c.args.user c.args.path.now c.args.version named) (c.requires.path, subst (λ (sh : Shape). AreSources sh named) is.link_at.shape c.requires.clouds)))

pub returns-clause-leaves : goal.returns-clause-leaves
returns-clause-leaves g c = get_leaves g.V.Shelf.cloud_at c.args.link.now c.restore_any-came.new.link c.args.clouds.now _ c.restore_any-came.ensures.asked c.requires.clouds

pub returns-clause-same_reference : goal.returns-clause-same_reference
returns-clause-same_reference g c = get_same g.V.Shelf.cloud_at c.args.link.now c.restore_any-came.new.link c.args.clouds.now _ c.restore_any-came.ensures.asked
