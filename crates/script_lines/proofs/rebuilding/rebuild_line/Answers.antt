use Rattle.session_model.specs.Rebuild.Over.{AsksTargetOrReads}
use Rattle.script_lines.proofs.Lines.{on_ok, on_err}
use Rattle.script_lines.proofs.Turned.{asks_leave}
use Rattle.script_lines.proofs.Rebuilt.{came_by, rebuild_goes, rebuild_cut}
use Rattle.script_lines.proofs.rebuilding.rebuild_line.Goals as goal

pub returns-clause-does : goal.returns-clause-does
returns-clause-does g c =
    let clouds = g.V.Shelf.cloud_at in
    let old = c.args.link.now in
    let new = c.rebuild-came.new.link in
    let named = c.args.from.now in
    let e = c.rebuild-came.ensures in
    let came = came_by clouds (λ link cloud t. ⊥) old new c.args.user c.args.target named c.rebuild-came.result c.shape-shape.result c.shape-shape.ensures e.rebuilt e.asked e.hands_on in
    on_ok c.put_rebuilt.result _ _ (λ said s v is. (
      said.0,
      rebuild_goes clouds (λ link cloud t. ⊥) old new c.args.user c.args.target named c.rebuild-came.result s v is.link_at c.requires.below c.requires.clouds c.requires.apart came c.args.jobs.now said.0 is.jobs_are said.1,
      said.2,
    )) c.put_rebuilt.ensures

pub returns-clause-cut : goal.returns-clause-cut
returns-clause-cut g c =
    let clouds = g.V.Shelf.cloud_at in
    let old = c.args.link.now in
    let new = c.rebuild-came.new.link in
    let named = c.args.from.now in
    let e = c.rebuild-came.ensures in
    let came = came_by clouds (λ link cloud t. ⊥) old new c.args.user c.args.target named c.rebuild-came.result c.shape-shape.result c.shape-shape.ensures e.rebuilt e.asked e.hands_on in
    on_err c.put_rebuilt.result _ (λ s v is.
    rebuild_cut clouds (λ link cloud t. ⊥) old new c.args.user c.args.target named c.rebuild-came.result s v is.link_at c.requires.below c.requires.clouds c.requires.apart came c.args.jobs.now is.jobs_are
    (λ turns at are apart executes own cut. c.law_of_parts.ensures.rebuild s v c.args.user c.args.target named turns at are apart executes own cut))

pub returns-clause-leaves : goal.returns-clause-leaves
returns-clause-leaves g c =
    (asks_leave g.V.Shelf.cloud_at (AsksTargetOrReads c.args.target.0 c.args.from.now) c.rebuild-came.ensures.asked.asks c.args.link.now c.rebuild-came.new.link c.rebuild-came.ensures.asked.passed).0

pub returns-clause-same_reference : goal.returns-clause-same_reference
returns-clause-same_reference g c =
    (asks_leave g.V.Shelf.cloud_at (AsksTargetOrReads c.args.target.0 c.args.from.now) c.rebuild-came.ensures.asked.asks c.args.link.now c.rebuild-came.new.link c.rebuild-came.ensures.asked.passed).1
