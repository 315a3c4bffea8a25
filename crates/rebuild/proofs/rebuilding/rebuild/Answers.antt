use Rattle.std.proofs.Common.{ℕ, List, sym, subst}
use Rattle.kept_files.specs.ReedSolomon.Dispersal.{AreChoice}
use Rattle.rebuild.proofs.Ended.{PagesLead, chosen, whole_done, whole_failed, whole_none}
use Rattle.rebuild.proofs.Pages.{ended, stopped}
use Rattle.rebuild.specs.Over.{BringsOwn}
use Rattle.rebuild.proofs.Passing.{own_none}
use Rattle.rebuild.proofs.rebuilding.rebuild.Goals as goal

pub rebuild_pages-requires-clause-choice : goal.rebuild_pages-requires-clause-choice
rebuild_pages-requires-clause-choice g c =
    subst (λ (l : List ℕ). AreChoice c.args.shape l) (sym c.as_slice-clouds.ensures) (chosen c.args.shape c.args.target.0 c.args.from.now c.requires.count c.requires.within c.rises.ensures)

pub returns-in-Err-clause-rebuilt : goal.returns-in-Err-clause-rebuilt
returns-in-Err-clause-rebuilt g c = whole_none g.L.Link.tells g.L.Link.talk c.args.target.0 c.args.from.now c.args.shape c.args.user c.args.link.now c.requires.count c.requires.apart

pub returns-in-Ok-rebuild_pages-clause-rebuilt : goal.returns-in-Ok-rebuild_pages-clause-rebuilt
returns-in-Ok-rebuild_pages-clause-rebuilt g c =
    let t = g.L.Link.tells in
    let talk = g.L.Link.talk in
    let target = c.args.target.0 in
    let old = c.args.link.now in
    let new = c.rebuild_pages.new.link in
    let rebuilt = c.rebuild_pages.new.rebuilt in
    whole_done t talk target c.args.from.now c.args.shape c.args.user old new rebuilt (chosen c.args.shape target c.args.from.now c.requires.count c.requires.within c.rises.ensures) c.requires.shape
    (subst (λ (l : List ℕ). PagesLead t talk target l c.args.shape c.args.user old new rebuilt ended) c.as_slice-clouds.ensures c.in-Ok-rebuild_pages.ensures.rebuilt)

pub returns-in-Err-rebuild_pages-clause-rebuilt : goal.returns-in-Err-rebuild_pages-clause-rebuilt
returns-in-Err-rebuild_pages-clause-rebuilt g c =
    let t = g.L.Link.tells in
    let talk = g.L.Link.talk in
    let target = c.args.target.0 in
    let old = c.args.link.now in
    let new = c.rebuild_pages.new.link in
    let rebuilt = c.rebuild_pages.new.rebuilt in
    let e = c.in-Err-rebuild_pages.e in
    whole_failed t talk target c.args.from.now c.args.shape c.args.user old new rebuilt e
    (subst (λ (l : List ℕ). PagesLead t talk target l c.args.shape c.args.user old new rebuilt (stopped e)) c.as_slice-clouds.ensures c.in-Err-rebuild_pages.ensures.rebuilt)

pub returns-in-Err-clause-lanes : goal.returns-in-Err-clause-lanes
returns-in-Err-clause-lanes g c = own_none g.L.Link.tells c.args.shape c.args.user c.args.target.0 c.args.from.now c.args.link.now

pub returns-in-Ok-rebuild_pages-clause-lanes : goal.returns-in-Ok-rebuild_pages-clause-lanes
returns-in-Ok-rebuild_pages-clause-lanes g c =
    subst (λ (l : List ℕ). BringsOwn g.L.Link.tells c.args.shape c.args.user c.args.target.0 l c.args.link.now c.rebuild_pages.new.link) c.as_slice-clouds.ensures c.in-Ok-rebuild_pages.ensures.lanes

pub returns-in-Err-rebuild_pages-clause-lanes : goal.returns-in-Err-rebuild_pages-clause-lanes
returns-in-Err-rebuild_pages-clause-lanes g c =
    subst (λ (l : List ℕ). BringsOwn g.L.Link.tells c.args.shape c.args.user c.args.target.0 l c.args.link.now c.rebuild_pages.new.link) c.as_slice-clouds.ensures c.in-Err-rebuild_pages.ensures.lanes
