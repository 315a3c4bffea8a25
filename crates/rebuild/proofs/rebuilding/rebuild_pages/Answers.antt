use Rattle.std.proofs.Common.{◌≡◌, ◌<◌, ℕ, Bool, List, length, None, refl, sym, ◌∙◌, subst}
use Rattle.std.specs.Prelude.{IsTrue}
use Rattle.std.specs.List.{Contains}
use Rattle.lane_steps.specs.CdBase.Numbers.{numbers_of}
use Rattle.lane_steps.specs.CdBase.ids.Tag.{Tag}
use Rattle.lane_steps.specs.CdBase.ids.Version.{Version}
use Rattle.lane_steps.specs.UserDedup.Link.{serves}
use Rattle.lane_steps.proofs.UserDedup.Owned.{contains_later}
use Rattle.kept_files.proofs.RestoreJob.Causing.{names_to}
use Rattle.rebuild.specs.declared.error.RebuildErr.{RebuildErr}
use Rattle.rebuild.specs.Entering.{stopped_as}
use Rattle.rebuild.specs.Over.{HasAskedToRebuild, HandsOn, is_lost}
use Rattle.rebuild.specs.Rebuilding.{Progressed}
use Rattle.rebuild.specs.Several.{progress_of}
use Rattle.rebuild.proofs.Ended.{PagesLead}
use Rattle.rebuild.proofs.Going.{KeysLeads}
use Rattle.rebuild.proofs.Joining.{stopped_hands, stopped_lost}
use Rattle.rebuild.proofs.Pages.{Paged, all_leads, ended, first_here, paged_asked, paged_done, paged_lanes, paged_more, paged_none, paged_stopped, paged_unread, stopped, unread_asked, unread_lanes}
use Rattle.rebuild.proofs.rebuilding.rebuild_pages.Goals as goal

abbrev Key : Type 0
Key = Tag × Version

pub pages-init : goal.pages-init
pages-init g c =
    let t = g.L.Link.tells in
    let from = numbers_of c.args.clouds.now in
    let first = c.first_of-first.result in
    let here = first_here c.args.refill.shape from first.0 c.requires.choice.count c.first_of-first.ensures.first in
    subst (λ (r : Progressed). Paged t g.L.Link.talk c.args.refill.target.0 from c.args.refill.shape c.args.refill.user first.0 c.args.link.now c.args.link.now None r) (sym c.requires.fresh)
    (paged_none t g.L.Link.talk c.args.refill.target.0 from c.args.refill.shape c.args.refill.user c.requires.apart first here c.args.link.now)

pub fetch_page-requires-clause-shape : goal.fetch_page-requires-clause-shape
fetch_page-requires-clause-shape g c = c.pages.invariant.asked.shape ∙ c.requires.shape

pub fetch_page-requires-clause-reached : goal.fetch_page-requires-clause-reached
fetch_page-requires-clause-reached g c =
    let from = numbers_of c.args.clouds.now in
    let first = c.first_of-first.result in
    let here = first_here c.args.refill.shape from first.0 c.requires.choice.count c.first_of-first.ensures.first in
    subst (λ (f : ℕ → Bool). IsTrue (f first.0)) (sym c.pages.invariant.asked.reaches) (c.requires.reached first.0 (contains_later c.args.refill.target.0 from first.0 here))

pub rebuild_keys-requires-clause-shape : goal.rebuild_keys-requires-clause-shape
rebuild_keys-requires-clause-shape g c = c.in-Ok.ensures.asked.shape ∙ c.pages.invariant.asked.shape ∙ c.requires.shape

pub rebuild_keys-requires-clause-reached : goal.rebuild_keys-requires-clause-reached
rebuild_keys-requires-clause-reached g c cloud has =
    subst (λ (f : ℕ → Bool). IsTrue (f cloud)) (sym (c.in-Ok.ensures.asked.reaches ∙ c.pages.invariant.asked.reaches)) (c.requires.reached cloud has)

-- ---- no page came

pub returns-in-Err-clause-rebuilt : goal.returns-in-Err-clause-rebuilt
returns-in-Err-clause-rebuilt g c =
    let t = g.L.Link.tells in
    let talk = g.L.Link.talk in
    let target = c.args.refill.target.0 in
    let from = numbers_of c.args.clouds.now in
    let first = c.first_of-first.result in
    let is = c.first_of-first.ensures.first in
    let here = first_here c.args.refill.shape from first.0 c.requires.choice.count is in
    let old = c.args.link.now in
    let new = c.fetch_page.new.link in
    let e = c.in-Err.e in
    let hands = stopped_hands (Unit {0}) from e (names_to (λ x. x ≡ first.0) (Contains from) e (λ x same. subst (λ (y : ℕ). Contains from y) (sym same) here) c.in-Err.ensures.named) c.in-Err.ensures.refusal in
    subst (λ (x : RebuildErr). PagesLead t talk target from c.args.refill.shape c.args.refill.user old new c.pages.rebuilt (stopped x)) (sym c.stopped.ensures)
    (all_leads t talk target from c.args.refill.shape c.args.refill.user c.requires.apart first here old new c.pages.rebuilt (stopped (stopped_as e)) is hands
    (paged_unread t talk target from c.args.refill.shape c.args.refill.user c.requires.apart first here old c.pages.link new c.pages.above (progress_of c.pages.rebuilt) e _ refl c.pages.invariant c.in-Err.ensures.asked c.in-Err.ensures.told))

pub returns-in-Err-clause-asked : goal.returns-in-Err-clause-asked
returns-in-Err-clause-asked g c =
    let t = g.L.Link.tells in
    let talk = g.L.Link.talk in
    let target = c.args.refill.target.0 in
    let from = numbers_of c.args.clouds.now in
    let first = c.first_of-first.result in
    let here = first_here c.args.refill.shape from first.0 c.requires.choice.count c.first_of-first.ensures.first in
    let old = c.args.link.now in
    let new = c.fetch_page.new.link in
    let e = c.in-Err.e in
    subst (λ (x : RebuildErr). HasAskedToRebuild t target from old new (is_lost (stopped x))) (sym c.stopped.ensures)
    (unread_asked t talk target from c.args.refill.shape c.args.refill.user c.requires.apart first here old c.pages.link new c.pages.above (progress_of c.pages.rebuilt) e _ (sym (stopped_lost (Unit {0}) e)) c.pages.invariant c.in-Err.ensures.asked)

pub returns-in-Err-clause-hands_on : goal.returns-in-Err-clause-hands_on
returns-in-Err-clause-hands_on g c =
    let from = numbers_of c.args.clouds.now in
    let first = c.first_of-first.result in
    let here = first_here c.args.refill.shape from first.0 c.requires.choice.count c.first_of-first.ensures.first in
    let e = c.in-Err.e in
    subst (λ (x : RebuildErr). HandsOn from (stopped x)) (sym c.stopped.ensures)
    (stopped_hands (Unit {0}) from e (names_to (λ x. x ≡ first.0) (Contains from) e (λ x same. subst (λ (y : ℕ). Contains from y) (sym same) here) c.in-Err.ensures.named) c.in-Err.ensures.refusal)

-- ---- a page came

pub returns-in-Err-rebuild_keys-clause-rebuilt : goal.returns-in-Err-rebuild_keys-clause-rebuilt
returns-in-Err-rebuild_keys-clause-rebuilt g c =
    let t = g.L.Link.tells in
    let talk = g.L.Link.talk in
    let target = c.args.refill.target.0 in
    let from = numbers_of c.args.clouds.now in
    let shape = c.args.refill.shape in
    let user = c.args.refill.user in
    let apart = c.requires.apart in
    let first = c.first_of-first.result in
    let is = c.first_of-first.ensures.first in
    let here = first_here shape from first.0 c.requires.choice.count is in
    let old = c.args.link.now in
    let read = c.fetch_page.new.link in
    let new = c.rebuild_keys.new.link in
    let r : Progressed = progress_of c.pages.rebuilt in
    let next : Progressed = progress_of c.rebuild_keys.new.rebuilt in
    let e = c.in-Err-rebuild_keys.e in
    let keys = subst (λ (l : List Key). KeysLeads t talk target from shape user apart (serves t read target) read new l r next (stopped e)) c.as_slice.ensures c.in-Err-rebuild_keys.ensures.rebuilt in
    all_leads t talk target from shape user apart first here old new c.rebuild_keys.new.rebuilt (stopped e) is c.in-Err-rebuild_keys.ensures.hands_on
    (paged_stopped t talk target from shape user apart first here old c.pages.link read new c.pages.above c.in-Ok.page r next e refl c.pages.invariant c.in-Ok.ensures.asked c.in-Ok.ensures.told keys)

pub returns-in-Err-rebuild_keys-clause-asked : goal.returns-in-Err-rebuild_keys-clause-asked
returns-in-Err-rebuild_keys-clause-asked g c =
    let from = numbers_of c.args.clouds.now in
    let first = c.first_of-first.result in
    let here = first_here c.args.refill.shape from first.0 c.requires.choice.count c.first_of-first.ensures.first in
    paged_asked g.L.Link.tells g.L.Link.talk c.args.refill.target.0 from c.args.refill.shape c.args.refill.user c.requires.apart first here c.args.link.now c.pages.link c.fetch_page.new.link c.rebuild_keys.new.link c.pages.above (progress_of c.pages.rebuilt) _
    c.pages.invariant c.in-Ok.ensures.asked c.in-Err-rebuild_keys.ensures.asked

pub returns-in-None-clause-rebuilt : goal.returns-in-None-clause-rebuilt
returns-in-None-clause-rebuilt g c =
    let t = g.L.Link.tells in
    let talk = g.L.Link.talk in
    let target = c.args.refill.target.0 in
    let from = numbers_of c.args.clouds.now in
    let shape = c.args.refill.shape in
    let user = c.args.refill.user in
    let apart = c.requires.apart in
    let first = c.first_of-first.result in
    let is = c.first_of-first.ensures.first in
    let here = first_here shape from first.0 c.requires.choice.count is in
    let old = c.args.link.now in
    let read = c.fetch_page.new.link in
    let new = c.rebuild_keys.new.link in
    let r : Progressed = progress_of c.pages.rebuilt in
    let next : Progressed = progress_of c.rebuild_keys.new.rebuilt in
    let keys = subst (λ (l : List Key). KeysLeads t talk target from shape user apart (serves t read target) read new l r next ended) c.as_slice.ensures c.in-Ok-rebuild_keys.ensures.rebuilt in
    all_leads t talk target from shape user apart first here old new c.rebuild_keys.new.rebuilt ended is tt
    (paged_done t talk target from shape user apart first here old c.pages.link read new c.pages.above c.in-Ok.page r next refl (subst (λ (l : List Key). length l < 256) c.as_slice-in-pages.ensures c.in-None.ensures) c.pages.invariant
    c.in-Ok.ensures.asked c.in-Ok.ensures.told keys)

pub returns-in-None-clause-asked : goal.returns-in-None-clause-asked
returns-in-None-clause-asked g c =
    let from = numbers_of c.args.clouds.now in
    let first = c.first_of-first.result in
    let here = first_here c.args.refill.shape from first.0 c.requires.choice.count c.first_of-first.ensures.first in
    paged_asked g.L.Link.tells g.L.Link.talk c.args.refill.target.0 from c.args.refill.shape c.args.refill.user c.requires.apart first here c.args.link.now c.pages.link c.fetch_page.new.link c.rebuild_keys.new.link c.pages.above (progress_of c.pages.rebuilt) _
    c.pages.invariant c.in-Ok.ensures.asked c.in-Ok-rebuild_keys.ensures.asked

pub pages-preserved : goal.pages-preserved
pages-preserved g c =
    let t = g.L.Link.tells in
    let talk = g.L.Link.talk in
    let target = c.args.refill.target.0 in
    let from = numbers_of c.args.clouds.now in
    let shape = c.args.refill.shape in
    let user = c.args.refill.user in
    let apart = c.requires.apart in
    let first = c.first_of-first.result in
    let here = first_here shape from first.0 c.requires.choice.count c.first_of-first.ensures.first in
    let read = c.fetch_page.new.link in
    let new = c.rebuild_keys.new.link in
    let r : Progressed = progress_of c.pages.rebuilt in
    let next : Progressed = progress_of c.rebuild_keys.new.rebuilt in
    let keys = subst (λ (l : List Key). KeysLeads t talk target from shape user apart (serves t read target) read new l r next ended) c.as_slice.ensures c.in-Ok-rebuild_keys.ensures.rebuilt in
    paged_more t talk target from shape user apart first here c.args.link.now c.pages.link read new c.pages.above c.in-Ok.page c.in-Some.ensures.0 c.in-Some.last r next refl (sym c.as_slice-in-pages.ensures ∙ c.in-Some.ensures.1) c.pages.invariant
    c.in-Ok.ensures.asked c.in-Ok.ensures.told keys c.in-Ok-rebuild_keys.ensures.asked c.in-Ok-rebuild_keys.ensures.lanes

-- ---- whose versions

pub returns-in-Err-clause-lanes : goal.returns-in-Err-clause-lanes
returns-in-Err-clause-lanes g c =
    let from = numbers_of c.args.clouds.now in
    let first = c.first_of-first.result in
    let here = first_here c.args.refill.shape from first.0 c.requires.choice.count c.first_of-first.ensures.first in
    unread_lanes g.L.Link.tells g.L.Link.talk c.args.refill.target.0 from c.args.refill.shape c.args.refill.user c.requires.apart first here c.args.link.now c.pages.link c.fetch_page.new.link c.pages.above (progress_of c.pages.rebuilt) _ c.pages.invariant c.in-Err.ensures.asked

pub returns-in-Err-rebuild_keys-clause-lanes : goal.returns-in-Err-rebuild_keys-clause-lanes
returns-in-Err-rebuild_keys-clause-lanes g c =
    let from = numbers_of c.args.clouds.now in
    let first = c.first_of-first.result in
    let here = first_here c.args.refill.shape from first.0 c.requires.choice.count c.first_of-first.ensures.first in
    paged_lanes g.L.Link.tells g.L.Link.talk c.args.refill.target.0 from c.args.refill.shape c.args.refill.user c.requires.apart first here c.args.link.now c.pages.link c.fetch_page.new.link c.rebuild_keys.new.link c.pages.above (progress_of c.pages.rebuilt)
    c.pages.invariant c.in-Ok.ensures.asked c.in-Err-rebuild_keys.ensures.lanes

pub returns-in-None-clause-lanes : goal.returns-in-None-clause-lanes
returns-in-None-clause-lanes g c =
    let from = numbers_of c.args.clouds.now in
    let first = c.first_of-first.result in
    let here = first_here c.args.refill.shape from first.0 c.requires.choice.count c.first_of-first.ensures.first in
    paged_lanes g.L.Link.tells g.L.Link.talk c.args.refill.target.0 from c.args.refill.shape c.args.refill.user c.requires.apart first here c.args.link.now c.pages.link c.fetch_page.new.link c.rebuild_keys.new.link c.pages.above (progress_of c.pages.rebuilt)
    c.pages.invariant c.in-Ok.ensures.asked c.in-Ok-rebuild_keys.ensures.lanes
