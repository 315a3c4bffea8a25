use Rattle.std.proofs.Common.{None, refl, ◌∙◌, arith}
use Rattle.script_lines.proofs.Going.{leaves_all, leaves_join}
use Rattle.script_lines.proofs.Paged.{listed_none, listed_on, listed_last, lists_err}
use Rattle.script_lines.proofs.listing.list_pages.Goals as goal

pub pages-init : goal.pages-init
pages-init g c = record {
  listed = λ s peers is. listed_none g.V.Shelf.cloud_at s c.args.user c.args.cloud.0 c.args.link.now peers (record { above = None; count = 0; lines = c.new.result }) refl refl c.new.ensures is;
  leaves = leaves_all g.V.Shelf.cloud_at c.args.link.now c.args.link.now refl;
  same_reference = refl;
}

pub pages-smaller : goal.pages-smaller
pages-smaller g c =
    let up = c.in-Ok-true.ensures.counted c.in-Ok-true.field-0-test in
    let small = c.in-Ok-true.ensures.small in
    omega (arith, up, small)

pub pages-preserved : goal.pages-preserved
pages-preserved g c = record {
  listed = λ s peers is.
      let h = c.pages.invariant.listed s peers is in
      listed_on g.V.Shelf.cloud_at s c.args.user c.args.cloud.0 c.args.link.now c.pages.link c.next_page.new.link peers c.pages.listing c.next_page.new.listing h c.in-Ok-true.field-0 c.in-Ok-true.field-0-test
      (c.in-Ok-true.ensures.turns s h.pages.at h.pages.link_at);
  leaves = leaves_join g.V.Shelf.cloud_at c.args.link.now c.pages.link c.next_page.new.link c.pages.invariant.leaves c.next_page.ensures.leaves;
  same_reference = c.next_page.ensures.same_reference ∙ c.pages.invariant.same_reference;
}

pub returns-in-Err-clause-lists : goal.returns-in-Err-clause-lists
returns-in-Err-clause-lists g c =
    lists_err g.V.Shelf.cloud_at c.args.user c.args.cloud.0 c.args.link.now c.pages.link c.next_page.new.link c.args.jobs.now c.pages.listing c.next_page.new.listing c.in-Err.why
    (λ s peers is. c.pages.invariant.listed s peers is) c.in-Err.ensures.turns

pub returns-clause-lists : goal.returns-clause-lists
returns-clause-lists g c s v is =
    let h = c.pages.invariant.listed s v.peers is.link_at in
    listed_last g.V.Shelf.cloud_at s c.args.user c.args.cloud.0 c.args.link.now c.pages.link c.next_page.new.link v.peers c.pages.listing c.next_page.new.listing h c.in-Ok-false.field-0 c.in-Ok-false.field-0-test
    (c.in-Ok-false.ensures.turns s h.pages.at h.pages.link_at)
