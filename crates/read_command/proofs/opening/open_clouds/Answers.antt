use Rattle.std.proofs.Common.{◌<◌, List, sym, ◌∙◌, subst}
use Rattle.commit_journal.specs.CdBase.ids.CloudNo.{CloudNo}
use Rattle.commit_journal.specs.CdBase.shape.Shape.{Shape}
use Rattle.commit_journal.specs.CdBase.Numbers.{numbers_of}
use Rattle.read_command.proofs.Row.{SoFar, none_yet, all_opened, all_kept, is_below, leaves_next, kept_next, one_more, stops_here, free_here}
use Rattle.read_command.proofs.opening.open_clouds.Goals as goal

pub clouds-init : goal.clouds-init
clouds-init g c =
    none_yet g.V.Shelf.cloud_at (numbers_of c.args.clouds.now) (g.V.Shelf.faults c.args.link.now.shelf.now) c.args.link.now
    (λ cloud told. g.met.V.Shelf.reads_image c.args.link.now.shelf.now cloud told)

pub open_cloud-requires-clause-reached : goal.open_cloud-requires-clause-reached
open_cloud-requires-clause-reached g c =
    let number = c.in-Some.cloud.0 in
    let more = numbers_of c.in-Some.more.now in
    let named = numbers_of c.args.clouds.now in
    let mid = c.clouds.link in
    let old = c.args.link.now in
    let before = g.V.Shelf.faults old.shelf.now in
    let between = g.V.Shelf.faults mid.shelf.now in
    let so = subst (λ (l : List CloudNo). SoFar g.V.Shelf.cloud_at named (numbers_of l) before between old mid) c.in-Some.ensures c.clouds.invariant in
    subst (λ (s : Shape). number < s.n) (sym so.leaves.shape)
    (is_below g.V.Shelf.cloud_at named number more before between old mid so old.servers.shape.n c.requires.within)

pub open_cloud-requires-clause-window : goal.open_cloud-requires-clause-window
open_cloud-requires-clause-window g c = c.clouds.auto.window ∙ c.requires.window

pub returns-in-Err-clause-end : goal.returns-in-Err-clause-end
returns-in-Err-clause-end g c =
    let number = c.in-Some.cloud.0 in
    let more = numbers_of c.in-Some.more.now in
    let named = numbers_of c.args.clouds.now in
    let mid = c.clouds.link in
    let old = c.args.link.now in
    let new = c.open_cloud.new.link in
    let before = g.V.Shelf.faults old.shelf.now in
    let between = g.V.Shelf.faults mid.shelf.now in
    let now = g.V.Shelf.faults new.shelf.now in
    let e = c.open_cloud.ensures in
    let so = subst (λ (l : List CloudNo). SoFar g.V.Shelf.cloud_at named (numbers_of l) before between old mid) c.in-Some.ensures c.clouds.invariant in
    stops_here g.V.Shelf.cloud_at named number more before between now old mid new c.requires.rising so c.open_cloud.result e.opens e.rest c.in-Err.end c.in-Err.is

pub returns-in-Err-clause-readable : goal.returns-in-Err-clause-readable
returns-in-Err-clause-readable g c =
    let number = c.in-Some.cloud.0 in
    let more = numbers_of c.in-Some.more.now in
    let named = numbers_of c.args.clouds.now in
    let mid = c.clouds.link in
    let old = c.args.link.now in
    let new = c.open_cloud.new.link in
    let before = g.V.Shelf.faults old.shelf.now in
    let between = g.V.Shelf.faults mid.shelf.now in
    let now = g.V.Shelf.faults new.shelf.now in
    let e = c.open_cloud.ensures in
    let so = subst (λ (l : List CloudNo). SoFar g.V.Shelf.cloud_at named (numbers_of l) before between old mid) c.in-Some.ensures c.clouds.invariant in
    λ rooms lists are. free_here g.V.Shelf.cloud_at named number more before between now old mid new c.requires.rising so c.open_cloud.result e.opens e.rest c.in-Err.end rooms lists c.in-Err.is are

pub returns-in-Err-clause-kept : goal.returns-in-Err-clause-kept
returns-in-Err-clause-kept g c =
    let number = c.in-Some.cloud.0 in
    let more = numbers_of c.in-Some.more.now in
    let named = numbers_of c.args.clouds.now in
    let mid = c.clouds.link in
    let old = c.args.link.now in
    let new = c.open_cloud.new.link in
    let before = g.V.Shelf.faults old.shelf.now in
    let between = g.V.Shelf.faults mid.shelf.now in
    let now = g.V.Shelf.faults new.shelf.now in
    let e = c.open_cloud.ensures in
    let so = subst (λ (l : List CloudNo). SoFar g.V.Shelf.cloud_at named (numbers_of l) before between old mid) c.in-Some.ensures c.clouds.invariant in
    kept_next g.V.Shelf.cloud_at named number more before between now old mid new c.requires.rising so c.open_cloud.result e.opens e.rest

pub returns-in-Err-clause-spared : goal.returns-in-Err-clause-spared
returns-in-Err-clause-spared g c =
    let number = c.in-Some.cloud.0 in
    let more = numbers_of c.in-Some.more.now in
    let named = numbers_of c.args.clouds.now in
    let mid = c.clouds.link in
    let old = c.args.link.now in
    let new = c.open_cloud.new.link in
    let before = g.V.Shelf.faults old.shelf.now in
    let between = g.V.Shelf.faults mid.shelf.now in
    let now = g.V.Shelf.faults new.shelf.now in
    let e = c.open_cloud.ensures in
    let so = subst (λ (l : List CloudNo). SoFar g.V.Shelf.cloud_at named (numbers_of l) before between old mid) c.in-Some.ensures c.clouds.invariant in
    (leaves_next g.V.Shelf.cloud_at named number more before between now old mid new c.requires.rising so c.open_cloud.result e.opens e.rest).spared

pub returns-in-Err-clause-armings : goal.returns-in-Err-clause-armings
returns-in-Err-clause-armings g c =
    let number = c.in-Some.cloud.0 in
    let more = numbers_of c.in-Some.more.now in
    let named = numbers_of c.args.clouds.now in
    let mid = c.clouds.link in
    let old = c.args.link.now in
    let new = c.open_cloud.new.link in
    let before = g.V.Shelf.faults old.shelf.now in
    let between = g.V.Shelf.faults mid.shelf.now in
    let now = g.V.Shelf.faults new.shelf.now in
    let e = c.open_cloud.ensures in
    let so = subst (λ (l : List CloudNo). SoFar g.V.Shelf.cloud_at named (numbers_of l) before between old mid) c.in-Some.ensures c.clouds.invariant in
    (leaves_next g.V.Shelf.cloud_at named number more before between now old mid new c.requires.rising so c.open_cloud.result e.opens e.rest).armings

pub clouds-preserved : goal.clouds-preserved
clouds-preserved g c =
    let number = c.in-Some.cloud.0 in
    let more = numbers_of c.in-Some.more.now in
    let named = numbers_of c.args.clouds.now in
    let mid = c.clouds.link in
    let old = c.args.link.now in
    let new = c.open_cloud.new.link in
    let before = g.V.Shelf.faults old.shelf.now in
    let between = g.V.Shelf.faults mid.shelf.now in
    let now = g.V.Shelf.faults new.shelf.now in
    let e = c.open_cloud.ensures in
    let so = subst (λ (l : List CloudNo). SoFar g.V.Shelf.cloud_at named (numbers_of l) before between old mid) c.in-Some.ensures c.clouds.invariant in
    one_more g.V.Shelf.cloud_at named number more before between now old mid new c.requires.rising so c.open_cloud.result e.opens e.rest c.in-Ok.field-0 c.in-Ok.is e.fate e.same_reference

pub returns-in_default-clause-opened : goal.returns-in_default-clause-opened
returns-in_default-clause-opened g c =
    let named = numbers_of c.args.clouds.now in
    let old = c.args.link.now in
    let before = g.V.Shelf.faults old.shelf.now in
    let now = g.V.Shelf.faults c.clouds.link.shelf.now in
    all_opened g.V.Shelf.cloud_at named before now old c.clouds.link
    (subst (λ (l : List CloudNo). SoFar g.V.Shelf.cloud_at named (numbers_of l) before now old c.clouds.link) c.in_default.ensures c.clouds.invariant)

pub returns-in_default-clause-kept : goal.returns-in_default-clause-kept
returns-in_default-clause-kept g c =
    let named = numbers_of c.args.clouds.now in
    let old = c.args.link.now in
    let before = g.V.Shelf.faults old.shelf.now in
    let now = g.V.Shelf.faults c.clouds.link.shelf.now in
    all_kept g.V.Shelf.cloud_at named before now old c.clouds.link
    (subst (λ (l : List CloudNo). SoFar g.V.Shelf.cloud_at named (numbers_of l) before now old c.clouds.link) c.in_default.ensures c.clouds.invariant)
