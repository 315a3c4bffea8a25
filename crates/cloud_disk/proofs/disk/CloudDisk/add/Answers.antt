use Rattle.std.proofs.Common.{◌≡◌, ◌+◌, ◌≤◌, sym, ap, subst}
use Rattle.std.specs.Prelude.{OnOk, length}
use Rattle.commit_journal.specs.CdEdges.area.Area.TheVariants.{Journal}
use Rattle.commit_journal.specs.CdEdges.Disk.{Store, moment}
use Rattle.commit_journal.proofs.CdEdges.Calls.{called_twice}
use Rattle.commit_journal.proofs.CdEdges.Moments.{told_on}
use Rattle.commit_journal.specs.States as journals
use Rattle.commit_journal.specs.JournalHalves.Halves.{half_limit}
use Rattle.cloud_areas.specs.Placing.{shares_in}
use Rattle.cloud_areas.specs.Chains.{laid_shares}
use Rattle.cloud_areas.specs.Standing.{where_of}
use Rattle.cloud_disk.specs.Held.{flush_moments}
use Rattle.cloud_disk.specs.Disk.{Disk, IsPrepared, KeepsDiskOrGrows, HasDiskGrown, KeepsFronts, SameRooms}
use Rattle.cloud_disk.proofs.Both.{moments_after, failed_later, counts_kept}
use Rattle.cloud_disk.proofs.Standing.{logs_hold}
use Rattle.cloud_disk.proofs.Adding.{OneMore, while_flushed, while_added, still_ended, added_on}
use Rattle.cloud_disk.proofs.Fronts.{fronts_kept}
use Rattle.cloud_disk.proofs.Grown.{grown_flushed, grown_added, grown_by}
use Rattle.cloud_disk.proofs.disk.CloudDisk.add.Goals as goal

pub returns-in-Err-clause-any_moment : goal.returns-in-Err-clause-any_moment
returns-in-Err-clause-any_moment g c header list chain command b laid prepared =
    let number = c.args.cloud.0 in let body = c.args.body.now in let inside = c.self.inside in
    let disk : Disk = record { journal = journals.state_of inside.journal; shares = inside.shares; recipes = inside.recipes } in
    let c0 = g.V.Shelf.cloud_at c.args.shelf.now number in let c1 = g.V.Shelf.cloud_at c.flush_both.new.shelf number in
    let p = subst (λ (d : Disk). IsPrepared header list chain command b laid d body c0) (sym c.self.view_is) prepared in
    let laws = c.law_of_one_more.ensures in
    let one : OneMore header list chain command b laid = record { holds = λ image. laws.holds header image list chain command b laid; where_is = laws.bodies chain b laid; in_journal = λ old new. laws.chain header (half_limit header.rooms) old new chain b laid } in
    while_flushed header list chain command b laid one disk body c0 p c1
    (c.flush_both.ensures.any_moment p.on.read.told (laid_shares list (shares_in chain.records)) chain.recipes p.shares.strings (logs_hold header list chain disk c0 p.on) p.shares.staged)

pub returns-in-Ok-clause-any_moment : goal.returns-in-Ok-clause-any_moment
returns-in-Ok-clause-any_moment g c header list chain command b laid prepared =
    let number = c.args.cloud.0 in let body = c.args.body.now in let inside = c.self.inside in
    let disk : Disk = record { journal = journals.state_of inside.journal; shares = inside.shares; recipes = inside.recipes } in
    let c0 = g.V.Shelf.cloud_at c.args.shelf.now number in let c1 = g.V.Shelf.cloud_at c.flush_both.new.shelf number in let c2 = g.V.Shelf.cloud_at c.append.new.shelf number in
    let p = subst (λ (d : Disk). IsPrepared header list chain command b laid d body c0) (sym c.self.view_is) prepared in
    let room = subst (λ (d : Disk). d.journal.current.gate + 1 + (length body + 5) ≤ d.journal.limit) (sym c.self.view_is) c.requires.fits in
    let in_shares = laid_shares list (shares_in chain.records) in
    let h = logs_hold header list chain disk c0 p.on in
    let told1 = told_on c0 c1 c.flush_both.ensures.call.told p.on.read.told in
    let both = c.in-Ok.ensures.held p.on.read.told in_shares chain.recipes p.shares.strings p.recipes.strings h p.shares.staged p.recipes.staged in
    let laws = c.law_of_one_more.ensures in
    let one : OneMore header list chain command b laid = record { holds = λ image. laws.holds header image list chain command b laid; where_is = laws.bodies chain b laid; in_journal = λ old new. laws.chain header (half_limit header.rooms) old new chain b laid } in
    while_added header list chain command b laid one disk body c0 p room c.flush_both.new.shares c.flush_both.new.recipes c1 c2
    (c.flush_both.ensures.any_moment p.on.read.told in_shares chain.recipes p.shares.strings h p.shares.staged) both.held
    (c.append.ensures.any_moment told1 (where_of chain) (still_ended header list chain command b laid one disk body c0 p c1 both.journal_is))

pub returns-in-Ok-clause-added : goal.returns-in-Ok-clause-added
returns-in-Ok-clause-added g c header list chain command b laid prepared =
    let number = c.args.cloud.0 in let body = c.args.body.now in let inside = c.self.inside in
    let disk : Disk = record { journal = journals.state_of inside.journal; shares = inside.shares; recipes = inside.recipes } in
    let new : Disk = record { journal = journals.state_of c.append.new.self; shares = c.flush_both.new.shares; recipes = c.flush_both.new.recipes } in
    let c0 = g.V.Shelf.cloud_at c.args.shelf.now number in let c1 = g.V.Shelf.cloud_at c.flush_both.new.shelf number in let c2 = g.V.Shelf.cloud_at c.append.new.shelf number in
    let p = subst (λ (d : Disk). IsPrepared header list chain command b laid d body c0) (sym c.self.view_is) prepared in
    let room = subst (λ (d : Disk). d.journal.current.gate + 1 + (length body + 5) ≤ d.journal.limit) (sym c.self.view_is) c.requires.fits in
    let told1 = told_on c0 c1 c.flush_both.ensures.call.told p.on.read.told in
    let both = c.in-Ok.ensures.held p.on.read.told (laid_shares list (shares_in chain.records)) chain.recipes p.shares.strings p.recipes.strings (logs_hold header list chain disk c0 p.on) p.shares.staged p.recipes.staged in
    let laws = c.law_of_one_more.ensures in
    let one : OneMore header list chain command b laid = record { holds = λ image. laws.holds header image list chain command b laid; where_is = laws.bodies chain b laid; in_journal = λ old new. laws.chain header (half_limit header.rooms) old new chain b laid } in
    added_on header list chain command b laid one disk body c0 p room c.append.result new c1 c2 (told_on c1 c2 c.append.ensures.call.told told1) both.held
    c.in-Ok.ensures.ends.0 c.in-Ok.ensures.ends.1 c.append.ensures.limit
    (c.append.ensures.added told1 (where_of chain) (still_ended header list chain command b laid one disk body c0 p c1 both.journal_is)) (c.append.ensures.others told1)

pub returns-in-Ok-clause-kept : goal.returns-in-Ok-clause-kept
returns-in-Ok-clause-kept g c header list chain command b laid prepared =
    let number = c.args.cloud.0 in let body = c.args.body.now in let inside = c.self.inside in
    let disk : Disk = record { journal = journals.state_of inside.journal; shares = inside.shares; recipes = inside.recipes } in
    let c0 = g.V.Shelf.cloud_at c.args.shelf.now number in let c1 = g.V.Shelf.cloud_at c.flush_both.new.shelf number in let c2 = g.V.Shelf.cloud_at c.append.new.shelf number in
    let p = subst (λ (d : Disk). IsPrepared header list chain command b laid d body c0) (sym c.self.view_is) prepared in
    let told1 = told_on c0 c1 c.flush_both.ensures.call.told p.on.read.told in
    subst (λ (d : Disk). OnOk c.append.result (KeepsFronts d c0 c2)) c.self.view_is
    (fronts_kept (laid_shares list (shares_in chain.records)) chain.recipes disk c.flush_both.new.shares c.flush_both.new.recipes c0 c1 p.shares.strings p.recipes.strings (logs_hold header list chain disk c0 p.on)
    (λ ins inr h. c.in-Ok.ensures.held p.on.read.told ins inr p.shares.strings p.recipes.strings h p.shares.staged p.recipes.staged)
    c.append.result c2 (c.append.ensures.others told1))

pub returns-in-Ok-clause-moments : goal.returns-in-Ok-clause-moments
returns-in-Ok-clause-moments g c told =
    let number = c.args.cloud.0 in let inside = c.self.inside in
    let c0 = g.V.Shelf.cloud_at c.args.shelf.now number in let c1 = g.V.Shelf.cloud_at c.flush_both.new.shelf number in let c2 = g.V.Shelf.cloud_at c.append.new.shelf number in
    subst (λ (d : Disk). OnOk c.append.result (moment c2 ≡ moment c0 + flush_moments d.shares + flush_moments d.recipes + 4)) c.self.view_is
    (moments_after c.append.result (moment c0) (moment c1) (moment c2) (flush_moments inside.shares) (flush_moments inside.recipes) 4 (c.in-Ok.ensures.moments told) (c.append.ensures.moments (told_on c0 c1 c.flush_both.ensures.call.told told)))

pub returns-in-Ok-clause-rooms : goal.returns-in-Ok-clause-rooms
returns-in-Ok-clause-rooms g c =
    let rooms = c.flush_both.ensures.rooms in
    let new : Disk = record { journal = journals.state_of c.append.new.self; shares = c.flush_both.new.shares; recipes = c.flush_both.new.recipes } in
    subst (λ (d : Disk). SameRooms d new) c.self.view_is
    (record { start = c.append.ensures.start; limit = c.append.ensures.limit; shares_area = rooms.0; shares_limit = rooms.1; recipes_area = rooms.2; recipes_limit = rooms.3 })

pub returns-in-Err-clause-rooms : goal.returns-in-Err-clause-rooms
returns-in-Err-clause-rooms g c =
    let rooms = c.flush_both.ensures.rooms in
    let new : Disk = record { journal = journals.state_of c.shut.new.self; shares = c.flush_both.new.shares; recipes = c.flush_both.new.recipes } in
    subst (λ (d : Disk). SameRooms d new) c.self.view_is
    (record {
      start = ap (λ (s : journals.JournalState). s.start) c.shut.ensures;
      limit = ap (λ (s : journals.JournalState). s.limit) c.shut.ensures;
      shares_area = rooms.0;
      shares_limit = rooms.1;
      recipes_area = rooms.2;
      recipes_limit = rooms.3;
    })

pub returns-in-Ok-clause-call : goal.returns-in-Ok-clause-call
returns-in-Ok-clause-call g c = called_twice _ _ _ _ _ _ _ c.flush_both.ensures.call c.append.ensures.call

pub returns-in-Ok-clause-failed : goal.returns-in-Ok-clause-failed
returns-in-Ok-clause-failed g c =
    let at = g.V.Shelf.cloud_at in let faults = g.V.Shelf.faults in
    failed_later c.append.result (at c.args.shelf.now) (at c.flush_both.new.shelf) (at c.append.new.shelf) c.args.cloud.0
    (faults c.args.shelf.now) (faults c.flush_both.new.shelf) (faults c.append.new.shelf) c.flush_both.ensures.call c.append.ensures.failed

pub returns-in-Ok-clause-uncounted : goal.returns-in-Ok-clause-uncounted
returns-in-Ok-clause-uncounted g c =
    let at = g.V.Shelf.cloud_at in let faults = g.V.Shelf.faults in let number = c.args.cloud.0 in
    counts_kept c.append.result (at c.args.shelf.now number) (at c.flush_both.new.shelf number) (at c.append.new.shelf number)
    (faults c.args.shelf.now) (faults c.flush_both.new.shelf) (faults c.append.new.shelf) c.in-Ok.ensures.uncounted c.append.ensures.uncounted

pub returns-in-Err-clause-chain : goal.returns-in-Err-clause-chain
returns-in-Err-clause-chain g c =
    let number = c.args.cloud.0 in let inside = c.self.inside in
    let disk : Disk = record { journal = journals.state_of inside.journal; shares = inside.shares; recipes = inside.recipes } in
    let c0 = g.V.Shelf.cloud_at c.args.shelf.now number in let c1 = g.V.Shelf.cloud_at c.flush_both.new.shelf number in
    subst (λ (d : Disk). KeepsDiskOrGrows d c.args.body.now c0 c1) c.self.view_is
    (λ told is_shares is_recipes w ended. grown_flushed disk c.args.body.now c0 w ended c1 (c.flush_both.ensures.fronts told is_shares is_recipes))

pub returns-in-Ok-clause-chain : goal.returns-in-Ok-clause-chain
returns-in-Ok-clause-chain g c =
    let number = c.args.cloud.0 in let inside = c.self.inside in let body = c.args.body.now in
    let disk : Disk = record { journal = journals.state_of inside.journal; shares = inside.shares; recipes = inside.recipes } in
    let c0 = g.V.Shelf.cloud_at c.args.shelf.now number in let c1 = g.V.Shelf.cloud_at c.flush_both.new.shelf number in let c2 = g.V.Shelf.cloud_at c.append.new.shelf number in
    subst (λ (d : Disk). KeepsDiskOrGrows d body c0 c2) c.self.view_is
    (λ told is_shares is_recipes w ended.
    let told1 = told_on c0 c1 c.flush_both.ensures.call.told told in
    let same = c.in-Ok.ensures.journal told is_shares is_recipes in
    grown_added disk body c0 w ended c1 c2 (c.flush_both.ensures.fronts told is_shares is_recipes) (g.met.V.Shelf.reads_image c.flush_both.new.shelf number told1 Journal)
    (c.append.ensures.any_moment told1 w (subst (λ (s : Store). journals.IsJournalEnded disk.journal s w) (sym same) ended)))

pub returns-in-Ok-clause-grown : goal.returns-in-Ok-clause-grown
returns-in-Ok-clause-grown g c =
    let number = c.args.cloud.0 in let inside = c.self.inside in let body = c.args.body.now in
    let disk : Disk = record { journal = journals.state_of inside.journal; shares = inside.shares; recipes = inside.recipes } in
    let new : Disk = record { journal = journals.state_of c.append.new.self; shares = c.flush_both.new.shares; recipes = c.flush_both.new.recipes } in
    let c0 = g.V.Shelf.cloud_at c.args.shelf.now number in let c1 = g.V.Shelf.cloud_at c.flush_both.new.shelf number in let c2 = g.V.Shelf.cloud_at c.append.new.shelf number in
    subst (λ (d : Disk). HasDiskGrown d new body c0 c2 c.append.result) c.self.view_is
    (λ told is_shares is_recipes.
    let told1 = told_on c0 c1 c.flush_both.ensures.call.told told in
    grown_by c.append.result disk new body c0 c1 c2 (c.in-Ok.ensures.whole told is_shares is_recipes) (c.in-Ok.ensures.journal told is_shares is_recipes)
    (c.append.ensures.added told1) (c.append.ensures.others told1))
