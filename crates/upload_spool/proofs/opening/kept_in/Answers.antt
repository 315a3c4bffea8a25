use Rattle.std.proofs.Common.{Err, false, inl, subst}
use Rattle.commit_journal.specs.CdEdges.area.Area.TheVariants.{Journal, Shares}
use Rattle.commit_journal.specs.CdEdges.Disk.{IsImage}
use Rattle.commit_journal.proofs.CdEdges.Moments.{told_on}
use Rattle.commit_journal.specs.Openings.{OpensIs}
use Rattle.commit_journal.specs.States as half
use Rattle.commit_journal.specs.declared.errors.OpenErr.{OpenErr}
use Rattle.upload_spool.proofs.Notes.{shares≢journal}
use Rattle.upload_spool.proofs.Begins.{still_none}
use Rattle.upload_spool.proofs.Steps.{begun_before, found_here, ended_here, spared, other_store}
use Rattle.upload_spool.proofs.opening.kept_in.Goals as goal

pub returns-in-Ok-clause-found : goal.returns-in-Ok-clause-found
returns-in-Ok-clause-found g c told =
    let c0 = g.V.Shelf.cloud_at c.args.shelf.now 0 in let c1 = g.V.Shelf.cloud_at c.reopen.new.shelf 0 in
    let opening = c.in-Ok.ensures.opens told in let told1 = told_on c0 c1 c.reopen.ensures.call.told told in
    let same = c.in-Ok.ensures.begun told (begun_before (c0.now Journal).read c.header_of-header.result opening.answer) in
    found_here c.args.shape c.header_of-header.result (half.state_of c.reopen.new.self) (half.state_of c.records_in.new.journal) c0 c1 c.records_in.result c.header_of-header.ensures.value opening.opened same told1
    c.records_in.ensures.reads

pub returns-in-Ok-clause-ended : goal.returns-in-Ok-clause-ended
returns-in-Ok-clause-ended g c told =
    let c0 = g.V.Shelf.cloud_at c.args.shelf.now 0 in let c1 = g.V.Shelf.cloud_at c.reopen.new.shelf 0 in
    let opening = c.in-Ok.ensures.opens told in let told1 = told_on c0 c1 c.reopen.ensures.call.told told in
    let same = c.in-Ok.ensures.begun told (begun_before (c0.now Journal).read c.header_of-header.result opening.answer) in
    ended_here c.args.shape c.header_of-header.result (half.state_of c.reopen.new.self) (half.state_of c.records_in.new.journal) c0 c1 (g.V.Shelf.cloud_at c.records_in.new.shelf 0) c.records_in.result c.header_of-header.ensures.value
    opening.opened same (opening.others Shares shares≢journal) c.records_in.ensures.stays told1 c.records_in.ensures.reads

pub returns-in-Ok-clause-spared : goal.returns-in-Ok-clause-spared
returns-in-Ok-clause-spared g c told =
    let c0 = g.V.Shelf.cloud_at c.args.shelf.now 0 in let c1 = g.V.Shelf.cloud_at c.reopen.new.shelf 0 in let c2 = g.V.Shelf.cloud_at c.records_in.new.shelf 0 in
    still_none c0 c1 c2 (IsImage c0.now) (spared c0 c1 c.header_of-header.result (c.reopen.ensures.opens told).any_moment) c.records_in.ensures.stays

pub returns-in-Err-NotBegun-clause-found : goal.returns-in-Err-NotBegun-clause-found
returns-in-Err-NotBegun-clause-found g c told =
    let c0 = g.V.Shelf.cloud_at c.args.shelf.now 0 in
    inl (subst (λ (e : OpenErr). OpensIs (c0.now Journal).read c.header_of-header.result false (Err e)) c.in-Err-NotBegun.field-0-is (c.in-Err-NotBegun.ensures.opens told).answer).0

pub returns-in-Err-NotBegun-clause-spared : goal.returns-in-Err-NotBegun-clause-spared
returns-in-Err-NotBegun-clause-spared g c told = spared (g.V.Shelf.cloud_at c.args.shelf.now 0) (g.V.Shelf.cloud_at c.reopen.new.shelf 0) c.header_of-header.result (c.reopen.ensures.opens told).any_moment

pub returns-in-Err-Fault-clause-spared : goal.returns-in-Err-Fault-clause-spared
returns-in-Err-Fault-clause-spared g c told = spared (g.V.Shelf.cloud_at c.args.shelf.now 0) (g.V.Shelf.cloud_at c.reopen.new.shelf 0) c.header_of-header.result (c.reopen.ensures.opens told).any_moment

pub returns-in-Err-Damaged-clause-spared : goal.returns-in-Err-Damaged-clause-spared
returns-in-Err-Damaged-clause-spared g c told = spared (g.V.Shelf.cloud_at c.args.shelf.now 0) (g.V.Shelf.cloud_at c.reopen.new.shelf 0) c.header_of-header.result (c.reopen.ensures.opens told).any_moment

pub returns-in-Err-OtherStore-clause-spared : goal.returns-in-Err-OtherStore-clause-spared
returns-in-Err-OtherStore-clause-spared g c told = spared (g.V.Shelf.cloud_at c.args.shelf.now 0) (g.V.Shelf.cloud_at c.reopen.new.shelf 0) c.header_of-header.result (c.reopen.ensures.opens told).any_moment

pub returns-in-Err-Damaged-clause-found : goal.returns-in-Err-Damaged-clause-found
returns-in-Err-Damaged-clause-found g c told =
    let c0 = g.V.Shelf.cloud_at c.args.shelf.now 0 in
    rw c.in-Err-Damaged.field-0-is (inl (subst (λ (e : OpenErr). OpensIs (c0.now Journal).read c.header_of-header.result false (Err e)) c.in-Err-Damaged.field-0-is (c.in-Err-Damaged.ensures.opens told).answer))

pub returns-in-Err-OtherStore-clause-found : goal.returns-in-Err-OtherStore-clause-found
returns-in-Err-OtherStore-clause-found g c told =
    let c0 = g.V.Shelf.cloud_at c.args.shelf.now 0 in
    rw c.in-Err-OtherStore.field-0-is (other_store c.args.shape (c0.now Journal).read c.header_of-header.result c.in-Err-OtherStore.found c.in-Err-OtherStore.asked c.in-Err-OtherStore.field-0-2 c.header_of-header.ensures.value
    (subst (λ (e : OpenErr). OpensIs (c0.now Journal).read c.header_of-header.result false (Err e)) c.in-Err-OtherStore.field-0-is (c.in-Err-OtherStore.ensures.opens told).answer))
