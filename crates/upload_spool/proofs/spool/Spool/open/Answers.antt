use Rattle.std.proofs.Common.{Option, Ok, Err, Some, None, subst}
use Rattle.std.specs.Prelude.{IfSome}
use Rattle.commit_journal.specs.CdEdges.Disk.{IsImage, reads}
use Rattle.commit_journal.proofs.CdEdges.Moments.{told_on}
use Rattle.commit_journal.specs.CdEdges.area.Area.TheVariants.{Journal}
use Rattle.commit_journal.specs.States as half
use Rattle.upload_spool.specs.Opens.{answer_of}
use Rattle.upload_spool.specs.Steps.{FoundIs, HasSpoolEnded}
use Rattle.upload_spool.specs.declared.opening.Records.{Records}
use Rattle.upload_spool.proofs.Again.{found_again}
use Rattle.upload_spool.proofs.Begins.{still_none}
use Rattle.upload_spool.proofs.Opened.{synced_shares, none_opens, err_opens, ok_opens, unbrought_opens, spool_opened, sync_spares, then_spares}
use Rattle.upload_spool.proofs.spool.Spool.open.Goals as goal

pub returns-in-Err-clause-spared : goal.returns-in-Err-clause-spared
returns-in-Err-clause-spared g c told =
    sync_spares c.sync.result (g.V.Shelf.cloud_at c.args.shelf.now 0) (g.V.Shelf.cloud_at c.sync.new.self 0) (g.met.V.Shelf.reads_image c.args.shelf.now 0 told) (c.sync.ensures.sync told)

pub returns-in-Ok-None-clause-found : goal.returns-in-Ok-None-clause-found
returns-in-Ok-None-clause-found g c told =
    let c0 = g.V.Shelf.cloud_at c.args.shelf.now 0 in let c1 = g.V.Shelf.cloud_at c.sync.new.self 0 in
    let s = synced_shares c0 c1 (c.in-Ok.ensures.sync told).ok in
    none_opens c.args.shape c0 c1 s (subst (λ (o : Option Records). FoundIs c.args.shape (c1.now Journal).read (Ok o)) c.in-Ok-None.field-0-is (c.in-Ok-None.ensures.found (told_on c0 c1 c.sync.ensures.call.told told)))

pub returns-in-Ok-None-clause-spared : goal.returns-in-Ok-None-clause-spared
returns-in-Ok-None-clause-spared g c told =
    let c0 = g.V.Shelf.cloud_at c.args.shelf.now 0 in let c1 = g.V.Shelf.cloud_at c.sync.new.self 0 in
    then_spares c0 c1 (g.V.Shelf.cloud_at c.kept_in.new.shelf 0) (sync_spares c.sync.result c0 c1 (g.met.V.Shelf.reads_image c.args.shelf.now 0 told) (c.sync.ensures.sync told)) (c.kept_in.ensures.spared (told_on c0 c1 c.sync.ensures.call.told told))

pub returns-in-Err-kept_in-clause-spared : goal.returns-in-Err-kept_in-clause-spared
returns-in-Err-kept_in-clause-spared g c told =
    let c0 = g.V.Shelf.cloud_at c.args.shelf.now 0 in let c1 = g.V.Shelf.cloud_at c.sync.new.self 0 in
    then_spares c0 c1 (g.V.Shelf.cloud_at c.kept_in.new.shelf 0) (sync_spares c.sync.result c0 c1 (g.met.V.Shelf.reads_image c.args.shelf.now 0 told) (c.sync.ensures.sync told)) (c.kept_in.ensures.spared (told_on c0 c1 c.sync.ensures.call.told told))

pub returns-in-Err-kept_in-clause-found : goal.returns-in-Err-kept_in-clause-found
returns-in-Err-kept_in-clause-found g c told =
    let c0 = g.V.Shelf.cloud_at c.args.shelf.now 0 in let c1 = g.V.Shelf.cloud_at c.sync.new.self 0 in
    err_opens c.args.shape c0 c1 c.in-Err-kept_in.error (synced_shares c0 c1 (c.in-Ok.ensures.sync told).ok) (c.in-Err-kept_in.ensures.found (told_on c0 c1 c.sync.ensures.call.told told))

pub returns-in-Ok-bring-clause-spared : goal.returns-in-Ok-bring-clause-spared
returns-in-Ok-bring-clause-spared g c told =
    let c0 = g.V.Shelf.cloud_at c.args.shelf.now 0 in let c1 = g.V.Shelf.cloud_at c.sync.new.self 0 in let c2 = g.V.Shelf.cloud_at c.kept_in.new.shelf 0 in
    let run = then_spares c0 c1 c2 (sync_spares c.sync.result c0 c1 (g.met.V.Shelf.reads_image c.args.shelf.now 0 told) (c.sync.ensures.sync told)) (c.kept_in.ensures.spared (told_on c0 c1 c.sync.ensures.call.told told)) in
    still_none c0 c2 (g.V.Shelf.cloud_at c.bring.new.shelf 0) (IsImage c0.now) run c.bring.ensures.stays

pub returns-in-Err-bring-clause-spared : goal.returns-in-Err-bring-clause-spared
returns-in-Err-bring-clause-spared g c told =
    let c0 = g.V.Shelf.cloud_at c.args.shelf.now 0 in let c1 = g.V.Shelf.cloud_at c.sync.new.self 0 in let c2 = g.V.Shelf.cloud_at c.kept_in.new.shelf 0 in
    let run = then_spares c0 c1 c2 (sync_spares c.sync.result c0 c1 (g.met.V.Shelf.reads_image c.args.shelf.now 0 told) (c.sync.ensures.sync told)) (c.kept_in.ensures.spared (told_on c0 c1 c.sync.ensures.call.told told)) in
    still_none c0 c2 (g.V.Shelf.cloud_at c.bring.new.shelf 0) (IsImage c0.now) run c.bring.ensures.stays

pub returns-in-Ok-bring-clause-found : goal.returns-in-Ok-bring-clause-found
returns-in-Ok-bring-clause-found g c told =
    let c0 = g.V.Shelf.cloud_at c.args.shelf.now 0 in let c1 = g.V.Shelf.cloud_at c.sync.new.self 0 in let c2 = g.V.Shelf.cloud_at c.kept_in.new.shelf 0 in
    let told1 = told_on c0 c1 c.sync.ensures.call.told told in let told2 = told_on c1 c2 c.kept_in.ensures.call.told told1 in
    let records = c.in-Ok-Some.records in let state = half.state_of c.kept_in.new.journal in
    let found = subst (λ (o : Option Records). FoundIs c.args.shape (c1.now Journal).read (Ok o)) c.in-Ok-Some.field-0-is (c.in-Ok-Some.ensures.found told1) in
    let ended = subst (λ (o : Option Records). IfSome o (HasSpoolEnded c.args.shape state c1 c2)) c.in-Ok-Some.field-0-is (c.in-Ok-Some.ensures.ended told1) in
    ok_opens c.args.shape c0 c1 c2 records state c.in-Ok-bring.opened (synced_shares c0 c1 (c.in-Ok.ensures.sync told).ok) found ended told2 c.in-Ok-bring.ensures.brings

pub returns-in-Ok-bring-clause-kept : goal.returns-in-Ok-bring-clause-kept
returns-in-Ok-bring-clause-kept g c told v lanes fits spool =
    let c0 = g.V.Shelf.cloud_at c.args.shelf.now 0 in let c1 = g.V.Shelf.cloud_at c.sync.new.self 0 in let c2 = g.V.Shelf.cloud_at c.kept_in.new.shelf 0 in
    let told1 = told_on c0 c1 c.sync.ensures.call.told told in
    let records = c.in-Ok-Some.records in let state = half.state_of c.kept_in.new.journal in
    let ended = subst (λ (o : Option Records). IfSome o (HasSpoolEnded c.args.shape state c1 c2)) c.in-Ok-Some.field-0-is (c.in-Ok-Some.ensures.ended told1) in
    spool_opened c.args.shape c0 c1 c2 (g.V.Shelf.cloud_at c.bring.new.shelf 0) records state c.in-Ok-bring.opened (synced_shares c0 c1 (c.in-Ok.ensures.sync told).ok) ended c.bring.ensures.stays c.in-Ok-bring.ensures.brings v lanes fits spool

pub returns-in-Ok-None-clause-found_again : goal.returns-in-Ok-None-clause-found_again
returns-in-Ok-None-clause-found_again g c told v lanes fits spool =
    found_again (reads (g.V.Shelf.cloud_at c.args.shelf.now 0).now) c.args.shape v lanes fits spool (Ok None) (returns-in-Ok-None-clause-found g c told)

pub returns-in-Err-kept_in-clause-found_again : goal.returns-in-Err-kept_in-clause-found_again
returns-in-Err-kept_in-clause-found_again g c told v lanes fits spool =
    found_again (reads (g.V.Shelf.cloud_at c.args.shelf.now 0).now) c.args.shape v lanes fits spool (answer_of (Err c.in-Err-kept_in.error)) (returns-in-Err-kept_in-clause-found g c told)

pub returns-in-Ok-bring-clause-found_again : goal.returns-in-Ok-bring-clause-found_again
returns-in-Ok-bring-clause-found_again g c told v lanes fits spool =
    found_again (reads (g.V.Shelf.cloud_at c.args.shelf.now 0).now) c.args.shape v lanes fits spool (answer_of (Ok (Some c.in-Ok-bring.opened))) (returns-in-Ok-bring-clause-found g c told)

pub returns-in-Err-bring-clause-found : goal.returns-in-Err-bring-clause-found
returns-in-Err-bring-clause-found g c told =
    let c0 = g.V.Shelf.cloud_at c.args.shelf.now 0 in let c1 = g.V.Shelf.cloud_at c.sync.new.self 0 in let c2 = g.V.Shelf.cloud_at c.kept_in.new.shelf 0 in
    let told1 = told_on c0 c1 c.sync.ensures.call.told told in let told2 = told_on c1 c2 c.kept_in.ensures.call.told told1 in
    let records = c.in-Ok-Some.records in let state = half.state_of c.kept_in.new.journal in
    let found = subst (λ (o : Option Records). FoundIs c.args.shape (c1.now Journal).read (Ok o)) c.in-Ok-Some.field-0-is (c.in-Ok-Some.ensures.found told1) in
    let ended = subst (λ (o : Option Records). IfSome o (HasSpoolEnded c.args.shape state c1 c2)) c.in-Ok-Some.field-0-is (c.in-Ok-Some.ensures.ended told1) in
    unbrought_opens c.args.shape c0 c1 c2 records state c.in-Err-bring.error (synced_shares c0 c1 (c.in-Ok.ensures.sync told).ok) found ended told2 c.in-Err-bring.ensures.brings

pub returns-in-Err-bring-clause-found_again : goal.returns-in-Err-bring-clause-found_again
returns-in-Err-bring-clause-found_again g c told v lanes fits spool =
    found_again (reads (g.V.Shelf.cloud_at c.args.shelf.now 0).now) c.args.shape v lanes fits spool (answer_of (Err c.in-Err-bring.error)) (returns-in-Err-bring-clause-found g c told)
