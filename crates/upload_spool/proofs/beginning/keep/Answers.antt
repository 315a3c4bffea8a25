use Rattle.std.proofs.Common.{sym, subst}
use Rattle.commit_journal.specs.CdEdges.area.Area.TheVariants.{Journal, Shares}
use Rattle.commit_journal.specs.CdEdges.Disk.{Store, reads}
use Rattle.commit_journal.proofs.CdEdges.Moments.{told_on}
use Rattle.commit_journal.specs.JournalHalves.Beginnings.{IsUnbegun, new_of}
use Rattle.commit_journal.specs.States as half
use Rattle.upload_spool.specs.States.{HasFile, NoOpenJob}
use Rattle.upload_spool.proofs.Notes.{shares≢journal}
use Rattle.upload_spool.proofs.Begins.{empty_of, unbegun_empty, journal≢shares, second_step, third_step, job_kept}
use Rattle.upload_spool.proofs.beginning.keep.Goals as goal

pub returns-in-Err-begin_journal-clause-any_moment : goal.returns-in-Err-begin_journal-clause-any_moment
returns-in-Err-begin_journal-clause-any_moment g c told none nojob =
    let c0 = g.V.Shelf.cloud_at c.args.shelf.now 0 in let c1 = g.V.Shelf.cloud_at c.write_file.new.shelf 0 in let c2 = g.V.Shelf.cloud_at c.begin_journal.new.shelf 0 in
    let told1 = told_on c0 c1 c.write_file.ensures.call.told told in
    let same = c.in-Ok.ensures.others told Journal journal≢shares in
    let unbegun = subst (λ (s : Store). IsUnbegun s.read) (sym same) (unbegun_empty (c0.now Journal).read (empty_of (reads c0.now) none).0) in
    let nojob1 = subst NoOpenJob (sym same) nojob in
    second_step c0 c1 c2 c.args.header.now c.args.bytes.now c.args.body.now nojob (c.write_file.ensures.any_moment told) (c.begin_journal.ensures.any_moment told1 unbegun nojob1)

pub returns-in-Ok-append-clause-any_moment : goal.returns-in-Ok-append-clause-any_moment
returns-in-Ok-append-clause-any_moment g c told none nojob =
    let c0 = g.V.Shelf.cloud_at c.args.shelf.now 0 in let c1 = g.V.Shelf.cloud_at c.write_file.new.shelf 0 in let c2 = g.V.Shelf.cloud_at c.begin_journal.new.shelf 0 in
    let c3 = g.V.Shelf.cloud_at c.append.new.shelf 0 in let header = c.args.header.now in
    let told1 = told_on c0 c1 c.write_file.ensures.call.told told in let told2 = told_on c1 c2 c.begin_journal.ensures.call.told told1 in
    let same = c.in-Ok.ensures.others told Journal journal≢shares in
    let empty = empty_of (reads c0.now) none in
    let unbegun = subst (λ (s : Store). IsUnbegun s.read) (sym same) (unbegun_empty (c0.now Journal).read empty.0) in
    let nojob1 = subst NoOpenJob (sym same) nojob in
    let run = second_step c0 c1 c2 header c.args.bytes.now c.args.body.now nojob (c.write_file.ensures.any_moment told) (c.begin_journal.ensures.any_moment told1 unbegun nojob1) in
    let new = c.in-Ok-begin_journal.ensures.begun told1 unbegun in
    let has = subst (HasFile c.args.bytes.now) (sym (c.in-Ok-begin_journal.ensures.others told1 Shares shares≢journal)) (c.in-Ok.ensures.written told empty.1) in
    third_step c0 c2 c3 header c.args.bytes.now c.args.body.now run new.alone has (c.append.ensures.any_moment told2 (new_of header) new.ended) (c.append.ensures.other told2 (new_of header) new.ended)

pub returns-in-Err-append-clause-any_moment : goal.returns-in-Err-append-clause-any_moment
returns-in-Err-append-clause-any_moment g c told none nojob =
    let c0 = g.V.Shelf.cloud_at c.args.shelf.now 0 in let c1 = g.V.Shelf.cloud_at c.write_file.new.shelf 0 in let c2 = g.V.Shelf.cloud_at c.begin_journal.new.shelf 0 in
    let c3 = g.V.Shelf.cloud_at c.append.new.shelf 0 in let header = c.args.header.now in
    let told1 = told_on c0 c1 c.write_file.ensures.call.told told in let told2 = told_on c1 c2 c.begin_journal.ensures.call.told told1 in
    let same = c.in-Ok.ensures.others told Journal journal≢shares in
    let empty = empty_of (reads c0.now) none in
    let unbegun = subst (λ (s : Store). IsUnbegun s.read) (sym same) (unbegun_empty (c0.now Journal).read empty.0) in
    let nojob1 = subst NoOpenJob (sym same) nojob in
    let run = second_step c0 c1 c2 header c.args.bytes.now c.args.body.now nojob (c.write_file.ensures.any_moment told) (c.begin_journal.ensures.any_moment told1 unbegun nojob1) in
    let new = c.in-Ok-begin_journal.ensures.begun told1 unbegun in
    let has = subst (HasFile c.args.bytes.now) (sym (c.in-Ok-begin_journal.ensures.others told1 Shares shares≢journal)) (c.in-Ok.ensures.written told empty.1) in
    third_step c0 c2 c3 header c.args.bytes.now c.args.body.now run new.alone has (c.append.ensures.any_moment told2 (new_of header) new.ended) (c.append.ensures.other told2 (new_of header) new.ended)

pub returns-in-Ok-append-clause-kept : goal.returns-in-Ok-append-clause-kept
returns-in-Ok-append-clause-kept g c told none =
    let c0 = g.V.Shelf.cloud_at c.args.shelf.now 0 in let c1 = g.V.Shelf.cloud_at c.write_file.new.shelf 0 in let c2 = g.V.Shelf.cloud_at c.begin_journal.new.shelf 0 in
    let c3 = g.V.Shelf.cloud_at c.append.new.shelf 0 in let header = c.args.header.now in
    let told1 = told_on c0 c1 c.write_file.ensures.call.told told in let told2 = told_on c1 c2 c.begin_journal.ensures.call.told told1 in let told3 = told_on c2 c3 c.append.ensures.call.told told2 in
    let same = c.in-Ok.ensures.others told Journal journal≢shares in
    let empty = empty_of (reads c0.now) none in
    let unbegun = subst (λ (s : Store). IsUnbegun s.read) (sym same) (unbegun_empty (c0.now Journal).read empty.0) in
    let new = c.in-Ok-begin_journal.ensures.begun told1 unbegun in
    let has = subst (HasFile c.args.bytes.now) (sym (c.in-Ok-begin_journal.ensures.others told1 Shares shares≢journal)) (c.in-Ok.ensures.written told empty.1) in
    job_kept (half.state_of c.append.new.self) c2 c3 header c.args.bytes.now c.args.body.now new.alone has (c.in-Ok-append.ensures.added told2 (new_of header) new.ended) (c.append.ensures.other told2 (new_of header) new.ended)
    (g.met.V.Shelf.reads_image c.append.new.shelf 0 told3) (c.in-Ok-append.ensures.others told2)
