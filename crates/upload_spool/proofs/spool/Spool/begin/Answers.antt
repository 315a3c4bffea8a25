use Rattle.std.proofs.Common.{sym, ◌∙◌}
use Rattle.commit_journal.proofs.CdEdges.Moments.{told_on}
use Rattle.upload_job.specs.Upload.{FileVersion}
use Rattle.commit_journal.specs.States as half
use Rattle.upload_spool.specs.States.{SpoolState, state_of}
use Rattle.upload_spool.proofs.Begins.{none_kept, begun_kept, spool_begun, none_on}
use Rattle.upload_spool.proofs.spool.Spool.begin.Goals as goal

pub returns-in-Err-clause-any_moment : goal.returns-in-Err-clause-any_moment
returns-in-Err-clause-any_moment g c told none nojob =
    none_kept (g.V.Shelf.cloud_at c.args.shelf.now 0) (g.V.Shelf.cloud_at c.find_filled.new.shelf 0) c.args.shape _ c.find_filled.ensures.stays nojob

pub returns-in-Err-draft-clause-any_moment : goal.returns-in-Err-draft-clause-any_moment
returns-in-Err-draft-clause-any_moment g c told none nojob =
    none_kept (g.V.Shelf.cloud_at c.args.shelf.now 0) (g.V.Shelf.cloud_at c.find_filled.new.shelf 0) c.args.shape _ c.find_filled.ensures.stays nojob

pub returns-in-Ok-keep-clause-any_moment : goal.returns-in-Ok-keep-clause-any_moment
returns-in-Ok-keep-clause-any_moment g c told none nojob =
    let c0 = g.V.Shelf.cloud_at c.args.shelf.now 0 in let c1 = g.V.Shelf.cloud_at c.find_filled.new.shelf 0 in let c2 = g.V.Shelf.cloud_at c.keep.new.shelf 0 in
    let v : FileVersion = record { user = c.args.user; path = c.args.path.now; number = c.args.version; file = c.args.bytes.now } in
    let told1 = told_on c0 c1 c.find_filled.ensures.call.told told in
    begun_kept c0 c1 c2 c.args.shape v c.header_of-header.result c.as_slice.result.now c.find_filled.ensures.stays nojob c.header_of-header.ensures.value (c.as_slice.ensures ∙ c.in-Ok.ensures.body_is)
    c.requires.path.few none (c.keep.ensures.any_moment told1)

pub returns-in-Err-keep-clause-any_moment : goal.returns-in-Err-keep-clause-any_moment
returns-in-Err-keep-clause-any_moment g c told none nojob =
    let c0 = g.V.Shelf.cloud_at c.args.shelf.now 0 in let c1 = g.V.Shelf.cloud_at c.find_filled.new.shelf 0 in let c2 = g.V.Shelf.cloud_at c.keep.new.shelf 0 in
    let v : FileVersion = record { user = c.args.user; path = c.args.path.now; number = c.args.version; file = c.args.bytes.now } in
    let told1 = told_on c0 c1 c.find_filled.ensures.call.told told in
    begun_kept c0 c1 c2 c.args.shape v c.header_of-header.result c.as_slice.result.now c.find_filled.ensures.stays nojob c.header_of-header.ensures.value (c.as_slice.ensures ∙ c.in-Ok.ensures.body_is)
    c.requires.path.few none (c.keep.ensures.any_moment told1)

pub returns-in-Ok-keep-clause-begun : goal.returns-in-Ok-keep-clause-begun
returns-in-Ok-keep-clause-begun g c told none =
    let c0 = g.V.Shelf.cloud_at c.args.shelf.now 0 in let c1 = g.V.Shelf.cloud_at c.find_filled.new.shelf 0 in let c2 = g.V.Shelf.cloud_at c.keep.new.shelf 0 in
    let v : FileVersion = record { user = c.args.user; path = c.args.path.now; number = c.args.version; file = c.args.bytes.now } in
    let told1 = told_on c0 c1 c.find_filled.ensures.call.told told in
    let draft = c.in-Ok.ensures in let s = state_of c.in-Ok.spool in
    let after : SpoolState = record s { journal = half.state_of c.keep.new.journal } in
    spool_begun after c.args.shape v c.header_of-header.result c.as_slice.result.now c2 (c.in-Ok-keep.ensures.kept told1 (none_on c0 c1 c.find_filled.ensures.stays none)) draft.shape_is c.header_of-header.ensures.value
    (c.as_slice.ensures ∙ draft.body_is) (record { user = draft.of.user; number = draft.of.number; path = draft.of.path; len = draft.of.len; digest = draft.of.digest }) draft.none c.requires.path.few

pub returns-in-Ok-keep-clause-spared : goal.returns-in-Ok-keep-clause-spared
returns-in-Ok-keep-clause-spared g c told some = absurd (some (sym (c.in-Ok-None.ensures.filled told) ∙ c.in-Ok-None.field-0-is))

pub returns-in-Err-keep-clause-spared : goal.returns-in-Err-keep-clause-spared
returns-in-Err-keep-clause-spared g c told some = absurd (some (sym (c.in-Ok-None.ensures.filled told) ∙ c.in-Ok-None.field-0-is))
