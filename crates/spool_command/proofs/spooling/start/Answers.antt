use Rattle.std.proofs.Common.{◌≡◌, ◌<◌, ◌≤◌, ◌^◌, ℕ, List, [], length, sym, subst, rules}
use Rattle.upload_spool.specs.Recipe.Spelling.{file_limit}
use Rattle.upload_spool.specs.UploadJob.Lanes.{lanes_begun}
use Rattle.backup_command.specs.LaneSteps.Reached.{IsReached, Begun}
use Rattle.upload_spool.specs.States.{IsBegunSpool, IsSpool, LeavesJob, state_of}
use Rattle.spool_command.specs.Spooled.{version_for}
use Rattle.spool_command.proofs.Carried.{untouched_none, untouched_spared, why_unbegun}
use Rattle.spool_command.proofs.spooling.start.Goals as goal

pub returns-in-Err-clause-any_moment : goal.returns-in-Err-clause-any_moment
returns-in-Err-clause-any_moment g c =
    untouched_none c.args.shape (version_for c.args.file.now c.args.bytes) (g.V.Shelf.cloud_at c.args.shelf.now 0)

pub returns-in-Err-clause-spared : goal.returns-in-Err-clause-spared
returns-in-Err-clause-spared g c = untouched_spared (g.V.Shelf.cloud_at c.args.shelf.now 0)

pub returns-in-Ok-begin-clause-job : goal.returns-in-Ok-begin-clause-job
returns-in-Ok-begin-clause-job g c =
    subst (λ (l : List ℕ). c.in-Ok.job ≡ lanes_begun c.args.shape (version_for c.args.file.now l))
    c.as_slice-content.ensures c.in-Ok.ensures

pub returns-in-Ok-begin-clause-reached : goal.returns-in-Ok-begin-clause-reached
returns-in-Ok-begin-clause-reached g c =
    let file = c.args.file.now in
    let user : file.user.0 < 2 ^ 32 = search rules in
    let version : file.version.0 < 2 ^ 64 = search rules in
    subst (IsReached c.args.shape) (sym c.in-Ok.ensures)
    (Begun (version_for file c.as_slice-content.result.now) c.requires.path
    (subst (λ (l : List ℕ). length l ≤ file_limit) (sym c.as_slice-content.ensures) c.requires.few) user version)

pub returns-in-Ok-begin-clause-spool : goal.returns-in-Ok-begin-clause-spool
returns-in-Ok-begin-clause-spool g c =
    subst (λ (l : List ℕ). IsBegunSpool c.args.shape (version_for c.args.file.now l) c.in-Ok-begin.spool)
    c.as_slice-content.ensures c.in-Ok-begin.ensures.spool

pub returns-in-Ok-begin-clause-begun : goal.returns-in-Ok-begin-clause-begun
returns-in-Ok-begin-clause-begun g c told =
    let empty = c.in-Ok-begin.ensures.empty told in
    record {
      empty = empty;
      is = subst (λ (l : List ℕ). IsSpool (state_of c.in-Ok-begin.spool) (version_for c.args.file.now l) []
          (g.V.Shelf.cloud_at c.begin.new.shelf 0)) c.as_slice-content.ensures (c.in-Ok-begin.ensures.begun told empty);
    }

pub returns-in-Ok-begin-clause-any_moment : goal.returns-in-Ok-begin-clause-any_moment
returns-in-Ok-begin-clause-any_moment g c =
    subst (λ (l : List ℕ). LeavesJob c.args.shape (version_for c.args.file.now l) (g.V.Shelf.cloud_at c.args.shelf.now 0)
    (g.V.Shelf.cloud_at c.begin.new.shelf 0)) c.as_slice-content.ensures c.in-Ok-begin.ensures.any_moment

pub returns-clause-any_moment : goal.returns-clause-any_moment
returns-clause-any_moment g c =
    subst (λ (l : List ℕ). LeavesJob c.args.shape (version_for c.args.file.now l) (g.V.Shelf.cloud_at c.args.shelf.now 0)
    (g.V.Shelf.cloud_at c.begin.new.shelf 0)) c.as_slice-content.ensures c.in-Err-begin.ensures.any_moment

pub returns-clause-refused : goal.returns-clause-refused
returns-clause-refused g c =
    why_unbegun c.in-Err-begin.error (g.V.Shelf.cloud_at c.args.shelf.now 0) (g.V.Shelf.cloud_at c.begin.new.shelf 0) _ _
    c.in-Err-begin.ensures.empty c.in-Err-begin.ensures.counts
