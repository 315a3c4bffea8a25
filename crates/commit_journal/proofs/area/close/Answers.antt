use Rattle.std.proofs.Common.{◌≡◌, ◌*◌, ℕ, List, [], ◌∷◌, ◌∙◌, ap, sym, subst}
use Rattle.journal_halves.specs.CdEdges.area.Area.TheVariants.{Journal}
use Rattle.journal_halves.specs.CdEdges.Disk.{Store, Areas, LeavesOnly, IsAtArea, MayLeave, overwritten}
use Rattle.journal_halves.specs.CdEdges.Shelf.{wrote, stable}
use Rattle.journal_halves.proofs.CdEdges.Moments.{told_on}
use Rattle.journal_halves.proofs.Adding.{read_left}
use Rattle.journal_halves.specs.Halves.{half_len}
use Rattle.journal_halves.specs.Journals.{Stands, IsOpenAt}
use Rattle.commit_journal.proofs.Calls.{on_ok, unmoved, closing, closed_now}
use Rattle.commit_journal.proofs.area.close.Goals as goal

pub returns-in_err-is_closed-clause-any_moment : goal.returns-in_err-is_closed-clause-any_moment
returns-in_err-is_closed-clause-any_moment g c told w stands other =
    unmoved (g.V.Shelf.cloud_at c.args.shelf.now c.args.cloud.0) (g.V.Shelf.cloud_at c.is_closed.new.shelf c.args.cloud.0) w stands c.is_closed.ensures.stays

pub returns-then-branch-clause-any_moment : goal.returns-then-branch-clause-any_moment
returns-then-branch-clause-any_moment g c told w stands other =
    unmoved (g.V.Shelf.cloud_at c.args.shelf.now c.args.cloud.0) (g.V.Shelf.cloud_at c.is_closed.new.shelf c.args.cloud.0) w stands c.is_closed.ensures.stays

pub returns-clause-any_moment : goal.returns-clause-any_moment
returns-clause-any_moment g c told w stands other =
    let number = c.args.cloud.0 in
    let c0 = g.V.Shelf.cloud_at c.args.shelf.now number in let c1 = g.V.Shelf.cloud_at c.is_closed.new.shelf number in let c2 = g.V.Shelf.cloud_at c.write_synced.new.shelf number in
    let told1 = told_on c0 c1 c.is_closed.ensures.call.told told in
    let run = subst (λ (n : ℕ). LeavesOnly c1 c2 (IsAtArea c1.now Journal (MayLeave (wrote (c1.now Journal) n (0 ∷ []))))) c.first_place.ensures (c.write_synced.ensures.any_moment told1) in
    closing c0 c1 c2 w c.args.half stands other (c.in_ok-is_closed.ensures.opened told c.if-branch.false) c.is_closed.ensures.stays run

pub returns-clause-closed : goal.returns-clause-closed
returns-clause-closed g c told w stands other =
    let number = c.args.cloud.0 in
    let c0 = g.V.Shelf.cloud_at c.args.shelf.now number in let c1 = g.V.Shelf.cloud_at c.is_closed.new.shelf number in let c2 = g.V.Shelf.cloud_at c.write_synced.new.shelf number in
    let told1 = told_on c0 c1 c.is_closed.ensures.call.told told in
    let told2 = told_on c1 c2 c.write_synced.ensures.call.told told1 in
    let same : c0.now Journal ≡ c1.now Journal = sym (ap (λ (a : Areas). a Journal) c.is_closed.ensures.stays.now) in
    let open_at : IsOpenAt (c0.now Journal).read c.args.half = c.in_ok-is_closed.ensures.opened told c.if-branch.false in
    let run = subst (λ (n : ℕ). LeavesOnly c1 c2 (IsAtArea c1.now Journal (MayLeave (wrote (c1.now Journal) n (0 ∷ []))))) c.first_place.ensures (c.write_synced.ensures.any_moment told1) in
    let left = read_left c1 c2 _ run (g.met.V.Shelf.reads_image c.write_synced.new.shelf number told2) in
    on_ok c.write_synced.result _ _ (c.write_synced.ensures.written told1) (λ written.
    closed_now (c1.now Journal) (c2.now Journal) w c.args.half (subst (λ (s : Store). Stands s w) same stands) other (subst (λ (s : Store). IsOpenAt s.read c.args.half) same open_at)
    (written ∙ ap (λ (n : ℕ). stable (overwritten (c1.now Journal).read n (0 ∷ []))) c.first_place.ensures) left)
