use Rattle.std.proofs.Common.{◌+◌, ◌*◌, ℕ, List, [], ◌∷◌, ◌∙◌, ap, subst}
use Rattle.journal_halves.specs.CdEdges.area.Area.TheVariants.{Journal}
use Rattle.journal_halves.specs.CdEdges.Disk.{LeavesOnly, IsAtArea, MayLeave, overwritten}
use Rattle.journal_halves.specs.CdEdges.Shelf.{wrote, stable}
use Rattle.journal_halves.proofs.CdEdges.Moments.{told_on}
use Rattle.commit_journal.specs.Turning.{state_of}
use Rattle.commit_journal.proofs.Calls.{on_ok, first_part, laid_whole, second_part, stands_then}
use Rattle.commit_journal.proofs.writer.CheckpointWriter.settle.Goals as goal

pub returns-in_err-write_last-clause-any_moment : goal.returns-in_err-write_last-clause-any_moment
returns-in_err-write_last-clause-any_moment g c told w next laying =
    let state = state_of c.args.self.now in let number = c.args.cloud.0 in
    let c0 = g.V.Shelf.cloud_at c.args.shelf.now number in let c1 = g.V.Shelf.cloud_at c.write_last.new.shelf number in
    let place = ap (λ (n : ℕ). n + 1 + state.written) c.first_place-place.ensures in
    first_part state c0 c1 w next _ laying place c.args.self.now.within (c.write_last.ensures.any_moment told)

pub returns-clause-any_moment : goal.returns-clause-any_moment
returns-clause-any_moment g c told w next laying =
    let state = state_of c.args.self.now in let number = c.args.cloud.0 in
    let c0 = g.V.Shelf.cloud_at c.args.shelf.now number in let c1 = g.V.Shelf.cloud_at c.write_last.new.shelf number in let c2 = g.V.Shelf.cloud_at c.write_synced.new.shelf number in
    let place = ap (λ (n : ℕ). n + 1 + state.written) c.first_place-place.ensures in
    let told1 = told_on c0 c1 c.write_last.ensures.call.told told in
    let first = c.write_last.ensures.any_moment told in
    let image0 = g.met.V.Shelf.reads_image c.args.shelf.now number told in let image1 = g.met.V.Shelf.reads_image c.write_last.new.shelf number told1 in
    let whole = laid_whole state c0 c1 w next _ laying place c.args.self.now.within first image0 image1 (c.in_ok-write_last.ensures.written told) in
    let second = subst (λ (n : ℕ). LeavesOnly c1 c2 (IsAtArea c1.now Journal (MayLeave (wrote (c1.now Journal) n (1 ∷ []))))) c.first_place-place.ensures (c.write_synced.ensures.any_moment told1) in
    second_part state c0 c1 w next _ laying place c.args.self.now.within c2 first whole (c.in_ok-write_last.ensures.others told) second

pub returns-clause-settled : goal.returns-clause-settled
returns-clause-settled g c told w next laying =
    let state = state_of c.args.self.now in let number = c.args.cloud.0 in
    let c0 = g.V.Shelf.cloud_at c.args.shelf.now number in let c1 = g.V.Shelf.cloud_at c.write_last.new.shelf number in let c2 = g.V.Shelf.cloud_at c.write_synced.new.shelf number in
    let place = ap (λ (n : ℕ). n + 1 + state.written) c.first_place-place.ensures in
    let told1 = told_on c0 c1 c.write_last.ensures.call.told told in let told2 = told_on c1 c2 c.write_synced.ensures.call.told told1 in
    let first = c.write_last.ensures.any_moment told in
    let image0 = g.met.V.Shelf.reads_image c.args.shelf.now number told in let image1 = g.met.V.Shelf.reads_image c.write_last.new.shelf number told1 in
    let image2 = g.met.V.Shelf.reads_image c.write_synced.new.shelf number told2 in
    let whole = laid_whole state c0 c1 w next _ laying place c.args.self.now.within first image0 image1 (c.in_ok-write_last.ensures.written told) in
    let second = subst (λ (n : ℕ). LeavesOnly c1 c2 (IsAtArea c1.now Journal (MayLeave (wrote (c1.now Journal) n (1 ∷ []))))) c.first_place-place.ensures (c.write_synced.ensures.any_moment told1) in
    on_ok c.write_synced.result _ _ (c.write_synced.ensures.written told1) (λ written.
    stands_then state c0 c1 w next _ laying place c.args.self.now.within c2 whole second image2
    (written ∙ ap (λ (n : ℕ). stable (overwritten (c1.now Journal).read n (1 ∷ []))) c.first_place-place.ensures))
