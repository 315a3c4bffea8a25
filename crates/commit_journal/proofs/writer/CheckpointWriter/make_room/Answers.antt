use Rattle.std.proofs.Common.{◌+◌, ◌*◌, ℕ, List, refl, sym, ap, arith}
use Rattle.journal_halves.specs.CdEdges.area.Area.TheVariants.{Journal}
use Rattle.journal_halves.specs.Halves.{half_len}
use Rattle.commit_journal.specs.Turning.{WriterState, state_of}
use Rattle.commit_journal.proofs.Calls.{unflushed, flushing, flushed}
use Rattle.commit_journal.proofs.writer.CheckpointWriter.make_room.Goals as goal

pub returns-then-waits-len-lt-PIECE-clause-any_moment : goal.returns-then-waits-len-lt-PIECE-clause-any_moment
returns-then-waits-len-lt-PIECE-clause-any_moment g c told w next laying =
    let state = state_of c.args.self.now in let c0 = g.V.Shelf.cloud_at c.args.shelf.now c.args.cloud.0 in
    unflushed state c0 c0 w next (state.half * half_len + 1 + state.written) laying refl c.args.self.now.within

pub returns-in_err-write_piece-clause-any_moment : goal.returns-in_err-write_piece-clause-any_moment
returns-in_err-write_piece-clause-any_moment g c told w next laying =
    let state = state_of c.args.self.now in let c0 = g.V.Shelf.cloud_at c.args.shelf.now c.args.cloud.0 in let c1 = g.V.Shelf.cloud_at c.write_piece.new.shelf c.args.cloud.0 in
    flushing state c0 c1 w next _ laying (ap (λ (n : ℕ). n + 1 + state.written) c.first_place.ensures) c.args.self.now.within c.write_piece.result (c.write_piece.ensures.write told)

pub returns-clause-any_moment : goal.returns-clause-any_moment
returns-clause-any_moment g c told w next laying =
    let state = state_of c.args.self.now in let c0 = g.V.Shelf.cloud_at c.args.shelf.now c.args.cloud.0 in let c1 = g.V.Shelf.cloud_at c.write_piece.new.shelf c.args.cloud.0 in
    flushing state c0 c1 w next _ laying (ap (λ (n : ℕ). n + 1 + state.written) c.first_place.ensures) c.args.self.now.within c.write_piece.result (c.write_piece.ensures.write told)

pub returns-clause-still : goal.returns-clause-still
returns-clause-still g c told w next laying =
    let state = state_of c.args.self.now in let number = c.args.cloud.0 in
    let c0 = g.V.Shelf.cloud_at c.args.shelf.now number in let c1 = g.V.Shelf.cloud_at c.write_piece.new.shelf number in
    let count = ap (λ (n : ℕ). state.written + n) c.len-waits.ensures in let none = c.in_ok-write_piece.ensures.done in
    flushed state c0 c1 w next _ laying (ap (λ (n : ℕ). n + 1 + state.written) c.first_place.ensures) c.args.self.now.within
    _ (g.met.V.Shelf.reads_image c.args.shelf.now number told) ((c.in_ok-write_piece.ensures.write told).ok.area)
    (λ i. record { half = state.half; written = count i; waiting = none i; left = state.left })
