use Rattle.std.proofs.Common.{◌≡◌, ℕ, ◌+◌, ◌-◌, ◌∙◌, List, sym, ap, arith}
use Rattle.std.specs.Prelude.{slice_index, slice_set, slice_range}
use Rattle.rabin_chunker.specs.Cuts.{fingerprint_of}
use Rattle.rabin_chunker.specs.Window.{oldest_first}
use Rattle.rabin_chunker.proofs.Steps.{ring_lt, kept_rolled, length-oldest_first, near_whole, near_slice, near_one, arrives_one}
use Rattle.rabin_chunker.proofs.Scanning.{arrives_stop, oldest_first-slice}
use Rattle.rabin_chunker.proofs.chunker.advance.Goals as goal

pub scan-stop-requires-clause-kept : goal.scan-stop-requires-clause-kept
scan-stop-requires-clause-kept c =
    c.requires.kept ∙ ap (λ (x : List ℕ). fingerprint_of x) (near_whole c.args.piece.now c.args.at c.args.inside (oldest_first c.args.next c.args.window.now)
    (length-oldest_first c.args.next c.args.window.now (omega (arith, c.told-window, c.requires.place)) ∙ c.told-window)
    (omega (arith, c.requires.more)) c.if-inside-ge2048.true c.if-at-ge48.true c.requires.near)

pub returns-then-at-ge48-clause-arrives : goal.returns-then-at-ge48-clause-arrives
returns-then-at-ge48-clause-arrives c = λ fed before now w.
    arrives_stop fed c.args.piece.now c.args.at c.args.inside c.scan-stop.result.at c.args.next c.scan-stop.result.fingerprint c.args.window.now c.copy_from_slice.new.self before now
    c.if-at-ge48.true c.scan-stop.ensures.past (omega arith) (omega arith) c.scan-stop.ensures.unmarked c.scan-stop.ensures.kept c.copy_from_slice.ensures.after w

pub returns-then-at-ge48-clause-near : goal.returns-then-at-ge48-clause-near
returns-then-at-ge48-clause-near c =
    let stop : ℕ = c.scan-stop.result.at in
    let e : c.args.at + (stop - c.args.at) ≡ stop = omega (arith, c.scan-stop.ensures.past) in
    let same : oldest_first 0 c.copy_from_slice.new.self ≡ slice_range c.args.piece.now (stop - 48) stop =
    ap (λ (x : List ℕ). oldest_first 0 x) c.copy_from_slice.ensures.after ∙ oldest_first-slice (slice_range c.args.piece.now (stop - 48) stop) in
    rw (e, same) (near_slice c.args.piece.now stop (c.args.inside + (stop - c.args.at)) (omega arith) (omega arith))

pub returns-then-at-ge48-clause-kept : goal.returns-then-at-ge48-clause-kept
returns-then-at-ge48-clause-kept c =
    let stop : ℕ = c.scan-stop.result.at in
    let same : oldest_first 0 c.copy_from_slice.new.self ≡ slice_range c.args.piece.now (stop - 48) stop =
    ap (λ (x : List ℕ). oldest_first 0 x) c.copy_from_slice.ensures.after ∙ oldest_first-slice (slice_range c.args.piece.now (stop - 48) stop) in
    c.scan-stop.ensures.kept ∙ ap (λ (x : List ℕ). fingerprint_of x) (sym same)

pub roll-rolled-requires : goal.roll-rolled-requires
roll-rolled-requires c = ring_lt c.args.fingerprint c.args.next c.args.window.now c.told-window c.requires.place c.requires.bytes c.requires.kept

pub returns-clause-kept : goal.returns-clause-kept
returns-clause-kept c =
    kept_rolled c.args.fingerprint c.roll-rolled.result c.args.next c.following-moved.result (slice_index c.args.piece.now c.args.at) c.args.window.now
    c.told-window c.requires.place c.requires.bytes (omega (arith, c.type_inv.piece c.args.at)) c.requires.kept c.following-moved.ensures.is c.roll-rolled.ensures.is

pub returns-clause-near : goal.returns-clause-near
returns-clause-near c = near_one c.args.piece.now c.args.at c.args.inside c.args.next c.following-moved.result c.args.window.now c.told-window c.requires.place c.following-moved.ensures.is c.requires.near

pub returns-clause-arrives : goal.returns-clause-arrives
returns-clause-arrives c = λ fed before now w.
    let kept : c.roll-rolled.result ≡ fingerprint_of (oldest_first c.following-moved.result (slice_set c.args.window.now c.args.next (slice_index c.args.piece.now c.args.at))) =
    kept_rolled c.args.fingerprint c.roll-rolled.result c.args.next c.following-moved.result (slice_index c.args.piece.now c.args.at) c.args.window.now
    c.told-window c.requires.place c.requires.bytes (omega (arith, c.type_inv.piece c.args.at)) c.requires.kept c.following-moved.ensures.is c.roll-rolled.ensures.is in
    arrives_one fed c.args.piece.now c.args.at c.args.inside c.args.next c.following-moved.result c.roll-rolled.result c.args.window.now before now
    c.told-window c.requires.place c.requires.more c.following-moved.ensures.within c.following-moved.ensures.is kept w
