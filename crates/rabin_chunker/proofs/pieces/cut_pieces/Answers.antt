use Rattle.std.proofs.Common.{◌≡◌, ℕ, List, [], ◌++◌, length, get_or, ap, sym, ◌∙◌, ◌+◌, arith}
use Rattle.std.specs.List.{concat}
use Rattle.std.proofs.lemmas.List.{append-nil, get_or_default}
use Rattle.rabin_chunker.specs.Cuts.{ends}
use Rattle.rabin_chunker.proofs.Outcome.{at_ok}
use Rattle.rabin_chunker.proofs.Steps.{ends_after-none}
use Rattle.rabin_chunker.proofs.Feeding.{fed_by, fed_by-next, fed_by-all, fed_by-short, fed_more, fed_all, none_more, none_last}
use Rattle.rabin_chunker.proofs.pieces.cut_pieces.Goals as goal

pub loop-piece-init : goal.loop-piece-init
loop-piece-init c = (
  c.len-had.ensures,
  record { read = c.new-chunker.ensures; ends = sym (ap (λ (x : List ℕ). c.args.cuts.now ++ x) (ends_after-none [] 0) ∙ append-nil c.args.cuts.now) },
)

pub feed-requires : goal.feed-requires
feed-requires c =
    let same : c.as_slice.result.now ≡ get_or c.args.pieces.now c.loop-piece.piece-index [] =
    c.as_slice.ensures ∙ c.piece-item.is ∙ get_or_default c.args.pieces.now c.loop-piece.piece-index c.piece-item.result [] c.loop-piece-test.true in
    omega (arith, c.requires, c.loop-piece.invariant.1.read.place, fed_by-short c.args.pieces.now c.loop-piece.piece-index c.loop-piece-test.true, ap length same)

pub loop-piece-preserved : goal.loop-piece-preserved
loop-piece-preserved c =
    let fed : List ℕ = fed_by c.args.pieces.now c.loop-piece.piece-index in
    let piece : List ℕ = c.as_slice.result.now in
    let same : piece ≡ get_or c.args.pieces.now c.loop-piece.piece-index [] =
    c.as_slice.ensures ∙ c.piece-item.is ∙ get_or_default c.args.pieces.now c.loop-piece.piece-index c.piece-item.result [] c.loop-piece-test.true in
    let next : fed ++ piece ≡ fed_by c.args.pieces.now (c.loop-piece.piece-index + 1) =
    ap (λ (x : List ℕ). fed ++ x) same ∙ sym (fed_by-next c.args.pieces.now c.loop-piece.piece-index c.loop-piece-test.true) in (
      c.loop-piece.invariant.0,
      rw (← next) (record {
        read = at_ok c.feed.result c.feed.ensures.read c.if-is_err.ensures.negation fed c.loop-piece.invariant.1.read;
        ends = fed_more c.args.cuts.now c.loop-piece.cuts c.feed.new.cuts fed piece c.loop-piece.invariant.1.ends
            (at_ok c.feed.result c.feed.ensures.appended c.if-is_err.ensures.negation fed c.loop-piece.invariant.1.read);
      }),
    )

pub returns-clause-ok : goal.returns-clause-ok
returns-clause-ok c =
    let fed : List ℕ = fed_by c.args.pieces.now c.loop-piece.piece-index in
    let whole : fed ≡ concat c.args.pieces.now = fed_by-all c.args.pieces.now c.loop-piece.piece-index c.loop-piece-test.false in
    fed_all c.args.cuts.now c.loop-piece.cuts c.finish.new.cuts fed c.loop-piece.invariant.1.ends
    (at_ok c.finish.result c.finish.ensures.appended c.if-is_err-2.ensures.negation fed c.loop-piece.invariant.1.read)
    ∙ ap (λ (x : List ℕ). c.args.cuts.now ++ ends x) whole

pub returns-then-is_err-clause-quiet : goal.returns-then-is_err-clause-quiet
returns-then-is_err-clause-quiet c = λ none.
    let fed : List ℕ = fed_by c.args.pieces.now c.loop-piece.piece-index in
    let piece : List ℕ = c.as_slice.result.now in
    let same : piece ≡ get_or c.args.pieces.now c.loop-piece.piece-index [] =
    c.as_slice.ensures ∙ c.piece-item.is ∙ get_or_default c.args.pieces.now c.loop-piece.piece-index c.piece-item.result [] c.loop-piece-test.true in
    sym c.if-is_err.ensures.negation
    ∙ c.feed.ensures.quiet fed c.loop-piece.invariant.1.read (none_more c.args.pieces.now c.loop-piece.piece-index (fed ++ piece) piece (length fed) c.loop-piece-test.true none same)

pub returns-then-is_err-2-clause-quiet : goal.returns-then-is_err-2-clause-quiet
returns-then-is_err-2-clause-quiet c = λ none.
    let fed : List ℕ = fed_by c.args.pieces.now c.loop-piece.piece-index in
    let whole : fed ≡ concat c.args.pieces.now = fed_by-all c.args.pieces.now c.loop-piece.piece-index c.loop-piece-test.false in
    sym c.if-is_err-2.ensures.negation ∙ c.finish.ensures.quiet fed c.loop-piece.invariant.1.read (none_last fed (whole ∙ none))
