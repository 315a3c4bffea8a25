use Rattle.std.proofs.Common.{◌≡◌, ℕ, List, [], ◌∷◌, ◌++◌, ◌+◌, length, take, arith, sym, ap, ◌∙◌, true, false}
use Rattle.rabin_chunker.specs.Cuts.{is_cut}
use Rattle.rabin_chunker.proofs.Steps.{walked_start, walked_skipped, near_start, near_skipped, unended, take_before}
use Rattle.rabin_chunker.specs.Window.{oldest_first}
use Rattle.std.proofs.lemmas.List.{take_all}
use Rattle.rabin_chunker.proofs.Outcome.{at_ok, end_is_asked}
use Rattle.rabin_chunker.proofs.chunker.Chunker.feed.Goals as goal

pub loop-at-init : goal.loop-at-init
loop-at-init c = record {
  in_piece = omega arith;
  within = c.args.self.now.within;
  unended = c.args.self.now.unended;
  kept = c.args.self.now.kept;
  ring_long = c.args.self.now.long;
  ring_bytes = c.args.self.now.bytes;
  near = near_start c.args.piece.now c.args.self.now.inside (oldest_first c.args.self.now.next c.args.self.now.window);
  long = c.len-had.ensures;
  before = take_all c.len-had.result c.args.cuts.now (omega (arith, c.len-had.ensures));
  walked = λ fed h. walked_start fed c.args.piece.now c.args.self.now.inside c.args.self.now.next c.args.self.now.window c.args.cuts.now h.reads;
}

pub loop-at-preserved-then-inside-lt2000 : goal.loop-at-preserved-then-inside-lt2000
loop-at-preserved-then-inside-lt2000 c = record {
  in_piece = omega arith;
  within = c.loop-at.invariant.within;
  unended = omega arith;
  kept = c.loop-at.invariant.kept;
  ring_long = c.loop-at.invariant.ring_long;
  ring_bytes = c.loop-at.invariant.ring_bytes;
  near = near_skipped c.args.piece.now (c.loop-at.at + c.min-skipped.result) (c.loop-at.inside + c.min-skipped.result) (oldest_first c.loop-at.next c.loop-at.window) (omega arith);
  long = c.loop-at.invariant.long;
  before = c.loop-at.invariant.before;
  walked = λ fed h. walked_skipped (fed ++ c.args.piece.now) (length fed) c.loop-at.at c.min-skipped.result c.loop-at.inside c.loop-at.next c.loop-at.window
      c.args.cuts.now c.loop-at.cuts (omega arith) (c.loop-at.invariant.walked fed h);
}

pub advance-moved-requires : goal.advance-moved-requires
advance-moved-requires c =
    let i = c.loop-at.invariant in
    record {
      place = i.within;
      bytes = i.ring_bytes;
      kept = i.kept;
      near = i.near;
      more = c.loop-at-test.true;
      begun = omega (arith, c.if-inside-lt2000.false);
      unended = i.unended;
    }

pub loop-at-preserved : goal.loop-at-preserved
loop-at-preserved c =
    let i = c.loop-at.invariant in
    let s = c.advance-moved.ensures in
    let on : is_cut (c.loop-at.inside + c.advance-moved.result.read) c.advance-moved.result.fingerprint ≡ false = sym c.ends_here.ensures ∙ c.if-ends_here.false in
    record {
      in_piece = s.in_piece;
      within = s.place;
      unended = unended (c.loop-at.inside + c.advance-moved.result.read) c.advance-moved.result.fingerprint s.longest on;
      kept = s.kept;
      ring_long = s.long;
      ring_bytes = s.bytes;
      near = s.near;
      long = i.long;
      before = i.before;
      walked = λ fed h. (s.arrives fed c.args.cuts.now c.loop-at.cuts (i.walked fed h)).on on;
    }

pub loop-at-preserved-else-is_err : goal.loop-at-preserved-else-is_err
loop-at-preserved-else-is_err c =
    let i = c.loop-at.invariant in
    let s = c.advance-moved.ensures in
    let read : ℕ = c.advance-moved.result.read in
    let cut : is_cut (c.loop-at.inside + read) c.advance-moved.result.fingerprint ≡ true = sym c.ends_here.ensures ∙ c.if-ends_here.true in
    let pushed : c.push.new.self ≡ c.loop-at.cuts ++ (c.args.self.now.place + (c.loop-at.at + read)) ∷ [] = at_ok c.push.result c.push.ensures.ok c.if-is_err.ensures.negation in
    record {
      in_piece = s.in_piece;
      within = s.place;
      unended = omega arith;
      kept = s.kept;
      ring_long = s.long;
      ring_bytes = s.bytes;
      near = near_skipped c.args.piece.now (c.loop-at.at + read) 0 (oldest_first c.advance-moved.result.next c.advance-moved.new.window) (omega arith);
      long = i.long;
      before = ap (λ (x : List ℕ). take c.len-had.result x) pushed ∙ take_before c.len-had.result c.args.cuts.now c.loop-at.cuts ((c.args.self.now.place + (c.loop-at.at + read)) ∷ []) i.long i.before;
      walked = λ fed h. rw (pushed, h.place) ((s.arrives fed c.args.cuts.now c.loop-at.cuts (i.walked fed h)).cut cut);
    }

pub returns-then-is_err-clause-quiet : goal.returns-then-is_err-clause-quiet
returns-then-is_err-clause-quiet c = λ fed h none.
    let i = c.loop-at.invariant in
    let s = c.advance-moved.ensures in
    let read : ℕ = c.advance-moved.result.read in
    let cut : is_cut (c.loop-at.inside + read) c.advance-moved.result.fingerprint ≡ true = sym c.ends_here.ensures ∙ c.if-ends_here.true in
    let before = i.walked fed h in
    let after = (s.arrives fed c.args.cuts.now c.loop-at.cuts before).cut cut in
    absurd (end_is_asked (fed ++ c.args.piece.now) c.args.cuts.now c.loop-at.cuts (length fed) c.loop-at.at (c.loop-at.at + read) (length c.args.piece.now) (length fed + (c.loop-at.at + read))
    s.in_piece before.ends after.ends none)
