use Rattle.std.proofs.Common.{length, ◌-◌, ◌≡◌, ℕ, ◌<◌, ◌≤◌, ◌++◌, List, take}
use Rattle.rabin_chunker.specs.Cuts.{fingerprint_of}
use Rattle.rabin_chunker.specs.Window.{IsNear, oldest_first}
use Rattle.rabin_chunker.specs.Reading.{HasRead}
use Rattle.rabin_chunker.proofs.Algebra.{Bytes}
use Rattle.rabin_chunker.specs.Walk.{Walked}
use Rattle.rabin_chunker.proofs.chunker.Chunker.feed.Given as goal

abbrev pub invariant-loop-at : goal.invariant-loop-at
invariant-loop-at l = record {
  in_piece : l.at ≤ length l.piece;
  within : l.next < 48;
  unended : l.inside < 16384;
  kept : l.fingerprint ≡ fingerprint_of (oldest_first l.next l.window);
  ring_long : length l.window ≡ 48;
  ring_bytes : Bytes l.window;
  near : IsNear l.piece l.at l.inside (oldest_first l.next l.window);
  long : l.had ≡ length l.fn.cuts;
  before : take l.had l.cuts ≡ l.fn.cuts;
  walked : (fed : List ℕ) → HasRead l.fn.self fed → Walked (fed ++ l.piece) (length fed) l.at l.inside l.next l.window l.fn.cuts l.cuts;
}

abbrev pub decreases-loop-at : goal.decreases-loop-at
decreases-loop-at l = length l.piece - l.at
