use Rattle.std.proofs.Common.{refl, [], arith}
use Rattle.std.specs.Prelude.{replicate}
use Rattle.rabin_chunker.specs.Cuts.{fingerprint_of, polynomial, remainder, start_at}
use Rattle.rabin_chunker.specs.Window.{oldest_first}
use Rattle.rabin_chunker.proofs.Steps.{recent_skipped, bytes_from_test}
use Rattle.rabin_chunker.proofs.chunker.Chunker.new.Goals as goal

pub invariant_of-result-clause-kept : goal.invariant_of-result-clause-kept
unfolding fingerprint_of polynomial remainder oldest_first
invariant_of-result-clause-kept c = refl

pub returns : goal.returns
unfolding start_at
returns c = record { place = refl; reads = record { begun = refl; recent = recent_skipped [] 0 0 _ (omega arith) } }

pub invariant_of-result-clause-bytes : goal.invariant_of-result-clause-bytes
invariant_of-result-clause-bytes c = bytes_from_test (replicate 48 0) refl
