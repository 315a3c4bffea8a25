use Rattle.std.specs.Prelude.{slice_index_or}
use Rattle.std.proofs.Common.{rules, ◌≡◌, ℕ, ◌<◌, List, [], length, sym, ap, ◌∙◌, arith}
use Rattle.cloud_memory.specs.CdBase.ids.Fp.{Fp}
use Rattle.server_reads.proofs.Copied.{named_more, named_all}
use Rattle.server_reads.proofs.together.are_named.Goals as goal

pub loop-place-preserved : goal.loop-place-preserved
loop-place-preserved c =
    let place = c.loop-place.place in
    let less : place < length c.args.shares.now = omega (arith, c.requires.one_each, c.len-place-end.ensures) in
    let same : (let fp : Fp = record { 0 = slice_index_or c.digests_of-digests.result place [] } in fp) ≡ c.fp_at-named.result = search rules in
    named_more c.args.shares.now c.args.fps.now place c.fp_at-named.result less c.fp_at-named.ensures
    (ap (λ (d : List ℕ). let fp : Fp = record { 0 = d } in fp) (sym (c.digests_of-digests.ensures place less)) ∙ same)
    c.loop-place.invariant

pub returns : goal.returns
returns c = λ all.
    named_all c.args.shares.now c.args.fps.now c.loop-place.place (omega (arith, c.requires.one_each)) (omega arith) c.loop-place.invariant
