use Rattle.std.proofs.Common.{◌≡◌, ◌++◌, length, take, drop, ℕ, List, arith, sym, ap, ◌∙◌, eqb-true}
use Rattle.std.proofs.lemmas.Bool.{eqb-false}
use Rattle.std.proofs.lemmas.List.{take_at}
use Rattle.grammar.specs.Hexadecimal.{unhex}
use Rattle.grammar.proofs.HexadecimalLaws.{block_read, block_wrong, unhex_done, unhex_odd, unhex_length}
use Rattle.grammar.proofs.hexadecimal.decode.Goals as goal

pub returns-then-not-decode_block : goal.returns-then-not-decode_block
returns-then-not-decode_block c =
    block_wrong c.loop-rest.bytes c.split_at.result.0.now c.split_at.result.1.now c.loop-rest.rest.now c.min-n.result _
    c.split_at.ensures.by_index.0 c.split_at.ensures.front_len (c.decode_block.ensures.bad c.if-not-decode_block.true) c.loop-rest.invariant

pub loop-rest-preserved : goal.loop-rest-preserved
loop-rest-preserved c =
    let n = c.min-n.result in
    let front = c.split_at.result.0.now in
    let out = c.decode_block.new.out in
    let good = c.decode_block.ensures.good c.if-not-decode_block.false in
    let len : length c.decode_block.new.out ≡ n = omega (arith, unhex_length front out good, c.split_at.ensures.front_len) in
    let piece : take n (out ++ drop n c.loop-rest.block) ≡ out = take_at out (drop n c.loop-rest.block) n len in
    let new : c.extend.new.self ≡ c.loop-rest.bytes ++ out = c.in_ok-extend.ensures.ok ∙ ap (λ (x : List ℕ). c.loop-rest.bytes ++ x) piece in
    rw new (block_read c.loop-rest.bytes front c.split_at.result.1.now c.loop-rest.rest.now out (unhex c.args.text.now) c.split_at.ensures.by_index.0 good c.loop-rest.invariant)

pub returns-then-is_empty : goal.returns-then-is_empty
returns-then-is_empty c = unhex_done c.loop-rest.bytes c.loop-rest.rest.now _ (eqb-true _ _ (sym c.if-is_empty.ensures)) c.loop-rest.invariant

pub returns-else-is_empty : goal.returns-else-is_empty
returns-else-is_empty c = let ne = eqb-false _ _ (sym c.if-is_empty.ensures) in unhex_odd c.loop-rest.bytes c.loop-rest.rest.now _ (omega arith) (omega arith) c.loop-rest.invariant
