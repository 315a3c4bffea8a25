use Rattle.std.proofs.Common.{◌≡◌, ◌*◌, ◌++◌, length, take, drop, ℕ, List, arith, sym, ap, ◌∙◌, eqb-true}
use Rattle.std.proofs.lemmas.List.{take_at}
use Rattle.grammar.specs.Hexadecimal.{hex}
use Rattle.grammar.proofs.HexadecimalLaws.{block_written, all_written, begins_more, length-hex}
use Rattle.grammar.proofs.hexadecimal.encode_blocks.Goals as goal

pub loop-rest-preserved : goal.loop-rest-preserved
loop-rest-preserved c =
    let n = c.min-n.result in
    let front = c.split_at.result.0.now in
    let len : length c.encode_block.new.out ≡ 2 * n = omega (arith, ap length c.encode_block.ensures, length-hex front, c.split_at.ensures.front_len) in
    let piece : take (2 * n) (c.encode_block.new.out ++ drop (2 * n) c.loop-rest.block) ≡ hex front = take_at c.encode_block.new.out (drop (2 * n) c.loop-rest.block) (2 * n) len ∙ c.encode_block.ensures in
    let new : c.extend.new.self ≡ c.loop-rest.out ++ hex front = c.in_ok-extend.ensures.ok ∙ ap (λ (x : List ℕ). c.loop-rest.out ++ x) piece in
    record {
      so_far = block_written c.args.out.now c.loop-rest.out c.args.bytes.now c.loop-rest.rest.now front c.split_at.result.1.now c.extend.new.self c.loop-rest.invariant.so_far c.split_at.ensures.by_index.0 new;
      begins = ap (λ (x : List ℕ). take (length c.args.out.now) x) new ∙ begins_more c.args.out.now c.loop-rest.out (hex front) c.loop-rest.invariant.begins;
    }

pub returns-clause-ok : goal.returns-clause-ok
returns-clause-ok c =
    let none : length c.loop-rest.rest.now ≡ 0 = eqb-true _ _ (sym c.loop-rest-test.ensures) in
    all_written c.loop-rest.out c.loop-rest.rest.now none ∙ c.loop-rest.invariant.so_far
