use Rattle.std.proofs.Common.{◌≡◌, ◌*◌, ℕ, List, ◌++◌, length, ap, sym, ◌∙◌, arith}
use Rattle.std.proofs.lemmas.List.{take_at, length-take}
use Rattle.journal_start.specs.Grammar.Hexadecimal.{unhex}
use Rattle.journal_start.proofs.Grammar.HexadecimalLaws.{unhex_length}
use Rattle.session.proofs.Fronts.{packed_more, bytes_more}
use Rattle.session.proofs.front.pack_block.Goals as goal

pub returns-clause-taken : goal.returns-clause-taken
returns-clause-taken c =
    let n = c.min-n.result in
    let out = c.decode_block.new.out in
    let good = c.decode_block.ensures c.if-not-decode_block.false in
    let len : length c.decode_block.new.out ≡ n =
    omega (arith, unhex_length c.before-2.result.now out (sym good), ap length c.before-2.ensures, length-take (2 * n) c.args.bytes.now, c.min-n.ensures) in
    packed_more c.args.packed.now out c.extend.new.self _
    (c.in_ok-extend.ensures.ok ∙ ap (λ (x : List ℕ). c.args.packed.now ++ x) (take_at out _ n len))
    (good ∙ ap unhex c.before-2.ensures)

pub returns-clause-bytes : goal.returns-clause-bytes
returns-clause-bytes c =
    let n = c.min-n.result in
    let out = c.decode_block.new.out in
    let good = c.decode_block.ensures c.if-not-decode_block.false in
    let len : length c.decode_block.new.out ≡ n =
    omega (arith, unhex_length c.before-2.result.now out (sym good), ap length c.before-2.ensures, length-take (2 * n) c.args.bytes.now, c.min-n.ensures) in
    bytes_more c.args.packed.now out c.extend.new.self c.before-2.result.now c.requires
    (c.in_ok-extend.ensures.ok ∙ ap (λ (x : List ℕ). c.args.packed.now ++ x) (take_at out _ n len)) good
