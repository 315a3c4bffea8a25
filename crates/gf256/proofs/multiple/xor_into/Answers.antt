use Rattle.std.proofs.Common.{◌≡◌, ◌+◌, ◌*◌, ◌/◌, ◌-◌, ◌∙◌, arith, length, get_or, bit_xor, ap, ℕ, take, drop, sym}
use borrow.Rule.Slice.PartMut.{put_mid}
use Rattle.gf256.specs.Field.{product}
use Rattle.gf256.proofs.Lanes.{part_byte}
use Rattle.gf256.proofs.Laws.{product_one}
use Rattle.gf256.proofs.Blocks.{added_more, added_all, AddedBelow}
use Rattle.gf256.proofs.multiple.xor_into.Goals as goal

pub loop-i-preserved : goal.loop-i-preserved
loop-i-preserved c =
    let a : ℕ = c.loop-i.i * 16 in
    added_more (c.loop-i.i * 16) (c.loop-i.i * 16 + 16) 16 ((c.loop-i.i + 1) * 16) 1 c.args.source.now c.args.target.now c.loop-i.target c.xor_sixteen.new.target
    c.loop-i.invariant (omega arith) (omega arith) (omega arith) (omega arith)
    (λ j h. c.xor_sixteen.ensures j h
    ∙ ap (λ (z : ℕ). bit_xor (get_or (take (a + 16 - a) (drop a c.loop-i.target)) j 0) z)
    (sym (product_one (get_or (take (a + 16 - a) (drop a c.args.source.now)) j 0)
    (part_byte c.args.source.now a (a + 16 - a) j (omega (arith, c.type_inv.source (a + j))) (omega arith)))))

pub returns : goal.returns
returns c =
    let n : ℕ = length c.args.source.now in
    let a : ℕ = n / 16 * 16 in
    let e : length c.loop-i.target ≡ n = omega arith in
    let done : c.loop-i.i * 16 ≡ a = omega arith in
    let held : AddedBelow a 1 c.args.source.now c.args.target.now c.loop-i.target = rw done at c.loop-i.invariant in
    λ i h. added_all n 1 c.args.source.now c.args.target.now (put_mid a (length c.loop-i.target - a) c.loop-i.target c.add_each.new.target) (omega arith)
    (added_more a (length c.loop-i.target) (n - a) n 1 c.args.source.now c.args.target.now c.loop-i.target c.add_each.new.target
    held (omega arith) (omega arith) (omega arith) (omega arith) (λ j l. c.add_each.ensures j (omega arith)
    ∙ ap (λ (z : ℕ). bit_xor (get_or (take (length c.loop-i.target - a) (drop a c.loop-i.target)) j 0) (product 1 (get_or (take (z - a) (drop a c.args.source.now)) j 0))) (sym e)))
    i
