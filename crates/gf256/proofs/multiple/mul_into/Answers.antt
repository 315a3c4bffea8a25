use Rattle.std.proofs.Common.{◌≡◌, ◌+◌, ◌*◌, ◌/◌, ◌-◌, ◌∙◌, arith, length, get_or, bit_xor, ap, ℕ, take, drop, sym}
use borrow.Rule.Slice.PartMut.{put_mid}
use Rattle.gf256.specs.Field.{product}
use Rattle.gf256.proofs.Lanes.{from_halves, part_byte}
use Rattle.gf256.proofs.Laws.{product_zero}
use Rattle.std.specs.Int.Bits.{xor_zero_r}
use Rattle.gf256.proofs.Blocks.{added_more, added_all, AddedBelow}
use Rattle.gf256.proofs.multiple.mul_into.Goals as goal

pub loop-i-preserved : goal.loop-i-preserved
loop-i-preserved c =
    let a : ℕ = c.loop-i.i * 16 in
    added_more (c.loop-i.i * 16) (c.loop-i.i * 16 + 16) 16 ((c.loop-i.i + 1) * 16) c.args.c c.args.src.now c.args.dst.now c.loop-i.dst c.add_sixteen.new.target
    c.loop-i.invariant (omega arith) (omega arith) (omega arith) (omega arith)
    (λ j h. c.add_sixteen.ensures j h
    ∙ ap (λ (z : ℕ). bit_xor (get_or (take (a + 16 - a) (drop a c.loop-i.dst)) j 0) z)
    (from_halves c.sixteen_products-low.result c.sixteen_products-high.result c.args.c (get_or (take (a + 16 - a) (drop a c.args.src.now)) j 0)
    c.sixteen_products-low.ensures c.sixteen_products-high.ensures
    (part_byte c.args.src.now a (a + 16 - a) j (omega (arith, c.type_inv.src (a + j))) (omega arith))))

pub returns : goal.returns
returns c =
    let n : ℕ = length c.args.src.now in
    let a : ℕ = n / 16 * 16 in
    let e : length c.loop-i.dst ≡ n = omega arith in
    let done : c.loop-i.i * 16 ≡ a = omega arith in
    let held : AddedBelow a c.args.c c.args.src.now c.args.dst.now c.loop-i.dst = rw done at c.loop-i.invariant in
    λ i h. added_all n c.args.c c.args.src.now c.args.dst.now (put_mid a (length c.loop-i.dst - a) c.loop-i.dst c.add_each.new.target) (omega arith)
    (added_more a (length c.loop-i.dst) (n - a) n c.args.c c.args.src.now c.args.dst.now c.loop-i.dst c.add_each.new.target
    held (omega arith) (omega arith) (omega arith) (omega arith) (λ j l. c.add_each.ensures j (omega arith)
    ∙ ap (λ (z : ℕ). bit_xor (get_or (take (length c.loop-i.dst - a) (drop a c.loop-i.dst)) j 0) (product c.args.c (get_or (take (z - a) (drop a c.args.src.now)) j 0))) (sym e)))
    i

pub returns-then-c-eq0 : goal.returns-then-c-eq0
returns-then-c-eq0 c = λ i h.
    rw (c.if-c-eq0.true, product_zero (get_or c.args.src.now i 0)) (sym (xor_zero_r (get_or c.args.dst.now i 0)))
