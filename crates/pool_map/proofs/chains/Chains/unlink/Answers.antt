use Rattle.std.proofs.Common.{◌≡◌, ◌∙◌, ◌≢◌, ℕ, length, get_or, ap, subst, arith}
use Rattle.std.proofs.lemmas.List.{take_at}
use Rattle.pool_map.specs.Chains.{bucket, UnlinksOwn, KeepsOtherChains}
use Rattle.pool_map.proofs.Unhash.{remove-hashed}
use Rattle.pool_map.proofs.chains.Chains.unlink.Goals as goal

pub returns : goal.returns
returns g c =
    let dh : c.deref_mut.result.now ≡ c.args.self.now.heads.items = c.deref_mut.ensures.value in
    let dn : c.deref_mut-2.result.now ≡ c.args.self.now.next.items = c.deref_mut-2.ensures.value in
    let n : c.len.result ≡ length c.args.self.now.heads.items = omega arith in
    let lh : length c.unlink.new.heads ≡ length c.args.self.now.heads.items = omega (arith, ap length dh) in
    let ln : length c.unlink.new.next ≡ length c.args.self.now.next.items = omega (arith, ap length dn) in
    let eh : length c.unlink.new.heads ≡ c.args.self.now.heads.len = omega arith in
    let en : length c.unlink.new.next ≡ c.args.self.now.next.len = omega arith in
    let own = subst (λ h. UnlinksOwn c.args.self.now.next.items c.unlink.new.next (get_or h c.bucket_of-start.result 0) (get_or c.unlink.new.heads c.bucket_of-start.result 0) c.args.slot) dh (subst (λ x. UnlinksOwn x c.unlink.new.next (get_or c.deref_mut.result.now c.bucket_of-start.result 0) (get_or c.unlink.new.heads c.bucket_of-start.result 0) c.args.slot) dn c.unlink.ensures.own) in
    let others = subst (λ h. KeepsOtherChains c.args.self.now.next.items c.unlink.new.next (get_or h c.bucket_of-start.result 0)) dh (subst (λ x. KeepsOtherChains x c.unlink.new.next (get_or c.deref_mut.result.now c.bucket_of-start.result 0)) dn c.unlink.ensures.others) in
    let kept = subst (λ h. (b : ℕ) → b ≢ c.bucket_of-start.result → get_or c.unlink.new.heads b 0 ≡ get_or h b 0) dh c.unlink.ensures.heads in
    rw (take_at c.unlink.new.heads _ _ eh, take_at c.unlink.new.next _ _ en) (remove-hashed g.K.Ord.cmp g.met.K.Ord.total g.met.K.Key.exact g.K.Key.word_of c.args.pool.now c.args.self.now.heads.items c.args.self.now.next.items c.requires.hashed c.args.key.now c.args.slot c.requires.here c.unlink.new.heads c.unlink.new.next c.bucket_of-start.result (c.bucket_of-start.ensures.same ∙ ap (λ k. bucket g.K.Key.word_of k c.args.key.now) n) (omega (arith, c.bucket_of-start.ensures.in_range)) lh ln own others kept)
