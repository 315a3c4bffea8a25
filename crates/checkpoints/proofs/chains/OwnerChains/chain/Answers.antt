use Rattle.std.proofs.Common.{◌≡◌, min, length, ◌∙◌, subst}
use Rattle.cloud_memory.specs.ShareIndex.Shares.{Shares}
use Rattle.checkpoints.specs.Chained.{AreChained}
use Rattle.checkpoints.proofs.Chaining.{chained_back}
use Rattle.checkpoints.proofs.chains.OwnerChains.chain.Goals as goal

pub returns-clause-chained : goal.returns-clause-chained
returns-clause-chained c =
    let users : length c.chain_all.new.firsts ≡ c.args.self.now.firsts.len = c.chain_all.auto.firsts ∙ c.deref_mut.ensures.len in
    let slots : length c.chain_all.new.nexts ≡ c.args.self.now.nexts.len = c.chain_all.auto.nexts ∙ c.deref_mut-2.ensures.len in
    chained_back c.args.memory.now.shares.owner_slots c.args.self.now.firsts.items c.args.self.now.nexts.items c.args.self.now.firsts.len c.args.self.now.nexts.len c.chain_all.new.firsts c.chain_all.new.nexts users slots
    (subst (λ (s : Shares). AreChained s.owner_slots c.chain_all.new.firsts c.chain_all.new.nexts (min (length s.owner_slots) (length c.chain_all.new.nexts)) 0)
    c.shares.ensures c.chain_all.ensures.chained)
