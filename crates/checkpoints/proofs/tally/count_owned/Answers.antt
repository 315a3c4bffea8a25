use Rattle.std.proofs.Common.{◌≡◌, length, drop, sym, ◌∙◌, arith}
use Rattle.std.proofs.Common.{length-drop}
use Rattle.cloud_memory.specs.CdBase.ids.Fp.{Fp}
use Rattle.checkpoints.specs.Records.{owned_at, owned_in}
use Rattle.checkpoints.proofs.RoomLaw.{picked_few}
use Rattle.checkpoints.proofs.Tallied.{tally_number, tally_fit, tally_full}
use Rattle.checkpoints.proofs.tally.count_owned.Goals as goal

pub returns-clause-count : goal.returns-clause-count
returns-clause-count c =
    let all = owned_in c.args.user (drop c.args.from c.args.shares.now.owner_slots) in let rest = owned_in c.args.user (drop c.loop-count.at c.args.shares.now.owner_slots) in let count = c.loop-count.count in
    let ends : count ≡ length c.args.shares.now.owner_slots = let no = c.loop-count-test.false in let most = c.loop-count.auto.count-end in omega (arith, no, most, c.owner_slots-count-end.ensures) in
    let none = tally_full (λ (fp : Fp). length fp.0 ≡ 32) all rest count c.loop-count.invariant (omega (arith, ends, picked_few (owned_at c.args.user) (drop c.args.from c.args.shares.now.owner_slots), length-drop c.args.from c.args.shares.now.owner_slots)) in
    c.owner_slots.ensures ∙ sym ends ∙ tally_number (λ (fp : Fp). length fp.0 ≡ 32) all rest count c.loop-count.invariant none

pub returns-clause-long : goal.returns-clause-long
returns-clause-long c =
    let all = owned_in c.args.user (drop c.args.from c.args.shares.now.owner_slots) in let rest = owned_in c.args.user (drop c.loop-count.at c.args.shares.now.owner_slots) in let count = c.loop-count.count in
    let ends : count ≡ length c.args.shares.now.owner_slots = let no = c.loop-count-test.false in let most = c.loop-count.auto.count-end in omega (arith, no, most, c.owner_slots-count-end.ensures) in
    let none = tally_full (λ (fp : Fp). length fp.0 ≡ 32) all rest count c.loop-count.invariant (omega (arith, ends, picked_few (owned_at c.args.user) (drop c.args.from c.args.shares.now.owner_slots), length-drop c.args.from c.args.shares.now.owner_slots)) in
    tally_fit (λ (fp : Fp). length fp.0 ≡ 32) all rest count c.loop-count.invariant none
