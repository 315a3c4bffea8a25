use Rattle.std.proofs.Common.{inr, sym, subst, arith}
use Rattle.checkpoints.specs.CdEdges.area.Area.TheVariants.{Journal}
use Rattle.checkpoints.specs.CdEdges.Disk.{IsAtArea}
use Rattle.checkpoints.proofs.CdEdges.Moments.{started}
use Rattle.checkpoints.specs.CloudAreas.Standing.{Chain, StandsFor}
use Rattle.checkpoints.proofs.DiskProofs.Standing.{images_on}
use Rattle.cloud_store.specs.Store.{ServesBy}
use Rattle.cloud_store.proofs.Carrying.{serves_summed}
use Rattle.cloud_store.proofs.Rooming.{both_ways, chain_there, chain_next}
use Rattle.cloud_store.proofs.Growing.{sums_still, made_still}
use Rattle.cloud_store.proofs.store.CloudStore.make_room.Goals as goal

pub returns-then-fits-clause-any_moment : goal.returns-then-fits-clause-any_moment
returns-then-fits-clause-any_moment g c list chain s =
    let store = c.args.self.now in
    let c0 = g.V.Shelf.cloud_at c.args.shelf.now store.header.cloud.0 in
    started c0 (λ image. StandsFor image store.header list) (images_on store.header list chain store.disk c0 s.known.on)

pub returns-then-fits-clause-only_journal : goal.returns-then-fits-clause-only_journal
returns-then-fits-clause-only_journal g c list chain s =
    let c0 = g.V.Shelf.cloud_at c.args.shelf.now c.args.self.now.header.cloud.0 in
    started c0 (IsAtArea c0.now Journal (λ bytes. Unit {0})) (λ image left. record { area = tt; others = λ other away. left other })

pub returns-then-fits-clause-serves : goal.returns-then-fits-clause-serves
returns-then-fits-clause-serves g c list chain s =
    let store = c.args.self.now in
    let c0 = g.V.Shelf.cloud_at c.args.shelf.now store.header.cloud.0 in
    subst (λ (d : Chain). ServesBy store.header list d store.commands store.region store.memory store.disk c0)
    (sym (chain_there store list chain c.args.len (c.fits.ensures.0 c.if-fits.true))) s

pub returns-then-fits-2-clause-serves : goal.returns-then-fits-2-clause-serves
returns-then-fits-2-clause-serves g c list chain s =
    let store = c.args.self.now in
    let c0 = g.V.Shelf.cloud_at c.args.shelf.now store.header.cloud.0 in
    let c1 = g.V.Shelf.cloud_at c.checkpoint_of_memory.new.shelf store.header.cloud.0 in
    subst (λ (d : Chain). ServesBy store.header list d store.commands store.region store.memory c.checkpoint_of_memory.new.disk c1)
    (sym (chain_next store list chain c.args.len (λ fits. both_ways c.fits.result (c.fits.ensures.1 fits) c.if-fits.false)))
    (serves_summed store.header list chain store.commands store.region store.memory store.disk c.checkpoint_of_memory.new.disk c0 c1 s
    (c.in_ok-checkpoint_of_memory.ensures.settled list chain s.known) (c.in_ok-checkpoint_of_memory.ensures.others s.known.on.read.told) c.checkpoint_of_memory.ensures.logs.0 c.checkpoint_of_memory.ensures.logs.1)

pub returns-else-fits-2-clause-never_long : goal.returns-else-fits-2-clause-never_long
returns-else-fits-2-clause-never_long g c small =
    let room = c.checkpoint_of_memory.ensures.room c.requires.settled.rooms in
    let gate = c.in_ok-checkpoint_of_memory.ensures.gate in
    both_ways c.fits-2.result (c.fits-2.ensures.1 (omega (arith, room, gate, small, c.checkpoint_of_memory.ensures.limit))) c.if-fits-2.false

pub returns-then-fits-clause-chain : goal.returns-then-fits-clause-chain
returns-then-fits-clause-chain g c = sums_still c.args.self.now (g.V.Shelf.cloud_at c.args.shelf.now c.args.self.now.header.cloud.0)

pub returns-then-fits-clause-made : goal.returns-then-fits-clause-made
returns-then-fits-clause-made g c = made_still c.args.self.now (g.V.Shelf.cloud_at c.args.shelf.now c.args.self.now.header.cloud.0)

pub returns-then-fits-2-clause-made : goal.returns-then-fits-2-clause-made
returns-then-fits-2-clause-made g c told w ended =
    (inr (c.in_ok-checkpoint_of_memory.ensures.taken told w ended), c.in_ok-checkpoint_of_memory.ensures.others told)
