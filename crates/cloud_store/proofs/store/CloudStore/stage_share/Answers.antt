use Rattle.std.proofs.Common.{length, arith}
use Rattle.cloud_store.proofs.Keeping.{has_room, far_ends}
use Rattle.cloud_store.proofs.store.CloudStore.stage_share.Goals as goal

pub returns-clause-never_full : goal.returns-clause-never_full
returns-clause-never_full c at_end meet =
    let store = c.args.self.now in let far = far_ends store c.requires.settled at_end in let end = far.0 in
    has_room store store.disk.shares (length c.args.share.now) store.memory.shares_end c.stage_share.result _ _ c.requires.settled.shares_limit meet.shares (omega (arith, end)) c.requires.room c.stage_share.ensures.answer
