use Rattle.checkpoints.proofs.MarkedOwners.{marked_owned}
use Rattle.checkpoints.proofs.records.write_record.Goals as goal

pub write_kept-requires-clause-owned : goal.write_kept-requires-clause-owned
write_kept-requires-clause-owned c =
    let at = c.write_put.new.at in
    marked_owned c.args.shares.now c.owner_at.ensures.each c.write_put.new.marks at.user at.owner c.write_put.ensures.ready.listing
