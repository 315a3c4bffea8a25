use Rattle.fresh_checkpoints.proofs.Checkpoints.Summed.{listed_of}
use Rattle.blob_copy.proofs.switching.slots_list.Goals as goal

pub returns : goal.returns
returns c =
    listed_of c.args.memory.now c.shares.result.now c.shares-2.result.now c.files.result.now c.shares.ensures c.shares-2.ensures c.files.ensures
    c.place_at.ensures.each c.owner_at.ensures.each c.entry_at.ensures.each
