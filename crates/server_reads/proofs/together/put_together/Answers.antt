use Rattle.server_reads.proofs.Along.{held_spelled}
use Rattle.server_reads.proofs.together.put_together.Goals as goal

pub returns-in-Ok-true-clause-held : goal.returns-in-Ok-true-clause-held
returns-in-Ok-true-clause-held g c = λ told agreed shape cloud list user k own all.
    held_spelled list c.args.fps.now c.begin_shares.new.out c.copy_each.new.reply c.len-2.result
    (c.in-Ok-true.ensures.held told agreed shape cloud list user k own c.in-Ok-true.field-0-test) c.begin_shares.ensures.value c.len-2.ensures
