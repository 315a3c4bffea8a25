use Rattle.server_reads.proofs.Along.{shares_kind, held_spelled}
use Rattle.server_reads.proofs.sending.put_one_by_one.Goals as goal

pub returns-in-Ok-clause-ok : goal.returns-in-Ok-clause-ok
returns-in-Ok-clause-ok g c =
    shares_kind c.args.fps.now c.begin_shares.new.out c.put_each.new.reply c.len.result c.in-Ok.ensures.ok c.begin_shares.ensures.value c.len.ensures c.requires.batch

pub returns-in-Ok-clause-held : goal.returns-in-Ok-clause-held
returns-in-Ok-clause-held g c = λ told agreed shape cloud list user k own.
    held_spelled list c.args.fps.now c.begin_shares.new.out c.put_each.new.reply c.len.result (c.in-Ok.ensures.held told agreed shape cloud list user k own) c.begin_shares.ensures.value c.len.ensures
