use Rattle.std.proofs.Common.{◌≡◌, ◌*◌, ◌≤◌, ◌++◌, length, take, arith}
use Rattle.reed_solomon.specs.CdBase.Lengths.{share_len_of}
use Rattle.caont_rs.proofs.Openings.{grown}
use Rattle.caont_rs.proofs.opening.recover.Goals as goal

pub returns-in-Ok-clause-ok : goal.returns-in-Ok-clause-ok
returns-in-Ok-clause-ok c =
    let whole : length c.args.shares.now ≡ c.args.shape.k * share_len_of c.args.shape.k c.args.secret_len = c.requires.whole in
    let some : c.args.secret_len ≤ length c.args.shares.now = omega (arith, c.args.shape.several) in
    let done : c.truncate.new.self ≡ c.args.out.now ++ take c.args.secret_len c.recover_into-answer.new.sealed =
    grown c.args.out.now c.as_mut_slice.result.now c.resize.new.self c.recover_into-answer.new.sealed _ c.truncate.new.self
    c.len-before.result c.args.secret_len c.in-Some.long (length c.args.shares.now) c.len-before.ensures c.in-Some.ensures.1 some c.recover_into-answer.auto.sealed
    c.in_ok-resize.ensures.ok c.as_mut_slice.ensures.value c.truncate.ensures in
    rw c.in-Ok.is (take c.args.secret_len c.recover_into-answer.new.sealed, c.in-Ok.ensures, done)
