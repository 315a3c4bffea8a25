use Rattle.std.proofs.Common.{◌<◌, length, arith}
use Rattle.transcript.proofs.Texts.{got_behind}
use Rattle.transcript.proofs.answer.Answer.push_got.Goals as goal

pub returns-clause-ok : goal.returns-clause-ok
returns-clause-ok c =
    let len = c.len.ensures in
    let some : 0 < length c.args.file = omega (arith, len) in
    got_behind c.args.self.now c.self.inside.plain c.self.inside.packed c.spell.new.plain c.extend.new.self c.args.file c.self.view_is c.in_ok-spell.ensures.ok.0 c.in_ok-extend.ensures.ok some
