use Rattle.subset_restore.proofs.Going.{goes_short, goes_came, goes_refused}
use Rattle.subset_restore.proofs.trying.restore_from.Goals as goal

pub returns-then-is_want-clause-goes : goal.returns-then-is_want-clause-goes
returns-then-is_want-clause-goes g c =
    goes_short g.L.Link.tells g.L.Link.talk c.args.wanted.now.shape c.args.wanted.now.user c.args.wanted.now.path.now c.args.wanted.now.version c.args.link.now c.restore.new.link c.args.out.now c.restore.new.out c.args.named.now c.args.refusals.now c.args.refusals.now c.in-Err.refusal
    (record { asked = c.in-Err.ensures.asked; restored = λ clouds. c.in-Err.ensures.restored; said = λ clouds. c.in-Err.ensures.said; passed = λ clouds. c.in-Err.ensures.passed; beside = c.in-Err.ensures.beside; readable = c.in-Err.ensures.readable })

pub returns-in-Ok-clause-goes : goal.returns-in-Ok-clause-goes
returns-in-Ok-clause-goes g c =
    goes_came g.L.Link.tells g.L.Link.talk c.args.wanted.now.shape c.args.wanted.now.user c.args.wanted.now.path.now c.args.wanted.now.version c.args.link.now c.restore.new.link c.args.out.now c.restore.new.out c.args.named.now c.args.refusals.now c.args.refusals.now
    c.requires.free c.in-Ok.ensures.brought
    (record { asked = c.in-Ok.ensures.asked; restored = λ clouds. c.in-Ok.ensures.restored; said = λ clouds. c.in-Ok.ensures.said; passed = λ clouds. c.in-Ok.ensures.passed; beside = c.in-Ok.ensures.beside; readable = c.in-Ok.ensures.readable })

pub returns-else-is_want-clause-goes : goal.returns-else-is_want-clause-goes
returns-else-is_want-clause-goes g c =
    goes_refused g.L.Link.tells g.L.Link.talk c.args.wanted.now.shape c.args.wanted.now.user c.args.wanted.now.path.now c.args.wanted.now.version c.args.link.now c.restore.new.link c.args.out.now c.restore.new.out c.args.named.now c.args.refusals.now c.note.new.self c.in-Err.refusal
    c.requires.free c.if-is_want.ensures c.in-Err.ensures.kept c.in-Err.ensures.named
    (record { asked = c.in-Err.ensures.asked; restored = λ clouds. c.in-Err.ensures.restored; said = λ clouds. c.in-Err.ensures.said; passed = λ clouds. c.in-Err.ensures.passed; beside = c.in-Err.ensures.beside; readable = c.in-Err.ensures.readable })
    (λ tries subset tracks. c.note.ensures tries subset tracks)
