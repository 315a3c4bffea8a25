use Rattle.std.proofs.Common.{arith, refl, Some, None, true, false, ◌≡◌}
use Rattle.user_dedup.proofs.Asked.{asked_law}
use Rattle.user_dedup.specs.declared.link.Lost.{Lost}
use Rattle.restore_job.proofs.Leading.{asked_once}
use Rattle.restore_job.proofs.Beside.{beside_ask}
use Rattle.restore_job.proofs.Speaking.{exchanged_one}
use Rattle.restore_job.proofs.fetching.ask.Goals as goal

pub returns-in-Ok-clause-exec : goal.returns-in-Ok-clause-exec
returns-in-Ok-clause-exec g c r is =
    c.in-Ok.ensures.exec r ((asked_law (g.L.Link.tells.shape c.args.link.now) c.args.request.now r (λ i. omega (arith, c.type_inv.request i))).1 is)

pub returns-in-Err-clause-exec : goal.returns-in-Err-clause-exec
returns-in-Err-clause-exec g c r is =
    c.in-Err.ensures.exec r ((asked_law (g.L.Link.tells.shape c.args.link.now) c.args.request.now r (λ i. omega (arith, c.type_inv.request i))).1 is)

pub returns-in-Ok-clause-asked : goal.returns-in-Ok-clause-asked
returns-in-Ok-clause-asked g c =
    let e = c.in-Ok.ensures in
    asked_once g.L.Link.tells c.args.link.now c.ask.new.self (record { cloud = c.args.cloud.0; content = c.args.request.now; reply = Some c.ask.new.reply }) false c.requires.reading e.passes e.others e.later
    (λ q. absurd (let f : false ≡ true = q in cc)) (λ h. (refl, (e.lossless h).1))

pub returns-in-Err-clause-asked : goal.returns-in-Err-clause-asked
returns-in-Err-clause-asked g c =
    let e = c.in-Err.ensures in
    asked_once g.L.Link.tells c.args.link.now c.ask.new.self (record { cloud = c.args.cloud.0; content = c.args.request.now; reply = None }) true c.requires.reading e.passes e.others e.later
    (λ q. e.lost) (λ h. absurd (let f : false ≡ true = (e.lossless h).0 in cc))

pub returns-in-Err-clause-beside : goal.returns-in-Err-clause-beside
returns-in-Err-clause-beside g c =
    beside_ask g.L.Link.talk c.args.link.now c.ask.new.self c.args.cloud.0 c.in-Err.ensures.says_else

pub returns-in-Ok-clause-spoken : goal.returns-in-Ok-clause-spoken
returns-in-Ok-clause-spoken g c =
    let e = c.in-Ok.ensures in
    exchanged_one g.L.Link.tells g.L.Link.talk Lost c.args.link.now c.ask.new.self c.args.cloud.0 c.args.request.now c.ask.new.reply e.says e.says_else c.requires.reading e.passes
