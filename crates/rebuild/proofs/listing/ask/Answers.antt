use Rattle.std.proofs.Common.{arith, refl, Some, None, true, false, ◌≡◌}
use Rattle.lane_steps.proofs.UserDedup.Asked.{asked_law}
use Rattle.kept_files.proofs.RestoreJob.Leading.{asked_once}
use Rattle.rebuild.proofs.listing.ask.Goals as goal

pub returns-in-Ok-clause-exec : goal.returns-in-Ok-clause-exec
returns-in-Ok-clause-exec g c r is =
    c.in-Ok.ensures.exec r ((asked_law (g.L.Link.tells.shape c.args.link.now) c.args.request.now r (λ i. omega (arith, c.type_inv.request i))).1 is)

pub returns-in-Err-clause-exec : goal.returns-in-Err-clause-exec
returns-in-Err-clause-exec g c r is =
    c.in-Err.ensures.exec r ((asked_law (g.L.Link.tells.shape c.args.link.now) c.args.request.now r (λ i. omega (arith, c.type_inv.request i))).1 is)

pub returns-in-Ok-clause-asked : goal.returns-in-Ok-clause-asked
returns-in-Ok-clause-asked g c =
    let e = c.in-Ok.ensures in
    asked_once g.L.Link.tells c.args.link.now c.ask.new.self (record { cloud = c.args.cloud.0; content = c.args.request.now; reply = Some c.ask.new.reply }) false c.requires.reading e.passes e.others e.later
    (λ q. absurd (let f : false ≡ true = q in cc)) (λ h. (refl, (e.lossless h).1))

pub returns-in-Err-clause-asked : goal.returns-in-Err-clause-asked
returns-in-Err-clause-asked g c =
    let e = c.in-Err.ensures in
    asked_once g.L.Link.tells c.args.link.now c.ask.new.self (record { cloud = c.args.cloud.0; content = c.args.request.now; reply = None }) true c.requires.reading e.passes e.others e.later
    (λ q. e.lost) (λ h. absurd (let f : false ≡ true = (e.lossless h).0 in cc))
