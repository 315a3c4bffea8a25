use Rattle.std.proofs.Common.{◌≡◌, IsTrue, subst, sym, refl, ◌∙◌}
use Rattle.ports_link.proofs.Sending.{sends_piece, sends_frame}
use Rattle.ports_link.proofs.asking.exchange.Goals as goal

pub returns-in_err-send_frame-clause-sends : goal.returns-in_err-send_frame-clause-sends
returns-in_err-send_frame-clause-sends g c = λ told.
    let part = c.in_err-send_frame.ensures.part told in
    sends_piece (λ content. content ≡ c.args.request.now) (g.P.Ports.tells c.args.ports.now) (g.P.Ports.tells c.send_frame.new.ports) c.args.port c.args.request.now
    part.part part.rest (c.send_frame.ensures.others told) refl part.parted part.sent.went

pub returns-in_err-all-clause-sends : goal.returns-in_err-all-clause-sends
returns-in_err-all-clause-sends g c = λ told.
    let told1 : IsTrue (g.P.Ports.tells c.send_frame.new.ports).told = subst IsTrue (sym c.send_frame.ensures.told) told in
    sends_frame (λ content. content ≡ c.args.request.now) (g.P.Ports.tells c.args.ports.now) (g.P.Ports.tells c.take_frame.new.ports) c.args.port c.args.request.now
    (λ other ne. c.take_frame.ensures.others told1 other ne ∙ c.send_frame.ensures.others told other ne) refl
    (c.take_frame.ensures.unsent told1 ∙ (c.in_ok-send_frame.ensures.sent told).went)

pub returns-then-not-all-clause-sends : goal.returns-then-not-all-clause-sends
returns-then-not-all-clause-sends g c = λ told.
    let told1 : IsTrue (g.P.Ports.tells c.send_frame.new.ports).told = subst IsTrue (sym c.send_frame.ensures.told) told in
    sends_frame (λ content. content ≡ c.args.request.now) (g.P.Ports.tells c.args.ports.now) (g.P.Ports.tells c.take_frame.new.ports) c.args.port c.args.request.now
    (λ other ne. c.take_frame.ensures.others told1 other ne ∙ c.send_frame.ensures.others told other ne) refl
    (c.take_frame.ensures.unsent told1 ∙ (c.in_ok-send_frame.ensures.sent told).went)

pub returns-else-not-all-clause-sends : goal.returns-else-not-all-clause-sends
returns-else-not-all-clause-sends g c = λ told.
    let told1 : IsTrue (g.P.Ports.tells c.send_frame.new.ports).told = subst IsTrue (sym c.send_frame.ensures.told) told in
    sends_frame (λ content. content ≡ c.args.request.now) (g.P.Ports.tells c.args.ports.now) (g.P.Ports.tells c.take_frame.new.ports) c.args.port c.args.request.now
    (λ other ne. c.take_frame.ensures.others told1 other ne ∙ c.send_frame.ensures.others told other ne) refl
    (c.take_frame.ensures.unsent told1 ∙ (c.in_ok-send_frame.ensures.sent told).went)
