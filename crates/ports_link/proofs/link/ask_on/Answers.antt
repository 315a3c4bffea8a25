use Rattle.std.proofs.Common.{◌≡◌, refl}
use Rattle.ports_link.proofs.Sending.{sends_piece, sends_frame}
use Rattle.ports_link.proofs.link.ask_on.Goals as goal

pub returns-in_err-send_frame-clause-sends : goal.returns-in_err-send_frame-clause-sends
returns-in_err-send_frame-clause-sends g c = λ told.
    let part = c.in_err-send_frame.ensures.part told in
    sends_piece (λ content. content ≡ c.args.request.now) (g.P.Ports.tells c.args.ports.now) (g.P.Ports.tells c.send_frame.new.ports) c.args.port c.args.request.now
    part.part part.rest (c.send_frame.ensures.others told) refl part.parted part.sent.went

pub returns-then-line-clause-sends : goal.returns-then-line-clause-sends
returns-then-line-clause-sends g c = λ told.
    sends_frame (λ content. content ≡ c.args.request.now) (g.P.Ports.tells c.args.ports.now) (g.P.Ports.tells c.send_frame.new.ports) c.args.port c.args.request.now
    (c.send_frame.ensures.others told) refl (c.in_ok-send_frame.ensures.sent told).went
