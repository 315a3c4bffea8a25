use Rattle.std.proofs.Common.{inl, inr, ap}
use Rattle.share_server.specs.JournalStart.start.Header.{Header}
use Rattle.serve_command.proofs.Openings.{by_header}
use Rattle.serve_command.proofs.command.serve_in.Goals as goal

pub returns-clause-served : goal.returns-clause-served
returns-clause-served g c = inr (by_header _ _ _ _ _ (ap (λ (h : Header). h.shape) c.in-Ok.ensures.of)
    (ap (λ (h : Header). h.rooms) c.in-Ok.ensures.of) c.serve_at.ensures.served)
