use Rattle.std.proofs.Common.{◌≡◌, refl, inr, arith}
use Rattle.share_server.proofs.Peers.{shut_closed}
use Rattle.share_server.proofs.server.Server.make.Goals as goal

pub make-requires-clause-header : goal.make-requires-clause-header
make-requires-clause-header c = record {
  format = inr refl;
  cloud = c.requires.cloud;
  rooms = c.requires.rooms;
  usual = λ e. let no : 2 ≡ 1 = e in absurd (omega (arith, no));
}

pub invariant_of-result : goal.invariant_of-result
invariant_of-result c =
    let made = c.in_ok-store.ensures in let len = c.in_ok-buffer.ensures.len in
    record { kept = record { settled = made.settled; ready = λ opened. absurd (shut_closed c.in_ok-store.store made.shut opened); room = omega (arith, len) } }
