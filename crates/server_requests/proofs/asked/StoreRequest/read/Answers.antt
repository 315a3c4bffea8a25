use Rattle.std.proofs.Common.{arith}
use Rattle.server_commands.specs.Messages.Seen.{seen}
use Rattle.server_requests.proofs.Places.{behind_front, ranged}
use Rattle.server_requests.proofs.asked.StoreRequest.read.Goals as goal

pub asked_of-requires : goal.asked_of-requires
asked_of-requires c =
    let request = seen c.in-Ok.view in
    behind_front c.args.content.now request ((c.in-Ok.ensures.grammar request).0 c.in-Ok.ensures.reads) c.requires

pub returns-in-Ok-clause-range : goal.returns-in-Ok-clause-range
returns-in-Ok-clause-range c =
    ranged c.args.shape c.args.content.now (seen c.in-Ok.view) c.asked_of.result (λ i. omega (arith, c.type_inv.content i)) c.in-Ok.ensures.reads c.asked_of.ensures.reads
