use Rattle.std.proofs.Common.{refl}
use Rattle.local_link.proofs.Placing.{stands_at, still_servers, server_made, closed_made}
use Rattle.local_link.proofs.servers.Servers.renew.Goals as goal

pub invariant_of-self : goal.invariant_of-self
invariant_of-self c = record {
  are_servers = still_servers c.args.self.now.shape c.args.self.now.list.items c.args.cloud.0 c.in_ok-server.server c.args.self.now.are_servers c.requires.reached
      (server_made c.args.self.now.shape c.args.cloud.0 c.args.rooms c.in_ok-server.server c.in_ok-server.ensures.of);
}

pub returns-clause-put : goal.returns-clause-put
returns-clause-put c = (
  c.index_mut.result.now,
  c.in_ok-server.server,
  record {
    here = stands_at c.args.self.now.shape c.args.self.now.list.items c.args.cloud.0 c.index_mut.result.now c.args.self.now.are_servers c.requires.reached c.index_mut.ensures.value;
    list = refl;
    shape = refl;
  },
  closed_made c.args.self.now.shape c.args.cloud.0 c.args.rooms c.in_ok-server.server c.in_ok-server.ensures.of c.in_ok-server.ensures.closed,
)
