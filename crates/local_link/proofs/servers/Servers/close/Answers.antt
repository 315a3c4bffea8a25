use Rattle.std.proofs.Common.{refl, ap}
use Rattle.share_server.specs.CloudStore.store.CloudStore.{CloudStore}
use Rattle.local_link.proofs.Placing.{stands_at}
use Rattle.local_link.proofs.servers.Servers.close.Goals as goal

pub returns : goal.returns
returns c = (
  c.index_mut.result.now,
  c.close.new.self,
  record {
    here = stands_at c.args.self.now.shape c.args.self.now.list.items c.args.cloud.0 c.index_mut.result.now c.args.self.now.are_servers c.requires c.index_mut.ensures.value;
    list = refl;
    shape = refl;
  },
  record { same = ap (λ (s : CloudStore). s.header) c.close.ensures.same; shut = c.close.ensures.closed },
)
